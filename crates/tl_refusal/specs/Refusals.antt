-- The line that says a refusal.
use Rattle.std.specs.Prelude.{ℕ, List, [], ◌∷◌, ◌++◌, codes}
use Rattle.std.specs.List.{flat_map}
use Rattle.hex.specs.Hex.{encode_lower}
use Rattle.tl_model.specs.Decimal.{decimal_text}
use Rattle.tl_kind.specs.Kinds.{source_kind_name, edit_kind_name, regexp_kind_name}
use Rattle.tl_kind.specs.Quantities.{quantity_name}
use Rattle.tl_refusal.specs.Kinds.{word_kind_name, line_kind_name, execute_kind_name}
use Rattle.tl_refusal.specs.Values.{field_text}
use Rattle.tl_refusal.specs.declared.refusal.Refusal.{Refusal}
use Rattle.tl_refusal.specs.declared.refusal.Refusal.TheVariants as refusals

-- the name of a refusal
abbrev pub refusal_name : Refusal → List ℕ
refusal_name (refusals.BadWords at kind) = codes "BadWords"
refusal_name (refusals.BadQuote at) = codes "BadQuote"
refusal_name (refusals.BadJournal at) = codes "BadJournal"
refusal_name (refusals.BadDatabase line kind) = codes "BadDatabase"
refusal_name (refusals.BadPins line) = codes "BadPins"
refusal_name (refusals.BadMarks line) = codes "BadMarks"
refusal_name (refusals.BadSource name line kind) = codes "BadSource"
refusal_name (refusals.UnsetVariable name line) = codes "UnsetVariable"
refusal_name (refusals.BadPath name line) = codes "BadPath"
refusal_name (refusals.Regexp name line kind) = codes "Regexp"
refusal_name (refusals.BadEdit at kind) = codes "BadEdit"
refusal_name (refusals.Absent repo name) = codes "Absent"
refusal_name (refusals.BadDigestLine repo) = codes "BadDigestLine"
refusal_name (refusals.RepoDigest repo want got) = codes "RepoDigest"
refusal_name (refusals.RepoDatabase repo line kind) = codes "RepoDatabase"
refusal_name (refusals.ContainerFormat repo format) = codes "ContainerFormat"
refusal_name (refusals.Relocated name) = codes "Relocated"
refusal_name (refusals.NoContainer name) = codes "NoContainer"
refusal_name (refusals.SizeDiffers repo name want got) = codes "SizeDiffers"
refusal_name (refusals.DigestDiffers repo name want got) = codes "DigestDiffers"
refusal_name (refusals.BadFrame name at) = codes "BadFrame"
refusal_name (refusals.FrameEntry name) = codes "FrameEntry"
refusal_name (refusals.UnknownPackage name) = codes "UnknownPackage"
refusal_name (refusals.NotInstalled name) = codes "NotInstalled"
refusal_name (refusals.Protected name) = codes "Protected"
refusal_name (refusals.Needed name by) = codes "Needed"
refusal_name (refusals.BadExecute name at kind) = codes "BadExecute"
refusal_name (refusals.Reserved path) = codes "Reserved"
refusal_name (refusals.Clash path first second) = codes "Clash"
refusal_name (refusals.Owned path owner) = codes "Owned"
refusal_name (refusals.Occupied path) = codes "Occupied"
refusal_name (refusals.FileMissing path) = codes "FileMissing"
refusal_name (refusals.NoBackup name rev) = codes "NoBackup"
refusal_name (refusals.NoSource name) = codes "NoSource"
refusal_name (refusals.NoFile path) = codes "NoFile"
refusal_name (refusals.Twice name) = codes "Twice"
refusal_name refusals.MarksSpent = codes "MarksSpent"
refusal_name (refusals.UnknownOption name) = codes "UnknownOption"
refusal_name (refusals.BadValue option) = codes "BadValue"
refusal_name (refusals.NoPin repo glob) = codes "NoPin"
refusal_name refusals.MainOpen = codes "MainOpen"
refusal_name (refusals.MainDatabase line kind) = codes "MainDatabase"
refusal_name (refusals.NotUser name path) = codes "NotUser"
refusal_name (refusals.MirrorMoving name) = codes "MirrorMoving"
refusal_name refusals.NoLsr = codes "NoLsr"
refusal_name (refusals.BadLsr line) = codes "BadLsr"
refusal_name (refusals.TooLarge what limit) = codes "TooLarge"

-- the fields of a refusal in order, each with its value
abbrev pub refusal_fields : Refusal → List (List ℕ × List ℕ)
refusal_fields (refusals.BadWords at kind) = (codes "at", decimal_text at) ∷ (codes "kind", word_kind_name kind) ∷ []
refusal_fields (refusals.BadQuote at) = (codes "at", decimal_text at) ∷ []
refusal_fields (refusals.BadJournal at) = (codes "at", decimal_text at) ∷ []
refusal_fields (refusals.BadDatabase line kind) = (codes "line", decimal_text line) ∷ (codes "kind", line_kind_name kind) ∷ []
refusal_fields (refusals.BadPins line) = (codes "line", decimal_text line) ∷ []
refusal_fields (refusals.BadMarks line) = (codes "line", decimal_text line) ∷ []
refusal_fields (refusals.BadSource name line kind) = (codes "name", name) ∷ (codes "line", decimal_text line) ∷ (codes "kind", source_kind_name kind) ∷ []
refusal_fields (refusals.UnsetVariable name line) = (codes "name", name) ∷ (codes "line", decimal_text line) ∷ []
refusal_fields (refusals.BadPath name line) = (codes "name", name) ∷ (codes "line", decimal_text line) ∷ []
refusal_fields (refusals.Regexp name line kind) = (codes "name", name) ∷ (codes "line", decimal_text line) ∷ (codes "kind", regexp_kind_name kind) ∷ []
refusal_fields (refusals.BadEdit at kind) = (codes "at", decimal_text at) ∷ (codes "kind", edit_kind_name kind) ∷ []
refusal_fields (refusals.Absent repo name) = (codes "repo", repo) ∷ (codes "name", name) ∷ []
refusal_fields (refusals.BadDigestLine repo) = (codes "repo", repo) ∷ []
refusal_fields (refusals.RepoDigest repo want got) = (codes "repo", repo) ∷ (codes "want", encode_lower want) ∷ (codes "got", encode_lower got) ∷ []
refusal_fields (refusals.RepoDatabase repo line kind) = (codes "repo", repo) ∷ (codes "line", decimal_text line) ∷ (codes "kind", line_kind_name kind) ∷ []
refusal_fields (refusals.ContainerFormat repo format) = (codes "repo", repo) ∷ (codes "format", format) ∷ []
refusal_fields (refusals.Relocated name) = (codes "name", name) ∷ []
refusal_fields (refusals.NoContainer name) = (codes "name", name) ∷ []
refusal_fields (refusals.SizeDiffers repo name want got) = (codes "repo", repo) ∷ (codes "name", name) ∷ (codes "want", decimal_text want) ∷ (codes "got", decimal_text got) ∷ []
refusal_fields (refusals.DigestDiffers repo name want got) = (codes "repo", repo) ∷ (codes "name", name) ∷ (codes "want", encode_lower want) ∷ (codes "got", encode_lower got) ∷ []
refusal_fields (refusals.BadFrame name at) = (codes "name", name) ∷ (codes "at", decimal_text at) ∷ []
refusal_fields (refusals.FrameEntry name) = (codes "name", name) ∷ []
refusal_fields (refusals.UnknownPackage name) = (codes "name", name) ∷ []
refusal_fields (refusals.NotInstalled name) = (codes "name", name) ∷ []
refusal_fields (refusals.Protected name) = (codes "name", name) ∷ []
refusal_fields (refusals.Needed name by) = (codes "name", name) ∷ (codes "by", by) ∷ []
refusal_fields (refusals.BadExecute name at kind) = (codes "name", name) ∷ (codes "at", decimal_text at) ∷ (codes "kind", execute_kind_name kind) ∷ []
refusal_fields (refusals.Reserved path) = (codes "path", path) ∷ []
refusal_fields (refusals.Clash path first second) = (codes "path", path) ∷ (codes "first", first) ∷ (codes "second", second) ∷ []
refusal_fields (refusals.Owned path owner) = (codes "path", path) ∷ (codes "owner", owner) ∷ []
refusal_fields (refusals.Occupied path) = (codes "path", path) ∷ []
refusal_fields (refusals.FileMissing path) = (codes "path", path) ∷ []
refusal_fields (refusals.NoBackup name rev) = (codes "name", name) ∷ (codes "rev", decimal_text rev) ∷ []
refusal_fields (refusals.NoSource name) = (codes "name", name) ∷ []
refusal_fields (refusals.NoFile path) = (codes "path", path) ∷ []
refusal_fields (refusals.Twice name) = (codes "name", name) ∷ []
refusal_fields refusals.MarksSpent = []
refusal_fields (refusals.UnknownOption name) = (codes "name", name) ∷ []
refusal_fields (refusals.BadValue option) = (codes "option", option) ∷ []
refusal_fields (refusals.NoPin repo glob) = (codes "repo", repo) ∷ (codes "glob", glob) ∷ []
refusal_fields refusals.MainOpen = []
refusal_fields (refusals.MainDatabase line kind) = (codes "line", decimal_text line) ∷ (codes "kind", line_kind_name kind) ∷ []
refusal_fields (refusals.NotUser name path) = (codes "name", name) ∷ (codes "path", path) ∷ []
refusal_fields (refusals.MirrorMoving name) = (codes "name", name) ∷ []
refusal_fields refusals.NoLsr = []
refusal_fields (refusals.BadLsr line) = (codes "line", decimal_text line) ∷ []
refusal_fields (refusals.TooLarge what limit) = (codes "what", quantity_name what) ∷ (codes "limit", decimal_text limit) ∷ []

-- a refusal without its line end: its name, and each field with its value
unfoldable pub refusal_text : Refusal → List ℕ
refusal_text refusal = codes "tlmgr: " ++ refusal_name refusal ++ flat_map field_text (refusal_fields refusal)

-- the line that is said
abbrev pub refusal_line : Refusal → List ℕ
refusal_line refusal = refusal_text refusal ++ 10 ∷ []

-- the status of a refusal: 2 for words that are no command, else 1
abbrev pub refusal_status : Refusal → ℕ
refusal_status (refusals.BadWords at kind) = 2
refusal_status _ = 1
