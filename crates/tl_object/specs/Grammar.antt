-- What a line of an entry says.
use Rattle.std.specs.Prelude.{ℕ, ◌^◌, ◌==◌, nat_lt, if◌then◌else◌, List, [], ◌∷◌, codes, length, Option, Some, None, Result, Ok, Err}
use Rattle.std.specs.Option.{option_and_then}
use Rattle.std.specs.Str.{is_utf8}
use Rattle.tl_text.specs.Texts.{is_text}
use Rattle.tl_object.specs.Cuts.{cut}
use Rattle.tl_entry.specs.Forms.{is_fact_key}
use Rattle.tl_object.specs.Keys.{key_of}
use Rattle.tl_object.specs.Values.{◌>>=◌, formed, text_value, name_value, path_value, number_value, category_value, flag_value, digest_value, stripped, blocks_value, bin_value}
use Rattle.tl_object.specs.declared.fault.LineKind.{LineKind}
use Rattle.tl_object.specs.declared.fault.LineKind.TheVariants as kinds
use Rattle.tl_object.specs.declared.key.Key.{Key}
use Rattle.tl_object.specs.declared.key.Key.TheVariants as keys
use Rattle.tl_object.specs.declared.head.Head.{Head}
use Rattle.tl_object.specs.declared.head.Head.TheVariants as heads
use Rattle.tl_object.specs.Line.{Line}
use Rattle.tl_object.specs.Line as lines
use Rattle.tl_entry.specs.Parts.{FileEntry}

-- ---- the lines of files

-- the text between double quotes that follows a word, and what stands behind the second one
abbrev pub quoted : List ℕ → List ℕ → Option (List ℕ × List ℕ)
quoted word text = option_and_then (cut 34) (stripped word text)

-- what stands before a file's details
abbrev pub details_word : List ℕ
details_word = codes "details=\""

-- what stands before a file's language
abbrev pub language_word : List ℕ
language_word = codes "language=\""

-- the text of a mark, where it is a text of one line
abbrev pub mark_value : List ℕ → Result (List ℕ) LineKind
mark_value text = formed (is_text text) text kinds.File

-- the text of a mark that is a line's last one
abbrev pub last_mark : Option (List ℕ × List ℕ) → Result (Option (List ℕ)) LineKind
last_mark None = Err kinds.File
last_mark (Some (text, [])) = do
  mark ← mark_value text
  Ok (Some mark)
last_mark (Some (text, b ∷ rest)) = Err kinds.File

-- the mark by this word that follows another mark; None where nothing follows
abbrev pub second_mark : List ℕ → List ℕ → Result (Option (List ℕ)) LineKind
second_mark word [] = Ok None
second_mark word (b ∷ rest) = if b == 32 then last_mark (quoted word rest) else Err kinds.File

-- the details and the language, from a mark of details or else of a language at the front
abbrev pub marks_from : Option (List ℕ × List ℕ) → Option (List ℕ × List ℕ) → Result (Option (List ℕ) × Option (List ℕ)) LineKind
marks_from (Some details) other = do
  first ← mark_value details.0
  second ← second_mark language_word details.1
  Ok (Some first, second)
marks_from None (Some language) = do
  first ← mark_value language.0
  second ← second_mark details_word language.1
  Ok (second, Some first)
marks_from None None = Err kinds.File

-- the details and the language that stand behind a file's path: at least one of them, in either order
abbrev pub marks_value : List ℕ → Result (Option (List ℕ) × Option (List ℕ)) LineKind
marks_value marks = marks_from (quoted details_word marks) (quoted language_word marks)

-- a file with the marks that a text states
abbrev pub marked_file : List ℕ → List ℕ → Result FileEntry LineKind
marked_file path text = do
  marks ← marks_value text
  Ok (record { path = path; details = marks.0; language = marks.1 })

-- the file of a line, cut at its first space
abbrev pub file_with : List ℕ → Option (List ℕ × List ℕ) → Result FileEntry LineKind
file_with text None = do
  path ← path_value text
  Ok (record { path = path; details = None; language = None })
file_with text (Some parts) = do
  path ← path_value parts.0
  marked_file path parts.1

-- the file of a line, without the space at its front
abbrev pub file_value : List ℕ → Result FileEntry LineKind
file_value text = file_with text (cut 32 text)

-- ---- the other lines

-- what a line with this key says by its value
abbrev pub head_of : Key → List ℕ → Result Head LineKind
head_of keys.Name value = name_value value >>= λ name. Ok (heads.Name name)
head_of keys.Category value = category_value value >>= λ category. Ok (heads.Category category)
head_of keys.Revision value = number_value (2 ^ 32) value >>= λ revision. Ok (heads.Revision revision)
head_of keys.Catalogue value = text_value value >>= λ text. Ok (heads.Catalogue text)
head_of keys.Shortdesc value = text_value value >>= λ text. Ok (heads.Shortdesc text)
head_of keys.Relocated value = flag_value value >>= λ flag. Ok (heads.Relocated flag)
head_of keys.Longdesc value = text_value value >>= λ text. Ok (heads.Longdesc text)
head_of keys.Depend value = text_value value >>= λ text. Ok (heads.Depend text)
head_of keys.Execute value = text_value value >>= λ text. Ok (heads.Execute text)
head_of keys.Postaction value = text_value value >>= λ text. Ok (heads.Postaction text)
head_of (keys.Size part) value = number_value (2 ^ 64) value >>= λ size. Ok (heads.Size part size)
head_of (keys.Digest part) value = digest_value value >>= λ digest. Ok (heads.Digest part digest)
head_of (keys.Files part) value = blocks_value value >>= λ blocks. Ok (heads.Files part blocks)
head_of keys.Binfiles value = bin_value value >>= λ bin. Ok (heads.Binfiles bin.0 bin.1)

-- a fact under what stands behind `catalogue-` in its key
abbrev pub fact_with : Option (List ℕ) → List ℕ → Result Head LineKind
fact_with None value = Err kinds.Key
fact_with (Some key) value =
    if is_fact_key key then (text_value value >>= λ text. Ok (heads.Fact (record { key = key; value = text }))) else Err kinds.Key

-- a fact of the catalogue, as in `catalogue-license lppl`
abbrev pub fact_of : List ℕ → List ℕ → Result Head LineKind
fact_of word value = fact_with (stripped (codes "catalogue-") word) value

-- what a line with a key of the table says, and else what it says as a fact
abbrev pub head_by : Option Key → List ℕ → List ℕ → Result Head LineKind
head_by (Some key) word value = head_of key value
head_by None word value = fact_of word value

-- what a key and its value say; a value has 65,536 bytes at most
abbrev pub keyed : List ℕ → List ℕ → Result Head LineKind
keyed word value = if nat_lt 65536 (length value) then Err kinds.TooLong else head_by (key_of word) word value

-- what a line says, cut at its first space: a line without a space has the empty value
abbrev pub head_from : List ℕ → Option (List ℕ × List ℕ) → Result Head LineKind
head_from line None = keyed line []
head_from line (Some parts) = keyed parts.0 parts.1

-- what a line that is no file's says: its key stands before the first space, its value behind it
abbrev pub head_value : List ℕ → Result Head LineKind
head_value line = head_from line (cut 32 line)

-- a line that begins with a space is a file's
abbrev pub line_form : List ℕ → Result Line LineKind
line_form [] = head_value [] >>= λ head. Ok (lines.Head head)
line_form (b ∷ text) =
    if b == 32 then (file_value text >>= λ file. Ok (lines.File file))
    else head_value (b ∷ text) >>= λ head. Ok (lines.Head head)

-- what a line says by itself, or its first fault
abbrev pub line_value : List ℕ → Result Line LineKind
line_value line = if is_utf8 line then line_form line else Err kinds.Utf8

-- what a line says that is no file's
abbrev pub head_alone : Line → Result Head LineKind
head_alone (lines.Head head) = Ok head
head_alone (lines.File file) = Err kinds.File

-- what a line says that is no file's, or its first fault: no file may stand here
abbrev pub head_of_line : List ℕ → Result Head LineKind
head_of_line line = line_value line >>= head_alone
