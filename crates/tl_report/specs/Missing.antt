-- The files of entries that aren't there.
use Rattle.std.specs.Prelude.{ℕ, Bool, List, map, filter, is_none}
use Rattle.tl_model.specs.Volume.{Volume, at}
use Rattle.tl_entry.specs.declared.object.Object.{Object}
use Rattle.tl_report.specs.Claims.{Claim, claims}
use Rattle.tl_report.specs.Lines.{line_of}
use Rattle.tl_report.specs.declared.lines.Finding.TheVariants.{Missing}

-- whether a file isn't in a tree
abbrev pub is_gone : Volume → Claim → Bool
is_gone tree claim = is_none (at tree claim.path)

-- the line of a file that isn't there
abbrev pub missing_line : Claim → List ℕ
missing_line claim = line_of Missing claim.owner claim.path

-- a line for each of some files that isn't in a tree
abbrev pub missing_among : Volume → List Claim → List (List ℕ)
missing_among tree files = map missing_line (filter (is_gone tree) files)

-- a line for each file of an entry that isn't in a tree
abbrev pub missing_lines : Volume → List Object → List (List ℕ)
missing_lines tree db = missing_among tree (claims db)
