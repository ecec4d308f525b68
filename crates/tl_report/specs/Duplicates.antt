-- The paths that are files of two entries.
use Rattle.std.specs.Prelude.{ℕ, Bool, ◌&&◌, List, ◌∷◌, ◌++◌, map, filter}
use Rattle.std.specs.List.{flat_map}
use Rattle.tl_model.specs.Volume.{same_name}
use Rattle.tl_entry.specs.Rising.{comes_before}
use Rattle.tl_entry.specs.declared.object.Object.{Object}
use Rattle.tl_report.specs.Claims.{Claim, claims}
use Rattle.tl_report.specs.Lines.{line_of}
use Rattle.tl_report.specs.declared.lines.Finding.TheVariants.{Duplicate}

-- whether one path is a file of two entries, the first one's name below the second's
abbrev pub is_clash : Claim → Claim → Bool
is_clash first second = same_name first.path second.path && comes_before first.owner second.owner

-- the line of such a path
abbrev pub duplicate_line : Claim → Claim → List ℕ
duplicate_line first second = line_of Duplicate first.path (first.owner ++ 32 ∷ second.owner)

-- a line for each file among some that is also a file of an entry with a greater name
abbrev pub clashes_with : List Claim → Claim → List (List ℕ)
clashes_with files first = map (duplicate_line first) (filter (is_clash first) files)

-- a line for each two of some files that have one path
abbrev pub clashes : List Claim → List (List ℕ)
clashes files = flat_map (clashes_with files) files

-- a line for each path that is a file of two entries, and each two such entries
abbrev pub duplicate_lines : List Object → List (List ℕ)
duplicate_lines db = clashes (claims db)
