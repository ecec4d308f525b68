-- The text of `texmf-dist/ls-R`.
use Rattle.std.specs.Prelude.{◌≡◌, ◌≢◌, ℕ, true, false, if◌then◌else◌, List, [], ◌∷◌, ◌++◌, drop, codes, bytes_eq}
use Rattle.std.specs.List.{AllByRecursion}
use Rattle.std.specs.Ordering.{nat_cmp}
use Rattle.std.specs.List.Sorted.{IsStrictlySortedBy}
use Rattle.std.specs.Cmp.Lexicographic.{slice_cmp}
use Rattle.tl_model.specs.Lines.{text_of}
use Rattle.tl_path.specs.Path.{IsPath}
use Rattle.tl_path.specs.Components.{is_below}
use Rattle.tl_lsr.specs.Items.{folder, dir_of, name_of, all_items}

-- the file itself
abbrev pub list_path : List ℕ
list_path = codes "texmf-dist/ls-R"

-- the line that the file begins with
abbrev pub first_line : List ℕ
first_line = codes "% ls-R -- filename database for kpathsea; do not change this line."

-- the line that begins a directory's section: its path below the folder, between "./" and ':'
abbrev pub heading : List ℕ → List ℕ
heading dir = 46 ∷ 47 ∷ drop 11 dir ++ 58 ∷ []

-- the line that ends a directory's section; none where there is no directory
abbrev pub closing : List ℕ → List (List ℕ)
closing [] = []
closing (b ∷ dir) = [] ∷ []

-- the lines between the names of a directory and those of the next one; none where that is the same
abbrev pub turning : List ℕ → List ℕ → List (List ℕ)
turning dir next = if bytes_eq next dir then [] else closing dir ++ heading next ∷ []

-- the lines for items behind the section of a directory that isn't ended
abbrev pub listing : List ℕ → List (List ℕ) → List (List ℕ)
listing dir [] = closing dir
listing dir (it ∷ items) = turning dir (dir_of it) ++ name_of it ∷ listing (dir_of it) items

-- the lines that list paths: the first line and an empty one, and for each directory that has something below it, in the order of their
-- paths, its heading, the names that stand directly in it, in order and each once, and an empty line
abbrev pub lsr_lines : List (List ℕ) → List (List ℕ)
lsr_lines paths = first_line ∷ [] ∷ listing [] (all_items paths)

-- the text that lists paths
unfoldable pub lsr_text : List (List ℕ) → List ℕ
lsr_text paths = text_of (lsr_lines paths)

-- paths that can be listed: below the folder, none the file itself, in order and each once, and none below another
pub record AreListable (paths : List (List ℕ)) : Type 0 where
  pub form : AllByRecursion IsPath paths
  pub inside : AllByRecursion (λ path. is_below path folder ≡ true) paths
  pub others : AllByRecursion (λ path. path ≢ list_path) paths
  pub rising : IsStrictlySortedBy (slice_cmp nat_cmp) paths
  pub apart : AllByRecursion (λ a. AllByRecursion (λ b. is_below a b ≡ false) paths) paths
