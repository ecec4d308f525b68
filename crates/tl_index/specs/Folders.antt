-- Folders by their names.
use Rattle.std.specs.Prelude.{◌≡◌, ℕ, true, List, [], ◌∷◌, ◌++◌, Bool}
use Rattle.std.specs.List.{list_any, AllByRecursion}
use Rattle.std.specs.Ordering.{nat_cmp}
use Rattle.std.specs.Cmp.Lexicographic.{slice_cmp}
use Rattle.std.specs.BTreeMap.{is_at}
use Rattle.tl_path.specs.Components.{components}
use Rattle.tl_pattern.specs.Form.{last_of}
use Rattle.tl_index.specs.declared.hit.Hit.{Hit}
use Rattle.tl_entry.specs.Rising.{is_rising}
use Rattle.tl_index.specs.Entries.{path_of}
use Rattle.tl_index.specs.Fronts.{begins}

-- a folder behind its name, so that in the order of bytes folders with one name stand together, and among them those in one folder
abbrev pub key_of : List ℕ → List ℕ
key_of folder = last_of (components folder) ++ 47 ∷ folder

-- whether a key is there
abbrev pub has_folder : List (List ℕ) → List ℕ → Bool
has_folder keys key = list_any (is_at (slice_cmp nat_cmp key)) keys

-- the key of each folder of a path is there
abbrev pub Knows : List (List ℕ) → List ℕ → Type 0
Knows keys path = (folder : List ℕ) → begins (folder ++ 47 ∷ []) path ≡ true → has_folder keys (key_of folder) ≡ true

-- each key is that of a folder
abbrev pub AreFolders : List (List ℕ) → Type 0
AreFolders keys = (key : List ℕ) → has_folder keys key ≡ true → (folder : List ℕ) × (key ≡ key_of folder)

-- the folders of all entries are known, and nothing else
pub record KnowsAll (keys : List (List ℕ)) (hits : List Hit) : Type 0 where
  pub knows : AllByRecursion (λ (h : Hit). Knows keys h.path) hits
  pub folders : AreFolders keys

-- what was there stays, and where each was a folder each is
pub record Keeps (old new : List (List ℕ)) : Type 0 where
  pub stays : (key : List ℕ) → has_folder old key ≡ true → has_folder new key ≡ true
  pub folders : AreFolders old → AreFolders new

-- the paths of an index rise, and their folders are known
pub record IsIndex (keys : List (List ℕ)) (hits : List Hit) : Type 0 where
  pub rising : is_rising path_of hits ≡ true
  pub known : KnowsAll keys hits
