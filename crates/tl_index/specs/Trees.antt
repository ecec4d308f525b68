-- Words and names of patterns, as texts.
use Rattle.std.specs.Prelude.{◌≡◌, ℕ, ◌<◌, ◌==◌, not, if◌then◌else◌, Bool, true, List, [], ◌∷◌, ◌++◌, length}
use Rattle.std.specs.List.{list_all}

-- words with a '/' behind each
abbrev pub joined : List (List ℕ) → List ℕ
joined [] = []
joined (w ∷ words) = w ++ 47 ∷ joined words

-- what stands behind a text's first '/'
abbrev pub folder_in : List ℕ → List ℕ
folder_in [] = []
folder_in (b ∷ key) = if b == 47 then key else folder_in key

-- whether a text has no '/'
abbrev pub is_plain : List ℕ → Bool
is_plain text = list_all (λ b. not (b == 47)) text

-- at least one word, and none has a '/', nor the name
pub record AreWords (words : List (List ℕ)) (name : List ℕ) : Type 0 where
  pub some : 0 < length words
  pub plain : list_all is_plain words ≡ true
  pub name_plain : is_plain name ≡ true

-- two texts: what the keys of the folders with a name below some words begin with, and the same with '0' in place of the last '/'
pub record AreBounds (words : List (List ℕ)) (name front behind : List ℕ) : Type 0 where
  pub start : List ℕ
  pub words_are : joined words ≡ start ++ 47 ∷ []
  pub front_is : front ≡ name ++ 47 ∷ (start ++ 47 ∷ [])
  pub behind_is : behind ≡ name ++ 47 ∷ (start ++ 48 ∷ [])
