-- Words that are platforms, and where a text has one that can't be kept.
use Rattle.std.specs.Prelude.{◌≡◌, ◌≢◌, ℕ, ◌+◌, ◌≤◌, if◌then◌else◌, true, List, [], ◌∷◌, ◌++◌, length, Some, All, AllPairs, IsPermutation, slice_get}
use Rattle.std.specs.List.{slice_split}
use Rattle.std.specs.Ordering.{nat_cmp}
use Rattle.std.specs.Cmp.Lexicographic.{slice_cmp}
use Rattle.std.proofs.Common.{Less}
use Rattle.tl_model.specs.Words.{is_full, fields}
use Rattle.tl_path.specs.Bytes.{is_blank}
use Rattle.tl_path.specs.Names.{is_platform}

-- words that are platforms: at most 32, each of the form, and no two the same
pub record ArePlatforms (words : List (List ℕ)) : Type 0 where
  pub each : All (λ word. is_platform word ≡ true) words
  pub distinct : AllPairs (λ a b. a ≢ b) words
  pub few : length words ≤ 32

-- platforms in the order of their bytes: at most 32, each of the form, and each below all later ones
pub record ArePlatformsInOrder (names : List (List ℕ)) : Type 0 where
  pub each : All (λ name. is_platform name ≡ true) names
  pub rising : AllPairs (λ a b. slice_cmp nat_cmp a b ≡ Less) names
  pub few : length names ≤ 32

-- where the parts that have a byte begin, if the first part begins at `at` and one byte stands between two
abbrev pub places_from : ℕ → List (List ℕ) → List ℕ
places_from at [] = []
places_from at (part ∷ parts) =
    if is_full part then at ∷ places_from (at + length part + 1) parts else places_from (at + length part + 1) parts

-- where the words of a text begin, which blanks part
abbrev pub word_places : List ℕ → List ℕ
word_places text = places_from 0 (slice_split is_blank text)

-- the platforms that a text lists: its words, which are platforms, in the order of their bytes
pub record AreListed (text : List ℕ) (names : List (List ℕ)) : Type 0 where
  pub words : ArePlatforms (fields text)
  pub same : IsPermutation (fields text) names
  pub order : ArePlatformsInOrder names

-- a text's first word that can't be kept begins at `at`: the words before it are platforms, and with it they are not
pub record IsFirstBadWord (text : List ℕ) (at : ℕ) : Type 0 where
  pub before : List (List ℕ)
  pub word : List ℕ
  pub behind : List (List ℕ)
  pub words : fields text ≡ before ++ word ∷ behind
  pub kept : ArePlatforms before
  pub bad : ¬ (ArePlatforms (before ++ word ∷ []))
  pub place : slice_get (word_places text) (length before) ≡ Some at
