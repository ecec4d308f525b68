-- The stretches of lines between empty ones.
use Rattle.std.proofs.Common.{◌≡◌, ℕ, Bool, true, false, cond, eqb, List, [], ◌∷◌, length, drop, refl, sym, ap, ◌∙◌}
use Rattle.std.specs.Prelude.{filter}
use Rattle.std.specs.List.{slice_split, onto_first}
use Rattle.tl_object.specs.Content.{front, behind, is_empty_line, is_full, stretches}

abbrev Lines : Type 0
Lines = List (ℕ × List ℕ)

split_front : (lines : Lines) → slice_split is_empty_line lines ≡ front lines ∷ drop 1 (slice_split is_empty_line lines)
split_front [] = refl
split_front (x ∷ xs) = shaped (split_front xs) (is_empty_line x)
  where
    shaped : slice_split is_empty_line xs ≡ front xs ∷ drop 1 (slice_split is_empty_line xs) → (t : Bool) → cond t ([] ∷ slice_split is_empty_line xs) (onto_first x (slice_split is_empty_line xs))
        ≡ cond t [] (x ∷ front xs) ∷ drop 1 (cond t ([] ∷ slice_split is_empty_line xs) (onto_first x (slice_split is_empty_line xs)))
    shaped rest true = refl
    shaped rest false = ap (onto_first x) rest ∙ ap (λ (ls : List Lines). (x ∷ front xs) ∷ drop 1 ls) (sym (ap (onto_first x) rest))

split_rest : (lines : Lines) → filter is_full (drop 1 (slice_split is_empty_line lines)) ≡ stretches (behind lines)
split_rest [] = refl
split_rest (x ∷ xs) = shaped (split_rest xs) (is_empty_line x)
  where
    shaped : filter is_full (drop 1 (slice_split is_empty_line xs)) ≡ stretches (behind xs) → (t : Bool) → filter is_full (drop 1 (cond t ([] ∷ slice_split is_empty_line xs) (onto_first x (slice_split is_empty_line xs)))) ≡ stretches (cond t xs (behind xs))
    shaped rest true = refl
    shaped rest false = ap (λ (ls : List Lines). filter is_full (drop 1 (onto_first x ls))) (split_front xs) ∙ rest

-- a stretch comes first where the first line isn't empty
pub stretches-full : (lines : Lines) → is_full (front lines) ≡ true → stretches lines ≡ front lines ∷ stretches (behind lines)
stretches-full lines full =
    ap (filter is_full) (split_front lines) ∙ ap (λ t. cond t (front lines ∷ filter is_full (drop 1 (slice_split is_empty_line lines))) (filter is_full (drop 1 (slice_split is_empty_line lines)))) full
    ∙ ap (λ (ls : List Lines). front lines ∷ ls) (split_rest lines)

-- no stretch comes first where no line is left or the first one is empty
pub stretches-empty : (lines : Lines) → front lines ≡ [] → stretches lines ≡ stretches (behind lines)
stretches-empty lines empty =
    ap (filter is_full) (split_front lines) ∙ ap (λ (ls : Lines). filter is_full (ls ∷ drop 1 (slice_split is_empty_line lines))) empty ∙ split_rest lines

pub stretches-skip : (lines rest : Lines) (n : ℕ) (line : List ℕ) → lines ≡ (n, line) ∷ rest → eqb (length line) 0 ≡ true → stretches lines ≡ stretches rest
stretches-skip lines rest n line is empty =
    ap stretches is ∙ ap (λ t. filter is_full (cond t ([] ∷ slice_split is_empty_line rest) (onto_first (n, line) (slice_split is_empty_line rest)))) empty

pub front-full : (lines rest : Lines) (n : ℕ) (line : List ℕ) → lines ≡ (n, line) ∷ rest → eqb (length line) 0 ≡ false → is_full (front lines) ≡ true
front-full lines rest n line is full = ap (λ (ls : Lines). is_full (front ls)) is ∙ ap (λ t. is_full (cond t [] ((n, line) ∷ front rest))) full
