-- What it means that what is written is found, wherever it stands.
use Rattle.std.specs.Prelude.{◌≡◌, ◌≢◌, ℕ, ◌==◌, ◌||◌, not, Bool, false, List, [], ◌∷◌, ◌++◌, Option, IsSomeAnd}
use Rattle.std.specs.List.{AllByRecursion}
use Rattle.std.specs.Borrow.{Bor}

-- a text doesn't begin with a word
abbrev pub Lacks : List ℕ → List ℕ → Type 0
Lacks text word = (rest : List ℕ) → text ≢ word ++ rest

-- a text begins with none of some words
abbrev pub LacksEach : List ℕ → List (List ℕ) → Type 0
LacksEach text words = AllByRecursion (Lacks text) words

-- whether two words differ at some place that both have, so that no text begins with both
abbrev pub is_apart : List ℕ → List ℕ → Bool
is_apart [] other = false
is_apart (a ∷ word) [] = false
is_apart (a ∷ word) (b ∷ other) = not (a == b) || is_apart word other

-- where the lines of a value of a form stand at the front of a text, and behind them what begins with none of some words, that rest is
-- given
abbrev pub Finds : {V : Type 0} → (V → List ℕ) → (V → Type 0) → List (List ℕ) → List ℕ → Option (Bor (List ℕ)) → Type 0
Finds {V} lines formed words text found =
    (value : V) (rest : List ℕ) → formed value → LacksEach rest words → text ≡ lines value ++ rest → IsSomeAnd found (λ behind. behind.now ≡ rest)

-- where the lines of one element stand at the front of a text, and behind them what begins with none of some words, its key and that rest
-- are given
abbrev pub FindsOne : {A : Type 0} → (A → List ℕ) → (A → List ℕ) → (A → Type 0) → List (List ℕ) → List ℕ → Option (Bor (List ℕ) × Bor (List ℕ)) → Type 0
FindsOne {A} key lines formed words text found =
    (one : A) (rest : List ℕ) → formed one → LacksEach rest words → text ≡ lines one ++ rest
    → IsSomeAnd found (λ parts. (parts.0.now ≡ key one) × (parts.1.now ≡ rest))
