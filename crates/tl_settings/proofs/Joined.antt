-- Words joined by one space.
use Rattle.std.proofs.Common.{◌≡◌, ℕ, List, [], ◌∷◌, ◌++◌, Vec, sym, ap}
use Rattle.std.specs.List.{join_with_byte}
use Rattle.std.proofs.lemmas.List.{append-nil}
use Rattle.std.specs.declared.alloc.Global.{Global}
use Rattle.tl_action.specs.Texts.{texts}

-- each word with a space in front
abbrev pub spaced : List (Vec ℕ Global) → List ℕ
spaced [] = []
spaced (word ∷ words) = 32 ∷ word.items ++ spaced words

pub join-spaced : (first : List ℕ) (words : List (Vec ℕ Global)) → join_with_byte 32 (first ∷ texts words) ≡ first ++ spaced words
join-spaced first [] = sym (append-nil first)
join-spaced first (word ∷ words) = ap (λ (l : List ℕ). first ++ 32 ∷ l) (join-spaced word.items words)
