-- Names that one space joins, written one after the other.
use Rattle.std.proofs.Common.{◌≡◌, ℕ, ◌+◌, ◌-◌, ◌<◌, ◌≤◌, List, [], ◌∷◌, ◌++◌, length, get_or, take, drop, refl, sym, ap, ◌∙◌, arith, append_assoc, length-drop}
use Rattle.std.specs.List.{join_with_byte}
use Rattle.std.proofs.lemmas.List.{take_more, take_all, get_or-take, get_or-drop, length-take-le}

abbrev rest : List (List ℕ) → List (List ℕ)
rest names = take (length names - 1) (drop 1 names)

length-rest : (names : List (List ℕ)) → 1 ≤ length names → length (rest names) ≡ length names - 1
length-rest names some = length-take-le (length names - 1) (drop 1 names) (omega (arith, length-drop 1 names))

join-push : (names : List (List ℕ)) (name : List ℕ) → 0 < length names → join_with_byte 32 (names ++ name ∷ []) ≡ join_with_byte 32 names ++ 32 ∷ name
join-push [] name some = absurd (omega arith)
join-push (a ∷ []) name some = refl
join-push (a ∷ b ∷ names) name some =
    ap (λ text. a ++ 32 ∷ text) (join-push (b ∷ names) name (omega arith)) ∙ sym (append_assoc a (32 ∷ join_with_byte 32 (b ∷ names)) (32 ∷ name))

pub join_first : (names : List (List ℕ)) (first : List ℕ) → 1 ≤ length names → first ≡ get_or names 0 first → first ≡ join_with_byte 32 (take (0 + 1) names)
join_first [] first some is = absurd (omega arith)
join_first (a ∷ names) first some is = is

pub join_more : (names : List (List ℕ)) (n : ℕ) (name : List ℕ) → 1 ≤ length names → n < length (rest names) → name ≡ get_or (rest names) n name
    → join_with_byte 32 (take (n + 1) names) ++ 32 ∷ name ≡ join_with_byte 32 (take (n + 1 + 1) names)
join_more names n name some within is =
    let len : length (rest names) ≡ length names - 1 = length-rest names some in
    let same : name ≡ get_or names (n + 1) name =
    is ∙ get_or-take (length names - 1) (drop 1 names) n name (omega arith) ∙ get_or-drop 1 names n name ∙ ap (λ k. get_or names k name) (omega arith) in
    sym (join-push (take (n + 1) names) name (omega (arith, length-take-le (n + 1) names (omega arith))))
    ∙ ap (λ x. join_with_byte 32 (take (n + 1) names ++ x ∷ [])) same
    ∙ ap (join_with_byte 32) (sym (take_more names (n + 1) name (omega arith)))

pub join_all : (names : List (List ℕ)) (n : ℕ) → 1 ≤ length names → length (rest names) ≤ n → join_with_byte 32 (take (n + 1) names) ≡ join_with_byte 32 names
join_all names n some past = ap (join_with_byte 32) (take_all (n + 1) names (omega (arith, length-rest names some)))
