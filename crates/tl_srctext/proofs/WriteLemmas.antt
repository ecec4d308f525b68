-- Texts that grow by a piece at a time.
use Rattle.std.proofs.Common.{◌≡◌, ℕ, ◌+◌, ◌<◌, List, [], ◌∷◌, ◌++◌, length, take, get_or, refl, sym, ap, ◌∙◌, arith, append_assoc}
use Rattle.std.specs.List.{join_with_byte}
use Rattle.std.proofs.lemmas.List.{take_more, length-take}

-- pieces that are joined, and one more
pub join-more : (c : ℕ) (pieces : List (List ℕ)) (piece : List ℕ) → 0 < length pieces
    → join_with_byte c (pieces ++ piece ∷ []) ≡ join_with_byte c pieces ++ c ∷ piece
join-more c [] piece some = absurd (omega arith)
join-more c (first ∷ []) piece some = refl
join-more c (first ∷ next ∷ pieces) piece some =
    ap (λ (l : List ℕ). first ++ c ∷ l) (join-more c (next ∷ pieces) piece (omega arith))
    ∙ sym (append_assoc first (c ∷ join_with_byte c (next ∷ pieces)) (c ∷ piece))

-- a first piece
pub put-first : (c : ℕ) (pieces : List (List ℕ)) (i : ℕ) (d piece start out mid new : List ℕ) → i < length pieces → get_or pieces i d ≡ piece → i ≡ 0
    → out ≡ start ++ join_with_byte c (take i pieces) → mid ≡ out → new ≡ mid ++ piece → new ≡ start ++ join_with_byte c (take (i + 1) pieces)
put-first c pieces i d piece start out mid new lt is none before same after =
    after ∙ ap (λ (l : List ℕ). l ++ piece) (same ∙ before ∙ ap (λ n. start ++ join_with_byte c (take n pieces)) none)
    ∙ append_assoc start [] piece
    ∙ ap (λ (l : List ℕ). start ++ l) (sym (ap (join_with_byte c) (take_more pieces i d lt) ∙ ap (λ n. join_with_byte c (take n pieces ++ get_or pieces i d ∷ [])) none ∙ is))

-- a further piece behind a byte
pub put-next : (c : ℕ) (pieces : List (List ℕ)) (i : ℕ) (d piece start out mid new : List ℕ) → i < length pieces → get_or pieces i d ≡ piece → 0 < i
    → out ≡ start ++ join_with_byte c (take i pieces) → mid ≡ out ++ c ∷ [] → new ≡ mid ++ piece → new ≡ start ++ join_with_byte c (take (i + 1) pieces)
put-next c pieces i d piece start out mid new lt is some before more after =
    after ∙ ap (λ (l : List ℕ). l ++ piece) (more ∙ ap (λ (l : List ℕ). l ++ c ∷ []) before)
    ∙ append_assoc (start ++ join_with_byte c (take i pieces)) (c ∷ []) piece
    ∙ append_assoc start (join_with_byte c (take i pieces)) (c ∷ piece)
    ∙ ap (λ (l : List ℕ). start ++ l) (sym (ap (join_with_byte c) (take_more pieces i d lt)
    ∙ join-more c (take i pieces) (get_or pieces i d) (omega (arith, length-take i pieces, lt))
    ∙ ap (λ (l : List ℕ). join_with_byte c (take i pieces) ++ c ∷ l) is))
