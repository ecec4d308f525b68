-- What a stop leaves is a picture that could be left since any moment before the call.
use Rattle.std.proofs.Common.{◌≡◌, inl, inr, ℕ, zero, suc, ◌+◌, ◌<◌, ◌≤◌, Bool, false, cond, nat_le, List, [], ◌∷◌, ◌++◌, length, take, drop, reverse, refl, sym, ◌∙◌, ap, subst, arith, append_assoc, length-append}
use Rattle.std.specs.List.{Contains}
use Rattle.std.specs.FinSet as set
use Rattle.std.proofs.lemmas.Bool.{cases_Bool, leb-true}
use Rattle.std.proofs.lemmas.List.{append-nil}
use Rattle.tl_model.specs.Volume.{Name, Volume, at, contains-insert_none}
use Rattle.tl_model.specs.Seen.{Stretch, IsPicture, Could, at_rest, changing, saying}
use Rattle.tl_memhost.specs.Memory.{Standing, Memory, moment_of, many, stretches, seen, before, before_call, moments, AreCounted, IsCounted}
use Rattle.tl_memhost.specs.Record.{unheld, unsaid, standing, during, steps_of, memory}
use Rattle.tl_memhost.specs.declared.record.Did.{Did}
use Rattle.tl_memhost.specs.declared.record.Did.TheVariants.{Put, Grown, Failing, Settled, Said, Unsaid}
use Rattle.tl_memhost.specs.declared.record.Entry.{Entry}
use Rattle.tl_memhost.proofs.Counted.{length-many, length-stretches}

-- a stretch stands behind as many others, or more
seam : (before : List Stretch) (x : Stretch) (after : List Stretch) (t : ℕ) → t ≤ length before → Contains (drop t (before ++ x ∷ after)) x
seam [] x after zero le = (0, omega arith, refl)
seam [] x after (suc t) le = absurd (omega arith)
seam (y ∷ before) x after zero le = let rest : Contains (before ++ x ∷ after) x = seam before x after zero (omega arith) in (suc rest.0, let lt : rest.0 < length (before ++ x ∷ after) = rest.1 in omega arith, rest.2)
seam (y ∷ before) x after (suc t) le = seam before x after t (omega arith)

-- a picture at rest
rest_picture : (n : Standing) (name : Name) (image : Volume) (said : List ℕ) → IsPicture (at_rest (moment_of n)) image said → IsPicture (changing name (moment_of n)) image said
rest_picture n name image said p = record { others = λ other none. p.others other (contains-insert_none n.touched name other none).0; count = p.count; words = p.words }

take_none : (n : ℕ) → take n (let l : List ℕ = [] in l) ≡ []
take_none zero = refl
take_none (suc n) = refl

talk_picture : (n : Standing) (bytes : List ℕ) (image : Volume) (said : List ℕ) → IsPicture (at_rest (moment_of n)) image said → IsPicture (saying bytes (moment_of n)) image said
talk_picture n bytes image said p = record { others = p.others; count = 0; words = p.words ∙ ap (λ (l : List ℕ). n.said ++ l) (take_none p.count) }

-- within a call what was at rest before it may still be left
pub within : (did : Did) (after : List ℕ) (n : Standing) (image : Volume) (said : List ℕ) → IsPicture (at_rest (moment_of n)) image said → IsPicture (during did after n) image said
within (Put name bytes) after n image said p = rest_picture n name image said p
within (Grown name length) after n image said p = rest_picture n name image said p
within (Failing name) after n image said p = rest_picture n name image said p
within Settled after n image said p = p
within (Said length) after n image said p = talk_picture n _ image said p
within (Unsaid bytes) after n image said p = talk_picture n _ image said p

-- by the entries, the newest first: what may be left at rest before the call may be left at a stretch from t on
reaches : (es : List Entry) (held : Volume) (words : List ℕ) (rest : ℕ) (x : Stretch) (tail : List Stretch) (call next short t : ℕ) (image : Volume) (said : List ℕ)
    → IsPicture (at_rest (moment_of (before call (steps_of es held words) (standing es held words)))) image said
    → (IsPicture (at_rest (moment_of (standing es held words))) image said → IsPicture x image said)
    → call ≤ next → next ≤ moments (steps_of es held words) + rest + short → AreCounted short (steps_of es held words) → t + short ≤ call
    → (y : Stretch) × Contains (drop t (stretches (steps_of es held words) ++ many rest (at_rest (moment_of (standing es held words))) ++ x ∷ tail)) y × IsPicture y image said
reaches [] held words rest x tail call next short t image said picture here le counted each low =
    let k : length (many rest (at_rest (moment_of (standing [] held words)))) ≡ rest = length-many rest _ in
    (x, seam (many rest (at_rest (moment_of (standing [] held words)))) x tail t (omega arith), here picture)
reaches (e ∷ es) held words rest x tail call next short t image said picture here le counted each low =
    elim (cases_Bool (nat_le call e.call)) [
      | inl reached ↦
          let up : call ≤ e.call = leb-true call e.call reached in
          let old : Standing = standing es (unheld e.did held) (unsaid e.did words) in
          let before_it : IsPicture (at_rest (moment_of (before call (steps_of es (unheld e.did held) (unsaid e.did words)) old))) image said =
          subst (λ (b : Bool). IsPicture (at_rest (moment_of (cond b (before call (steps_of es (unheld e.did held) (unsaid e.did words)) old) (standing (e ∷ es) held words)))) image said) reached picture in
          let found = reaches es (unheld e.did held) (unsaid e.did words) e.rest (during e.did words old) (many rest (at_rest (moment_of (standing (e ∷ es) held words))) ++ x ∷ tail) call e.call short t image said before_it (within e.did words old image said) up each.0 each.1 low in
          (found.0, subst (λ (l : List Stretch). Contains (drop t l) found.0) (regroup (stretches (steps_of es (unheld e.did held) (unsaid e.did words)) ++ many e.rest (at_rest (moment_of old))) (during e.did words old) (many rest (at_rest (moment_of (standing (e ∷ es) held words)))) (x ∷ tail)) found.1, found.2)
      | inr not_yet ↦
          let at_it : IsPicture (at_rest (moment_of (standing (e ∷ es) held words))) image said =
          subst (λ (b : Bool). IsPicture (at_rest (moment_of (cond b (before call (steps_of es (unheld e.did held) (unsaid e.did words)) (standing es (unheld e.did held) (unsaid e.did words))) (standing (e ∷ es) held words)))) image said) not_yet picture in
          let h : length (stretches (steps_of (e ∷ es) held words)) ≡ moments (steps_of (e ∷ es) held words) = length-stretches (steps_of (e ∷ es) held words) in
          let k : length (many rest (at_rest (moment_of (standing (e ∷ es) held words)))) ≡ rest = length-many rest _ in
          let whole : length (stretches (steps_of (e ∷ es) held words) ++ many rest (at_rest (moment_of (standing (e ∷ es) held words)))) ≡ moments (steps_of (e ∷ es) held words) + rest = length-append (stretches (steps_of (e ∷ es) held words)) _ ∙ ap (λ (n : ℕ). n + length (many rest (at_rest (moment_of (standing (e ∷ es) held words))))) h ∙ ap (λ (n : ℕ). moments (steps_of (e ∷ es) held words) + n) k in
          (x, seam (stretches (steps_of (e ∷ es) held words) ++ many rest (at_rest (moment_of (standing (e ∷ es) held words)))) x tail t (below t call next short (moments (steps_of (e ∷ es) held words) + rest) _ low le counted whole), here at_it)
    ]
  where
    below : (t call next short most have : ℕ) → t + short ≤ call → call ≤ next → next ≤ most + short → have ≡ most → t ≤ have
    below t call next short most have low le counted is = omega arith

    regroup : (a : List Stretch) (d : Stretch) (b c : List Stretch) → a ++ d ∷ (b ++ c) ≡ ((a ++ d ∷ []) ++ b) ++ c
    regroup a d b c = sym (append_assoc (a ++ d ∷ []) b c ∙ append_assoc a (d ∷ []) (b ++ c))

-- what stood before a call may be left since each moment before it
pub could_be_left : (items : List Entry) (held : Volume) (words : List ℕ) (rest calls short : ℕ) (failing : List ℕ) (syncs faults call t : ℕ) (image : Volume)
    → IsCounted (memory items held words rest calls short failing syncs faults) → call ≤ calls → t + short ≤ call
    → ((name : Name) → set.contains (before_call (memory items held words rest calls short failing syncs faults) call).touched name ≡ false → at image name ≡ at (before_call (memory items held words rest calls short failing syncs faults) call).held name)
    → Could (seen (memory items held words rest calls short failing syncs faults)) t image (before_call (memory items held words rest calls short failing syncs faults) call).said
could_be_left items held words rest calls short failing syncs faults call t image counted le low others =
    let m : Memory = memory items held words rest calls short failing syncs faults in
    let found = reaches (reverse items) held words rest (at_rest (moment_of (standing (reverse items) held words))) [] call calls short t image (before_call (memory items held words rest calls short failing syncs faults) call).said (record { others = others; count = 0; words = sym (append-nil _) }) (λ p. p) le counted.least counted.each low in
    (found.0, found.1, found.2)
