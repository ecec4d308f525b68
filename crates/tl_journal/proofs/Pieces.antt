-- Pieces of a body.
use Rattle.std.proofs.Common.{◌≡◌, ◌≤◌, ◌+◌, ◌-◌, ℕ, Bool, true, false, cond, List, [], length, take, drop, Result, Ok, Err, OnOk, refl, sym, ◌∙◌, ap, inl, inr, arith}
use Rattle.std.specs.Prelude.{nat_lt, min}
use Rattle.std.proofs.lemmas.Bool.{ltb-false, ltb-true, cases_lt}
use Rattle.std.proofs.lemmas.List.{drop-drop, drop-take, length-take, take_min, take-take, drop_all}
use Rattle.tl_model.specs.Seen.{Moment, Seen, Quiet}
use Rattle.tl_journal_text.specs.declared.slot.Slot.{Slot}
use Rattle.tl_journal_text.specs.Slots.{body_of}
use Rattle.tl_journal_text.specs.Stand.{bytes_at}
use Rattle.tl_journal.specs.Reading.{Part, bytes_from, body_at, IsPartOf, SameBody}

pub same_body_at : (slot : Slot) (old new : Seen) → Quiet old new → body_at slot new ≡ body_at slot old
same_body_at slot old new quiet = ap (λ (m : Moment). bytes_at m.held (body_of slot)) quiet.present

-- a front is as many bytes as it has
take_own : (xs ys : List ℕ) (n : ℕ) → xs ≡ take n ys → xs ≡ take (length xs) ys
take_own xs ys n is = is ∙ sym (take_min n ys) ∙ ap (λ (k : ℕ). take k ys) (sym (length-take n ys) ∙ ap (λ (l : List ℕ). length l) (sym is))

-- what is there from a place on is what the body has from it on
pub part_front : (p : Part) (s : Seen) (from : ℕ) → IsPartOf p s → bytes_from p from ≡ take (length (bytes_from p from)) (drop from (body_at p.slot s))
part_front p s from part = by (nat_lt from p.start) refl
  where
    within : p.start ≤ from → (k : ℕ) → k ≡ from - p.start → k ≤ length p.bytes → drop k p.bytes ≡ take (length p.bytes - k) (drop from (body_at p.slot s))
    within le k is few =
        let sizes : length p.bytes ≡ k + (length p.bytes - k) = omega arith in
        let place : p.start + k ≡ from = omega arith in
        ap (λ (l : List ℕ). drop k l) part.bytes
        ∙ ap (λ (n : ℕ). drop k (take n (drop p.start (body_at p.slot s)))) sizes
        ∙ drop-take k (length p.bytes - k) (drop p.start (body_at p.slot s))
        ∙ ap (λ (l : List ℕ). take (length p.bytes - k) l) (drop-drop k p.start (body_at p.slot s) ∙ ap (λ (n : ℕ). drop n (body_at p.slot s)) place)

    there : p.start ≤ from → (k : ℕ) → k ≡ from - p.start → drop k p.bytes ≡ take (length (drop k p.bytes)) (drop from (body_at p.slot s))
    there le k is = elim (cases_lt (length p.bytes) k) [
      | inl lt ↦ take_own (drop k p.bytes) (drop from (body_at p.slot s)) 0 (drop_all k p.bytes (omega arith))
      | inr few ↦ take_own (drop k p.bytes) (drop from (body_at p.slot s)) (length p.bytes - k) (within le k is few)
    ]

    by : (b : Bool) → nat_lt from p.start ≡ b → cond b [] (drop (from - p.start) p.bytes) ≡ take (length (cond b [] (drop (from - p.start) p.bytes))) (drop from (body_at p.slot s))
    by true e = refl
    by false e = there (ltb-false _ _ e) (from - p.start) refl

-- a part stays one while nothing changes
pub part_quiet : (old new : Seen) (p : Part) → Quiet old new → IsPartOf p old → IsPartOf p new
part_quiet old new p quiet part = record {
  size = part.size ∙ ap (λ (l : List ℕ). length l) (sym (same_body_at p.slot old new quiet));
  bytes = part.bytes ∙ ap (λ (l : List ℕ). take (length p.bytes) (drop p.start l)) (sym (same_body_at p.slot old new quiet));
}

-- a piece that was read
pub loaded_part : (old new : Seen) (p q : Part) (from : ℕ) → Quiet old new → SameBody p q → IsPartOf p old → q.start ≡ from → q.bytes ≡ take 65536 (drop from (body_at p.slot old)) → IsPartOf q new
loaded_part old new p q from quiet same part start bytes =
    let texts : body_at p.slot old ≡ body_at q.slot new = sym (same_body_at p.slot old new quiet) ∙ ap (λ (x : Slot). body_at x new) (sym same.slot) in
    record {
      size = same.size ∙ part.size ∙ ap (λ (l : List ℕ). length l) texts;
      bytes = take_own q.bytes (drop q.start (body_at q.slot new)) 65536 (bytes ∙ ap (λ (n : ℕ). take 65536 (drop n (body_at p.slot old))) (sym start) ∙ ap (λ (l : List ℕ). take 65536 (drop q.start l)) texts);
    }

at_start : (q : Part) (from : ℕ) → q.start ≡ from → bytes_from q from ≡ q.bytes
at_start q from start = by (nat_lt from q.start) refl
  where
    none : from - q.start ≡ 0
    none = omega arith

    by : (b : Bool) → nat_lt from q.start ≡ b → cond b [] (drop (from - q.start) q.bytes) ≡ q.bytes
    by true e = absurd (omega (arith, ltb-true _ _ e))
    by false e = ap (λ (k : ℕ). drop k q.bytes) none

-- it has enough bytes
pub loaded_enough : (q : Part) (from need : ℕ) (bytes : List ℕ) → need ≤ 65536 → q.start ≡ from → q.bytes ≡ take 65536 (drop from bytes) → min need (length (drop from bytes)) ≤ length (bytes_from q from)
loaded_enough q from need bytes most start is = omega (arith, ap (λ (l : List ℕ). length l) (at_start q from start ∙ is), length-take 65536 (drop from bytes))

-- both of an answer's facts
pub on_ok_both : {T E : Type 0} (r : Result T E) (P Q R : Type 0) → (P → Q → R) → OnOk r P → OnOk r Q → OnOk r R
on_ok_both (Ok x) P Q R both p q = both p q
on_ok_both (Err e) P Q R both p q = tt

-- a buffer that was filled from what is there
pub filled : (p : Part) (s : Seen) (from count : ℕ) (text : List ℕ) → IsPartOf p s → text ≡ body_at p.slot s → count ≤ length (bytes_from p from) → take count (bytes_from p from) ≡ take count (drop from text)
filled p s from count text part is enough =
    ap (λ (l : List ℕ). take count l) (part_front p s from part)
    ∙ take-take count (length (bytes_from p from)) (drop from (body_at p.slot s)) enough
    ∙ ap (λ (l : List ℕ). take count (drop from l)) (sym is)

-- the same body has the same bytes while nothing changes
pub same_text : (old new : Seen) (p q : Part) → Quiet old new → SameBody p q → body_at q.slot new ≡ body_at p.slot old
same_text old new p q quiet same = ap (λ (x : Slot). body_at x new) same.slot ∙ same_body_at p.slot old new quiet
