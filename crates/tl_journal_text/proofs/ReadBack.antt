-- What was written is read again.
use Rattle.std.proofs.Common.{◌≡◌, ◌<◌, ◌≤◌, ◌+◌, ◌^◌, ℕ, zero, suc, true, false, cond, List, [], ◌∷◌, ◌++◌, length, take, drop, refl, sym, ◌∙◌, ap, arith, append_assoc, length-append}
use Rattle.std.specs.Prelude.{nat_lt}
use Rattle.std.specs.List.{AllByRecursion}
use Rattle.std.specs.Int.{w16, w64, to_be_bytes}
use Rattle.std.proofs.lemmas.Bool.{le-ltb}
use Rattle.std.proofs.lemmas.List.{take_at, drop_at, append-nil}
use Rattle.std.proofs.lemmas.Nat.{from_be_bytes-to_be_bytes_2, from_be_bytes-to_be_bytes_8}
use Rattle.tl_model.specs.Volume.{Name}
use Rattle.tl_journal_text.specs.Records.{Record, Remove, Write, Fits, is_target, text_of, records_text}
use Rattle.tl_journal_text.proofs.Targets.{target_short}
use Rattle.tl_journal_text.specs.Body.{Next, Ends, Faulty, Takes, taken, named, sized, next_of, next, Reading, Whole, Bad, before, reading_by, reading}

taken_at : (from n : ℕ) (xs rest : List ℕ) (go : List ℕ → List ℕ → Next) → length xs ≡ n → taken from n (xs ++ rest) go ≡ go xs rest
unfolding taken
taken_at from n xs rest go is =
    let long : nat_lt (length (xs ++ rest)) n ≡ false = le-ltb (length (xs ++ rest)) n (omega (arith, length-append xs rest)) in
    ap (λ b. cond b (Faulty from) (go (take n (xs ++ rest)) (drop n (xs ++ rest)))) long
    ∙ (λ i. go (take_at xs rest n is i) (drop_at xs rest n is i))

named_at : (from : ℕ) (name rest : List ℕ) (go : Name → List ℕ → Next) → is_target name ≡ true → named from (to_be_bytes w16 (length name) ++ (name ++ rest)) go ≡ go name rest
unfolding named
named_at from name rest go target =
    taken_at from 2 (to_be_bytes w16 (length name)) (name ++ rest) _ refl
    ∙ ap (λ (n : ℕ). taken (from + 2) n (name ++ rest) (λ name' rest'. cond (is_target name') (go name' rest') (Faulty (from + 2)))) (from_be_bytes-to_be_bytes_2 (length name) (omega (arith, target_short name target)))
    ∙ taken_at (from + 2) (length name) name rest _ refl
    ∙ ap (λ b. cond b (go name rest) (Faulty (from + 2))) target

sized_at : (from : ℕ) (bytes rest : List ℕ) (go : List ℕ → List ℕ → Next) → length bytes < 2 ^ 64 → sized from (to_be_bytes w64 (length bytes) ++ (bytes ++ rest)) go ≡ go bytes rest
unfolding sized
sized_at from bytes rest go small =
    taken_at from 8 (to_be_bytes w64 (length bytes)) (bytes ++ rest) _ refl
    ∙ ap (λ (n : ℕ). taken (from + 8) n (bytes ++ rest) go) (from_be_bytes-to_be_bytes_8 (length bytes) small)
    ∙ taken_at (from + 8) (length bytes) bytes rest _ refl

first_at : (from kind : ℕ) (rest : List ℕ) → next from (kind ∷ rest) ≡ next_of from kind rest
unfolding next
first_at from kind rest = taken_at from 1 (kind ∷ []) rest _ refl

-- a record at the front of a text
pub next_at : (from : ℕ) (r : Record) (rest : List ℕ) → Fits r → next from (text_of r ++ rest) ≡ Takes r rest
next_at from (Remove name) rest fits =
    first_at from 82 ((to_be_bytes w16 (length name) ++ name) ++ rest)
    ∙ ap (λ (l : List ℕ). named (from + 1) l (λ n more. Takes (Remove n) more)) (append_assoc (to_be_bytes w16 (length name)) name rest)
    ∙ named_at (from + 1) name rest (λ n more. Takes (Remove n) more) fits
next_at from (Write name bytes) rest fits =
    let go : Name → List ℕ → Next = λ n more. sized (from + 3 + length n) more (λ b others. Takes (Write n b) others) in
    let size = to_be_bytes w64 (length bytes) in
    let parts : ((to_be_bytes w16 (length name) ++ name ++ size) ++ bytes) ++ rest ≡ to_be_bytes w16 (length name) ++ (name ++ (size ++ (bytes ++ rest))) =
    append_assoc (to_be_bytes w16 (length name) ++ name ++ size) bytes rest
    ∙ append_assoc (to_be_bytes w16 (length name) ++ name) size (bytes ++ rest)
    ∙ append_assoc (to_be_bytes w16 (length name)) name (size ++ (bytes ++ rest)) in
    first_at from 87 (((to_be_bytes w16 (length name) ++ name ++ size) ++ bytes) ++ rest)
    ∙ ap (λ (l : List ℕ). named (from + 1) l go) parts
    ∙ named_at (from + 1) name (size ++ (bytes ++ rest)) go fits.0
    ∙ sized_at (from + 3 + length name) bytes rest _ fits.1

pub end_at : (from : ℕ) → next from (69 ∷ []) ≡ Ends
end_at from = first_at from 69 []

by_next : (n from : ℕ) (text : List ℕ) (r : Record) (rest : List ℕ) → next from text ≡ Takes r rest → reading_by (suc n) from text ≡ before r (reading_by n (from + length (text_of r)) rest)
unfolding reading_by
by_next n from text r rest is = ap (λ (x : Next). elim x as (λ _. Reading) [ Ends ↦ Whole [] | Faulty place ↦ Bad place | Takes r rest ↦ before r (reading_by n (from + length (text_of r)) rest) ]) is

by_end : (n from : ℕ) → reading_by (suc n) from (69 ∷ []) ≡ Whole []
unfolding reading_by
by_end n from = ap (λ (x : Next). elim x as (λ _. Reading) [ Ends ↦ Whole [] | Faulty place ↦ Bad place | Takes r rest ↦ before r (reading_by n (from + length (text_of r)) rest) ]) (end_at from)

by_text : (rs : List Record) (n from : ℕ) → AllByRecursion Fits rs → length rs < n → reading_by n from (records_text rs ++ 69 ∷ []) ≡ Whole rs
by_text rs zero from fits lt = absurd (omega arith)
by_text [] (suc n) from fits lt = by_end n from
by_text (r ∷ rs) (suc n) from fits lt =
    ap (λ (l : List ℕ). reading_by (suc n) from l) (append_assoc (text_of r) (records_text rs) (69 ∷ []))
    ∙ by_next n from (text_of r ++ (records_text rs ++ 69 ∷ [])) r (records_text rs ++ 69 ∷ []) (next_at from r (records_text rs ++ 69 ∷ []) fits.0)
    ∙ ap (λ (o : Reading). before r o) (by_text rs n (from + length (text_of r)) fits.1 (omega arith))

one_at_least : (r : Record) → 1 ≤ length (text_of r)
one_at_least (Remove name) = omega arith
one_at_least (Write name bytes) = omega arith

no_more : (rs : List Record) → length rs ≤ length (records_text rs)
no_more [] = omega arith
no_more (r ∷ rs) = omega (arith, no_more rs, one_at_least r, length-append (text_of r) (records_text rs))

-- what was written and ended is read
pub written : (rs : List Record) → AllByRecursion Fits rs → reading (records_text rs ++ 69 ∷ []) ≡ Whole rs
written rs fits = by_text rs _ 0 fits (omega (arith, no_more rs, length-append (records_text rs) (69 ∷ [])))

pub all_push : (rs : List Record) (r : Record) → AllByRecursion Fits rs → Fits r → AllByRecursion Fits (rs ++ r ∷ [])
all_push [] r all fits = (fits, tt)
all_push (x ∷ rs) r all fits = (all.0, all_push rs r all.1 fits)

pub text_push : (rs : List Record) (r : Record) → records_text (rs ++ r ∷ []) ≡ records_text rs ++ text_of r
text_push [] r = append-nil (text_of r)
text_push (x ∷ rs) r = ap (λ (l : List ℕ). text_of x ++ l) (text_push rs r) ∙ sym (append_assoc (text_of x) (records_text rs) (text_of r))
