-- Going through a body from record to record.
use Rattle.std.proofs.Common.{◌≡◌, ◌<◌, ◌≤◌, ◌+◌, ◌^◌, ℕ, zero, suc, Bool, true, false, cond, List, [], ◌∷◌, ◌++◌, length, take, drop, Some, refl, sym, ◌∙◌, ap, subst, arith, length-append, length-drop, eqb}
use Rattle.std.specs.Prelude.{nat_lt, slice_index}
use Rattle.std.specs.List.{AllByRecursion}
use Rattle.std.specs.Int.{w16, w64, from_be_bytes, to_be_bytes}
use Rattle.std.proofs.lemmas.Bool.{ltb-false}
use Rattle.std.proofs.lemmas.List.{length-take}
use Rattle.tl_model.specs.Volume.{Name}
use Rattle.tl_journal_text.specs.Records.{Record, Remove, Write, Fits, is_target, text_of, write_head}
use Rattle.tl_journal_text.specs.Body.{Next, Ends, Faulty, Takes, Stops, taken, named, sized, next_of, next, Reading, Whole, Bad, before, reading_by, reading, records_in}

by_is : (n from : ℕ) (bytes : List ℕ) → reading_by (suc n) from bytes ≡ elim (next from bytes) [ Ends ↦ Whole [] | Faulty place ↦ Bad place | Takes r rest ↦ before r (reading_by n (from + length (text_of r)) rest) ]
unfolding reading_by
by_is n from bytes = refl

pub by_zero : (from : ℕ) (bytes : List ℕ) → reading_by zero from bytes ≡ Bad from
unfolding reading_by
by_zero from bytes = refl

-- the reading, by what stands next
pub by_takes : (n from : ℕ) (bytes : List ℕ) (r : Record) (rest : List ℕ) → next from bytes ≡ Takes r rest → reading_by (suc n) from bytes ≡ before r (reading_by n (from + length (text_of r)) rest)
by_takes n from bytes r rest is = by_is n from bytes ∙ ap (λ (x : Next). elim x as (λ _. Reading) [ Ends ↦ Whole [] | Faulty place ↦ Bad place | Takes r rest ↦ before r (reading_by n (from + length (text_of r)) rest) ]) is

pub by_ends : (n from : ℕ) (bytes : List ℕ) → next from bytes ≡ Ends → reading_by (suc n) from bytes ≡ Whole []
by_ends n from bytes is = by_is n from bytes ∙ ap (λ (x : Next). elim x as (λ _. Reading) [ Ends ↦ Whole [] | Faulty place ↦ Bad place | Takes r rest ↦ before r (reading_by n (from + length (text_of r)) rest) ]) is

pub by_faulty : (n from : ℕ) (bytes : List ℕ) (place : ℕ) → next from bytes ≡ Faulty place → reading_by (suc n) from bytes ≡ Bad place
by_faulty n from bytes place is = by_is n from bytes ∙ ap (λ (x : Next). elim x as (λ _. Reading) [ Ends ↦ Whole [] | Faulty place ↦ Bad place | Takes r rest ↦ before r (reading_by n (from + length (text_of r)) rest) ]) is

-- ---- what is read has the form of a record

taken_inv : (from n : ℕ) (bytes : List ℕ) (go : List ℕ → List ℕ → Next) (r : Record) (rest : List ℕ) → taken from n bytes go ≡ Takes r rest → (n ≤ length bytes) × (go (take n bytes) (drop n bytes) ≡ Takes r rest)
unfolding taken
taken_inv from n bytes go r rest is = by (nat_lt (length bytes) n) refl is
  where
    by : (b : Bool) → nat_lt (length bytes) n ≡ b → cond b (Faulty from) (go (take n bytes) (drop n bytes)) ≡ Takes r rest → (n ≤ length bytes) × (go (take n bytes) (drop n bytes) ≡ Takes r rest)
    by true e s = absurd cc
    by false e s = (ltb-false _ _ e, s)

cond_inv : (b : Bool) (x : Next) (place : ℕ) (r : Record) (rest : List ℕ) → cond b x (Faulty place) ≡ Takes r rest → (b ≡ true) × (x ≡ Takes r rest)
cond_inv true x place r rest is = (refl, is)
cond_inv false x place r rest is = absurd cc

pub named_is : (from : ℕ) (bytes : List ℕ) (go : Name → List ℕ → Next) → named from bytes go ≡ taken from 2 bytes (λ size more. taken (from + 2) (from_be_bytes w16 size) more (λ name rest. cond (is_target name) (go name rest) (Faulty (from + 2))))
unfolding named
named_is from bytes go = refl

pub sized_is : (from : ℕ) (bytes : List ℕ) (go : List ℕ → List ℕ → Next) → sized from bytes go ≡ taken from 8 bytes (λ size more. taken (from + 8) (from_be_bytes w64 size) more go)
unfolding sized
sized_is from bytes go = refl

pub next_is : (from : ℕ) (bytes : List ℕ) → next from bytes ≡ taken from 1 bytes (λ kind rest. next_of from (slice_index kind 0) rest)
unfolding next
next_is from bytes = refl

-- a name that was read is a target, and two bytes stand before it
named_inv : (from : ℕ) (bytes : List ℕ) (go : Name → List ℕ → Next) (r : Record) (rest : List ℕ) → named from bytes go ≡ Takes r rest
    → (name more : List ℕ) × (is_target name ≡ true) × (length bytes ≡ 2 + length name + length more) × (go name more ≡ Takes r rest)
named_inv from bytes go r rest is =
    let more = drop 2 bytes in
    let n = from_be_bytes w16 (take 2 bytes) in
    let two = taken_inv from 2 bytes _ r rest (sym (named_is from bytes go) ∙ is) in
    let three = taken_inv (from + 2) n more _ r rest two.1 in
    let four = cond_inv (is_target (take n more)) _ (from + 2) r rest three.1 in
    (take n more, drop n more, four.0, omega (arith, two.0, three.0, length-take n more, length-drop n more, length-drop 2 bytes), four.1)

sized_inv : (from : ℕ) (bytes : List ℕ) (go : List ℕ → List ℕ → Next) (r : Record) (rest : List ℕ) → sized from bytes go ≡ Takes r rest
    → (data_ more : List ℕ) × (length bytes ≡ 8 + length data_ + length more) × (go data_ more ≡ Takes r rest)
sized_inv from bytes go r rest is =
    let more = drop 8 bytes in
    let n = from_be_bytes w64 (take 8 bytes) in
    let two = taken_inv from 8 bytes _ r rest (sym (sized_is from bytes go) ∙ is) in
    let three = taken_inv (from + 8) n more _ r rest two.1 in
    (take n more, drop n more, omega (arith, two.0, three.0, length-take n more, length-drop n more, length-drop 8 bytes), three.1)

pub head_length : (name : Name) (size : ℕ) → length (write_head name size) ≡ 11 + length name
head_length name size = omega (arith, length-append name (to_be_bytes w64 size))

pub write_length : (name bytes : List ℕ) → length (text_of (Write name bytes)) ≡ 11 + length name + length bytes
write_length name bytes = omega (arith, length-append (name ++ to_be_bytes w64 (length bytes)) bytes, length-append name (to_be_bytes w64 (length bytes)))

-- a record that was read: it can be written again where numbers tell the text's length, and it takes as many bytes as it is long
pub record IsRead (bytes : List ℕ) (r : Record) (rest : List ℕ) : Type 0 where
  pub fits : length bytes < 2 ^ 64 → Fits r
  pub size : length bytes ≡ length (text_of r) + length rest

pub next_read : (from : ℕ) (bytes : List ℕ) (r : Record) (rest : List ℕ) → next from bytes ≡ Takes r rest → IsRead bytes r rest
next_read from bytes r rest is =
    let one = taken_inv from 1 bytes _ r rest (sym (next_is from bytes) ∙ is) in
    kinds (slice_index (take 1 bytes) 0) (drop 1 bytes) (omega (arith, one.0, length-drop 1 bytes)) one.1
  where
    removed : (name : Name) (more : List ℕ) → is_target name ≡ true → length bytes ≡ 3 + length name + length more → Takes (Remove name) more ≡ Takes r rest → IsRead bytes r rest
    removed name more target len is =
        let same : Remove name ≡ r = cc in
        let tail : more ≡ rest = cc in
        subst (λ (l : List ℕ). IsRead bytes r l) tail (subst (λ (x : Record). IsRead bytes x more) same (record { fits = λ small. target; size = omega (arith, len) }))

    wrote : (name data_ : List ℕ) (more : List ℕ) → is_target name ≡ true → length bytes ≡ 11 + length name + length data_ + length more → Takes (Write name data_) more ≡ Takes r rest → IsRead bytes r rest
    wrote name data_ more target len is =
        let same : Write name data_ ≡ r = cc in
        let tail : more ≡ rest = cc in
        subst (λ (l : List ℕ). IsRead bytes r l) tail (subst (λ (x : Record). IsRead bytes x more) same (record { fits = λ small. (target, omega (arith, len, small)); size = omega (arith, len, write_length name data_) }))

    kinds : (kind : ℕ) (others : List ℕ) → length bytes ≡ 1 + length others → next_of from kind others ≡ Takes r rest → IsRead bytes r rest
    kinds kind others len is = by (eqb kind 69) (eqb kind 82) (eqb kind 87) is
      where
        by : (a b d : Bool) → cond a (cond (eqb (length others) 0) Ends (Faulty (from + 1))) (cond b (named (from + 1) others (λ name more. Takes (Remove name) more)) (cond d (named (from + 1) others (λ name more. sized (from + 3 + length name) more (λ bytes after. Takes (Write name bytes) after))) (Faulty from))) ≡ Takes r rest → IsRead bytes r rest
        by true b d is = ends (eqb (length others) 0) is
          where
            ends : (e : Bool) → cond e Ends (Faulty (from + 1)) ≡ Takes r rest → IsRead bytes r rest
            ends true is = absurd cc
            ends false is = absurd cc
        by false true d is = let n = named_inv (from + 1) others _ r rest is in removed n.0 n.1 n.2 (omega (arith, len, n.3)) n.4
        by false false true is = let n = named_inv (from + 1) others _ r rest is in let s = sized_inv (from + 3 + length n.0) n.1 _ r rest n.4 in wrote n.0 s.0 s.1 n.2 (omega (arith, len, n.3, s.2)) s.3
        by false false false is = absurd cc

-- ---- a reading that is whole

mapped : (o : Reading) (r : Record) (rs : List Record) → before r o ≡ Whole rs → (others : List Record) × (rs ≡ r ∷ others) × (o ≡ Whole others)
mapped (Bad place) r rs is = absurd cc
mapped (Whole l) r rs is = (l, cc, refl)

pub record OneRead (from : ℕ) (rest : List ℕ) (r : Record) (rs : List Record) : Type 0 where
  pub turns : ℕ
  pub others : List Record
  pub first : rs ≡ r ∷ others
  pub reads : reading_by turns (from + length (text_of r)) rest ≡ Whole others

-- the record that stands next is the first
pub one_read : (n from : ℕ) (bytes : List ℕ) (r : Record) (rest : List ℕ) (rs : List Record) → next from bytes ≡ Takes r rest → reading_by n from bytes ≡ Whole rs → OneRead from rest r rs
one_read zero from bytes r rest rs is reads = let none : Bad from ≡ Whole rs = sym (by_zero from bytes) ∙ reads in absurd cc
one_read (suc n) from bytes r rest rs is reads =
    let m = mapped (reading_by n (from + length (text_of r)) rest) r rs (sym (by_takes n from bytes r rest is) ∙ reads) in
    record { turns = n; others = m.0; first = m.1; reads = m.2 }

pub none_read : (n from : ℕ) (bytes : List ℕ) (rs : List Record) → Stops (next from bytes) → reading_by n from bytes ≡ Whole rs → rs ≡ []
none_read zero from bytes rs stops reads = let none : Bad from ≡ Whole rs = sym (by_zero from bytes) ∙ reads in absurd cc
none_read (suc n) from bytes rs stops reads = by (next from bytes) refl stops
  where
    by : (x : Next) → next from bytes ≡ x → Stops x → rs ≡ []
    by Ends is s = let none : Whole [] ≡ Whole rs = sym (by_ends n from bytes is) ∙ reads in cc
    by (Faulty place) is s = let none : Bad place ≡ Whole rs = sym (by_faulty n from bytes place is) ∙ reads in absurd cc
    by (Takes r rest) is s = absurd s

-- records that were read from a text whose length numbers tell can be written again
all_by : (n from : ℕ) (bytes : List ℕ) (rs : List Record) → length bytes < 2 ^ 64 → reading_by n from bytes ≡ Whole rs → AllByRecursion Fits rs
all_by zero from bytes rs small reads = let none : Bad from ≡ Whole rs = sym (by_zero from bytes) ∙ reads in absurd cc
all_by (suc n) from bytes rs small reads = by (λ place rest others. all_by n place rest others) (next from bytes) refl
  where
    by : ((place : ℕ) (rest : List ℕ) (others : List Record) → length rest < 2 ^ 64 → reading_by n place rest ≡ Whole others → AllByRecursion Fits others) → (x : Next) → next from bytes ≡ x → AllByRecursion Fits rs
    by again Ends is = let none : Whole [] ≡ Whole rs = sym (by_ends n from bytes is) ∙ reads in let same : [] ≡ rs = cc in subst (λ (l : List Record). AllByRecursion Fits l) same tt
    by again (Faulty place) is = let none : Bad place ≡ Whole rs = sym (by_faulty n from bytes place is) ∙ reads in absurd cc
    by again (Takes r rest) is =
        let m = mapped (reading_by n (from + length (text_of r)) rest) r rs (sym (by_takes n from bytes r rest is) ∙ reads) in
        let read = next_read from bytes r rest is in
        subst (λ (l : List Record). AllByRecursion Fits l) (sym m.1) (read.fits small, again _ rest m.0 (omega (arith, small, read.size)) m.2)

pub all_fit : (bytes : List ℕ) (rs : List Record) → length bytes < 2 ^ 64 → reading bytes ≡ Whole rs → AllByRecursion Fits rs
all_fit bytes rs small reads = all_by (suc (length bytes)) 0 bytes rs small reads

-- the reading of a text that has records
pub records_whole : (o : Reading) (rs : List Record) → records_in o ≡ Some rs → o ≡ Whole rs
records_whole (Bad place) rs is = absurd cc
records_whole (Whole l) rs is = cc

-- ---- as far as a text was read

pub befores : List Record → Reading → Reading
befores [] o = o
befores (r ∷ rs) o = before r (befores rs o)

-- some records were read, and the rest stands at a place
pub record Reaches (bytes : List ℕ) (from : ℕ) : Type 0 where
  pub turns : ℕ
  pub done : List Record
  pub enough : length (drop from bytes) ≤ turns
  pub same : reading bytes ≡ befores done (reading_by (suc turns) from (drop from bytes))

pub reach_start : (bytes : List ℕ) → Reaches bytes 0
unfolding befores
reach_start bytes = record { turns = length bytes; done = []; enough = omega arith; same = refl }

befores_push : (done : List Record) (r : Record) (o : Reading) → befores done (before r o) ≡ befores (done ++ r ∷ []) o
unfolding befores
befores_push [] r o = refl
befores_push (x ∷ done) r o = ap (λ (p : Reading). before x p) (befores_push done r o)

befores_bad : (done : List Record) (place : ℕ) → befores done (Bad place) ≡ Bad place
unfolding befores
befores_bad [] place = refl
befores_bad (x ∷ done) place = ap (λ (p : Reading). before x p) (befores_bad done place)

befores_whole : (done : List Record) → befores done (Whole []) ≡ Whole done
unfolding befores
befores_whole [] = refl
befores_whole (x ∷ done) = ap (λ (p : Reading). before x p) (befores_whole done)

-- the place after a record is the place of the rest
pub rest_at : (bytes : List ℕ) (from rest : ℕ) (r : Record) → from ≤ rest → rest ≤ length bytes → next from (drop from bytes) ≡ Takes r (drop rest bytes) → from + length (text_of r) ≡ rest
rest_at bytes from rest r lt le is = omega (arith, (next_read from (drop from bytes) r (drop rest bytes) is).size, length-drop from bytes, length-drop rest bytes)

pub reach_more : (bytes : List ℕ) (from rest : ℕ) (r : Record) → from < rest → rest ≤ length bytes → Reaches bytes from → next from (drop from bytes) ≡ Takes r (drop rest bytes) → Reaches bytes rest
reach_more bytes from rest r lt le reach is = by reach.turns reach.enough reach.same
  where
    by : (turns : ℕ) → length (drop from bytes) ≤ turns → reading bytes ≡ befores reach.done (reading_by (suc turns) from (drop from bytes)) → Reaches bytes rest
    by zero enough same = absurd (omega (arith, length-drop from bytes))
    by (suc turns) enough same = record {
      turns = turns;
      done = reach.done ++ r ∷ [];
      enough = omega (arith, length-drop from bytes, length-drop rest bytes);
      same = same
          ∙ ap (λ (o : Reading). befores reach.done o) (by_takes (suc turns) from (drop from bytes) r (drop rest bytes) is)
          ∙ befores_push reach.done r (reading_by (suc turns) (from + length (text_of r)) (drop rest bytes))
          ∙ ap (λ (k : ℕ). befores (reach.done ++ r ∷ []) (reading_by (suc turns) k (drop rest bytes))) (rest_at bytes from rest r (omega arith) le is);
    }

pub reach_end : (bytes : List ℕ) (from : ℕ) → (reach : Reaches bytes from) → next from (drop from bytes) ≡ Ends → reading bytes ≡ Whole reach.done
reach_end bytes from reach is = reach.same ∙ ap (λ (o : Reading). befores reach.done o) (by_ends reach.turns from (drop from bytes) is) ∙ befores_whole reach.done

pub reach_fault : (bytes : List ℕ) (from place : ℕ) → Reaches bytes from → next from (drop from bytes) ≡ Faulty place → reading bytes ≡ Bad place
reach_fault bytes from place reach is = reach.same ∙ ap (λ (o : Reading). befores reach.done o) (by_faulty reach.turns from (drop from bytes) place is) ∙ befores_bad reach.done place
