-- Pieces of a text, one behind the other.
use Rattle.std.proofs.Common.{◌≡◌, ℕ, true, ◌&&◌, List, [], ◌∷◌, ◌++◌, refl, sym, subst, ◌∙◌, ap, append_assoc, ◌⊎◌, ◌==◌, Bool, false, length, inl, inr, arith}
use Rattle.std.specs.Prelude.{All}
use Rattle.std.specs.List.{flat_map}
use Rattle.std.proofs.lemmas.Bool.{and_parts, eqb-true, false_from_ne_true}
use Rattle.std.proofs.lemmas.List.{append-nil}
use Rattle.std.proofs.lemmas.List.Concat.{flat_map-append}
use Rattle.std.proofs.lemmas.List.Elements.{All-nil, All-cons, All-append}
use Rattle.tl_model.specs.Acks.{IsPlain, plain-nil, plain-append}
use Rattle.tl_entry.specs.Rising.{comes_before, is_rising, is_rising_after}
use Rattle.tl_written.specs.Stands.{Stands, AllStand}
use Rattle.tl_written.specs.Rises.{rises_behind, IsFront, RiseAtFront, OneStands}

-- two pieces make one
pub behind-both : (first second text mid rest : List ℕ) → text ≡ first ++ mid → mid ≡ second ++ rest → text ≡ (first ++ second) ++ rest
behind-both first second text mid rest one two = one ∙ ap (λ (t : List ℕ). first ++ t) two ∙ sym (append_assoc first second rest)

-- the lines of some values and one more
pub lines_more : {V : Type 0} (lines : V → List ℕ) (values : List V) (v : V) → flat_map lines (values ++ v ∷ []) ≡ flat_map lines values ++ lines v
lines_more lines values v = flat_map-append lines values (v ∷ []) ∙ ap (λ (t : List ℕ). flat_map lines values ++ t) (append-nil (lines v))

each_more : {V : Type 0} (formed : V → Type 0) (values : List V) (v : V) → All formed values → formed v → All formed (values ++ v ∷ [])
each_more formed values v each one = All-append formed values (v ∷ []) each (All-cons formed v [] one (All-nil formed))

-- no values stand at the front of each text
pub all-start : {V : Type 0} (lines : V → List ℕ) (formed : V → Type 0) (text : List ℕ) → AllStand lines formed text text
all-start lines formed text = record { value = []; same = refl; plain = plain-nil; is = All-nil formed }

-- some values and one behind them
pub all-next : {V : Type 0} (lines : V → List ℕ) (formed : V → Type 0) (text mid rest : List ℕ) → AllStand lines formed text mid → Stands lines formed mid rest → AllStand lines formed text rest
all-next lines formed text mid rest some one = record {
  value = some.value ++ one.value ∷ [];
  same = behind-both (flat_map lines some.value) (lines one.value) text mid rest some.same one.same ∙ ap (λ (t : List ℕ). t ++ rest) (sym (lines_more lines some.value one.value));
  plain = subst (λ (t : List ℕ). IsPlain t) (sym (lines_more lines some.value one.value)) (plain-append (flat_map lines some.value) (lines one.value) some.plain one.plain);
  is = each_more formed some.value one.value some.is one.is;
}

-- elements whose keys are greater than a text rise
rises_alone : {A : Type 0} (key : A → List ℕ) (last : List ℕ) (more : List A) → rises_behind key last more ≡ true → is_rising key more ≡ true
rises_alone key last [] up = refl
rises_alone key last (x ∷ more) up = (and_parts (comes_before last (key x)) (is_rising_after key x more) up).1

rises_one : {A : Type 0} (key : A → List ℕ) (last : List ℕ) (x : A) (more : List A) → comes_before last (key x) ≡ true → rises_behind key (key x) more ≡ true → rises_behind key last (x ∷ more) ≡ true
rises_one key last x [] greater up = ap (λ t. t && true) greater
rises_one key last x (y ∷ more) greater up = ap (λ t. t && is_rising_after key x (y ∷ more)) greater ∙ up

-- no elements stand at the front of each text
pub front-start : {A : Type 0} (key lines : A → List ℕ) (formed : A → Type 0) (text last : List ℕ) → IsFront key lines formed text text last
front-start key lines formed text last = record {
  items = [];
  same = refl;
  plain = plain-nil;
  each = All-nil formed;
  rises = rises_alone key last;
}

-- elements that rise and one whose key is greater behind them
pub front-next : {A : Type 0} (key lines : A → List ℕ) (formed : A → Type 0) (text mid rest last next : List ℕ) → IsFront key lines formed text mid last → OneStands key lines formed next mid rest
    → comes_before last next ≡ true → IsFront key lines formed text rest next
front-next key lines formed text mid rest last next front one greater =
    let x = one.value in
    let here : comes_before last (key x) ≡ true = ap (comes_before last) one.is.1 ∙ greater in
    record {
      items = front.items ++ x ∷ [];
      same = behind-both (flat_map lines front.items) (lines x) text mid rest front.same one.same ∙ ap (λ (t : List ℕ). t ++ rest) (sym (lines_more lines front.items x));
      plain = subst (λ (t : List ℕ). IsPlain t) (sym (lines_more lines front.items x)) (plain-append (flat_map lines front.items) (lines x) front.plain one.plain);
      each = each_more formed front.items x front.each one.is.0;
      rises = λ others up. ap (is_rising key) (append_assoc front.items (x ∷ []) others)
          ∙ front.rises (x ∷ others) (rises_one key last x others here (subst (λ (l : List ℕ). rises_behind key l others ≡ true) (sym one.is.1) up));
    }

-- the elements rise
pub front-whole : {A : Type 0} (key lines : A → List ℕ) (formed : A → Type 0) (text rest last : List ℕ) → IsFront key lines formed text rest last → RiseAtFront key lines formed text rest
front-whole key lines formed text rest last front = record {
  value = front.items;
  same = front.same;
  plain = front.plain;
  is = record { each = front.each; rising = ap (is_rising key) (sym (append-nil front.items)) ∙ front.rises [] refl };
}

-- which elements they are
pub start-items : {A : Type 0} (key lines : A → List ℕ) (formed : A → Type 0) (text last : List ℕ) → (front-start key lines formed text last).items ≡ []
unfolding front-start
start-items key lines formed text last = refl

pub next-items : {A : Type 0} (key lines : A → List ℕ) (formed : A → Type 0) (text mid rest last next : List ℕ) (front : IsFront key lines formed text mid last) (one : OneStands key lines formed next mid rest)
    (greater : comes_before last next ≡ true) → (front-next key lines formed text mid rest last next front one greater).items ≡ front.items ++ one.value ∷ []
unfolding front-next
next-items key lines formed text mid rest last next front one greater = refl

pub whole-items : {A : Type 0} (key lines : A → List ℕ) (formed : A → Type 0) (text rest last : List ℕ) (front : IsFront key lines formed text rest last) → (front-whole key lines formed text rest last front).value ≡ front.items
unfolding front-whole
whole-items key lines formed text rest last front = refl

-- ---- sections with blocks or files

test_apart : (n m : ℕ) → (n ≡ m → ⊥) → (n == m) ≡ false
test_apart n m apart = false_from_ne_true (n == m) (λ e. apart (eqb-true n m e))

-- both fail where the second one does
second_fails : (a b : Bool) → b ≡ false → (a && b) ≡ false
second_fails true b fails = fails
second_fails false b fails = refl

-- where what stands behind is shorter, there is an element
some_items : {A : Type 0} (lines : A → List ℕ) (text rest : List ℕ) (items : List A) → text ≡ flat_map lines items ++ rest → (length rest ≡ length text → ⊥) → (length items == 0) ≡ false
some_items lines text rest [] same shorter = absurd (shorter (ap length (sym same)))
some_items lines text rest (x ∷ items) same shorter = test_apart (length (x ∷ items)) 0 (λ e. omega (arith, e))

-- a section that has blocks or files is written
pub section-written : {A : Type 0} (lines : A → List ℕ) (text rest : List ℕ) (blocks : ℕ) (items : List A) → text ≡ flat_map lines items ++ rest
    → ((blocks ≡ 0) × (length rest ≡ length text → ⊥)) ⊎ (blocks ≡ 0 → ⊥) → (blocks == 0 && length items == 0) ≡ false
section-written lines text rest blocks items same (inl none) = second_fails (blocks == 0) (length items == 0) (some_items lines text rest items same none.1)
section-written lines text rest blocks items same (inr some) = ap (λ t. t && length items == 0) (test_apart blocks 0 some)
