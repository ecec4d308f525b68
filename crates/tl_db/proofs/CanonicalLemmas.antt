-- Entries that rise at the front of a text, as they are written.
use Rattle.std.proofs.Common.{◌≡◌, ◌⊎◌, ℕ, Bool, true, false, ◌+◌, ◌==◌, ◌<◌, ◌≤◌, inl, inr, List, [], ◌∷◌, ◌++◌, length, sym, subst, ◌∙◌, ap, refl, arith}
use Rattle.std.specs.Prelude.{All}
use Rattle.std.specs.Ordering.{is_lt}
use Rattle.std.specs.declared.cmp.Ordering.{Ordering}
use Rattle.std.specs.declared.cmp.Ordering.TheVariants.{Equal, Greater}
use Rattle.std.proofs.lemmas.Bool.{and_parts, and_from, leb-true, true≢false}
use Rattle.std.proofs.lemmas.List.{append-nil, length-append}
use Rattle.std.proofs.lemmas.List.Elements.{All-nil, All-head, All-tail, All-weaker}
use Rattle.tl_model.specs.Acks.{IsPlain, plain-nil, plain-line, plain-append}
use Rattle.tl_object.specs.Again.{ReadsAgain}
use Rattle.tl_object.specs.Writing.{object_text}
use Rattle.tl_entry.specs.Rising.{comes_before, is_rising, is_rising_after}
use Rattle.tl_entry.specs.declared.object.Object.{Object}
use Rattle.tl_written.specs.Pieces.{IsFormed, IsEntry, EntryStands}
use Rattle.tl_written.specs.Rises.{rises_behind}
use Rattle.tl_written.proofs.StandLemmas.{behind-both, front-start, front-next, front-whole, start-items, next-items, whole-items}
use Rattle.tl_db.specs.Canonical.{IsCanonical, IsTold, IsBehind, AreInFront}
use Rattle.tl_db.specs.Reading.{db_of}
use Rattle.tl_db.specs.Text.{entry_text, db_text}
use Rattle.tl_db.proofs.AgainLemmas.{db-again}
use Rattle.tl_db.proofs.DbLemmas.{name}

-- an empty line
empty_line : IsPlain (10 ∷ [])
empty_line = plain-line [] [] (All-nil _) refl plain-nil

-- an entry as it is written, with the empty line behind it
pub entry-behind : (last wanted text mid rest : List ℕ) → EntryStands wanted text mid → mid ≡ (10 ∷ []) ++ rest → comes_before last wanted ≡ true → IsBehind last wanted text rest
entry-behind last wanted text mid rest one cut greater = record {
  entry = record {
    value = one.value;
    same = behind-both (object_text one.value) (10 ∷ []) text mid rest one.same cut;
    plain = plain-append (object_text one.value) (10 ∷ []) one.plain empty_line;
    is = one.is;
  };
  greater = greater;
}

abbrev Items : Type 0
Items = List Object

pub entries-start : (text last : List ℕ) → AreInFront text text last 0
entries-start text last = record {
  front = front-start name entry_text IsEntry text last;
  counted = ap (λ (os : Items). length os) (sym (start-items name entry_text IsEntry text last));
}

pub entries-next : (text mid rest last next : List ℕ) (count : ℕ) → AreInFront text mid last count → IsBehind last next mid rest → AreInFront text rest next (count + 1)
entries-next text mid rest last next count some one = record {
  front = front-next name entry_text IsEntry text mid rest last next some.front one.entry one.greater;
  counted = omega (
    arith,
    some.counted,
    length-append some.front.items (one.entry.value ∷ []),
    ap (λ (os : Items). length os) (next-items name entry_text IsEntry text mid rest last next some.front one.entry one.greater),
  );
}

-- the text behind a written entry is shorter
pub behind-shorter : (last next text rest : List ℕ) → IsBehind last next text rest → length rest < length text
behind-shorter last next text rest one =
    omega (arith, ap (λ (t : List ℕ). length t) one.entry.same, length-append (entry_text one.entry.value) rest, length-append (object_text one.entry.value) (10 ∷ []))

-- nothing is left behind the entries
pub entries-whole : (text rest last : List ℕ) (count : ℕ) → AreInFront text rest last count → rest ≡ [] → count ≤ 65536 → IsTold text
entries-whole text rest last count some none few =
    let whole = front-whole name entry_text IsEntry text rest last some.front in
    let is : text ≡ db_text whole.value = whole.same ∙ ap (λ (t : List ℕ). db_text whole.value ++ t) none ∙ append-nil (db_text whole.value) in
    let formed : All IsFormed whole.value = All-weaker IsEntry IsFormed (λ o entry. entry.formed) whole.value whole.is.each in
    let again : All ReadsAgain whole.value = All-weaker IsEntry ReadsAgain (λ o entry. entry.again) whole.value whole.is.each in
    record {
      canonical = record {
        objects = whole.value;
        each = formed;
        rises = whole.is.rising;
        same = is;
        within = omega (arith, some.counted, few, ap (λ (os : Items). length os) (whole-items name entry_text IsEntry text rest last some.front));
      };
      reads = ap db_of is ∙ db-again whole.value again whole.is.rising;
      plain = subst (λ (t : List ℕ). IsPlain t) (sym is) whole.plain;
    }

-- ---- entries of a text in canonical form, found one behind the other

-- what isn't less comes before nothing
pub not-less : (order : Ordering) → (order ≡ Equal) ⊎ (order ≡ Greater) → is_lt order ≡ false
not-less order (inl same) = ap is_lt same
not-less order (inr more) = ap is_lt more

-- a text that isn't empty, by its test
pub left-some : (text : List ℕ) (empty : Bool) → empty ≡ (length text == 0) → empty ≡ false → text ≡ [] → ⊥
left-some text empty is some none = true≢false (sym (is ∙ ap (λ (t : List ℕ). length t == 0) none) ∙ some)

-- of some entries those behind the last one are left
pub record EntriesLeft (all : ℕ) (current last : List ℕ) (count : ℕ) : Type 0 where
  pub items : List Object
  pub each : All IsFormed items
  pub rises : rises_behind name last items ≡ true
  pub same : current ≡ db_text items
  pub counted : count + length items ≡ all

-- where a text is in canonical form, its entries behind the last one are left
pub record KeepsEntries (text current last : List ℕ) (count : ℕ) : Type 0 where
  pub left : (canonical : IsCanonical text) → EntriesLeft (length canonical.objects) current last count

-- no bytes come before some
before_some : (text : List ℕ) → 0 < length text → comes_before [] text ≡ true
before_some [] some = absurd (omega arith)
before_some (b ∷ text) some = refl

some_name : (o : Object) → IsFormed o → comes_before [] o.name ≡ true
some_name o formed = before_some o.name (leb-true 1 (length o.name) (and_parts _ _ formed.front.name).0)

rises_first : (objects : List Object) → All IsFormed objects → is_rising name objects ≡ true → rises_behind name [] objects ≡ true
rises_first [] each up = refl
rises_first (o ∷ objects) each up = and_from (comes_before [] o.name) (is_rising_after name o objects) (some_name o (All-head IsFormed o objects each)) up

rises_next : (o : Object) (objects : List Object) → is_rising_after name o objects ≡ true → rises_behind name o.name objects ≡ true
rises_next o [] up = refl
rises_next o (p ∷ objects) up = up

pub left-start : (text : List ℕ) → KeepsEntries text text [] 0
left-start text = record {
  left = λ canonical. record {
    items = canonical.objects;
    each = canonical.each;
    rises = rises_first canonical.objects canonical.each canonical.rises;
    same = canonical.same;
    counted = omega (arith);
  };
}

-- what holds where the first of the entries that are left is found
abbrev Next : List ℕ → List ℕ → List ℕ → List ℕ → Type 0
Next current last next rest = (o : Object) (behind : List ℕ) → IsFormed o → comes_before last o.name ≡ true → current ≡ entry_text o ++ behind → (next ≡ o.name) × (rest ≡ behind)

left_more : (all : ℕ) (current last next rest : List ℕ) (count : ℕ) (items : List Object) → All IsFormed items → rises_behind name last items ≡ true → current ≡ db_text items → count + length items ≡ all
    → (current ≡ [] → ⊥) → Next current last next rest → EntriesLeft all rest next (count + 1)
left_more all current last next rest count [] each up same counted some one = absurd (some same)
left_more all current last next rest count (o ∷ items) each up same counted some one =
    let parts = and_parts (comes_before last o.name) (is_rising_after name o items) up in
    let found = one o (db_text items) (All-head IsFormed o items each) parts.0 same in
    record {
      items = items;
      each = All-tail IsFormed o items each;
      rises = subst (λ (l : List ℕ). rises_behind name l items ≡ true) (sym found.0) (rises_next o items parts.1);
      same = found.1;
      counted = omega (arith, counted);
    }

pub left-next : (text current last next rest : List ℕ) (count : ℕ) → KeepsEntries text current last count → (current ≡ [] → ⊥) → Next current last next rest → KeepsEntries text rest next (count + 1)
left-next text current last next rest count keeps some one = record {
  left = λ canonical.
      let left = keeps.left canonical in
      left_more (length canonical.objects) current last next rest count left.items left.each left.rises left.same left.counted some one;
}

no_more : (all : ℕ) (current last : List ℕ) (count : ℕ) (items : List Object) → All IsFormed items → rises_behind name last items ≡ true → current ≡ db_text items → (current ≡ [] → ⊥)
    → ((o : Object) (behind : List ℕ) → IsFormed o → comes_before last o.name ≡ true → current ≡ entry_text o ++ behind → ⊥) → ⊥
no_more all current last count [] each up same some none = some same
no_more all current last count (o ∷ items) each up same some none =
    none o (db_text items) (All-head IsFormed o items each) (and_parts (comes_before last o.name) (is_rising_after name o items) up).0 same

-- no entry stands at the front of what is left, so the text isn't in canonical form
pub left-fails : (text current last : List ℕ) (count : ℕ) → KeepsEntries text current last count → (current ≡ [] → ⊥)
    → ((o : Object) (behind : List ℕ) → IsFormed o → comes_before last o.name ≡ true → current ≡ entry_text o ++ behind → ⊥) → IsCanonical text → ⊥
left-fails text current last count keeps some none canonical =
    let left = keeps.left canonical in
    no_more (length canonical.objects) current last count left.items left.each left.rises left.same some none

too_many : (all : ℕ) (current : List ℕ) (count : ℕ) (items : List Object) → current ≡ db_text items → count + length items ≡ all → (current ≡ [] → ⊥) → all ≤ 65536 → count ≡ 65536 → ⊥
too_many all current count [] same counted some within full = some same
too_many all current count (o ∷ items) same counted some within full = omega (arith, counted, within, full)

-- more is left behind the greatest number of entries
pub left-full : (text current last : List ℕ) (count : ℕ) → KeepsEntries text current last count → (current ≡ [] → ⊥) → count ≡ 65536 → IsCanonical text → ⊥
left-full text current last count keeps some full canonical =
    let left = keeps.left canonical in
    too_many (length canonical.objects) current count left.items left.same left.counted some canonical.within full
