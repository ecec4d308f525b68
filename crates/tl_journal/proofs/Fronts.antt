-- What is read from the front of a text.
use Rattle.std.proofs.Common.{◌≡◌, ◌≢◌, ◌⊎◌, ◌<◌, ◌≤◌, ◌+◌, ◌-◌, ℕ, Bool, true, false, cond, not, List, length, take, drop, Result, Ok, Err, IfOk, refl, sym, ◌∙◌, ap, inl, inr, arith, length-drop}
use Rattle.std.specs.Prelude.{nat_lt, slice_index, IsTrue}
use Rattle.std.specs.Int.{w16, w64, from_be_bytes}
use Rattle.std.proofs.lemmas.Bool.{le-ltb, lt-ltb, ltb-false, ltb-true, cond-true, cond-false, not-true, not-false, cases_lt}
use Rattle.std.proofs.lemmas.List.{drop-drop, length-take}
use Rattle.std.proofs.lemmas.Bool.Decides.{nat_tests}
use Rattle.tl_model.specs.Volume.{Name}
use Rattle.tl_journal_text.specs.Records.{Remove, Write, is_target}
use Rattle.tl_journal_text.specs.Body.{Next, Ends, Faulty, Takes, taken, named, sized, next_of, next}
use Rattle.tl_journal_text.proofs.Targets.{too_long}
use Rattle.tl_journal_text.proofs.Turns.{named_is, sized_is, next_is}
use Rattle.tl_journal.specs.Items.{IsItem, IsWritten, NameGoes}
use Rattle.tl_journal.specs.declared.fields.Item.{Item}
use Rattle.tl_journal.specs.declared.fields.Item.TheVariants as items
use Rattle.tl_journal.specs.declared.fields.Field.TheVariants as fields

-- whether so many bytes stand there, which then are these
abbrev pub Front : List ℕ → ℕ → ℕ → List ℕ → Bool → Type 0
Front bytes n from into whole = (place : ℕ) (go : List ℕ → List ℕ → Next) → taken place n (drop from bytes) go ≡ cond whole (go into (drop (from + n) bytes)) (Faulty place)

pub taken_short : (place n : ℕ) (bytes : List ℕ) (go : List ℕ → List ℕ → Next) → length bytes < n → taken place n bytes go ≡ Faulty place
unfolding taken
taken_short place n bytes go lt = ap (λ b. cond b (Faulty place) (go (take n bytes) (drop n bytes))) (lt-ltb (length bytes) n lt)

pub taken_long : (place n : ℕ) (bytes : List ℕ) (go : List ℕ → List ℕ → Next) → n ≤ length bytes → taken place n bytes go ≡ go (take n bytes) (drop n bytes)
unfolding taken
taken_long place n bytes go le = ap (λ b. cond b (Faulty place) (go (take n bytes) (drop n bytes))) (le-ltb (length bytes) n le)

pub front_short : (bytes : List ℕ) (n from : ℕ) → from ≤ length bytes → length bytes < from + n → (place : ℕ) (go : List ℕ → List ℕ → Next) → taken place n (drop from bytes) go ≡ Faulty place
front_short bytes n from le lt place go = taken_short place n (drop from bytes) go (omega (arith, length-drop from bytes))

pub front_is : (bytes : List ℕ) (n from : ℕ) (into : List ℕ) (whole : Bool) → whole ≡ not (nat_lt (length (drop from bytes)) n) → (IsTrue whole → into ≡ take n (drop from bytes)) → Front bytes n from into whole
front_is bytes n from into true is filled place go =
    taken_long place n (drop from bytes) go (ltb-false _ _ (not-true _ (sym is)))
    ∙ (λ i. go (sym (filled refl) i) (drop-drop n from bytes i))
front_is bytes n from into false is filled place go = taken_short place n (drop from bytes) go (ltb-true _ _ (not-false _ (sym is)))

pub if_ok_two : {T E : Type 0} (r : Result T E) (P Q R : T → Type 0) → ((x : T) → P x → Q x → R x) → IfOk r P → IfOk r Q → IfOk r R
if_ok_two (Ok x) P Q R both p q = both x p q
if_ok_two (Err e) P Q R both p q = tt

-- ---- names

pub taken_too_long : (place n : ℕ) (bytes : List ℕ) (go : Name → List ℕ → Next) → 1024 < n → taken place n bytes (λ name rest. cond (is_target name) (go name rest) (Faulty place)) ≡ Faulty place
taken_too_long place n bytes go long = elim (cases_lt (length bytes) n) [
  | inl lt ↦ taken_short place n bytes _ lt
  | inr le ↦ taken_long place n bytes _ le ∙ cond-false (is_target (take n bytes)) (go (take n bytes) (drop n bytes)) (Faulty place) (too_long (take n bytes) (omega (arith, length-take n bytes)))
]

-- the name's length is cut
pub name_cut : (bytes : List ℕ) (from : ℕ) (two : List ℕ) (first : Bool) (go : Name → List ℕ → Next) → Front bytes 2 from two first → first ≡ false → named from (drop from bytes) go ≡ Faulty from
name_cut bytes from two first go a cut = named_is from (drop from bytes) go ∙ a from _ ∙ cond-false first _ _ cut

-- the name is longer than any
pub name_long : (bytes : List ℕ) (from count : ℕ) (two : List ℕ) (first : Bool) (go : Name → List ℕ → Next) → Front bytes 2 from two first → first ≡ true → count ≡ from_be_bytes w16 two → 1024 < count → named from (drop from bytes) go ≡ Faulty (from + 2)
name_long bytes from count two first go a is_first is long =
    let then : Name → List ℕ → Next = λ name rest. cond (is_target name) (go name rest) (Faulty (from + 2)) in
    named_is from (drop from bytes) go ∙ a from _ ∙ cond-true first _ _ is_first
    ∙ ap (λ (k : ℕ). taken (from + 2) k (drop (from + 2) bytes) then) (sym is)
    ∙ taken_too_long (from + 2) count (drop (from + 2) bytes) go long

-- a name's length was read, and then the name
pub name_read : (bytes : List ℕ) (from count n : ℕ) (two into : List ℕ) (first whole : Bool) (go : Name → List ℕ → Next) → Front bytes 2 from two first → first ≡ true → count ≡ from_be_bytes w16 two → n ≡ count → Front bytes n (from + 2) into whole
    → named from (drop from bytes) go ≡ cond whole (cond (is_target into) (go into (drop (from + 2 + count) bytes)) (Faulty (from + 2))) (Faulty (from + 2))
name_read bytes from count n two into first whole go a is_first is len b =
    let then : Name → List ℕ → Next = λ name rest. cond (is_target name) (go name rest) (Faulty (from + 2)) in
    named_is from (drop from bytes) go ∙ a from _ ∙ cond-true first _ _ is_first
    ∙ ap (λ (k : ℕ). taken (from + 2) k (drop (from + 2) bytes) then) (sym is ∙ sym len)
    ∙ b (from + 2) then
    ∙ ap (λ (k : ℕ). cond whole (then into (drop (from + 2 + k) bytes)) (Faulty (from + 2))) len

-- ---- sizes

pub size_cut : (bytes : List ℕ) (from : ℕ) (eight : List ℕ) (whole : Bool) (go : List ℕ → List ℕ → Next) → Front bytes 8 from eight whole → whole ≡ false → sized from (drop from bytes) go ≡ Faulty from
size_cut bytes from eight whole go a cut = sized_is from (drop from bytes) go ∙ a from _ ∙ cond-false whole _ _ cut

size_read : (bytes : List ℕ) (from count : ℕ) (eight : List ℕ) (whole : Bool) (go : List ℕ → List ℕ → Next) → Front bytes 8 from eight whole → whole ≡ true → count ≡ from_be_bytes w64 eight → sized from (drop from bytes) go ≡ taken (from + 8) count (drop (from + 8) bytes) go
size_read bytes from count eight whole go a is_whole is =
    sized_is from (drop from bytes) go ∙ a from _ ∙ cond-true whole _ _ is_whole ∙ ap (λ (k : ℕ). taken (from + 8) k (drop (from + 8) bytes) go) (sym is)

pub size_short : (bytes : List ℕ) (from count : ℕ) (eight : List ℕ) (whole : Bool) (go : List ℕ → List ℕ → Next) → Front bytes 8 from eight whole → whole ≡ true → count ≡ from_be_bytes w64 eight → from + 8 ≤ length bytes → length bytes - from - 8 < count → sized from (drop from bytes) go ≡ Faulty (from + 8)
size_short bytes from count eight whole go a is_whole is le lt = size_read bytes from count eight whole go a is_whole is ∙ taken_short (from + 8) count (drop (from + 8) bytes) go (omega (arith, length-drop (from + 8) bytes))

pub size_long : (bytes : List ℕ) (from count : ℕ) (eight : List ℕ) (whole : Bool) (go : List ℕ → List ℕ → Next) → Front bytes 8 from eight whole → whole ≡ true → count ≡ from_be_bytes w64 eight → from + 8 ≤ length bytes → count ≤ length bytes - from - 8 → sized from (drop from bytes) go ≡ go (take count (drop (from + 8) bytes)) (drop (from + 8 + count) bytes)
size_long bytes from count eight whole go a is_whole is le few =
    size_read bytes from count eight whole go a is_whole is
    ∙ taken_long (from + 8) count (drop (from + 8) bytes) go (omega (arith, length-drop (from + 8) bytes)) ∙ ap (λ (l : List ℕ). go (take count (drop (from + 8) bytes)) l) (drop-drop count (from + 8) bytes)

-- ---- records

pub kind_cut : (bytes : List ℕ) (from : ℕ) (kind : List ℕ) (whole : Bool) → Front bytes 1 from kind whole → whole ≡ false → next from (drop from bytes) ≡ Faulty from
kind_cut bytes from kind whole a cut = next_is from (drop from bytes) ∙ a from _ ∙ cond-false whole _ _ cut

-- the kind was read
pub kind_read : (bytes : List ℕ) (from : ℕ) (kind : List ℕ) (whole : Bool) → Front bytes 1 from kind whole → whole ≡ true → next from (drop from bytes) ≡ next_of from (slice_index kind 0) (drop (from + 1) bytes)
kind_read bytes from kind whole a is = next_is from (drop from bytes) ∙ a from _ ∙ cond-true whole _ _ is

next_end : (from kind : ℕ) (rest : List ℕ) → kind ≡ 69 → length rest ≡ 0 → next_of from kind rest ≡ Ends
next_end from kind rest is none = grind (arith, nat_tests)

next_past_end : (from kind : ℕ) (rest : List ℕ) → kind ≡ 69 → length rest ≢ 0 → next_of from kind rest ≡ Faulty (from + 1)
next_past_end from kind rest is some = grind (arith, nat_tests)

next_remove : (from kind : ℕ) (rest : List ℕ) → kind ≡ 82 → next_of from kind rest ≡ named (from + 1) rest (λ name more. Takes (Remove name) more)
next_remove from kind rest is = grind (arith, nat_tests)

next_write : (from kind : ℕ) (rest : List ℕ) → kind ≡ 87 → next_of from kind rest ≡ named (from + 1) rest (λ name more. sized (from + 3 + length name) more (λ bytes others. Takes (Write name bytes) others))
next_write from kind rest is = grind (arith, nat_tests)

next_other : (from kind : ℕ) (rest : List ℕ) → kind ≢ 69 → kind ≢ 82 → kind ≢ 87 → next_of from kind rest ≡ Faulty from
next_other from kind rest a b c = grind (arith, nat_tests)

pub end_found : (bytes : List ℕ) (from : ℕ) (kind : List ℕ) (whole : Bool) → Front bytes 1 from kind whole → whole ≡ true → slice_index kind 0 ≡ 69 → length bytes - from ≡ 1 → next from (drop from bytes) ≡ Ends
end_found bytes from kind whole a is_whole is one = kind_read bytes from kind whole a is_whole ∙ next_end from (slice_index kind 0) (drop (from + 1) bytes) is (omega (arith, length-drop (from + 1) bytes))

pub end_missing : (bytes : List ℕ) (from : ℕ) (kind : List ℕ) (whole : Bool) → Front bytes 1 from kind whole → whole ≡ true → slice_index kind 0 ≡ 69 → from + 1 ≤ length bytes → length bytes - from ≢ 1 → next from (drop from bytes) ≡ Faulty (from + 1)
end_missing bytes from kind whole a is_whole is inside more = kind_read bytes from kind whole a is_whole ∙ next_past_end from (slice_index kind 0) (drop (from + 1) bytes) is (omega (arith, length-drop (from + 1) bytes))

pub other_found : (bytes : List ℕ) (from : ℕ) (kind : List ℕ) (whole : Bool) → Front bytes 1 from kind whole → whole ≡ true → slice_index kind 0 ≢ 69 → slice_index kind 0 ≢ 82 → slice_index kind 0 ≢ 87 → next from (drop from bytes) ≡ Faulty from
other_found bytes from kind whole a is_whole e r w = kind_read bytes from kind whole a is_whole ∙ next_other from (slice_index kind 0) (drop (from + 1) bytes) e r w

pub remove_found : (bytes : List ℕ) (from count : ℕ) (kind buffer : List ℕ) (whole : Bool) → Front bytes 1 from kind whole → whole ≡ true → slice_index kind 0 ≡ 82 → NameGoes bytes (from + 1) buffer (fields.Whole count)
    → next from (drop from bytes) ≡ Takes (Remove (take count buffer)) (drop (from + 3 + count) bytes)
remove_found bytes from count kind buffer whole a is_whole is here =
    let place : from + 1 + 2 + count ≡ from + 3 + count = omega arith in
    kind_read bytes from kind whole a is_whole ∙ next_remove from (slice_index kind 0) (drop (from + 1) bytes) is
    ∙ here (λ n more. Takes (Remove n) more) ∙ ap (λ (k : ℕ). Takes (Remove (take count buffer)) (drop k bytes)) place

pub name_missing : (bytes : List ℕ) (from place : ℕ) (kind buffer : List ℕ) (whole : Bool) → Front bytes 1 from kind whole → whole ≡ true → (slice_index kind 0 ≡ 82) ⊎ (slice_index kind 0 ≡ 87) → NameGoes bytes (from + 1) buffer (fields.Faulty place)
    → next from (drop from bytes) ≡ Faulty place
name_missing bytes from place kind buffer whole a is_whole is here =
    kind_read bytes from kind whole a is_whole ∙ elim is [
      | inl r ↦ next_remove from (slice_index kind 0) (drop (from + 1) bytes) r ∙ here _
      | inr w ↦ next_write from (slice_index kind 0) (drop (from + 1) bytes) w ∙ here _
    ]

pub write_found : (bytes : List ℕ) (from count : ℕ) (kind buffer : List ℕ) (whole : Bool) (item : Item) → Front bytes 1 from kind whole → whole ≡ true → slice_index kind 0 ≡ 87 → NameGoes bytes (from + 1) buffer (fields.Whole count) → length (take count buffer) ≡ count
    → IsWritten bytes (from + 3 + count) (take count buffer) buffer item → IsItem bytes from buffer item
write_found bytes from count kind buffer whole item a is_whole is here len written = by item written
  where
    place : from + 1 + 2 + count ≡ from + 3 + count
    place = omega arith

    so_far : next from (drop from bytes) ≡ sized (from + 3 + count) (drop (from + 3 + count) bytes) (λ bytes others. Takes (Write (take count buffer) bytes) others)
    so_far = kind_read bytes from kind whole a is_whole ∙ next_write from (slice_index kind 0) (drop (from + 1) bytes) is
        ∙ here (λ n more. sized (from + 3 + length n) more (λ bytes others. Takes (Write n bytes) others))
        ∙ ap (λ (k : ℕ). sized (from + 3 + k) (drop (from + 1 + 2 + count) bytes) (λ bytes others. Takes (Write (take count buffer) bytes) others)) len
        ∙ ap (λ (k : ℕ). sized (from + 3 + count) (drop k bytes) (λ bytes others. Takes (Write (take count buffer) bytes) others)) place

    by : (item : Item) → IsWritten bytes (from + 3 + count) (take count buffer) buffer item → IsItem bytes from buffer item
    by items.End w = absurd w
    by (items.Faulty p) w = so_far ∙ w
    by (items.Remove n rest) w = absurd w
    by (items.Write n start size) w = so_far ∙ w.1 ∙ ap (λ (l : List ℕ). Takes (Write l (take size (drop start bytes))) (drop (start + size) bytes)) (sym w.0)
