-- Directories of paths are paths, and have room for a name.
use Rattle.std.proofs.Common.{◌≡◌, ◌<◌, ◌≤◌, ◌+◌, ℕ, zero, suc, Bool, true, false, cond, not, nat_eq, List, [], ◌∷◌, ◌++◌, length, get_or, take, Option, Some, None, refl, sym, ap, subst, ◌∙◌, arith}
use Rattle.std.specs.Prelude.{nat_lt, position}
use Rattle.std.specs.List.{AllByRecursion, position_or_len}
use Rattle.std.specs.Option.{option_map}
use Rattle.std.specs.Str.{IsUtf8, IsCharBoundary}
use Rattle.std.specs.Str.Lossy.{utf8_valid_len}
use Rattle.std.proofs.lemmas.Bool.{true≢false}
use Rattle.std.proofs.lemmas.Bool.Decides.{nat_tests}
use Rattle.std.proofs.lemmas.Str.{IsUtf8-take, IsUtf8-append, IsUtf8-from_ascii, utf8_valid_len-IsUtf8}
use Rattle.std.proofs.lemmas.List.{length-append}
use Rattle.tl_path.specs.Path.{IsPath, place_fault, byte_fault, utf8_fault, size_fault, component_fault, component_fault_from, earlier, or_else, fault}
use Rattle.tl_path.specs.declared.fault.PathFault.{PathFault}
use Rattle.tl_path.specs.declared.fault.PathKind.TheVariants.{Empty, Long, Byte, Component, Deep}
use Rattle.tl_path.specs.Bytes.{is_barred}
use Rattle.tl_path.specs.Components.{components, is_no_component}
use Rattle.tl_path.proofs.Form.{IsPath-IsUtf8}
use Rattle.tl_lsr.specs.Items.{path_in}
use Rattle.tl_lsr.proofs.SetLemmas.{Text}
use Rattle.tl_lsr.proofs.ItemLemmas.{IsName, components-in}

-- what makes a text a path
record Parts (text : Text) : Type 0 where
  pub size : size_fault text ≡ None
  pub utf8 : utf8_fault text ≡ None
  pub byte : byte_fault text ≡ None
  pub component : component_fault text ≡ None

or_parts : (a b : Option PathFault) → or_else a b ≡ None → (a ≡ None) × (b ≡ None)
or_parts None b is = (refl, is)
or_parts (Some a) b is = absurd (cc)

earlier_parts : (a b : Option PathFault) → earlier a b ≡ None → (a ≡ None) × (b ≡ None)
earlier_parts None b is = (refl, is)
earlier_parts (Some a) None is = absurd (cc)
earlier_parts (Some a) (Some b) is = absurd (cc)

parts : (text : Text) → IsPath text → Parts text
parts text is =
    let first = or_parts (size_fault text) (earlier (utf8_fault text) (place_fault text)) is in
    let second = earlier_parts (utf8_fault text) (place_fault text) first.1 in
    let third = earlier_parts (byte_fault text) (component_fault text) second.1 in
    record { size = first.0; utf8 = second.0; byte = third.0; component = third.1 }

joined_parts : (text : Text) → Parts text → IsPath text
joined_parts text p =
    ap (λ f. or_else f (earlier (utf8_fault text) (place_fault text))) p.size
    ∙ ap (λ f. earlier f (place_fault text)) p.utf8
    ∙ ap (λ f. earlier f (component_fault text)) p.byte ∙ p.component

sized : (n : ℕ) → cond (nat_eq n 0) (Some (fault Empty 0)) (cond (nat_lt 1024 n) (Some (fault Long 1024)) None) ≡ None → (0 < n) × (n ≤ 1024)
sized n is = (grind (arith, nat_tests), grind (arith, nat_tests))

size_none : (n : ℕ) → 0 < n → n ≤ 1024 → cond (nat_eq n 0) (Some (fault Empty 0)) (cond (nat_lt 1024 n) (Some (fault Long 1024)) None) ≡ None
size_none n some few = grind (arith, nat_tests)

utf8_none : (text : Text) → IsUtf8 text → utf8_fault text ≡ None
utf8_none text is =
    let e = utf8_valid_len-IsUtf8 text is in
    let none : nat_lt (utf8_valid_len text) (length text) ≡ false = grind (arith, nat_tests, e) in
    rw none refl

-- ---- bytes

abbrev IsFree : Text → Type 0
IsFree text = AllByRecursion (λ b. is_barred b ≡ false) text

past_end : (n m : ℕ) → cond (nat_lt n m) (Some n) None ≡ None → m ≤ n
past_end n m is = grind (arith, nat_tests)

no_byte : (at : Option ℕ) → option_map (fault Byte) at ≡ None → at ≡ None
no_byte None is = refl
no_byte (Some at) is = absurd (cc)

free_from : (text : Text) → length text ≤ position_or_len is_barred text → IsFree text
free_from [] all = tt
free_from (b ∷ text) all = by (is_barred b) refl all (free_from text)
  where
    by : (t : Bool) → is_barred b ≡ t → length (b ∷ text) ≤ cond (not t) (1 + position_or_len is_barred text) 0 → (length text ≤ position_or_len is_barred text → IsFree text) → (is_barred b ≡ false) × IsFree text
    by true is all more = absurd (omega arith)
    by false is all more = (is, more (omega arith))

free_to : (text : Text) → IsFree text → length text ≤ position_or_len is_barred text
free_to [] free = omega arith
free_to (b ∷ text) free = let more = free_to text free.1 in let e = free.0 in rw e (omega arith)

free_of : (text : Text) → byte_fault text ≡ None → IsFree text
free_of text is = free_from text (past_end _ _ (no_byte (position is_barred text) is))

byte_none : (text : Text) → IsFree text → byte_fault text ≡ None
byte_none text free =
    let past = free_to text free in
    let none : nat_lt (position_or_len is_barred text) (length text) ≡ false = grind (arith, nat_tests, past) in
    rw none refl

free_front : (a b : Text) → IsFree (a ++ b) → IsFree a
free_front [] b free = tt
free_front (c ∷ a) b free = (free.0, free_front a b free.1)

free_append : (a b : Text) → IsFree a → IsFree b → IsFree (a ++ b)
free_append [] b free more = more
free_append (c ∷ a) b free more = (free.0, free_append a b free.1 more)

-- ---- components

front_components : (at count : ℕ) (cs ds : List Text) → component_fault_from at count (cs ++ ds) ≡ None → component_fault_from at count cs ≡ None
front_components at count [] ds is = refl
front_components at count (c ∷ cs) ds is = by (is_no_component c) (nat_eq count 64) is (front_components (at + length c + 1) (count + 1) cs ds)
  where
    by : (s t : Bool) → cond s (Some (fault Component at)) (cond t (Some (fault Deep at)) (component_fault_from (at + length c + 1) (count + 1) (cs ++ ds))) ≡ None
        → (component_fault_from (at + length c + 1) (count + 1) (cs ++ ds) ≡ None → component_fault_from (at + length c + 1) (count + 1) cs ≡ None)
        → cond s (Some (fault Component at)) (cond t (Some (fault Deep at)) (component_fault_from (at + length c + 1) (count + 1) cs)) ≡ None
    by true t is more = absurd (cc)
    by false true is more = absurd (cc)
    by false false is more = more is

-- another last component
other_component : (at count : ℕ) (cs : List Text) (c d : Text) → is_no_component d ≡ false → component_fault_from at count (cs ++ c ∷ []) ≡ None → component_fault_from at count (cs ++ d ∷ []) ≡ None
other_component at count [] c d good is = by (is_no_component c) (nat_eq count 64) is
  where
    by : (s t : Bool) → cond s (Some (fault Component at)) (cond t (Some (fault Deep at)) None) ≡ None → cond (is_no_component d) (Some (fault Component at)) (cond t (Some (fault Deep at)) None) ≡ None
    by true t is = absurd (cc)
    by false true is = absurd (cc)
    by false false is = rw good refl
other_component at count (e ∷ cs) c d good is = by (is_no_component e) (nat_eq count 64) is (other_component (at + length e + 1) (count + 1) cs c d good)
  where
    by : (s t : Bool) → cond s (Some (fault Component at)) (cond t (Some (fault Deep at)) (component_fault_from (at + length e + 1) (count + 1) (cs ++ c ∷ []))) ≡ None
        → (component_fault_from (at + length e + 1) (count + 1) (cs ++ c ∷ []) ≡ None → component_fault_from (at + length e + 1) (count + 1) (cs ++ d ∷ []) ≡ None)
        → cond s (Some (fault Component at)) (cond t (Some (fault Deep at)) (component_fault_from (at + length e + 1) (count + 1) (cs ++ d ∷ []))) ≡ None
    by true t is more = absurd (cc)
    by false true is more = absurd (cc)
    by false false is more = more is

last_component : (at count : ℕ) (cs : List Text) (c : Text) → component_fault_from at count (cs ++ c ∷ []) ≡ None → is_no_component c ≡ false
last_component at count [] c is = by (is_no_component c) is
  where
    by : (s : Bool) → cond s (Some (fault Component at)) (cond (nat_eq count 64) (Some (fault Deep at)) None) ≡ None → s ≡ false
    by true is = absurd (cc)
    by false is = refl
last_component at count (e ∷ cs) c is = by (is_no_component e) (nat_eq count 64) is (last_component (at + length e + 1) (count + 1) cs c)
  where
    by : (s t : Bool) → cond s (Some (fault Component at)) (cond t (Some (fault Deep at)) (component_fault_from (at + length e + 1) (count + 1) (cs ++ c ∷ []))) ≡ None
        → (component_fault_from (at + length e + 1) (count + 1) (cs ++ c ∷ []) ≡ None → is_no_component c ≡ false) → is_no_component c ≡ false
    by true t is more = absurd (cc)
    by false true is more = absurd (cc)
    by false false is more = more is

-- ---- paths

at_slash : (dir name : Text) → get_or (path_in dir name) (length dir) 0 ≡ 47
at_slash [] name = refl
at_slash (b ∷ dir) name = at_slash dir name

pub take_front : (dir rest : Text) → take (length dir) (dir ++ rest) ≡ dir
take_front [] rest = refl
take_front (b ∷ dir) rest = ap (λ (t : Text). b ∷ t) (take_front dir rest)

utf8_dir : (dir name : Text) → IsUtf8 (path_in dir name) → IsUtf8 dir
utf8_dir dir name is =
    let byte = at_slash dir name in
    let len = length-append dir (47 ∷ name) in
    let edge : IsCharBoundary (path_in dir name) (length dir) = search (arith, byte, len) in
    subst IsUtf8 (take_front dir (47 ∷ name)) (IsUtf8-take (path_in dir name) (length dir) is edge)

pub dir_is_path : (dir name : Text) → IsName name → 0 < length dir → IsPath (path_in dir name) → IsPath dir
dir_is_path dir name named some is =
    let p = parts (path_in dir name) is in
    let few = sized (length (path_in dir name)) p.size in
    let len = length-append dir (47 ∷ name) in
    joined_parts dir (record {
      size = size_none (length dir) some (omega (arith, few.1, len));
      utf8 = utf8_none dir (utf8_dir dir name (IsPath-IsUtf8 (path_in dir name) is));
      byte = byte_none dir (free_front dir (47 ∷ name) (free_of (path_in dir name) p.byte));
      component = front_components 0 0 (components dir) (name ∷ []) (sym (ap (component_fault_from 0 0) (components-in dir name named)) ∙ p.component);
    })

-- a name in a directory isn't empty
pub name_is_some : (dir name : Text) → IsName name → IsPath (path_in dir name) → 0 < length name
name_is_some dir [] named is =
    let p = parts (path_in dir []) is in
    absurd (true≢false (last_component 0 0 (components dir) [] (sym (ap (component_fault_from 0 0) (components-in dir [] named)) ∙ p.component)))
name_is_some dir (b ∷ name) named is = omega arith

small : (i : ℕ) → get_or (47 ∷ 120 ∷ []) i 0 < 128
small zero = omega arith
small (suc zero) = omega arith
small (suc (suc i)) = omega arith

slash_x : IsUtf8 (47 ∷ 120 ∷ [])
slash_x = IsUtf8-from_ascii (47 ∷ 120 ∷ []) small

-- where a name stands in a directory, another one may
pub has_room : (dir name : Text) → IsName name → IsPath (path_in dir name) → IsPath (path_in dir (120 ∷ []))
has_room dir name named is =
    let p = parts (path_in dir name) is in
    let few = sized (length (path_in dir name)) p.size in
    let len = length-append dir (47 ∷ name) in
    let len' = length-append dir (47 ∷ 120 ∷ []) in
    let some = name_is_some dir name named is in
    joined_parts (path_in dir (120 ∷ [])) (record {
      size = size_none (length (path_in dir (120 ∷ []))) (omega (arith, len')) (omega (arith, few.1, len, len', some));
      utf8 = utf8_none (path_in dir (120 ∷ [])) (IsUtf8-append dir (47 ∷ 120 ∷ []) (utf8_dir dir name (IsPath-IsUtf8 (path_in dir name) is)) slash_x);
      byte = byte_none (path_in dir (120 ∷ [])) (free_append dir (47 ∷ 120 ∷ []) (free_front dir (47 ∷ name) (free_of (path_in dir name) p.byte)) (refl, (refl, tt)));
      component =
          ap (component_fault_from 0 0) (components-in dir (120 ∷ []) (refl, tt))
          ∙ other_component 0 0 (components dir) name (120 ∷ []) refl (sym (ap (component_fault_from 0 0) (components-in dir name named)) ∙ p.component);
    })
