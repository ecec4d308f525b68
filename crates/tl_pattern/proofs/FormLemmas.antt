-- The last component of a path and the last of some words.
use Rattle.std.proofs.Common.{◌≡◌, ℕ, ◌+◌, ◌≤◌, ◌==◌, Bool, true, false, cond, List, [], ◌∷◌, ◌++◌, length, Option, None, Some, Bor, drop, map, filter, refl, sym, ap, subst, ◌∙◌, arith, le-leb}
use Rattle.std.specs.Option.{is_none}
use Rattle.std.specs.List.{list_all}
use Rattle.std.proofs.lemmas.Bool.{and_from, true≢false}
use Rattle.std.proofs.lemmas.Option.{none-some}
use Rattle.tl_model.specs.Words.{fields, is_full}
use Rattle.tl_path.specs.declared.fault.PathKind.TheVariants.{Component, Deep}
use Rattle.tl_path.specs.declared.fault.PathFault.{PathFault}
use Rattle.tl_path.specs.Components.{components, is_no_component}
use Rattle.tl_path.specs.Path.{path_fault, size_fault, utf8_fault, byte_fault, component_fault, component_fault_from, fault, earlier, or_else, IsPath}
use Rattle.tl_path.proofs.Split.{lengths, lengths-components}
use Rattle.tl_pattern.specs.declared.kind.PatternKind.TheVariants.{T}
use Rattle.tl_pattern.specs.Form.{is_component, is_path, words_of, name_of, last_of, without_last, HasForm}

no_later : (a b : Option PathFault) → earlier a b ≡ None → b ≡ None
no_later None b e = e
no_later (Some a) None e = refl
no_later (Some a) (Some b) e = absurd (none-some _ (sym e))

no_else : (a b : Option PathFault) → or_else a b ≡ None → b ≡ None
no_else None b e = e
no_else (Some a) b e = absurd (none-some a (sym e))

pub no_component_fault : (text : List ℕ) → IsPath text → component_fault text ≡ None
no_component_fault text is = no_later (byte_fault text) _ (no_later (utf8_fault text) _ (no_else (size_fault text) _ is))

-- where components have no fault, each is one
pub first_is_one : (at count : ℕ) (c : List ℕ) (cs : List (List ℕ)) → component_fault_from at count (c ∷ cs) ≡ None → is_no_component c ≡ false
first_is_one at count c cs none = by (is_no_component c) refl none
  where
    by : (b : Bool) → is_no_component c ≡ b → cond b (Some (fault Component at)) (cond (count == 64) (Some (fault Deep at)) (component_fault_from (at + length c + 1) (count + 1) cs)) ≡ None → is_no_component c ≡ false
    by true is e = absurd (none-some _ (sym e))
    by false is e = is

pub others_are : (at count : ℕ) (c : List ℕ) (cs : List (List ℕ)) → component_fault_from at count (c ∷ cs) ≡ None → component_fault_from (at + length c + 1) (count + 1) cs ≡ None
others_are at count c cs none = by (is_no_component c) (count == 64) none
  where
    by : (b d : Bool) → cond b (Some (fault Component at)) (cond d (Some (fault Deep at)) (component_fault_from (at + length c + 1) (count + 1) cs)) ≡ None → component_fault_from (at + length c + 1) (count + 1) cs ≡ None
    by true d e = absurd (none-some _ (sym e))
    by false true e = absurd (none-some _ (sym e))
    by false false e = e

last_is_one : (at count : ℕ) (c : List ℕ) (cs : List (List ℕ)) → component_fault_from at count (c ∷ cs) ≡ None → is_no_component (last_of (c ∷ cs)) ≡ false
last_is_one at count c [] none = first_is_one at count c [] none
last_is_one at count c (d ∷ cs) none = last_is_one (at + length c + 1) (count + 1) d cs (others_are at count c (d ∷ cs) none)

pub path_of_is_path : (text : List ℕ) → is_path text ≡ true → IsPath text
path_of_is_path text is = by (path_fault text) is
  where
    by : (o : Option PathFault) → is_none o ≡ true → o ≡ None
    by None e = refl
    by (Some x) e = absurd (true≢false (sym e))

-- the last component of a path has a byte
pub last_has_byte : (text : List ℕ) → is_path text ≡ true → last_of (components text) ≡ [] → ⊥
last_has_byte text is empty = by (components text) refl (no_component_fault text (path_of_is_path text is))
  where
    by : (cs : List (List ℕ)) → components text ≡ cs → component_fault_from 0 0 (components text) ≡ None → ⊥
    by [] same none = some_component text same
      where
        some_component : (t : List ℕ) → components t ≡ [] → ⊥
        some_component t e = absurd (omega (arith, lengths-components t, ap lengths e))
    by (c ∷ cs) same none = true≢false (sym (ap is_no_component (sym (ap last_of same) ∙ empty)) ∙ last_is_one 0 0 c cs (subst (λ l. component_fault_from 0 0 l ≡ None) same none))

pub without_last_end : (words : List (List ℕ)) (name : List ℕ) → without_last (words ++ name ∷ []) ≡ words
without_last_end [] name = refl
without_last_end (w ∷ []) name = refl
without_last_end (w ∷ v ∷ words) name = ap (λ (ws : List (List ℕ)). w ∷ ws) (without_last_end (v ∷ words) name)

pub last_of_end : (words : List (List ℕ)) (name : List ℕ) → last_of (words ++ name ∷ []) ≡ name
last_of_end [] name = refl
last_of_end (w ∷ []) name = refl
last_of_end (w ∷ v ∷ words) name = last_of_end (v ∷ words) name

abbrev now : Bor (List ℕ) → List ℕ
now part = part.now

-- the words so far, and those of the parts that are left
pub record WordsSoFar (text : List ℕ) (parts : List (Bor (List ℕ))) (words : List (List ℕ)) (i : ℕ) : Type 0 where
  pub read : words ++ filter is_full (map now (drop i parts)) ≡ fields text
  pub form : list_all is_component words ≡ true

-- the words of a text, the last one taken
pub record IsTree (text : List ℕ) (words : List (List ℕ)) (name : List ℕ) : Type 0 where
  pub words_are : words ≡ words_of text
  pub name_is : name ≡ name_of text
  pub form : HasForm T text

pub taken : (text : List ℕ) (all words : List (List ℕ)) (name : List ℕ) → all ≡ fields text → list_all is_component (fields text) ≡ true → 2 ≤ length all
    → all ≡ words ++ name ∷ [] → IsTree text words name
taken text all words name are components two ends = record {
  words_are = sym (ap without_last (sym are ∙ ends) ∙ without_last_end words name);
  name_is = sym (ap last_of (sym are ∙ ends) ∙ last_of_end words name);
  form = and_from _ _ (le-leb 2 (length (fields text)) (subst (λ (l : List (List ℕ)). 2 ≤ length l) are two)) components;
}
