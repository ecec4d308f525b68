-- Depends that stand for names which no entry has.
use Rattle.std.proofs.Common.{◌≡◌, ◌-◌, ◌==◌, ℕ, Bool, true, false, cond, ◌&&◌, ◌||◌, List, [], ◌∷◌, ◌++◌, suc, length, take, drop, map, refl, sym, ap, ◌∙◌, inl, inr, append_assoc, Bor, arith}
use Rattle.std.proofs.lemmas.Bool.{cases_Bool, eqb-true}
use Rattle.std.specs.Prelude.{not, Option, Some, None, is_some, is_none, option_copied, nat_eq, codes}
use Rattle.std.specs.List.{list_any, flat_map}
use Rattle.std.specs.Cmp.Lexicographic.{pointwise, nat_list_eq_equiv}
use Rattle.tl_model.specs.Volume.{same_name}
use Rattle.tl_model.specs.Words.{is_full}
use Rattle.tl_path.specs.Names.{is_name}
use Rattle.tl_entry.specs.declared.object.Object.{Object}
use Rattle.tl_db.specs.Entries.{entry_of}
use Rattle.tl_depend.specs.Names.{spelled_out}
use Rattle.tl_report.specs.Depends.{is_absent, is_absent_name, is_unmet, unmet_lines}
use Rattle.tl_report.proofs.AnyLemmas.{any-map, any-filter, none-find}

-- a part has a byte where it isn't empty
pub full-is : (part : List ℕ) → is_full part ≡ not (length part == 0)
full-is [] = refl
full-is (b ∷ part) = sym (ap not (some (length part)))
  where
    some : (n : ℕ) → (suc n == 0) ≡ false
    some n = elim (cases_Bool (suc n == 0)) [
      | inl is ↦ absurd (omega (arith, eqb-true (suc n) 0 is))
      | inr is ↦ is
    ]

copied_none : (found : Option (Bor Object)) (none : Bool) → is_some found ≡ not none → none ≡ is_none (option_copied found)
copied_none None true is = refl
copied_none None false is = absurd (cc)
copied_none (Some x) true is = absurd (cc)
copied_none (Some x) false is = refl

-- no entry was found for a name
pub absent-found : (found : Option (Bor Object)) (none : Bool) (name text : List ℕ) (db : List Object) → is_some found ≡ not none → option_copied found ≡ entry_of name db → name ≡ text → is_name text ≡ true
    → none ≡ is_absent_name db text
absent-found found none name text db is copied same form =
    copied_none found none is ∙ ap (λ (o : Option Object). is_none o) copied ∙ none-find (λ (o : Object). same_name o.name name) db
    ∙ ap (λ (n : List ℕ). is_absent db n) same ∙ sym (ap (λ t. t && is_absent db text) form)

or_false : (a : Bool) → (a || false) ≡ a
or_false true = refl
or_false false = refl

unmet_by : (db : List Object) (platforms : List (List ℕ)) (depend : List ℕ) → is_unmet db platforms depend ≡ list_any (is_absent_name db) (spelled_out platforms depend)
unmet_by db platforms depend = any-filter (is_absent db) is_name (spelled_out platforms depend)

-- a depend on each platform
pub unmet-arch : (db : List Object) (platforms : List (Bor (List ℕ))) (depend front : List ℕ) → pointwise nat_eq (drop (length depend - 5) depend) (codes ".ARCH") ≡ true → front ≡ take (length depend - 5) depend
    → list_any (λ (p : Bor (List ℕ)). is_absent_name db (front ++ 46 ∷ p.now)) platforms ≡ is_unmet db (map (λ (p : Bor (List ℕ)). p.now) platforms) depend
unmet-arch db platforms depend front is cut =
    let names = map (λ (p : Bor (List ℕ)). p.now) platforms in
    let spell : List ℕ → List ℕ = λ p. take (length depend - 5) depend ++ 46 ∷ p in
    ap (λ (f : List ℕ). list_any (λ (p : Bor (List ℕ)). is_absent_name db (f ++ 46 ∷ p.now)) platforms) cut
    ∙ sym (any-map (λ p. is_absent_name db (spell p)) (λ (p : Bor (List ℕ)). p.now) platforms)
    ∙ sym (unmet_by db names depend ∙ ap (λ t. list_any (is_absent_name db) (cond t (map spell names) (depend ∷ []))) (nat_list_eq_equiv.symm (codes ".ARCH") (drop (length depend - 5) depend) ∙ is) ∙ any-map (is_absent_name db) spell names)

-- one that is a name itself
pub unmet-name : (db : List Object) (platforms : List (List ℕ)) (depend : List ℕ) → pointwise nat_eq (drop (length depend - 5) depend) (codes ".ARCH") ≡ false → is_absent_name db depend ≡ is_unmet db platforms depend
unmet-name db platforms depend is =
    sym (unmet_by db platforms depend ∙ ap (λ t. list_any (is_absent_name db) (cond t (map (λ p. take (length depend - 5) depend ++ 46 ∷ p) platforms) (depend ∷ []))) (nat_list_eq_equiv.symm (codes ".ARCH") (drop (length depend - 5) depend) ∙ is) ∙ or_false (is_absent_name db depend))

-- the lines of one entry more
pub unmet-more : (db : List Object) (platforms words : List (List ℕ)) (lines next all : List (List ℕ)) (o : Object) (rest left : List Object) → words ≡ platforms → left ≡ o ∷ rest
    → next ≡ lines ++ unmet_lines db words o → lines ++ flat_map (unmet_lines db platforms) left ≡ all → next ++ flat_map (unmet_lines db platforms) rest ≡ all
unmet-more db platforms words lines next all o rest left same is added so_far =
    ap (λ (ls : List (List ℕ)). ls ++ flat_map (unmet_lines db platforms) rest) (added ∙ ap (λ (ws : List (List ℕ)). lines ++ unmet_lines db ws o) same)
    ∙ append_assoc lines (unmet_lines db platforms o) (flat_map (unmet_lines db platforms) rest)
    ∙ ap (λ (os : List Object). lines ++ flat_map (unmet_lines db platforms) os) (sym is) ∙ so_far
