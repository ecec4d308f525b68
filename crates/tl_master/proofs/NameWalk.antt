-- The names of a tree that may have a mark, found in a walk over all of them.
use Rattle.std.proofs.Common.{◌≡◌, ◌<◌, ◌≤◌, ◌+◌, ◌++◌, ◌∷◌, [], ℕ, cond, List, length, Option, Some, None, Ok, Err, refl, sym, ap, ◌∙◌, arith, inl, inr}
use Rattle.std.specs.Prelude.{filter, nat_lt}
use Rattle.std.specs.FinMap.{keys}
use Rattle.std.proofs.lemmas.Bool.{cases_Bool, lt-ltb, ltb-true}
use Rattle.std.proofs.lemmas.List.Elements.{filter-append}
use Rattle.tl_model.specs.Volume.{Name, Volume, IsNext}
use Rattle.tl_kind.specs.declared.quantity.What.TheVariants.{Files}
use Rattle.tl_marks.specs.Form.{may_be_marked}
use Rattle.tl_backup.proofs.Walks.{HasSeen, walk_step, walk_end, seen_le}
use Rattle.tl_master.specs.Listing.{names_in}
use Rattle.tl_master.specs.declared.error.MasterError.TheVariants.{TooLarge}

-- those that may have a mark among the names that were seen
pub record HasNamed (tree : Volume) (number : ℕ) (last : Option Name) (names : List Name) : Type 0 where
  pub walk : HasSeen tree number last
  pub named : names ≡ filter may_be_marked walk.seen

pub named_start : (tree : Volume) (names : List Name) → names ≡ [] → HasNamed tree 0 None names
named_start tree names is = record { walk = record { seen = []; rest = keys tree; all = refl; at_last = refl; count = refl }; named = is }

pub named_step : (tree : Volume) (number : ℕ) (last : Option Name) (names more : List Name) (path : Name) → HasNamed tree number last names → IsNext tree last (Some path)
    → more ≡ names ++ filter may_be_marked (path ∷ []) → HasNamed tree (number + 1) (Some path) more
named_step tree number last names more path has next pushed =
    let stepped = walk_step tree number last path has.walk next in record {
      walk = stepped.0;
      named = pushed ∙ ap (λ (l : List Name). l ++ filter may_be_marked (path ∷ [])) has.named ∙ sym (filter-append may_be_marked has.walk.seen (path ∷ [])) ∙ ap (filter may_be_marked) (sym stepped.1);
    }

few_names : (tree : Volume) → length (keys tree) ≤ 1048576 → names_in tree ≡ Ok (filter may_be_marked (keys tree))
few_names tree few = elim (cases_Bool (nat_lt 1048576 (length (keys tree)))) [
  | inl past ↦ absurd (let less = ltb-true 1048576 (length (keys tree)) past in omega (arith, less, few))
  | inr short ↦ ap (λ b. cond b (Err (TooLarge Files 1048576)) (Ok (filter may_be_marked (keys tree)))) short
]

pub named_end : (tree : Volume) (number : ℕ) (last : Option Name) (names : List Name) → HasNamed tree number last names → number ≤ 1048576 → IsNext tree last None → names_in tree ≡ Ok names
named_end tree number last names has few next =
    let all = walk_end tree number last has.walk next in
    let count : length (keys tree) ≡ number = ap length all ∙ has.walk.count in
    few_names tree (omega (arith, count, few)) ∙ ap (λ (l : List Name). Ok (filter may_be_marked l)) all ∙ ap (λ (l : List Name). Ok l) (sym has.named)

pub named_many : (tree : Volume) (number : ℕ) (last : Option Name) (names : List Name) → HasNamed tree number last names → 1048576 < number → names_in tree ≡ Err (TooLarge Files 1048576)
named_many tree number last names has many =
    let le = seen_le tree number last has.walk in
    ap (λ b. cond b (Err (TooLarge Files 1048576)) (Ok (filter may_be_marked (keys tree)))) (lt-ltb 1048576 (length (keys tree)) (omega (arith, many, le)))
