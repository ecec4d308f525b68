-- A walk over the names of a volume.
use Rattle.std.proofs.Common.{◌≡◌, ◌<◌, ◌≤◌, ◌+◌, ℕ, List, [], ◌∷◌, ◌++◌, length, Option, Some, None, refl, sym, ap, subst, ◌∙◌, arith}
use Rattle.std.specs.FinMap.{keys}
use Rattle.std.proofs.lemmas.List.{append-nil, append_assoc, length-append}
use Rattle.tl_model.specs.Volume.{Name, Volume, IsNext}
use Rattle.tl_touch.proofs.Keys.{last_of, next_key}

-- so many names of a tree were seen, up to the last
pub record HasWalked (tree : Volume) (number : ℕ) (last : Option Name) : Type 0 where
  pub seen : List Name
  pub rest : List Name
  pub all : keys tree ≡ seen ++ rest
  pub at_last : last_of seen ≡ last
  pub count : length seen ≡ number

last_of-push : (seen : List Name) (name : Name) → last_of (seen ++ name ∷ []) ≡ Some name
last_of-push [] name = refl
last_of-push (s ∷ []) name = refl
last_of-push (s ∷ t ∷ seen) name = last_of-push (t ∷ seen) name

split_one : (seen rest more : List Name) (name : Name) → rest ≡ name ∷ more → seen ++ rest ≡ (seen ++ name ∷ []) ++ more
split_one seen rest more name is = ap (λ (l : List Name). seen ++ l) is ∙ sym (append_assoc seen (name ∷ []) more)

-- the next name is seen
pub walk_step : (tree : Volume) (number : ℕ) (last : Option Name) (name : Name) (has : HasWalked tree number last) → IsNext tree last (Some name)
    → (next : HasWalked tree (number + 1) (Some name)) × (next.seen ≡ has.seen ++ name ∷ [])
walk_step tree number last name has next =
    let found = next_key tree has.seen has.rest (Some name) has.all (subst (λ (l : Option Name). IsNext tree l (Some name)) (sym has.at_last) next) in (
      record {
        seen = has.seen ++ name ∷ [];
        rest = found.0;
        all = has.all ∙ split_one has.seen has.rest found.0 name found.1;
        at_last = last_of-push has.seen name;
        count = length-append has.seen (name ∷ []) ∙ ap (λ (n : ℕ). n + 1) has.count;
      },
      refl,
    )

-- no name is left
pub walk_end : (tree : Volume) (number : ℕ) (last : Option Name) (has : HasWalked tree number last) → IsNext tree last None → keys tree ≡ has.seen
walk_end tree number last has next =
    has.all ∙ ap (λ (l : List Name). has.seen ++ l) (next_key tree has.seen has.rest None has.all (subst (λ (l : Option Name). IsNext tree l None) (sym has.at_last) next)) ∙ append-nil has.seen

-- the names that were seen are no more than all
pub seen_le : (tree : Volume) (number : ℕ) (last : Option Name) → HasWalked tree number last → number ≤ length (keys tree)
seen_le tree number last has = let all = ap length has.all in let parts = length-append has.seen has.rest in let count = has.count in omega (arith, all, parts, count)
