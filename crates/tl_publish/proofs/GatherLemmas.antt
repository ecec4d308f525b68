-- What a walk gathers, name by name.
use Rattle.std.proofs.Common.{◌≡◌, ◌<◌, ◌≤◌, ◌+◌, ℕ, Bool, true, false, cond, List, [], ◌∷◌, ◌++◌, length, Option, Some, None, refl, sym, ap, subst, ◌∙◌, arith}
use Rattle.std.specs.Prelude.{filter}
use Rattle.std.specs.Option.{option_or}
use Rattle.std.specs.List.{AllByRecursion}
use Rattle.std.specs.FinMap.{keys}
use Rattle.std.specs.Cmp.Lexicographic.{nat_list_cmp_total}
use Rattle.std.proofs.lemmas.List.{append-nil}
use Rattle.std.proofs.lemmas.List.Elements.{filter-append}
use Rattle.std.proofs.lemmas.List.Folds.{find-append}
use Rattle.tl_model.specs.Volume.{Name, Volume, IsBefore, IsAfter, IsNext}
use Rattle.tl_path.specs.Path.{IsPath}
use Rattle.tl_path.specs.Components.{is_below}
use Rattle.tl_lsr.specs.Lists.{list_path}
use Rattle.tl_backup.proofs.Walks.{HasSeen, walk_step, walk_end, seen_le}
use Rattle.tl_publish.specs.Listable.{is_inside, occupant, AreInside}
use Rattle.tl_publish.specs.Walk.{Gathering, gathering_of, IsGathered, HasManyNames}
use Rattle.tl_publish.proofs.InsideLemmas.{inside_none, inside_push}

-- so many names of a tree were seen, up to the last, and gathered
pub record HasGathered (tree : Volume) (number : ℕ) (last : Option Name) (gathering : Gathering) : Type 0 where
  pub walk : HasSeen tree number last
  pub all : gathering ≡ gathering_of walk.seen

same_gathering : (a b : Gathering) → a.inside ≡ b.inside → a.occupant ≡ b.occupant → a ≡ b
same_gathering a b names first = λ i. record { inside = names i; occupant = first i }

pub gather_start : (tree : Volume) (gathering : Gathering) → gathering ≡ gathering_of [] → HasGathered tree 0 None gathering
gather_start tree gathering is = record { walk = record { seen = []; rest = keys tree; all = refl; at_last = refl; count = refl }; all = is }

pub gather_step : (tree : Volume) (number : ℕ) (last : Option Name) (old new : Gathering) (path : Name) → HasGathered tree number last old → IsNext tree last (Some path)
    → new.inside ≡ old.inside ++ filter is_inside (path ∷ []) → new.occupant ≡ option_or old.occupant (occupant (path ∷ [])) → HasGathered tree (number + 1) (Some path) new
gather_step tree number last old new path has next inside first =
    let stepped = walk_step tree number last path has.walk next in
    record {
      walk = stepped.0;
      all = same_gathering new (gathering_of stepped.0.seen)
          (inside ∙ ap (λ (g : Gathering). g.inside ++ filter is_inside (path ∷ [])) has.all ∙ sym (filter-append is_inside has.walk.seen (path ∷ [])) ∙ ap (filter is_inside) (sym stepped.1))
          (first ∙ ap (λ (g : Gathering). option_or g.occupant (occupant (path ∷ []))) has.all ∙ sym (find-append (λ (name : Name). is_below name list_path) has.walk.seen (path ∷ [])) ∙ ap occupant (sym stepped.1));
    }

-- no name is left
pub gather_end : (tree : Volume) (number : ℕ) (last : Option Name) (gathering : Gathering) → HasGathered tree number last gathering → number ≤ 1048576 → IsNext tree last None → IsGathered tree gathering
gather_end tree number last gathering has few next =
    let all = walk_end tree number last has.walk next in
    let count = has.walk.count in
    let same = ap length all in
    (omega (arith, few, count, same), has.all ∙ ap gathering_of (sym all))

-- more names were seen than the limit
pub gather_many : (tree : Volume) (number : ℕ) (last : Option Name) (gathering : Gathering) → HasGathered tree number last gathering → 1048576 < number → HasManyNames tree
gather_many tree number last gathering has many = let all = seen_le tree number last has.walk in omega (arith, all, many)

-- names inside, of which none comes behind the last one seen
pub record AreUpTo (last : Option Name) (names : List Name) : Type 0 where
  pub are : AreInside names
  pub upto : (name : Name) → IsAfter last name → AllByRecursion (λ n. IsBefore n name) names

pub upto_start : (names : List Name) → names ≡ [] → AreUpTo None names
upto_start names is = subst (λ (l : List Name). AreUpTo None l) (sym is) (record { are = inside_none; upto = λ name after. tt })

all_later : (names : List Name) (path name : Name) → AllByRecursion (λ n. IsBefore n path) names → IsBefore path name → AllByRecursion (λ n. IsBefore n name) names
all_later [] path name all after = tt
all_later (n ∷ names) path name all after = (nat_list_cmp_total.trans n path name all.0 after, all_later names path name all.1 after)

all_with : (names : List Name) (path name : Name) → AllByRecursion (λ n. IsBefore n name) names → IsBefore path name → AllByRecursion (λ n. IsBefore n name) (names ++ path ∷ [])
all_with [] path name all here = (here, tt)
all_with (n ∷ names) path name all here = (all.0, all_with names path name all.1 here)

-- one name more is seen
pub upto_step : (last : Option Name) (names more : List Name) (path : Name) → IsPath path → IsAfter last path → more ≡ names ++ filter is_inside (path ∷ []) → AreUpTo last names → AreUpTo (Some path) more
upto_step last names more path form after grown up = by (is_inside path) refl grown
  where
    by : (b : Bool) → is_inside path ≡ b → more ≡ names ++ cond b (path ∷ []) [] → AreUpTo (Some path) more
    by true is grown' = subst (λ (l : List Name). AreUpTo (Some path) l) (sym grown') (record {
      are = inside_push names path form is (up.upto path after) up.are;
      upto = λ name later. all_with names path name (all_later names path name (up.upto path after) later) later;
    })
    by false is grown' = subst (λ (l : List Name). AreUpTo (Some path) l) (sym (grown' ∙ append-nil names)) (record {
      are = up.are;
      upto = λ name later. all_later names path name (up.upto path after) later;
    })
