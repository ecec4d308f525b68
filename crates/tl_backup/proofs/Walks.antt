-- A walk over the names of a tree.
use Rattle.std.proofs.Common.{◌≡◌, ◌<◌, ◌≤◌, ◌+◌, ◌⊎◌, ℕ, Bool, true, false, cond, List, [], ◌∷◌, ◌++◌, length, Option, Some, None, Result, Ok, Err, refl, sym, ap, subst, ◌∙◌, arith, inl, inr}
use Rattle.std.specs.Prelude.{filter, nat_lt}
use Rattle.std.specs.List.{AllByRecursion, cons_option, filter_map}
use Rattle.std.specs.Ordering.{is_eq}
use Rattle.std.specs.Cmp.Lexicographic.{nat_list_cmp_total}
use Rattle.std.specs.FinMap.{keys}
use Rattle.std.proofs.lemmas.Bool.{cases_Bool, true≢false, lt-ltb, ltb-true}
use Rattle.std.proofs.lemmas.List.{append-nil, append_assoc, length-append}
use Rattle.std.proofs.lemmas.List.Elements.{filter-append, filter_map-append}
use Rattle.tl_model.specs.Volume.{Name, Volume, IsAfter, IsBefore, IsNext, same_name-refl}
use Rattle.tl_kind.specs.declared.quantity.What.TheVariants.{Files}
use Rattle.tl_backup.specs.Files.{backup_at, backup_cmp, backup_path}
use Rattle.tl_backup.specs.Listed.{is_wanted, backups_at, within_files, listed}
use Rattle.tl_backup.specs.Ordered.{AreDifferent, in_order}
use Rattle.tl_backup.specs.declared.names.Backup.{Backup}
use Rattle.tl_backup.specs.declared.error.BackupError.{BackupError}
use Rattle.tl_backup.specs.declared.error.BackupError.TheVariants.{TooLarge}
use Rattle.tl_backup.proofs.Apart.{all_append, all_weaker, apart-append}
use Rattle.tl_backup.proofs.Keys.{last_of, next_key}
use Rattle.tl_backup.proofs.PathLaws.{path-at}

-- so many names of a tree were seen, up to the last
pub record HasSeen (tree : Volume) (number : ℕ) (last : Option Name) : Type 0 where
  pub seen : List Name
  pub rest : List Name
  pub all : keys tree ≡ seen ++ rest
  pub at_last : last_of seen ≡ last
  pub count : length seen ≡ number

last_of-push : (seen : List Name) (name : Name) → last_of (seen ++ name ∷ []) ≡ Some name
last_of-push [] name = refl
last_of-push (s ∷ []) name = refl
last_of-push (s ∷ t ∷ seen) name = last_of-push (t ∷ seen) name

split_one : (seen rest more : List Name) (name : Name) → rest ≡ name ∷ more → seen ++ rest ≡ (seen ++ name ∷ []) ++ more
split_one seen rest more name is = ap (λ (l : List Name). seen ++ l) is ∙ sym (append_assoc seen (name ∷ []) more)

-- the next name is seen
pub walk_step : (tree : Volume) (number : ℕ) (last : Option Name) (name : Name) (has : HasSeen tree number last) → IsNext tree last (Some name)
    → (next : HasSeen tree (number + 1) (Some name)) × (next.seen ≡ has.seen ++ name ∷ [])
walk_step tree number last name has next =
    let found = next_key tree has.seen has.rest (Some name) has.all (subst (λ (l : Option Name). IsNext tree l (Some name)) (sym has.at_last) next) in (
      record {
        seen = has.seen ++ name ∷ [];
        rest = found.0;
        all = has.all ∙ split_one has.seen has.rest found.0 name found.1;
        at_last = last_of-push has.seen name;
        count = length-append has.seen (name ∷ []) ∙ ap (λ (n : ℕ). n + 1) has.count;
      },
      refl,
    )

-- no name is left
pub walk_end : (tree : Volume) (number : ℕ) (last : Option Name) (has : HasSeen tree number last) → IsNext tree last None → keys tree ≡ has.seen
walk_end tree number last has next =
    has.all ∙ ap (λ (l : List Name). has.seen ++ l) (next_key tree has.seen has.rest None has.all (subst (λ (l : Option Name). IsNext tree l None) (sym has.at_last) next)) ∙ append-nil has.seen

-- no more names than the limit, and one more
pub few_files : {X : Type 0} (tree : Volume) (answer : Result X BackupError) → length (keys tree) ≤ 1048576 → within_files tree answer ≡ answer
few_files tree answer few = elim (cases_Bool (nat_lt 1048576 (length (keys tree)))) [
  | inl past ↦ absurd (let less = ltb-true 1048576 (length (keys tree)) past in omega (arith, less, few))
  | inr short ↦ ap (λ b. cond b (Err (TooLarge Files 1048576)) answer) short
]

pub many_names : {X : Type 0} (tree : Volume) (answer : Result X BackupError) → 1048576 < length (keys tree) → within_files tree answer ≡ Err (TooLarge Files 1048576)
many_names tree answer many = ap (λ b. cond b (Err (TooLarge Files 1048576)) answer) (lt-ltb 1048576 (length (keys tree)) many)

-- the names that were seen are no more than all
pub seen_le : (tree : Volume) (number : ℕ) (last : Option Name) → HasSeen tree number last → number ≤ length (keys tree)
seen_le tree number last has = let all = ap length has.all in let parts = length-append has.seen has.rest in let count = has.count in omega (arith, all, parts, count)

-- the backups among the names that were seen
pub record HasListed (name : Option Name) (tree : Volume) (number : ℕ) (last : Option Name) (found : List Backup) : Type 0 where
  pub walk : HasSeen tree number last
  pub found_all : found ≡ backups_at name walk.seen

backups-append : (name : Option Name) (xs ys : List Name) → backups_at name (xs ++ ys) ≡ backups_at name xs ++ backups_at name ys
backups-append name xs ys = ap (filter (is_wanted name)) (filter_map-append backup_at xs ys) ∙ filter-append (is_wanted name) (filter_map backup_at xs) (filter_map backup_at ys)

pub list_start : (name : Option Name) (tree : Volume) → HasListed name tree 0 None []
list_start name tree = record { walk = record { seen = []; rest = keys tree; all = refl; at_last = refl; count = refl }; found_all = refl }

pub list_step : (name : Option Name) (tree : Volume) (number : ℕ) (last : Option Name) (found more : List Backup) (path : Name) → HasListed name tree number last found → IsNext tree last (Some path)
    → more ≡ found ++ backups_at name (path ∷ []) → HasListed name tree (number + 1) (Some path) more
list_step name tree number last found more path has next pushed =
    let stepped = walk_step tree number last path has.walk next in record {
      walk = stepped.0;
      found_all = pushed ∙ ap (λ (l : List Backup). l ++ backups_at name (path ∷ [])) has.found_all ∙ sym (backups-append name has.walk.seen (path ∷ [])) ∙ ap (backups_at name) (sym stepped.1);
    }

pub list_end : (name : Option Name) (tree : Volume) (number : ℕ) (last : Option Name) (found : List Backup) → HasListed name tree number last found → number ≤ 1048576 → IsNext tree last None
    → listed name tree ≡ Ok (in_order backup_cmp found)
list_end name tree number last found has few next =
    let all = walk_end tree number last has.walk next in
    let count : length (keys tree) ≡ number = ap length all ∙ has.walk.count in
    few_files tree _ (omega (arith, count, few)) ∙ ap (λ (l : List Name). Ok (in_order backup_cmp (backups_at name l))) all ∙ ap (λ (l : List Backup). Ok (in_order backup_cmp l)) (sym has.found_all)

-- ---- backups that were listed are at different paths

-- a name is the last one, or before it
abbrev IsUpTo : Option Name → Name → Type 0
IsUpTo None name = ⊥
IsUpTo (Some last) name = (name ≡ last) ⊎ IsBefore name last

-- no two backups are one, and the path of none is behind the last name
pub record HasRisen (last : Option Name) (found : List Backup) : Type 0 where
  pub apart : AreDifferent found
  pub within : AllByRecursion (λ (b : Backup). IsUpTo last (backup_path b.name b.revision)) found

pub risen_start : HasRisen None []
risen_start = record { apart = tt; within = tt }

up_to : (last : Option Name) (path name : Name) → IsAfter last path → IsUpTo last name → IsBefore name path
up_to None path name after within = absurd within
up_to (Some last) path name after (inl same) = subst (λ (n : Name). IsBefore n path) (sym same) after
up_to (Some last) path name after (inr before) = nat_list_cmp_total.trans name last path before after

not_itself : (name : Name) → IsBefore name name → ⊥
not_itself name before = true≢false (sym (same_name-refl name) ∙ ap is_eq before)

module _ (name last : Option Name) (found : List Backup) (path : Name) (has : HasRisen last found) (after : IsAfter last path) where
  before : AllByRecursion (λ (b : Backup). IsBefore (backup_path b.name b.revision) path) found
  before = all_weaker _ _ (λ (b : Backup) within. up_to last path (backup_path b.name b.revision) after within) found has.within

  grown : HasRisen (Some path) found
  grown = record { apart = has.apart; within = all_weaker _ _ (λ (b : Backup) is. inr is) found before }

  pushed : (backup : Backup) → backup_at path ≡ Some backup → HasRisen (Some path) (found ++ backup ∷ [])
  pushed backup is =
      let at : backup_path backup.name backup.revision ≡ path = sym (path-at path backup is) in record {
        apart = apart-append found (backup ∷ []) has.apart (tt, tt)
            (all_weaker _ _ (λ (b : Backup) earlier. ((λ same. not_itself path (subst (λ (n : Name). IsBefore n path) (ap (λ (o : Backup). backup_path o.name o.revision) same ∙ at) earlier)), tt)) found before);
        within = all_append _ found (backup ∷ []) grown.within (inl at, tt);
      }

  by_test : (backup : Backup) → backup_at path ≡ Some backup → (wanted : Bool) → HasRisen (Some path) (found ++ cond wanted (backup ∷ []) [])
  by_test backup is true = pushed backup is
  by_test backup is false = subst (HasRisen (Some path)) (sym (append-nil found)) grown

  by_path : (backup : Option Backup) → backup_at path ≡ backup → HasRisen (Some path) (found ++ filter (is_wanted name) (cons_option backup []))
  by_path None is = subst (HasRisen (Some path)) (sym (append-nil found)) grown
  by_path (Some backup) is = by_test backup is (is_wanted name backup)

  -- the next name is seen
  pub risen_step : (more : List Backup) → more ≡ found ++ backups_at name (path ∷ []) → HasRisen (Some path) more
  risen_step more is = subst (HasRisen (Some path)) (sym is) (by_path (backup_at path) refl)
