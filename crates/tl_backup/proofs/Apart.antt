-- Backups of which no two are one, and their paths.
use Rattle.std.proofs.Common.{◌≡◌, ◌≢◌, ℕ, ◌-◌, ◌==◌, not, zero, suc, Bool, true, false, cond, List, [], ◌∷◌, ◌++◌, length, map, take, Some, refl, sym, ap, subst, ◌∙◌}
use Rattle.std.specs.Prelude.{filter}
use Rattle.std.specs.List.{flat_map, AllByRecursion, IsDistinct}
use Rattle.std.specs.Ordering.{is_lt}
use Rattle.std.specs.Str.{bytes_eq}
use Rattle.std.specs.declared.cmp.Ordering.{Ordering}
use Rattle.std.proofs.lemmas.Bool.{and_parts, true≢false, eq-eqb}
use Rattle.std.proofs.lemmas.Slice.Eq.{bytes_eq-Decides}
use Rattle.tl_model.specs.Volume.{Name, same_name, same_name-refl, same_name-apart}
use Rattle.tl_backup.specs.Form.{installed}
use Rattle.tl_backup.specs.Files.{backup_at, backup_cmp, is_other, pruned_from}
use Rattle.tl_backup.specs.Ordered.{put_in, in_order, AreDifferent}
use Rattle.tl_backup.specs.declared.names.Backup.{Backup}
use Rattle.tl_backup.proofs.PathLaws.{apart_paths}

-- ---- lists

module _ {X : Type 0} where
  pub all_append : (P : X → Type 0) (xs ys : List X) → AllByRecursion P xs → AllByRecursion P ys → AllByRecursion P (xs ++ ys)
  all_append P [] ys far near = near
  all_append P (x ∷ xs) ys far near = (far.0, all_append P xs ys far.1 near)

  pub all_weaker : (P Q : X → Type 0) → ((x : X) → P x → Q x) → (xs : List X) → AllByRecursion P xs → AllByRecursion Q xs
  all_weaker P Q goes [] all = tt
  all_weaker P Q goes (x ∷ xs) all = (goes x all.0, all_weaker P Q goes xs all.1)

  all_filter : (P : X → Type 0) (test : X → Bool) (xs : List X) → AllByRecursion P xs → AllByRecursion P (filter test xs)
  all_filter P test [] all = tt
  all_filter P test (x ∷ xs) all = by (test x) (all_filter P test xs all.1)
    where
      by : (b : Bool) → AllByRecursion P (filter test xs) → AllByRecursion P (cond b (x ∷ filter test xs) (filter test xs))
      by true rest = (all.0, rest)
      by false rest = rest

  all_take : (P : X → Type 0) (n : ℕ) (xs : List X) → AllByRecursion P xs → AllByRecursion P (take n xs)
  all_take P zero xs all = tt
  all_take P (suc n) [] all = tt
  all_take P (suc n) (x ∷ xs) all = (all.0, all_take P n xs all.1)

  all_put_in : (P : X → Type 0) (cmp : X → X → Ordering) (x : X) (ys : List X) → P x → AllByRecursion P ys → AllByRecursion P (put_in cmp x ys)
  all_put_in P cmp x [] is all = (is, tt)
  all_put_in P cmp x (y ∷ ys) is all = by (is_lt (cmp y x)) (all_put_in P cmp x ys is all.1)
    where
      by : (b : Bool) → AllByRecursion P (put_in cmp x ys) → AllByRecursion P (cond b (y ∷ put_in cmp x ys) (x ∷ y ∷ ys))
      by true rest = (all.0, rest)
      by false rest = (is, all)

  all_in_order : (P : X → Type 0) (cmp : X → X → Ordering) (xs : List X) → AllByRecursion P xs → AllByRecursion P (in_order cmp xs)
  all_in_order P cmp [] all = tt
  all_in_order P cmp (x ∷ xs) all = all_put_in P cmp x (in_order cmp xs) all.0 (all_in_order P cmp xs all.1)

  pub apart-append : (xs ys : List X) → AreDifferent xs → AreDifferent ys → AllByRecursion (λ x. AllByRecursion (λ y. x ≢ y) ys) xs → AreDifferent (xs ++ ys)
  apart-append [] ys far near cross = near
  apart-append (x ∷ xs) ys far near cross = (all_append (λ y. x ≢ y) xs ys far.0 cross.0, apart-append xs ys far.1 near cross.1)

  pub apart-filter : (test : X → Bool) (xs : List X) → AreDifferent xs → AreDifferent (filter test xs)
  apart-filter test [] apart = tt
  apart-filter test (x ∷ xs) apart = by (test x) (apart-filter test xs apart.1)
    where
      by : (b : Bool) → AreDifferent (filter test xs) → AreDifferent (cond b (x ∷ filter test xs) (filter test xs))
      by true rest = (all_filter (λ y. x ≢ y) test xs apart.0, rest)
      by false rest = rest

  pub apart-take : (n : ℕ) (xs : List X) → AreDifferent xs → AreDifferent (take n xs)
  apart-take zero xs apart = tt
  apart-take (suc n) [] apart = tt
  apart-take (suc n) (x ∷ xs) apart = (all_take (λ y. x ≢ y) n xs apart.0, apart-take n xs apart.1)

  apart-put_in : (cmp : X → X → Ordering) (x : X) (ys : List X) → AllByRecursion (λ y. x ≢ y) ys → AreDifferent ys → AreDifferent (put_in cmp x ys)
  apart-put_in cmp x [] none apart = (tt, tt)
  apart-put_in cmp x (y ∷ ys) none apart = by (is_lt (cmp y x)) (apart-put_in cmp x ys none.1 apart.1)
    where
      by : (b : Bool) → AreDifferent (put_in cmp x ys) → AreDifferent (cond b (y ∷ put_in cmp x ys) (x ∷ y ∷ ys))
      by true rest = (all_put_in (λ z. y ≢ z) cmp x ys (λ e. none.0 (sym e)) apart.0, rest)
      by false rest = (none, apart)

  pub apart-in_order : (cmp : X → X → Ordering) (xs : List X) → AreDifferent xs → AreDifferent (in_order cmp xs)
  apart-in_order cmp [] apart = tt
  apart-in_order cmp (x ∷ xs) apart = apart-put_in cmp x (in_order cmp xs) (all_in_order (λ y. x ≢ y) cmp xs apart.0) (apart-in_order cmp xs apart.1)

-- ---- paths

module _ {A : Type 0} where
  heads : (x y : A) (xs ys : List A) → x ∷ xs ≡ y ∷ ys → (x ≡ y) × (xs ≡ ys)
  heads x y xs ys is = (cc, cc)

none_same : (path : Name) (backup : Backup) (paths : List Name) (backups : List Backup) → backup_at path ≡ Some backup → map backup_at paths ≡ map (λ (b : Backup). Some b) backups
    → AllByRecursion (λ b. backup ≢ b) backups → AllByRecursion (λ p. same_name path p ≡ false) paths
none_same path backup [] backups at are apart = tt
none_same path backup (p ∷ paths) [] at are apart = absurd (cc)
none_same path backup (p ∷ paths) (b ∷ backups) at are apart =
    let both = heads (backup_at p) (Some b) (map backup_at paths) (map (λ (b : Backup). Some b) backups) are in
    (same_name-apart path p (λ e. apart_paths path p backup b at both.0 apart.0 e), none_same path backup paths backups at both.1 apart.1)

-- the paths of backups of which no two are one
pub paths_apart : (paths : List Name) (backups : List Backup) → map backup_at paths ≡ map (λ (b : Backup). Some b) backups → AreDifferent backups → IsDistinct same_name paths
unfolding IsDistinct
paths_apart [] backups are apart = tt
paths_apart (p ∷ paths) [] are apart = absurd (cc)
paths_apart (p ∷ paths) (b ∷ backups) are apart =
    let both = heads (backup_at p) (Some b) (map backup_at paths) (map (λ (b : Backup). Some b) backups) are in
    (none_same p b paths backups both.0 both.1 apart.0, paths_apart paths backups both.1 apart.1)

-- ---- what goes for a package

-- a backup is one of a package at another revision
abbrev IsOther : Name → ℕ → Backup → Type 0
IsOther name coming backup = (backup.name ≡ name) × (backup.revision ≢ coming)

not_true : (b : Bool) → not b ≡ true → b ≡ true → ⊥
not_true true none is = true≢false (sym none)
not_true false none is = true≢false (sym is)

other : (name : Name) (coming : ℕ) (backup : Backup) → is_other name coming backup ≡ true → IsOther name coming backup
other name coming backup is =
    let both = and_parts (bytes_eq backup.name name) (not (backup.revision == coming)) is in
    ((bytes_eq-Decides backup.name name).0 both.0, λ e. not_true (backup.revision == coming) both.1 (eq-eqb _ _ e))

others : (name : Name) (coming : ℕ) (backups : List Backup) → AllByRecursion (IsOther name coming) (filter (is_other name coming) backups)
others name coming [] = tt
others name coming (b ∷ backups) = by (is_other name coming b) refl (others name coming backups)
  where
    by : (t : Bool) → is_other name coming b ≡ t → AllByRecursion (IsOther name coming) (filter (is_other name coming) backups)
        → AllByRecursion (IsOther name coming) (cond t (b ∷ filter (is_other name coming) backups) (filter (is_other name coming) backups))
    by true is rest = (other name coming b is, rest)
    by false is rest = rest

gone-others : (name : Name) (coming keep : ℕ) (backups : List Backup) → AllByRecursion (IsOther name coming) (pruned_from name coming keep backups)
gone-others name coming keep backups =
    let found = filter (is_other name coming) backups in
    let ordered = in_order backup_cmp found in
    all_take (IsOther name coming) (length ordered - (keep - 1)) ordered (all_in_order (IsOther name coming) backup_cmp found (others name coming backups))

gone-apart : (name : Name) (coming keep : ℕ) (backups : List Backup) → AreDifferent backups → AreDifferent (pruned_from name coming keep backups)
gone-apart name coming keep backups apart =
    let found = filter (is_other name coming) backups in
    let ordered = in_order backup_cmp found in
    apart-take (length ordered - (keep - 1)) ordered (apart-in_order backup_cmp found (apart-filter (is_other name coming) backups apart))

-- ---- packages, each with its revision

module _ (revision : Name → ℕ) (keep : ℕ) (backups : List Backup) where
  abbrev gone : Name → List Backup
  gone name = pruned_from name (revision name) keep backups

  differ : (a b : Name) → same_name a b ≡ false → a ≢ b
  differ a b apart is = true≢false (sym (same_name_back a b is) ∙ apart)
    where
      same_name_back : (a b : Name) → a ≡ b → same_name a b ≡ true
      same_name_back a b is = subst (λ (n : Name). same_name a n ≡ true) is (same_name-refl a)

  differ_all : (name : Name) (names : List Name) → AllByRecursion (λ n. same_name name n ≡ false) names → AllByRecursion (λ b. installed revision name ≢ b) (map (installed revision) names)
  differ_all name [] all = tt
  differ_all name (n ∷ names) all = ((λ e. differ name n all.0 (ap (λ (b : Backup). b.name) e)), differ_all name names all.1)

  installed-apart : (names : List Name) → IsDistinct same_name names → AreDifferent (map (installed revision) names)
  unfolding IsDistinct
  installed-apart [] once = tt
  installed-apart (n ∷ names) once = (differ_all n names once.0, installed-apart names once.1)

  -- what goes for some packages has another revision than the package, and the name of one of them
  gone_old : (names : List Name) → AllByRecursion (λ (b : Backup). b.revision ≢ revision b.name) (flat_map gone names)
  gone_old [] = tt
  gone_old (n ∷ names) = all_append _ (gone n) (flat_map gone names)
      (all_weaker (IsOther n (revision n)) (λ (b : Backup). b.revision ≢ revision b.name) (λ b is e. is.1 (e ∙ ap revision is.0)) (gone n) (gone-others n (revision n) keep backups)) (gone_old names)

  gone_named : (name : Name) (names : List Name) → AllByRecursion (λ n. same_name name n ≡ false) names → AllByRecursion (λ (b : Backup). name ≢ b.name) (flat_map gone names)
  gone_named name [] all = tt
  gone_named name (n ∷ names) all = all_append _ (gone n) (flat_map gone names)
      (all_weaker (IsOther n (revision n)) (λ (b : Backup). name ≢ b.name) (λ b is e. differ name n all.0 (e ∙ is.0)) (gone n) (gone-others n (revision n) keep backups)) (gone_named name names all.1)

  gone-all_apart : (names : List Name) → IsDistinct same_name names → AreDifferent backups → AreDifferent (flat_map gone names)
  unfolding IsDistinct
  gone-all_apart [] once apart = tt
  gone-all_apart (n ∷ names) once apart = apart-append (gone n) (flat_map gone names) (gone-apart n (revision n) keep backups apart) (gone-all_apart names once.1 apart)
      (all_weaker (IsOther n (revision n)) (λ x. AllByRecursion (λ y. x ≢ y) (flat_map gone names))
      (λ x is. all_weaker (λ (b : Backup). n ≢ b.name) (λ y. x ≢ y) (λ y other e. other (sym is.0 ∙ ap (λ (b : Backup). b.name) e)) (flat_map gone names) (gone_named n names once.0))
      (gone n) (gone-others n (revision n) keep backups))

  cross : (names : List Name) (others : List Backup) → AllByRecursion (λ (b : Backup). b.revision ≢ revision b.name) others → AllByRecursion (λ x. AllByRecursion (λ y. x ≢ y) others) (map (installed revision) names)
  cross [] others all = tt
  cross (n ∷ names) others all =
      (all_weaker (λ (b : Backup). b.revision ≢ revision b.name) (λ y. installed revision n ≢ y) (λ y old e. old (sym (ap (λ (b : Backup). b.revision) e) ∙ ap (λ (b : Backup). revision b.name) e)) others all, cross names others all)

  -- the backups that come for some packages, and those that go, where no two of the tree's are one
  pub added_apart : (names : List Name) → IsDistinct same_name names → AreDifferent backups → AreDifferent (map (installed revision) names ++ flat_map gone names)
  added_apart names once apart = apart-append (map (installed revision) names) (flat_map gone names) (installed-apart names once) (gone-all_apart names once apart) (cross names (flat_map gone names) (gone_old names))

  pub written_apart : (names : List Name) → IsDistinct same_name names → AreDifferent (map (installed revision) names)
  written_apart names once = installed-apart names once
