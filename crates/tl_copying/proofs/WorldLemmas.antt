-- What a changing repository holds at each moment.
use Rattle.std.proofs.Common.{◌≡◌, ◌≢◌, ◌⊎◌, ℕ, Bool, true, false, cond, ◌||◌, List, [], ◌∷◌, ◌++◌, Option, Some, None, refl, sym, ◌∙◌, ap, subst, inl, inr}
use Rattle.std.specs.Prelude.{not, map, filter, unwrap_or, is_some}
use Rattle.std.specs.List.{AllByRecursion, list_any}
use Rattle.std.specs.Cmp.Lexicographic.{slice_cmp}
use Rattle.std.specs.Ordering.{nat_cmp}
use Rattle.std.specs.FinMap as finite
use Rattle.std.proofs.lemmas.Bool.{cases_Bool, true≢false}
use Rattle.tl_model.specs.Volume.{Name, Volume, at, same_name, same_name-refl, same_name-apart, cases_name, at-insert_here, at-insert_apart, at-remove_apart}
use Rattle.tl_repo.specs.Files.{database_name, digest_name}
use Rattle.tl_copying.specs.Worlds.{Alteration, Erase, Hold, World, Happening, Begin, Change, Read, first_world, world_by, world_after, AreFitting, IsBox, IsFitting, IsPublication, altered, beginning, changes_of, altering, early_changes, holding, is_box, is_outdated, newest}

-- ---- names

pub box_is : (name : Name) → is_box name ≡ true → IsBox name
box_is name is = (λ e. true≢false (sym is ∙ ap is_box e), λ e. true≢false (sym is ∙ ap is_box e))

pub is_box-of : (name : Name) → IsBox name → is_box name ≡ true
is_box-of name box =
    ap (λ (b : Bool). not (b || same_name name digest_name)) (same_name-apart name database_name box.0) ∙ ap (λ (b : Bool). not b) (same_name-apart name digest_name box.1)

database_apart : database_name ≢ digest_name
database_apart e = true≢false (sym (ap (λ (n : Name). same_name n digest_name) e ∙ same_name-refl digest_name))

some_none : (v : Volume) (name other : Name) (bytes : List ℕ) → at v name ≡ Some bytes → at v other ≡ None → name ≢ other
some_none v name other bytes some none e = let same : Some bytes ≡ None = sym some ∙ ap (λ (n : Name). at v n) e ∙ none in absurd (cc)

some_is : (a b : List ℕ) → Some a ≡ Some b → a ≡ b
some_is a b is = cc

-- ---- what a repository holds

-- each container of a publication is there
abbrev pub HoldsBoxes : Volume → Volume → Type 0
HoldsBoxes shelf p = (name : Name) (bytes : List ℕ) → IsBox name → at p name ≡ Some bytes → at shelf name ≡ Some bytes

-- whether a change brings a name
abbrev pub brings : Name → Alteration → Bool
brings name (Erase other) = false
brings name (Hold other bytes) = same_name name other

-- a change in front of a publication's database
abbrev pub IsEarly : Volume → Volume → Alteration → Type 0
IsEarly p before (Erase name) = (at p name ≡ None) × (at before name ≡ None)
IsEarly p before (Hold name bytes) = (at p name ≡ Some bytes) × IsBox name

-- changes in front of a publication's database are still to be made: each of its containers is there or comes
pub record AreComing (p before shelf : Volume) (changes : List Alteration) : Type 0 where
  pub early : AllByRecursion (IsEarly p before) changes
  pub soon : (name : Name) (bytes : List ℕ) → IsBox name → at p name ≡ Some bytes → (at shelf name ≡ Some bytes) ⊎ (list_any (brings name) changes ≡ true)

pub record IsBegun (p before shelf : Volume) (pending : List Alteration) : Type 0 where
  pub changes : List Alteration
  pub left : pending ≡ changes ++ holding p database_name ∷ holding p digest_name ∷ []
  pub coming : AreComing p before shelf changes
  pub database : at shelf database_name ≡ at before database_name
  pub digest : at shelf digest_name ≡ at before digest_name

pub record IsLate (p before shelf : Volume) (pending : List Alteration) : Type 0 where
  pub left : pending ≡ holding p digest_name ∷ []
  pub boxes : HoldsBoxes shelf p
  pub database : at shelf database_name ≡ at p database_name
  pub digest : at shelf digest_name ≡ at before digest_name

pub record IsIdle (p shelf : Volume) (pending : List Alteration) : Type 0 where
  pub left : pending ≡ []
  pub boxes : HoldsBoxes shelf p
  pub database : at shelf database_name ≡ at p database_name
  pub digest : at shelf digest_name ≡ at p digest_name

-- what a repository of publications holds while changes are pending: the containers of the one before the newest, and of the newest as far
-- as it has come
abbrev pub Stands : List Volume → Volume → List Alteration → Type 0
Stands [] shelf pending = (pending ≡ []) × ((name : Name) → at shelf name ≡ None)
Stands (p ∷ others) shelf pending = HoldsBoxes shelf (newest others) × (IsBegun p (newest others) shelf pending ⊎ (IsLate p (newest others) shelf pending ⊎ IsIdle p shelf pending))

at-empty : (name : Name) → at finite.empty name ≡ None
at-empty name = finite.get-empty (slice_cmp nat_cmp) name

pub fits_before : (p : Volume) (others : List Volume) → AllByRecursion (IsFitting p) others → IsFitting p (newest others)
fits_before p [] all = λ name a b box is other. (let none : Some b ≡ None = sym other ∙ at-empty name in absurd (cc))
fits_before p (q ∷ others) all = all.0

-- ---- a change in front of the database

module _ (p before shelf : Volume) (is : IsPublication p) (kept : HoldsBoxes shelf before) where
  module _ (erased : Name) (changes : List Alteration) (coming : AreComing p before shelf (Erase erased ∷ changes)) where
    erased_kept : HoldsBoxes (finite.remove shelf erased) before
    erased_kept name bytes box held = at-remove_apart shelf erased name (some_none before name erased bytes held coming.early.0.1) ∙ kept name bytes box held

    erased_coming : AreComing p before (finite.remove shelf erased) changes
    erased_coming = record {
      early = coming.early.1;
      soon = λ name bytes box held. elim (coming.soon name bytes box held) [
        | inl here ↦ inl (at-remove_apart shelf erased name (some_none p name erased bytes held coming.early.0.0) ∙ here)
        | inr later ↦ inr later
      ];
    }

    erased_database : at (finite.remove shelf erased) database_name ≡ at shelf database_name
    erased_database = at-remove_apart shelf erased database_name (some_none p database_name erased is.database is.has_database coming.early.0.0)

    erased_digest : at (finite.remove shelf erased) digest_name ≡ at shelf digest_name
    erased_digest = at-remove_apart shelf erased digest_name (some_none p digest_name erased _ is.has_digest coming.early.0.0)

  module _ (suits : IsFitting p before) (brought : Name) (content : List ℕ) (changes : List Alteration) (coming : AreComing p before shelf (Hold brought content ∷ changes)) where
    brought_held : (name : Name) (bytes : List ℕ) → at p name ≡ Some bytes → name ≡ brought → at (finite.insert shelf brought content) name ≡ Some bytes
    brought_held name bytes held same =
        ap (λ (n : Name). at (finite.insert shelf brought content) n) same ∙ at-insert_here shelf brought content
        ∙ ap (λ (l : List ℕ). Some l) (some_is content bytes (sym coming.early.0.0 ∙ ap (λ (n : Name). at p n) (sym same) ∙ held))

    brought_kept : HoldsBoxes (finite.insert shelf brought content) before
    brought_kept name bytes box held = elim (cases_name name brought) [
      | inl same ↦ ap (λ (n : Name). at (finite.insert shelf brought content) n) same ∙ at-insert_here shelf brought content
          ∙ ap (λ (l : List ℕ). Some l) (suits name content bytes box (ap (λ (n : Name). at p n) same ∙ coming.early.0.0) held)
      | inr apart ↦ at-insert_apart shelf brought content name apart ∙ kept name bytes box held
    ]

    brought_coming : AreComing p before (finite.insert shelf brought content) changes
    brought_coming = record { early = coming.early.1; soon = λ name bytes box held. by name bytes held (cases_name name brought) (coming.soon name bytes box held) }
      where
        by : (name : Name) (bytes : List ℕ) → at p name ≡ Some bytes → (name ≡ brought) ⊎ (name ≢ brought) → (at shelf name ≡ Some bytes) ⊎ (list_any (brings name) (Hold brought content ∷ changes) ≡ true)
            → (at (finite.insert shelf brought content) name ≡ Some bytes) ⊎ (list_any (brings name) changes ≡ true)
        by name bytes held (inl same) soon = inl (brought_held name bytes held same)
        by name bytes held (inr apart) (inl here) = inl (at-insert_apart shelf brought content name apart ∙ here)
        by name bytes held (inr apart) (inr later) = inr (sym (ap (λ (b : Bool). b || list_any (brings name) changes) (same_name-apart name brought apart)) ∙ later)

    brought_database : at (finite.insert shelf brought content) database_name ≡ at shelf database_name
    brought_database = at-insert_apart shelf brought content database_name (λ e. coming.early.0.1.0 (sym e))

    brought_digest : at (finite.insert shelf brought content) digest_name ≡ at shelf digest_name
    brought_digest = at-insert_apart shelf brought content digest_name (λ e. coming.early.0.1.1 (sym e))

-- ---- a publication begins

any_held : (p : Volume) (name : Name) (names : List Name) → is_box name ≡ true → list_any (same_name name) names ≡ true → list_any (brings name) (map (holding p) (filter is_box names)) ≡ true
any_held p name [] box any = any
any_held p name (n ∷ names) box any = by (cases_name name n) (any_held p name names box)
  where
    by : (name ≡ n) ⊎ (name ≢ n) → (list_any (same_name name) names ≡ true → list_any (brings name) (map (holding p) (filter is_box names)) ≡ true) → list_any (brings name) (map (holding p) (filter is_box (n ∷ names))) ≡ true
    by (inl same) rest =
        ap (λ (b : Bool). list_any (brings name) (map (holding p) (cond b (n ∷ filter is_box names) (filter is_box names)))) (ap is_box (sym same) ∙ box)
        ∙ ap (λ (b : Bool). b || list_any (brings name) (map (holding p) (filter is_box names))) (ap (λ (m : Name). same_name name m) (sym same) ∙ same_name-refl name)
    by (inr apart) rest = further (cases_Bool (is_box n)) (rest (sym (ap (λ (b : Bool). b || list_any (same_name name) names) (same_name-apart name n apart)) ∙ any))
      where
        further : (is_box n ≡ true) ⊎ (is_box n ≡ false) → list_any (brings name) (map (holding p) (filter is_box names)) ≡ true → list_any (brings name) (map (holding p) (filter is_box (n ∷ names))) ≡ true
        further (inl suits) all =
            ap (λ (b : Bool). list_any (brings name) (map (holding p) (cond b (n ∷ filter is_box names) (filter is_box names)))) suits
            ∙ ap (λ (b : Bool). b || list_any (brings name) (map (holding p) (filter is_box names))) (same_name-apart name n apart) ∙ all
        further (inr fails) all = ap (λ (b : Bool). list_any (brings name) (map (holding p) (cond b (n ∷ filter is_box names) (filter is_box names)))) fails ∙ all

any_behind : (name : Name) (names : List Name) (changes : List Alteration) → list_any (brings name) changes ≡ true → list_any (brings name) (map Erase names ++ changes) ≡ true
any_behind name [] changes any = any
any_behind name (n ∷ names) changes any = any_behind name names changes any

there : (o : Option (List ℕ)) → is_some o ≡ true → o ≡ Some (unwrap_or o [])
there (Some bytes) is = refl
there None is = absurd (true≢false (sym is))

gone : (o : Option (List ℕ)) → is_some o ≡ false → o ≡ None
gone (Some bytes) is = absurd (true≢false is)
gone None is = refl

neither : (a b : Bool) → not (a || b) ≡ true → (a ≡ false) × (b ≡ false)
neither true b is = absurd (true≢false (sym is))
neither false true is = absurd (true≢false (sym is))
neither false false is = (refl, refl)

or_right : (a b : Bool) → b ≡ true → (a || b) ≡ true
or_right true b is = refl
or_right false b is = is

early_erased : (p before : Volume) (names : List Name) (changes : List Alteration) → AllByRecursion (IsEarly p before) changes
    → AllByRecursion (IsEarly p before) (map Erase (filter (is_outdated p before) names) ++ changes)
early_erased p before [] changes all = all
early_erased p before (n ∷ names) changes all = by (cases_Bool (is_outdated p before n)) (early_erased p before names changes all)
  where
    by : (is_outdated p before n ≡ true) ⊎ (is_outdated p before n ≡ false) → AllByRecursion (IsEarly p before) (map Erase (filter (is_outdated p before) names) ++ changes)
        → AllByRecursion (IsEarly p before) (map Erase (filter (is_outdated p before) (n ∷ names)) ++ changes)
    by (inl suits) rest =
        let none = neither (is_some (at p n)) (is_some (at before n)) suits in
        subst (λ (b : Bool). AllByRecursion (IsEarly p before) (map Erase (cond b (n ∷ filter (is_outdated p before) names) (filter (is_outdated p before) names)) ++ changes)) (sym suits)
        ((gone (at p n) none.0, gone (at before n) none.1), rest)
    by (inr fails) rest =
        subst (λ (b : Bool). AllByRecursion (IsEarly p before) (map Erase (cond b (n ∷ filter (is_outdated p before) names) (filter (is_outdated p before) names)) ++ changes)) (sym fails) rest

early_held : (p before : Volume) (names : List Name) → ((name : Name) → list_any (same_name name) names ≡ true → is_some (at p name) ≡ true) → AllByRecursion (IsEarly p before) (map (holding p) (filter is_box names))
early_held p before [] has = tt
early_held p before (n ∷ names) has =
    by (cases_Bool (is_box n)) (early_held p before names (λ name any. has name (or_right (same_name name n) (list_any (same_name name) names) any)))
  where
    by : (is_box n ≡ true) ⊎ (is_box n ≡ false) → AllByRecursion (IsEarly p before) (map (holding p) (filter is_box names)) → AllByRecursion (IsEarly p before) (map (holding p) (filter is_box (n ∷ names)))
    by (inl suits) rest =
        subst (λ (b : Bool). AllByRecursion (IsEarly p before) (map (holding p) (cond b (n ∷ filter is_box names) (filter is_box names)))) (sym suits)
        ((there (at p n) (has n (ap (λ (b : Bool). b || list_any (same_name n) names) (same_name-refl n))), box_is n suits), rest)
    by (inr fails) rest = subst (λ (b : Bool). AllByRecursion (IsEarly p before) (map (holding p) (cond b (n ∷ filter is_box names) (filter is_box names)))) (sym fails) rest

is_held : (o : Option (List ℕ)) (bytes : List ℕ) → o ≡ Some bytes → is_some o ≡ true
is_held o bytes is = ap (λ (x : Option (List ℕ)). is_some x) is

coming_first : (p before shelf : Volume) → AreComing p before shelf (early_changes p before shelf)
coming_first p before shelf = record {
  early = early_erased p before (finite.keys shelf) (map (holding p) (filter is_box (finite.keys p))) (early_held p before (finite.keys p) (λ name any. finite.contains_key-keys p name ∙ any));
  soon = λ name bytes box held. inr (any_behind name (filter (is_outdated p before) (finite.keys shelf)) (map (holding p) (filter is_box (finite.keys p)))
      (any_held p name (finite.keys p) (is_box-of name box) (sym (finite.contains_key-keys p name) ∙ is_held (at p name) bytes held)));
}

begun_from : (p shelf : Volume) (begun : List Volume) → Stands begun shelf [] → HoldsBoxes shelf (newest begun) × (at shelf database_name ≡ at (newest begun) database_name) × (at shelf digest_name ≡ at (newest begun) digest_name)
begun_from p shelf [] stands = (
  λ name bytes box held. (let none : Some bytes ≡ None = sym held ∙ at-empty name in absurd (cc)),
  stands.1 database_name ∙ sym (at-empty database_name),
  stands.1 digest_name ∙ sym (at-empty digest_name),
)
begun_from p shelf (q ∷ begun) stands = elim stands.1 [
  | inl early ↦ absurd (nothing_pending early.changes _ _ early.left)
  | inr (inl late) ↦ absurd (cc (late.left))
  | inr (inr idle) ↦ (idle.boxes, idle.database, idle.digest)
]
  where
    nothing_pending : (changes : List Alteration) (a b : Alteration) → [] ≡ changes ++ a ∷ b ∷ [] → ⊥
    nothing_pending [] a b is = cc
    nothing_pending (c ∷ changes) a b is = cc

-- ---- a change is made

list_first : {A : Type 0} (a b : A) (xs ys : List A) → a ∷ xs ≡ b ∷ ys → a ≡ b
list_first a b xs ys is = cc

list_rest : {A : Type 0} (a b : A) (xs ys : List A) → a ∷ xs ≡ b ∷ ys → xs ≡ ys
list_rest a b xs ys is = cc

-- what a publication brings is there
held_here : (p shelf : Volume) (name : Name) (bytes : List ℕ) → at p name ≡ Some bytes → at (altered (holding p name) shelf) name ≡ at p name
held_here p shelf name bytes held = at-insert_here shelf name (unwrap_or (at p name) []) ∙ sym (there (at p name) (is_held (at p name) bytes held))

module _ (p : Volume) (others : List Volume) (shelf : Volume) (is : IsPublication p) (suits : IsFitting p (newest others)) (kept : HoldsBoxes shelf (newest others)) (change : Alteration) (rest : List Alteration) where
  abbrev After : Alteration → List Alteration → Type 0
  After c cs = Stands (p ∷ others) (altered c shelf) cs

  as_made : (c : Alteration) (cs : List Alteration) → change ∷ rest ≡ c ∷ cs → After c cs → After change rest
  as_made c cs same after =
      subst (λ (d : Alteration). After d rest) (sym (list_first change c rest cs same)) (subst (λ (ds : List Alteration). After c ds) (sym (list_rest change c rest cs same)) after)

  begun_by : (changes : List Alteration) → change ∷ rest ≡ changes ++ holding p database_name ∷ holding p digest_name ∷ [] → AreComing p (newest others) shelf changes
      → at shelf database_name ≡ at (newest others) database_name → at shelf digest_name ≡ at (newest others) digest_name → After change rest
  begun_by [] left coming database digest = as_made _ _ left (
    (λ name bytes box held. at-insert_apart shelf database_name (unwrap_or (at p database_name) []) name box.0 ∙ kept name bytes box held),
    inr (inl (record {
      left = refl;
      boxes = λ name bytes box held. elim (coming.soon name bytes box held) [
        | inl here ↦ at-insert_apart shelf database_name (unwrap_or (at p database_name) []) name box.0 ∙ here
        | inr later ↦ absurd (true≢false (sym later))
      ];
      database = held_here p shelf database_name is.database is.has_database;
      digest = at-insert_apart shelf database_name (unwrap_or (at p database_name) []) digest_name (λ e. database_apart (sym e)) ∙ digest;
    })),
  )
  begun_by (Erase name ∷ changes) left coming database digest = as_made _ _ left (
    erased_kept p (newest others) shelf is kept name changes coming,
    inl (record {
      changes = changes;
      left = refl;
      coming = erased_coming p (newest others) shelf is kept name changes coming;
      database = erased_database p (newest others) shelf is kept name changes coming ∙ database;
      digest = erased_digest p (newest others) shelf is kept name changes coming ∙ digest;
    }),
  )
  begun_by (Hold name content ∷ changes) left coming database digest = as_made _ _ left (
    brought_kept p (newest others) shelf is kept suits name content changes coming,
    inl (record {
      changes = changes;
      left = refl;
      coming = brought_coming p (newest others) shelf is kept suits name content changes coming;
      database = brought_database p (newest others) shelf is kept suits name content changes coming ∙ database;
      digest = brought_digest p (newest others) shelf is kept suits name content changes coming ∙ digest;
    }),
  )

  late_by : change ∷ rest ≡ holding p digest_name ∷ [] → HoldsBoxes shelf p → at shelf database_name ≡ at p database_name → After change rest
  late_by left boxes database = as_made _ _ left (
    (λ name bytes box held. at-insert_apart shelf digest_name (unwrap_or (at p digest_name) []) name box.1 ∙ kept name bytes box held),
    inr (inr (record {
      left = refl;
      boxes = λ name bytes box held. at-insert_apart shelf digest_name (unwrap_or (at p digest_name) []) name box.1 ∙ boxes name bytes box held;
      database = at-insert_apart shelf digest_name (unwrap_or (at p digest_name) []) database_name database_apart ∙ database;
      digest = held_here p shelf digest_name _ is.has_digest;
    })),
  )

stands_changed : (begun : List Volume) (shelf : Volume) (change : Alteration) (rest : List Alteration) → AreFitting begun → Stands begun shelf (change ∷ rest) → Stands begun (altered change shelf) rest
stands_changed [] shelf change rest fitting stands = absurd (cc (stands.0))
stands_changed (p ∷ others) shelf change rest fitting stands = elim stands.1 [
  | inl early ↦ begun_by p others shelf fitting.0 (fits_before p others fitting.1) stands.0 change rest early.changes early.left early.coming early.database early.digest
  | inr (inl late) ↦ late_by p others shelf fitting.0 (fits_before p others fitting.1) stands.0 change rest late.left late.boxes late.database
  | inr (inr idle) ↦ absurd (cc (idle.left))
]

stands_begun : (p : Volume) (begun : List Volume) (shelf : Volume) → Stands begun shelf [] → Stands (p ∷ begun) shelf (changes_of p (newest begun) shelf)
stands_begun p begun shelf stands =
    let held = begun_from p shelf begun stands in
    (held.0, inl (record { changes = early_changes p (newest begun) shelf; left = refl; coming = coming_first p (newest begun) shelf; database = held.1; digest = held.2 }))

-- ---- whatever happens

stands_changing : (w : World) (pending : List Alteration) → w.pending ≡ pending → AreFitting (altering pending w).begun → Stands w.begun w.shelf w.pending
    → Stands (altering pending w).begun (altering pending w).shelf (altering pending w).pending
stands_changing w [] is fitting stands = stands
stands_changing w (change ∷ rest) is fitting stands = stands_changed w.begun w.shelf change rest fitting (subst (λ (cs : List Alteration). Stands w.begun w.shelf cs) is stands)

stands_beginning : (p : Volume) (w : World) (pending : List Alteration) → w.pending ≡ pending → Stands w.begun w.shelf w.pending
    → Stands (beginning p pending w).begun (beginning p pending w).shelf (beginning p pending w).pending
stands_beginning p w [] is stands = stands_begun p w.begun w.shelf (subst (λ (cs : List Alteration). Stands w.begun w.shelf cs) is stands)
stands_beginning p w (change ∷ rest) is stands = stands

pub stands_by : (w : World) (h : Happening) → AreFitting (world_by w h).begun → Stands w.begun w.shelf w.pending → Stands (world_by w h).begun (world_by w h).shelf (world_by w h).pending
stands_by w (Begin p) fitting stands = stands_beginning p w w.pending refl stands
stands_by w Change fitting stands = stands_changing w w.pending refl fitting stands
stands_by w Read fitting stands = stands

fitting_beginning : (p : Volume) (w : World) (pending : List Alteration) → AreFitting (beginning p pending w).begun → AreFitting w.begun
fitting_beginning p w [] fitting = fitting.2
fitting_beginning p w (change ∷ rest) fitting = fitting

fitting_changing : (w : World) (pending : List Alteration) → AreFitting (altering pending w).begun → AreFitting w.begun
fitting_changing w [] fitting = fitting
fitting_changing w (change ∷ rest) fitting = fitting

pub fitting_by : (w : World) (h : Happening) → AreFitting (world_by w h).begun → AreFitting w.begun
fitting_by w (Begin p) fitting = fitting_beginning p w w.pending fitting
fitting_by w Change fitting = fitting_changing w w.pending fitting
fitting_by w Read fitting = fitting

pub fitting_after : (w : World) (happenings : List Happening) → AreFitting (world_after w happenings).begun → AreFitting w.begun
fitting_after w [] fitting = fitting
fitting_after w (h ∷ happenings) fitting = fitting_by w h (fitting_after (world_by w h) happenings fitting)

pub stands_after : (w : World) (happenings : List Happening) → AreFitting (world_after w happenings).begun → Stands w.begun w.shelf w.pending
    → Stands (world_after w happenings).begun (world_after w happenings).shelf (world_after w happenings).pending
stands_after w [] fitting stands = stands
stands_after w (h ∷ happenings) fitting stands = stands_after (world_by w h) happenings fitting (stands_by w h (fitting_after (world_by w h) happenings fitting) stands)

pub stands_first : Stands first_world.begun first_world.shelf first_world.pending
stands_first = (refl, at-empty)
