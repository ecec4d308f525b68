-- Names that are added to others, and the closing of some names under depends.
use Rattle.std.proofs.Common.{◌≡◌, ◌⊎◌, ◌↔◌, ℕ, zero, suc, ◌+◌, ◌<◌, ◌≤◌, Bool, true, false, cond, List, [], ◌∷◌, ◌++◌, length, get_or, refl, sym, ap, subst, ◌∙◌, inl, inr, arith}
use Rattle.std.specs.Prelude.{Contains, IsTrue}
use Rattle.std.specs.Cmp.Lexicographic.{same_text}
use Rattle.std.specs.Str.{bytes_eq}
use Rattle.std.specs.List.{list_any, fold}
use Rattle.std.proofs.lemmas.Bool.{cases_Bool, cases_lt}
use Rattle.std.proofs.lemmas.List.{get_or_append_left, get_or_default, length-append}
use Rattle.std.proofs.lemmas.List.Elements.{Contains-append_left, Contains-push, Contains-push_cases, Contains-get_or}
use Rattle.std.proofs.lemmas.List.Folds.{list_any_at, Any-from_list_any}
use Rattle.std.proofs.lemmas.Slice.Eq.{bytes_eq-Decides}
use Rattle.indexmap.specs.IndexSet.{insert_key, insert_all}
use Rattle.tl_entry.specs.declared.object.Object.{Object}
use Rattle.tl_depend.specs.Names.{named_in}
use Rattle.tl_depend.specs.Reach.{Joins, itself, by_depend, IsReached}

abbrev Text : Type 0
Text = List ℕ

-- names with one more
abbrev with_one : List Text → Text → List Text
with_one keys name = insert_key bytes_eq keys name

-- names with more
abbrev with_more : List Text → List Text → List Text
with_more keys names = insert_all bytes_eq keys names

same_bytes : (a b : Text) → bytes_eq a b ≡ true → a ≡ b
same_bytes a b is = same_text a b (sym is)

bytes_same : (a : Text) → bytes_eq a a ≡ true
bytes_same a = (bytes_eq-Decides a a).1 refl

-- a test of the names finds those that are there
pub found : (keys : List Text) (name : Text) → list_any (bytes_eq name) keys ≡ true → Contains keys name
found keys name is = let any = Any-from_list_any (bytes_eq name) keys is in
    let same : name ≡ any.1 = same_bytes name any.1 any.4 in
    (any.0, any.2, get_or_default keys any.0 name any.1 any.2 ∙ any.3 ∙ sym same)

pub finds : (keys : List Text) (name : Text) → Contains keys name → list_any (bytes_eq name) keys ≡ true
finds keys name there = list_any_at (bytes_eq name) keys there.0 name there.1 (ap (bytes_eq name) there.2 ∙ bytes_same name)

-- what is added goes last, or is there
one_added : (keys : List Text) (name : Text) → (with_one keys name ≡ keys × Contains keys name) ⊎ (with_one keys name ≡ keys ++ name ∷ [])
one_added keys name = elim (cases_Bool (list_any (bytes_eq name) keys)) [
  | inl is ↦ inl (ap (λ t. cond t keys (keys ++ name ∷ [])) is, found keys name is)
  | inr none ↦ inr (ap (λ t. cond t keys (keys ++ name ∷ [])) none)
]

one_kept : (keys : List Text) (name x : Text) → Contains keys x → Contains (with_one keys name) x
one_kept keys name x there = elim (one_added keys name) [
  | inl same ↦ subst (λ (ks : List Text). Contains ks x) (sym same.0) there
  | inr last ↦ subst (λ (ks : List Text). Contains ks x) (sym last) (Contains-append_left keys (name ∷ []) x there)
]

one_in : (keys : List Text) (name : Text) → Contains (with_one keys name) name
one_in keys name = elim (one_added keys name) [
  | inl same ↦ subst (λ (ks : List Text). Contains ks name) (sym same.0) same.1
  | inr last ↦ subst (λ (ks : List Text). Contains ks name) (sym last) (Contains-push keys name)
]

one_from : (keys : List Text) (name x : Text) → Contains (with_one keys name) x → Contains keys x ⊎ (name ≡ x)
one_from keys name x there = elim (one_added keys name) [
  | inl same ↦ inl (subst (λ (ks : List Text). Contains ks x) same.0 there)
  | inr last ↦ Contains-push_cases keys name x (subst (λ (ks : List Text). Contains ks x) last there)
]

one_at : (keys : List Text) (name : Text) (k : ℕ) → k < length keys → get_or (with_one keys name) k [] ≡ get_or keys k []
one_at keys name k lt = elim (one_added keys name) [
  | inl same ↦ ap (λ (ks : List Text). get_or ks k []) same.0
  | inr last ↦ ap (λ (ks : List Text). get_or ks k []) last ∙ get_or_append_left keys (name ∷ []) [] k lt
]

one_length : (keys : List Text) (name : Text) → length keys ≤ length (with_one keys name)
one_length keys name = elim (one_added keys name) [
  | inl same ↦ omega (arith, ap (λ (ks : List Text). length ks) same.0)
  | inr last ↦ omega (arith, ap (λ (ks : List Text). length ks) last, length-append keys (name ∷ []))
]

more_kept : (keys names : List Text) (x : Text) → Contains keys x → Contains (with_more keys names) x
more_kept keys [] x there = there
more_kept keys (name ∷ names) x there = more_kept (with_one keys name) names x (one_kept keys name x there)

more_in : (keys names : List Text) (x : Text) (k : ℕ) → k < length names → get_or names k x ≡ x → Contains (with_more keys names) x
more_in keys [] x k lt is = absurd (omega arith)
more_in keys (name ∷ names) x zero lt is = more_kept (with_one keys name) names x (subst (λ (y : Text). Contains (with_one keys name) y) is (one_in keys name))
more_in keys (name ∷ names) x (suc k) lt is = more_in (with_one keys name) names x k (omega arith) is

more_from : (keys names : List Text) (x : Text) → Contains (with_more keys names) x → Contains keys x ⊎ Contains names x
more_from keys [] x there = inl there
more_from keys (name ∷ names) x there = elim (more_from (with_one keys name) names x there) [
  | inl before ↦ elim (one_from keys name x before) [
    | inl old ↦ inl old
    | inr same ↦ inr (0, omega arith, same)
  ]
  | inr later ↦ inr (suc later.0, omega (arith, later.1), later.2)
]

more_at : (keys names : List Text) (k : ℕ) → k < length keys → get_or (with_more keys names) k [] ≡ get_or keys k []
more_at keys [] k lt = refl
more_at keys (name ∷ names) k lt = more_at (with_one keys name) names k (omega (arith, one_length keys name, lt)) ∙ one_at keys name k lt

more_length : (keys names : List Text) → length keys ≤ length (with_more keys names)
more_length keys [] = omega arith
more_length keys (name ∷ names) = omega (arith, one_length keys name, more_length (with_one keys name) names)

module _ (db : List Object) (platforms : List Text) where
  joins_more : (a n k : Text) → Joins db platforms a n → Contains (named_in db platforms n) k → Joins db platforms a k
  joins_more a n k (itself b) there = by_depend b k k there (itself k)
  joins_more a n k (by_depend b next last first rest) there = by_depend b next k first (joins_more next last k rest there)

  -- the names so far: those in front of a place have the names that their depends stand for among them
  pub record IsReaching (roots keys : List Text) (place : ℕ) : Type 0 where
    pub sound : (x : Text) → Contains keys x → IsReached db platforms roots x
    pub roots_in : (x : Text) → Contains roots x → Contains keys x
    pub closed : (k : ℕ) → k < place → (x : Text) → Contains (named_in db platforms (get_or keys k [])) x → Contains keys x
    pub within : place ≤ length keys

  -- the roots alone
  pub from_roots : (roots keys : List Text) → keys ≡ with_more [] roots → IsReaching roots keys 0
  from_roots roots keys is = record {
    sound = λ x there. elim (more_from [] roots x (subst (λ (ks : List Text). Contains ks x) is there)) [
      | inl none ↦ absurd (omega (arith, none.1))
      | inr root ↦ record { root = x; given = root; joined = itself x }
    ];
    roots_in = λ x there. subst (λ (ks : List Text). Contains ks x) (sym is) (more_in [] roots x there.0 there.1 there.2);
    closed = λ k lt. absurd (omega arith);
    within = omega arith;
  }

  -- one name more has what its depends stand for
  pub reach_more : (roots keys after : List Text) (place : ℕ) → place < length keys → after ≡ with_more keys (named_in db platforms (get_or keys place []))
      → IsReaching roots keys place → IsReaching roots after (place + 1)
  reach_more roots keys after place lt is so_far = record {
    sound = λ x there. elim (more_from keys named x (subst (λ (ks : List Text). Contains ks x) is there)) [
      | inl old ↦ so_far.sound x old
      | inr new ↦
          let reached = so_far.sound here (Contains-get_or keys place [] lt) in
          record { root = reached.root; given = reached.given; joined = joins_more reached.root here x reached.joined new }
    ];
    roots_in = λ x there. kept x (so_far.roots_in x there);
    closed = λ k le x there.
        let at : get_or after k [] ≡ get_or keys k [] = ap (λ (ks : List Text). get_or ks k []) is ∙ more_at keys named k (omega (arith, le, lt)) in
        let there' : Contains (named_in db platforms (get_or keys k [])) x = subst (λ (n : Text). Contains (named_in db platforms n) x) at there in
        elim (cases_lt k place) [
          | inl before ↦ kept x (so_far.closed k before x there')
          | inr last ↦
              let same : k ≡ place = omega (arith, last, le) in
              let new : Contains named x = subst (λ (n : ℕ). Contains (named_in db platforms (get_or keys n [])) x) same there' in
              subst (λ (ks : List Text). Contains ks x) (sym is) (more_in keys named x new.0 new.1 new.2)
        ];
    within = omega (arith, ap (λ (ks : List Text). length ks) is, more_length keys named, lt);
  }
    where
      here : Text
      here = get_or keys place []

      named : List Text
      named = named_in db platforms here

      kept : (x : Text) → Contains keys x → Contains after x
      kept x there = subst (λ (ks : List Text). Contains ks x) (sym is) (more_kept keys named x there)

  all_joined : (roots keys : List Text) (place : ℕ) → length keys ≤ place → IsReaching roots keys place → (a x : Text) → Joins db platforms a x → Contains keys a → Contains keys x
  all_joined roots keys place all so_far a x (itself b) there = there
  all_joined roots keys place all so_far a x (by_depend b next last first rest) there =
      let at : get_or keys there.0 [] ≡ b = get_or_default keys there.0 [] b there.1 ∙ there.2 in
      let next_in : Contains keys next = so_far.closed there.0 (omega (arith, there.1, all)) next (subst (λ (n : Text). Contains (named_in db platforms n) next) (sym at) first) in
      all_joined roots keys place all so_far next last rest next_in

  -- all names have what their depends stand for
  pub reach_done : (roots keys : List Text) (place : ℕ) → length keys ≤ place → IsReaching roots keys place
      → (name : Text) → IsTrue (list_any (bytes_eq name) keys) ↔ IsReached db platforms roots name
  reach_done roots keys place all so_far name = (
    λ is. so_far.sound name (found keys name is),
    λ reached. finds keys name (all_joined roots keys place all so_far reached.root name reached.joined (so_far.roots_in reached.root reached.given)),
  )
