-- What is reached by so many depends is what is reached at all.
use Rattle.std.proofs.Common.{◌≡◌, ◌≤◌, ◌<◌, ◌+◌, ◌⊎◌, ◌↔◌, ℕ, zero, suc, Bool, true, false, cond, not, ◌||◌, List, [], ◌∷◌, ◌++◌, length, Some, refl, sym, ap, subst, ◌∙◌, arith, inl, inr}
use Rattle.std.specs.Prelude.{nat_lt, Contains, IsTrue}
use Rattle.std.specs.List.{list_any, count_by, flat_map}
use Rattle.std.specs.Str.{bytes_eq}
use Rattle.std.specs.Cmp.Lexicographic.{nat_list_eq_equiv}
use Rattle.std.specs.Cmp.{IsEquivalence}
use Rattle.std.proofs.lemmas.Bool.{cases_Bool, true≢false, ltb-true}
use Rattle.std.proofs.lemmas.Bool.Decides.{nat_tests}
use Rattle.std.proofs.lemmas.List.Folds.{list_any-append}
use Rattle.std.proofs.lemmas.List.Sums.{sum_by-cons, count_by-le-length}
use Rattle.tl_model.specs.Volume.{same_name}
use Rattle.tl_entry.specs.declared.object.Object.{Object}
use Rattle.tl_db.specs.Entries.{entry_of}
use Rattle.tl_depend.specs.Names.{named_of, named_in}
use Rattle.tl_depend.specs.Reach.{Joins, itself, by_depend, IsReached}
use Rattle.std.proofs.lemmas.Map.Views.{list_any-from_Contains, Contains-from_any}
use Rattle.tl_bring.specs.Reached.{reached_by, all_named}
use Rattle.tl_touch.proofs.Touching.{bytes_same}

abbrev Texts : Type 0
Texts = List (List ℕ)

abbrev among : List ℕ → Texts → Bool
among name names = list_any (bytes_eq name) names

found : (names : Texts) (name : List ℕ) → among name names ≡ true → Contains names name
found names name is = Contains-from_any bytes_same name names is

finds : (names : Texts) (name : List ℕ) → Contains names name → among name names ≡ true
finds names name there = list_any-from_Contains nat_list_eq_equiv name names there

bytes_refl : (a : List ℕ) → bytes_eq a a ≡ true
bytes_refl a = let laws : IsEquivalence bytes_eq = nat_list_eq_equiv in laws.refl a

or_true : (a : Bool) → (a || true) ≡ true
or_true true = refl
or_true false = refl

or_nil : (t : Bool) → (t || false) ≡ t
or_nil true = refl
or_nil false = refl

either : (a b : Bool) → (a || b) ≡ true → (a ≡ true) ⊎ (b ≡ true)
either true b is = inl refl
either false b is = inr is

among_left : (m : List ℕ) (xs ys : Texts) → among m xs ≡ true → among m (xs ++ ys) ≡ true
among_left m xs ys is = list_any-append (bytes_eq m) xs ys ∙ ap (λ t. t || among m ys) is

among_right : (m : List ℕ) (xs ys : Texts) → among m ys ≡ true → among m (xs ++ ys) ≡ true
among_right m xs ys is = list_any-append (bytes_eq m) xs ys ∙ ap (λ t. among m xs || t) is ∙ or_true (among m xs)

among_cases : (m : List ℕ) (xs ys : Texts) → among m (xs ++ ys) ≡ true → (among m xs ≡ true) ⊎ (among m ys ≡ true)
among_cases m xs ys is = either (among m xs) (among m ys) (sym (list_any-append (bytes_eq m) xs ys) ∙ is)

-- fewer pass a stronger test that an element fails
count_le : (p q : List ℕ → Bool) (xs : Texts) → ((x : List ℕ) → p x ≡ true → q x ≡ true) → count_by p xs ≤ count_by q xs
count_le p q [] weaker = omega arith
count_le p q (x ∷ xs) weaker =
    let more = count_le p q xs weaker in
    let a = sum_by-cons (λ o. cond (p o) 1 0) x xs in
    let b = sum_by-cons (λ o. cond (q o) 1 0) x xs in
    elim (cases_Bool (p x)) [
      | inl is ↦
          let a' : count_by p (x ∷ xs) ≡ 1 + count_by p xs = a ∙ ap (λ t. cond t 1 0 + count_by p xs) is in
          let b' : count_by q (x ∷ xs) ≡ 1 + count_by q xs = b ∙ ap (λ t. cond t 1 0 + count_by q xs) (weaker x is) in
          omega (arith, a', b', more)
      | inr off ↦
          let a' : count_by p (x ∷ xs) ≡ 0 + count_by p xs = a ∙ ap (λ t. cond t 1 0 + count_by p xs) off in
          omega (arith, a', b, more)
    ]

count_less : (p q : List ℕ → Bool) (xs : Texts) (m : List ℕ) → ((x : List ℕ) → p x ≡ true → q x ≡ true) → among m xs ≡ true → p m ≡ false → q m ≡ true → count_by p xs < count_by q xs
count_less p q [] m weaker there fails passes = absurd (true≢false (sym there))
count_less p q (x ∷ xs) m weaker there fails passes =
    let a = sum_by-cons (λ o. cond (p o) 1 0) x xs in
    let b = sum_by-cons (λ o. cond (q o) 1 0) x xs in
    elim (either (bytes_eq m x) (among m xs) there) [
      | inl same ↦
          let is : m ≡ x = bytes_same m x same in
          let a' : count_by p (x ∷ xs) ≡ 0 + count_by p xs = a ∙ ap (λ t. cond t 1 0 + count_by p xs) (ap p (sym is) ∙ fails) in
          let b' : count_by q (x ∷ xs) ≡ 1 + count_by q xs = b ∙ ap (λ t. cond t 1 0 + count_by q xs) (ap q (sym is) ∙ passes) in
          let more = count_le p q xs weaker in omega (arith, a', b', more)
      | inr behind ↦
          let more = count_less p q xs m weaker behind fails passes in
          elim (cases_Bool (p x)) [
            | inl is ↦
                let a' : count_by p (x ∷ xs) ≡ 1 + count_by p xs = a ∙ ap (λ t. cond t 1 0 + count_by p xs) is in
                let b' : count_by q (x ∷ xs) ≡ 1 + count_by q xs = b ∙ ap (λ t. cond t 1 0 + count_by q xs) (weaker x is) in
                omega (arith, a', b', more)
            | inr off ↦
                let a' : count_by p (x ∷ xs) ≡ 0 + count_by p xs = a ∙ ap (λ t. cond t 1 0 + count_by p xs) off in
                omega (arith, a', b, more)
          ]
    ]

count_some : (p : List ℕ → Bool) (xs : Texts) (m : List ℕ) → among m xs ≡ true → p m ≡ true → 0 < count_by p xs
count_some p xs m there passes =
    let more = count_less (λ x. false) p xs m (λ x is. absurd (true≢false (sym is))) there refl passes in omega (arith, more)

record Comes (names : Texts) (named : List ℕ → Texts) (m : List ℕ) : Type 0 where
  from : List ℕ
  given : among from names ≡ true
  stands : among m (named from) ≡ true

in_flat : (named : List ℕ → Texts) (names : Texts) (w m : List ℕ) → among w names ≡ true → among m (named w) ≡ true → among m (flat_map named names) ≡ true
in_flat named [] w m there is = absurd (true≢false (sym there))
in_flat named (n ∷ names) w m there is = elim (either (bytes_eq w n) (among w names) there) [
  | inl same ↦ among_left m (named n) (flat_map named names) (subst (λ (v : List ℕ). among m (named v) ≡ true) (bytes_same w n same) is)
  | inr behind ↦ among_right m (named n) (flat_map named names) (in_flat named names w m behind is)
]

from_flat : (named : List ℕ → Texts) (names : Texts) (m : List ℕ) → among m (flat_map named names) ≡ true → Comes names named m
from_flat named [] m there = absurd (true≢false (sym there))
from_flat named (n ∷ names) m there = elim (among_cases m (named n) (flat_map named names) there) [
  | inl here ↦ record { from = n; given = ap (λ t. t || among n names) (bytes_refl n); stands = here }
  | inr behind ↦
      let more : Comes names named m = from_flat named names m behind in
      record { from = more.from; given = ap (λ t. bytes_eq more.from n || t) more.given ∙ or_true (bytes_eq more.from n); stands = more.stands }
]

-- what stands for a name of an entry stands for one of all
pub in_all : (platforms : Texts) (db : List Object) (w m : List ℕ) → among m (named_of platforms (entry_of w db)) ≡ true → among m (all_named platforms db) ≡ true
in_all platforms [] w m is = absurd (true≢false (sym is))
in_all platforms (o ∷ db) w m is = elim (cases_Bool (same_name o.name w)) [
  | inl same ↦ among_left m (named_of platforms (Some o)) (all_named platforms db) (ap (λ t. among m (named_of platforms (cond t (Some o) (entry_of w db)))) (sym same) ∙ is)
  | inr apart ↦ among_right m (named_of platforms (Some o)) (all_named platforms db)
      (in_all platforms db w m (ap (λ t. among m (named_of platforms (cond t (Some o) (entry_of w db)))) (sym apart) ∙ is))
]

module _ (view : List Object) (platforms : Texts) (all : Texts) (in_these : (w m : List ℕ) → among m (named_in view platforms w) ≡ true → among m all ≡ true) where
  abbrev next : Texts → Texts
  next names = flat_map (named_in view platforms) names

  record IsClosed (names : Texts) : Type 0 where
    within : (w m : List ℕ) → among w names ≡ true → among m (named_in view platforms w) ≡ true → among m names ≡ true

  closed_next : (names : Texts) → IsClosed names → (m : List ℕ) → among m (names ++ next names) ≡ among m names
  closed_next names closed m = elim (cases_Bool (among m names)) [
    | inl is ↦ among_left m names (next names) is ∙ sym is
    | inr off ↦ elim (cases_Bool (among m (names ++ next names))) [
      | inl is ↦ elim (among_cases m names (next names) is) [
        | inl here ↦ is ∙ sym here
        | inr new ↦ let comes : Comes names (named_in view platforms) m = from_flat (named_in view platforms) names m new in is ∙ sym (closed.within comes.from m comes.given comes.stands)
      ]
      | inr off' ↦ off' ∙ sym off
    ]
  ]

  closed_stays : (n : ℕ) (names : Texts) → IsClosed names → IsClosed (reached_by n (named_in view platforms) names)
  closed_stays zero names closed = closed
  closed_stays (suc n) names closed = closed_stays n (names ++ next names) (record {
    within = λ w m there stands. closed_next names closed m ∙ closed.within w m (sym (closed_next names closed w) ∙ there) stands;
  })

  -- how many of all aren't among some names
  abbrev left : Texts → ℕ
  left names = count_by (λ m. not (among m names)) all

  not_true : (b : Bool) → not b ≡ true → b ≡ false
  not_true true is = absurd (true≢false (sym is))
  not_true false is = refl

  -- where nothing is left, or nothing new comes, the names are closed
  closed_by : (names : Texts) → ((m : List ℕ) → among m all ≡ true → among m (next names) ≡ true → among m names ≡ false → ⊥) → IsClosed names
  closed_by names none = record {
    within = λ w m there stands. elim (cases_Bool (among m names)) [
      | inl is ↦ is
      | inr off ↦ absurd (none m (in_these w m stands) (in_flat (named_in view platforms) names w m there stands) off)
    ];
  }

  complete : (n : ℕ) (names : Texts) → left names ≤ n → IsClosed (reached_by n (named_in view platforms) names)
  complete zero names few = closed_by names (λ m there new off.
      let some = count_some (λ x. not (among x names)) all m there (ap not off) in omega (arith, some, few))
  complete (suc n) names few = elim (cases_Bool (nat_lt n (left (names ++ next names)))) [
    | inr less ↦ complete n (names ++ next names) (let le : left (names ++ next names) ≤ n = grind (arith, nat_tests) in le)
    | inl still ↦
        let many = ltb-true n (left (names ++ next names)) still in
        closed_stays (suc n) names (closed_by names (λ m there new off.
        let less = count_less (λ x. not (among x (names ++ next names))) (λ x. not (among x names)) all m
        (λ x out. ap not (among_off x names (not_true _ out))) there (ap not (among_right m names (next names) new)) (ap not off) in
        omega (arith, less, many, few)))
  ]
    where
      among_off : (x : List ℕ) (names : Texts) → among x (names ++ next names) ≡ false → among x names ≡ false
      among_off x names off = elim (cases_Bool (among x names)) [
        | inl is ↦ absurd (true≢false (sym (among_left x names (next names) is) ∙ off))
        | inr off' ↦ off'
      ]

  kept : (n : ℕ) (names : Texts) (w : List ℕ) → among w names ≡ true → among w (reached_by n (named_in view platforms) names) ≡ true
  kept zero names w is = is
  kept (suc n) names w is = kept n (names ++ next names) w (among_left w names (next names) is)

  joined_in : (names : Texts) → IsClosed names → (a b : List ℕ) → Joins view platforms a b → among a names ≡ true → among b names ≡ true
  joined_in names closed a b (itself c) is = is
  joined_in names closed a b (by_depend name more last first rest) is =
      joined_in names closed more last rest (closed.within name more is (finds (named_in view platforms name) more first))

  joins_more : (a b c : List ℕ) → Joins view platforms a b → Contains (named_in view platforms b) c → Joins view platforms a c
  joins_more a b c (itself d) one = by_depend d c c one (itself c)
  joins_more a b c (by_depend name more last first rest) one = by_depend name more c first (joins_more more last c rest one)

  sound : (roots : Texts) (n : ℕ) (names : Texts) → ((w : List ℕ) → among w names ≡ true → IsReached view platforms roots w)
      → (w : List ℕ) → among w (reached_by n (named_in view platforms) names) ≡ true → IsReached view platforms roots w
  sound roots zero names all_are w is = all_are w is
  sound roots (suc n) names all_are w is = sound roots n (names ++ next names) more w is
    where
      more : (v : List ℕ) → among v (names ++ next names) ≡ true → IsReached view platforms roots v
      more v there = elim (among_cases v names (next names) there) [
        | inl here ↦ all_are v here
        | inr new ↦
            let comes : Comes names (named_in view platforms) v = from_flat (named_in view platforms) names v new in
            let reached : IsReached view platforms roots comes.from = all_are comes.from comes.given in
            record { root = reached.root; given = reached.given; joined = joins_more reached.root comes.from v reached.joined (found (named_in view platforms comes.from) v comes.stands) }
      ]

  -- what is reached is what the function gives
  pub reached_is : (roots : Texts) (w : List ℕ) (has : Bool) → IsTrue has ↔ IsReached view platforms roots w → has ≡ among w (reached_by (length all) (named_in view platforms) roots)
  reached_is roots w has means = elim (cases_Bool (among w (reached_by (length all) (named_in view platforms) roots))) [
    | inl is ↦ means.1 (sound roots (length all) roots (λ v there. record { root = v; given = found roots v there; joined = itself v }) w is) ∙ sym is
    | inr off ↦ elim (cases_Bool has) [
      | inl is ↦
          let reached : IsReached view platforms roots w = means.0 is in
          let closed : IsClosed (reached_by (length all) (named_in view platforms) roots) = complete (length all) roots (count_by-le-length (λ m. not (among m roots)) all) in
          absurd (true≢false (sym (joined_in (reached_by (length all) (named_in view platforms) roots) closed reached.root w reached.joined
          (kept (length all) roots reached.root (finds roots reached.root reached.given))) ∙ off))
      | inr off' ↦ off' ∙ sym off
    ]
  ]
