-- Names below others, byte by byte, and where they stand in the order of bytes.
use Rattle.std.proofs.Common.{◌≡◌, ◌⊎◌, ◌<◌, ◌&&◌, ℕ, suc, Bool, true, false, nat_eq, nat_lt, List, [], ◌∷◌, ◌++◌, length, get_or, refl, sym, ap, ◌∙◌, inl, inr, arith}
use Rattle.std.specs.Prelude.{bytes_eq}
use Rattle.std.specs.List.{starts_with, AllByRecursion}
use Rattle.std.specs.Ordering.{nat_cmp, ordering_then}
use Rattle.std.specs.declared.cmp.Ordering.{Ordering}
use Rattle.std.specs.declared.cmp.Ordering.TheVariants.{Less, Equal, Greater}
use Rattle.std.specs.Cmp.Lexicographic.{slice_cmp}
use Rattle.std.proofs.lemmas.Bool.{true≢false}
use Rattle.std.proofs.lemmas.Bool.Decides.{nat_tests}
use Rattle.std.proofs.lemmas.Cmp.{ranked, by_ranked}
use Rattle.tl_path.specs.Components.{is_below}
use Rattle.tl_path.proofs.Front.{is_below-begins}

abbrev pub Text : Type 0
Text = List ℕ

abbrev pub order : Text → Text → Ordering
order = slice_cmp nat_cmp

none_in_none : is_below [] [] ≡ false
none_in_none = is_below-begins [] []

none_in_some : (d : ℕ) (dir : Text) → is_below [] (d ∷ dir) ≡ false
none_in_some d dir = is_below-begins (d ∷ dir) []

some_in_none : (p : ℕ) (path : Text) → is_below (p ∷ path) [] ≡ nat_eq p 47
some_in_none p path = is_below-begins [] (p ∷ path)

some_in_some : (p d : ℕ) (path dir : Text) → is_below (p ∷ path) (d ∷ dir) ≡ (nat_eq d p && is_below path dir)
some_in_some p d path dir = is_below-begins (d ∷ dir) (p ∷ path) ∙ ap (λ b. nat_eq d p && b) (sym (is_below-begins dir path))

ranked_by : {G : Type 0} → (a b : ℕ) → (nat_cmp a b ≡ Less → a < b → G) → (nat_cmp a b ≡ Equal → a ≡ b → G) → (nat_cmp a b ≡ Greater → b < a → G) → G
ranked_by a b less same more = by_ranked (a < b) (a ≡ b) (b < a) (nat_cmp a b) (ranked a b (nat_cmp a b) refl) less same more

-- which of two texts with a byte each comes first
less_parts : (x y : ℕ) (xs ys : Text) → order (x ∷ xs) (y ∷ ys) ≡ Less → (x < y) ⊎ ((x ≡ y) × (order xs ys ≡ Less))
less_parts x y xs ys less = ranked_by x y
    (λ is lt. inl lt)
    (λ is same. inr (same, sym (ap (λ o. ordering_then o (order xs ys)) is) ∙ less))
    (λ is gt. absurd (cc (ap (λ o. ordering_then o (order xs ys)) is)))

less_of : (x y : ℕ) (xs ys : Text) → (x ≡ y) → order xs ys ≡ Less → order (x ∷ xs) (y ∷ ys) ≡ Less
less_of x y xs ys same less = ranked_by x y
    (λ is lt. ap (λ o. ordering_then o (order xs ys)) is)
    (λ is e. ap (λ o. ordering_then o (order xs ys)) is ∙ less)
    (λ is gt. absurd (omega arith))

both_true : (a b : Bool) → (a && b) ≡ true → (a ≡ true) × (b ≡ true)
both_true true b is = (refl, is)
both_true false b is = absurd (true≢false (sym is))

same_byte : (d p : ℕ) → nat_eq d p ≡ true → d ≡ p
same_byte d p is = grind (arith, nat_tests, is)

-- what is below a name comes behind it
pub below_behind : (name other : Text) → is_below other name ≡ true → order name other ≡ Less
below_behind [] [] is = absurd (true≢false (sym is ∙ none_in_none))
below_behind [] (o ∷ other) is = refl
below_behind (n ∷ name) [] is = absurd (true≢false (sym is ∙ none_in_some n name))
below_behind (n ∷ name) (o ∷ other) is =
    let parts = both_true (nat_eq n o) (is_below other name) (sym (some_in_some o n other name) ∙ is) in
    less_of n o name other (same_byte n o parts.0) (below_behind name other parts.1)

-- a text begins with another one and a byte below '/'
abbrev pub comes_between : Text → Text → Bool
comes_between other name = starts_with nat_eq other name && (nat_lt (length name) (length other) && nat_lt (get_or other (length name) 0) 47)

greater_byte : (f o : ℕ) → nat_lt f 47 ≡ false → nat_eq f 47 ≡ false → (f < o) ⊎ (f ≡ o) → nat_eq o 47 ≡ false
greater_byte f o low other (inl lt) = grind (arith, nat_tests, low, other, lt)
greater_byte f o low other (inr same) = ap (λ b. nat_eq b 47) (sym same) ∙ other

byte_upto : (f o : ℕ) (fs os : Text) → order (f ∷ fs) (o ∷ os) ≡ Less → (f < o) ⊎ (f ≡ o)
byte_upto f o fs os less = by (less_parts f o fs os less)
  where
    by : (f < o) ⊎ ((f ≡ o) × (order fs os ≡ Less)) → (f < o) ⊎ (f ≡ o)
    by (inl lt) = inl lt
    by (inr same) = inr same.0

shorter : (n m : ℕ) → nat_lt (suc n) (suc m) ≡ nat_lt n m
shorter n m = grind (arith, nat_tests)

other_byte : (n o : ℕ) (b : Bool) → n < o ⊎ o < n → (nat_eq n o && b) ≡ false
other_byte n o b (inl lt) = let e : nat_eq n o ≡ false = grind (arith, nat_tests, lt) in ap (λ t. t && b) e
other_byte n o b (inr gt) = let e : nat_eq n o ≡ false = grind (arith, nat_tests, gt) in ap (λ t. t && b) e

itself : (n f : ℕ) → n ≡ f → nat_eq n f ≡ true
itself n f same = grind (arith, nat_tests, same)

-- where a name is followed by one that is neither below it nor stands between it and those, no later one is below it
pub none_behind : (name first other : Text) → order name first ≡ Less → order first other ≡ Less → is_below first name ≡ false → comes_between first name ≡ false → is_below other name ≡ false
none_behind [] [] other up next apart past = absurd (cc)
none_behind [] (f ∷ first) [] up next apart past = absurd (cc)
none_behind [] (f ∷ first) (o ∷ other) up next apart past =
    some_in_none o other ∙ greater_byte f o (sym (small f first) ∙ past) (sym (some_in_none f first) ∙ apart) (byte_upto f o first other next)
  where
    small : (f : ℕ) (first : Text) → comes_between (f ∷ first) [] ≡ nat_lt f 47
    small f first = let some : nat_lt 0 (length (f ∷ first)) ≡ true = grind (arith, nat_tests) in ap (λ t. t && nat_lt f 47) some
none_behind (n ∷ name) [] other up next apart past = absurd (cc)
none_behind (n ∷ name) (f ∷ first) [] up next apart past = absurd (cc)
none_behind (n ∷ name) (f ∷ first) (o ∷ other) up next apart past =
    some_in_some o n other name ∙ by (less_parts n f name first up) (less_parts f o first other next) (none_behind name first other)
  where
    by : (n < f) ⊎ ((n ≡ f) × (order name first ≡ Less)) → (f < o) ⊎ ((f ≡ o) × (order first other ≡ Less))
        → (order name first ≡ Less → order first other ≡ Less → is_below first name ≡ false → comes_between first name ≡ false → is_below other name ≡ false) → (nat_eq n o && is_below other name) ≡ false
    by (inl lt) (inl more) rest = other_byte n o (is_below other name) (inl (omega arith))
    by (inl lt) (inr same) rest = other_byte n o (is_below other name) (inl (omega (arith, same.0)))
    by (inr at) (inl more) rest = other_byte n o (is_below other name) (inl (omega (arith, at.0)))
    by (inr at) (inr same) rest =
        let here : nat_eq n f ≡ true = itself n f at.0 in
        let apart' : is_below first name ≡ false = sym (ap (λ t. t && is_below first name) here) ∙ sym (some_in_some f n first name) ∙ apart in
        let past' : comes_between first name ≡ false =
        sym (ap (λ t. (t && starts_with nat_eq first name) && (nat_lt (suc (length name)) (suc (length first)) && nat_lt (get_or first (length name) 0) 47)) here
        ∙ ap (λ t. starts_with nat_eq first name && (t && nat_lt (get_or first (length name) 0) 47)) (shorter (length name) (length first))) ∙ past in
        ap (λ b. nat_eq n o && b) (rest at.1 same.1 apart' past') ∙ and_false (nat_eq n o)
      where
        and_false : (b : Bool) → (b && false) ≡ false
        and_false true = refl
        and_false false = refl

-- ---- what touches a path of two components

flip : (a b : ℕ) → nat_eq a b ≡ nat_eq b a
flip a b = grind (arith, nat_tests)

-- a path is below a directory where it begins with that and a '/'
pub below_starts : (dir path : Text) → is_below path dir ≡ starts_with nat_eq path (dir ++ 47 ∷ [])
below_starts [] [] = none_in_none
below_starts [] (p ∷ path) = some_in_none p path ∙ flip p 47 ∙ and_true (nat_eq 47 p)
  where
    and_true : (b : Bool) → b ≡ (b && true)
    and_true true = refl
    and_true false = refl
below_starts (d ∷ dir) [] = none_in_some d dir
below_starts (d ∷ dir) (p ∷ path) = some_in_some p d path dir ∙ ap (λ b. nat_eq d p && b) (below_starts dir path)

-- a text without '/'
abbrev pub IsName : Text → Type 0
IsName text = AllByRecursion (λ b. nat_eq b 47 ≡ false) text

-- nothing is above a text without '/'
none_above : (path rest : Text) → IsName rest → is_below rest path ≡ false
none_above [] [] named = none_in_none
none_above [] (r ∷ rest) named = some_in_none r rest ∙ named.0
none_above (p ∷ path) [] named = none_in_some p path
none_above (p ∷ path) (r ∷ rest) named = some_in_some r p rest path ∙ ap (λ b. nat_eq p r && b) (none_above path rest named.1) ∙ and_false (nat_eq p r)
  where
    and_false : (b : Bool) → (b && false) ≡ false
    and_false true = refl
    and_false false = refl

-- only its front is above a path of two components
pub only_front : (path front rest : Text) → IsName front → IsName rest → is_below (front ++ 47 ∷ rest) path ≡ bytes_eq path front
only_front [] [] rest named last = some_in_none 47 rest
only_front [] (f ∷ front) rest named last = some_in_none f (front ++ 47 ∷ rest) ∙ named.0
only_front (p ∷ path) [] rest named last = some_in_some 47 p rest path ∙ ap (λ b. nat_eq p 47 && b) (none_above path rest last) ∙ and_false (nat_eq p 47)
  where
    and_false : (b : Bool) → (b && false) ≡ false
    and_false true = refl
    and_false false = refl
only_front (p ∷ path) (f ∷ front) rest named last = some_in_some f p (front ++ 47 ∷ rest) path ∙ ap (λ b. nat_eq p f && b) (only_front path front rest named.1 last)
