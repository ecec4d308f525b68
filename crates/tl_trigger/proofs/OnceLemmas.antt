-- Names that are added to others, each once, and the names that have changed.
use Rattle.std.proofs.Common.{◌≡◌, ◌<◌, ◌+◌, ◌||◌, ◌&&◌, ℕ, Bool, true, false, cond, List, [], ◌∷◌, ◌++◌, length, take, get_or, refl, sym, subst, ap, ◌∙◌}
use Rattle.std.specs.Str.{bytes_eq}
use Rattle.std.specs.List.{flat_map, list_any}
use Rattle.std.specs.Cmp.Lexicographic.{same_text}
use Rattle.std.proofs.lemmas.Bool.{true≢false}
use Rattle.std.proofs.lemmas.List.{take_more, flat_map_more}
use Rattle.std.proofs.lemmas.List.Sums.{fold-append}
use Rattle.std.proofs.lemmas.List.Folds.{list_any_more, list_any-append}
use Rattle.std.proofs.lemmas.Slice.Eq.{bytes_eq-Decides}
use Rattle.tl_trigger.specs.Stale.{with_format, with_formats}

abbrev pub Text : Type 0
Text = List ℕ

same_bytes : (a b : Text) → bytes_eq a b ≡ true → a ≡ b
same_bytes a b is = same_text a b (sym is)

bytes_same : (a : Text) → bytes_eq a a ≡ true
bytes_same a = (bytes_eq-Decides a a).1 refl

turned : (a b : Text) → bytes_eq a b ≡ true → bytes_eq b a ≡ true
turned a b is = subst (λ (n : Text). bytes_eq n a ≡ true) (same_bytes a b is) (bytes_same a)

flip : (a b : Text) → bytes_eq a b ≡ bytes_eq b a
flip a b = by (bytes_eq a b) refl (bytes_eq b a) refl
  where
    by : (s : Bool) → bytes_eq a b ≡ s → (t : Bool) → bytes_eq b a ≡ t → s ≡ t
    by true first true second = refl
    by true first false second = absurd (true≢false (sym (turned a b first) ∙ second))
    by false first true second = absurd (true≢false (sym (turned b a second) ∙ first))
    by false first false second = refl

or_true : (a : Bool) → (a || true) ≡ true
or_true true = refl
or_true false = refl

or_false : (a : Bool) → (a || false) ≡ a
or_false true = refl
or_false false = refl

-- a name that passes a test and is among some is found by both
some_known : (p : Text → Bool) (text : Text) (names : List Text) → p text ≡ true → list_any (bytes_eq text) names ≡ true → list_any (λ n. p n && bytes_eq n text) names ≡ true
some_known p text [] is there = there
some_known p text (n ∷ names) is there = by (bytes_eq text n) refl there (some_known p text names is)
  where
    by : (t : Bool) → bytes_eq text n ≡ t → (t || list_any (bytes_eq text) names) ≡ true → (list_any (bytes_eq text) names ≡ true → list_any (λ m. p m && bytes_eq m text) names ≡ true)
        → list_any (λ m. p m && bytes_eq m text) (n ∷ names) ≡ true
    by true same first more =
        let e : text ≡ n = same_bytes text n same in
        ap (λ b. (b && bytes_eq n text) || list_any (λ m. p m && bytes_eq m text) names) (subst (λ (m : Text). p m ≡ true) e is)
        ∙ ap (λ b. b || list_any (λ m. p m && bytes_eq m text) names) (turned text n same)
    by false apart there' more =
        ap (λ b. (p n && bytes_eq n text) || b) (more there') ∙ or_true (p n && bytes_eq n text)

none_here : (p : Text → Bool) (text n : Text) → p text ≡ false → (t : Bool) → bytes_eq n text ≡ t → (p n && t) ≡ false
none_here p text n is true same = ap (λ b. b && true) (subst (λ (m : Text). p m ≡ false) (sym (same_bytes n text same)) is)
none_here p text n is false apart = both_false (p n)
  where
    both_false : (b : Bool) → (b && false) ≡ false
    both_false true = refl
    both_false false = refl

-- one that doesn't pass it isn't
none_known : (p : Text → Bool) (text : Text) (names : List Text) → p text ≡ false → list_any (λ n. p n && bytes_eq n text) names ≡ false
none_known p text [] is = refl
none_known p text (n ∷ names) is =
    ap (λ b. b || list_any (λ m. p m && bytes_eq m text) names) (none_here p text n is (bytes_eq n text) refl) ∙ none_known p text names is

-- where what passes a test is among some names, they tell it
pub known_all : (p : Text → Bool) (text : Text) (names : List Text) → (p text ≡ true → list_any (bytes_eq text) names ≡ true) → list_any (λ n. p n && bytes_eq n text) names ≡ p text
known_all p text names has = by (p text) refl
  where
    by : (t : Bool) → p text ≡ t → list_any (λ n. p n && bytes_eq n text) names ≡ t
    by true is = some_known p text names is (has is)
    by false is = none_known p text names is

-- one name more
pub known_more : (p : Text → Bool) (before after : Bool) (names : List Text) (i : ℕ) (name text : Text) → i < length names → name ≡ get_or names i name → after ≡ (before || (p name && bytes_eq name text))
    → before ≡ list_any (λ n. p n && bytes_eq n text) (take i names) → after ≡ list_any (λ n. p n && bytes_eq n text) (take (i + 1) names)
known_more p before after names i name text lt at grown so_far =
    grown ∙ ap (λ b. b || (p name && bytes_eq name text)) so_far ∙ ap (λ (n : Text). list_any (λ m. p m && bytes_eq m text) (take i names) || (p n && bytes_eq n text)) at
    ∙ sym (list_any_more (λ m. p m && bytes_eq m text) names i name lt)

-- a set with one name more has it
seen_here : (t b : Bool) → cond t true b ≡ (b || (t || false))
seen_here true b = sym (or_true b)
seen_here false b = sym (or_false b)

-- a set and a list of names with one name more
pub seen_more : (names next : List Text) (key name copy text : Text) (before after : Bool) → after ≡ cond (bytes_eq key text) true before → before ≡ list_any (bytes_eq text) names → key ≡ name → copy ≡ name
    → next ≡ names ++ copy ∷ [] → after ≡ list_any (bytes_eq text) next
seen_more names next key name copy text before after grown so_far is same pushed =
    grown ∙ ap (λ (k : Text). cond (bytes_eq k text) true before) (is ∙ sym same) ∙ ap (λ t. cond t true before) (flip copy text) ∙ seen_here (bytes_eq text copy) before
    ∙ ap (λ b. b || (bytes_eq text copy || false)) so_far ∙ sym (list_any-append (bytes_eq text) names (copy ∷ [])) ∙ ap (list_any (bytes_eq text)) (sym pushed)

-- the formats of one execute more
pub formats_more : (f : Text → List Text) (start now next : List Text) (xs : List Text) (i : ℕ) (x : Text) → i < length xs → x ≡ get_or xs i x → next ≡ with_formats now (f x)
    → now ≡ with_formats start (flat_map f (take i xs)) → next ≡ with_formats start (flat_map f (take (i + 1) xs))
formats_more f start now next xs i x lt at grown so_far =
    grown ∙ ap (λ (l : List Text). with_formats l (f x)) so_far ∙ sym (fold-append with_format start (flat_map f (take i xs)) (f x)) ∙ ap (with_formats start) (flat_map_more f [] (take i xs) x)
    ∙ ap (λ (y : Text). with_formats start (flat_map f (take i xs ++ y ∷ []))) at ∙ ap (λ (l : List Text). with_formats start (flat_map f l)) (sym (take_more xs i x lt))
