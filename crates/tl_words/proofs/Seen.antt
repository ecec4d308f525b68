-- Which words were seen, in a set and in a list.
use Rattle.std.proofs.Common.{◌≡◌, ℕ, Bool, true, false, cond, not, ◌||◌, List, [], ◌∷◌, ◌++◌, refl, ap, sym, ◌∙◌, subst, bytes_eq, map, Bor, nat_cmp}
use Rattle.std.specs.List.{list_any}
use Rattle.std.specs.Cmp.Lexicographic.{slice_cmp}
use Rattle.std.specs.Ordering.{is_eq}
use Rattle.std.proofs.lemmas.Map.Text.{is_eq-slice_cmp}
use Rattle.tl_words.specs.Commands.{with_word, distinct_after}
use Rattle.std.proofs.lemmas.Bool.Decides.{same_from_decides, Decides-like}
use Rattle.std.proofs.lemmas.Slice.Eq.{bytes_eq-Decides}

alike : (a b : List ℕ) → bytes_eq a b ≡ bytes_eq b a
alike a b =
    same_from_decides (bytes_eq a b) (bytes_eq b a) (bytes_eq-Decides a b)
    (Decides-like (bytes_eq b a) (λ (h : b ≡ a). sym h) (λ (h : a ≡ b). sym h) (bytes_eq-Decides b a))

-- one more word
pub seen_after : (kept : List (List ℕ)) (word q : List ℕ) → list_any (bytes_eq q) (kept ++ word ∷ []) ≡ cond (bytes_eq word q) true (list_any (bytes_eq q) kept)
seen_after [] word q = base (bytes_eq q word) (bytes_eq word q) (alike q word)
  where
    base : (a b : Bool) → a ≡ b → (a || false) ≡ cond b true false
    base true b is = subst (λ (x : Bool). true ≡ cond x true false) is refl
    base false b is = subst (λ (x : Bool). false ≡ cond x true false) is refl
seen_after (k ∷ kept) word q =
    ap (λ (b : Bool). bytes_eq q k || b) (seen_after kept word q) ∙ moved (bytes_eq q k) (bytes_eq word q) (list_any (bytes_eq q) kept)
  where
    moved : (a b c : Bool) → (a || cond b true c) ≡ cond b true (a || c)
    moved true true c = refl
    moved true false c = refl
    moved false true c = refl
    moved false false c = refl

-- some borrowed words
abbrev pub nows : List (Bor (List ℕ)) → List (List ℕ)
nows words = map (λ word. word.now) words

nows_after : (words : List (Bor (List ℕ))) (word : Bor (List ℕ)) → nows (words ++ word ∷ []) ≡ nows words ++ word.now ∷ []
nows_after [] word = refl
nows_after (w ∷ words) word = ap (λ (others : List (List ℕ)). w.now ∷ others) (nows_after words word)

added : (kept : List (List ℕ)) (word : List ℕ) → true ≡ not (list_any (bytes_eq word) kept) → with_word kept word ≡ kept ++ word ∷ []
added kept word new = step (list_any (bytes_eq word) kept) new
  where
    step : (b : Bool) → true ≡ not b → cond b kept (kept ++ word ∷ []) ≡ kept ++ word ∷ []
    step true is = absurd (cc)
    step false is = refl

-- a word that wasn't seen is kept
pub keeps_new : (old new : List (Bor (List ℕ))) (word : Bor (List ℕ)) (rest : List (List ℕ)) → new ≡ old ++ word ∷ []
    → true ≡ not (list_any (bytes_eq word.now) (nows old)) → distinct_after (nows old) (word.now ∷ rest) ≡ distinct_after (nows new) rest
keeps_new old new word rest is unseen =
    ap (λ (kept : List (List ℕ)). distinct_after kept rest) (added (nows old) word.now unseen ∙ sym (nows_after old word) ∙ ap nows (sym is))

-- after it those words were seen that were, and it
pub sees_new : (old new : List (Bor (List ℕ))) (word q : Bor (List ℕ)) (before later : Bool) → new ≡ old ++ word ∷ []
    → before ≡ list_any (bytes_eq q.now) (nows old) → later ≡ cond (is_eq (slice_cmp nat_cmp word.now q.now)) true before
    → later ≡ list_any (bytes_eq q.now) (nows new)
sees_new old new word q before later is was now =
    now
    ∙ ap (λ (b : Bool). cond b true before) (is_eq-slice_cmp word.now q.now)
    ∙ ap (λ (b : Bool). cond (bytes_eq word.now q.now) true b) was
    ∙ sym (seen_after (nows old) word.now q.now)
    ∙ ap (list_any (bytes_eq q.now)) (sym (nows_after old word) ∙ ap nows (sym is))
