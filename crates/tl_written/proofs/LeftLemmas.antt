-- Loops that find each of several values: those that are left stand at the front of what is left of the text.
use Rattle.std.proofs.Common.{◌≡◌, ℕ, true, false, List, [], ◌∷◌, ◌++◌, refl, sym, subst, ◌∙◌, ap, append_assoc}
use Rattle.std.specs.Prelude.{All}
use Rattle.std.specs.List.{flat_map}
use Rattle.std.proofs.lemmas.Bool.{and_parts, and_from, true≢false}
use Rattle.std.proofs.lemmas.List.Elements.{All-head, All-tail}
use Rattle.tl_entry.specs.Rising.{comes_before, is_rising, is_rising_after}
use Rattle.tl_written.specs.Rises.{rises_behind, AreRising}
use Rattle.tl_written.specs.Found.{LacksEach}

-- some values of a form are left at the front of a text
pub record AllLeft {V : Type 0} (lines : V → List ℕ) (formed : V → Type 0) (rest current : List ℕ) : Type 0 where
  pub values : List V
  pub each : All formed values
  pub same : current ≡ flat_map lines values ++ rest

-- where values of a form stand at the front of a text, and behind them what lacks some words, some of them are left
pub record KeepsAll {V : Type 0} (lines : V → List ℕ) (formed : V → Type 0) (words : List (List ℕ)) (text current : List ℕ) : Type 0 where
  pub left : (values : List V) (rest : List ℕ) → All formed values → LacksEach rest words → text ≡ flat_map lines values ++ rest → AllLeft lines formed rest current

-- at the start all of them are left
pub all_left-start : {V : Type 0} (lines : V → List ℕ) (formed : V → Type 0) (words : List (List ℕ)) (text : List ℕ) → KeepsAll lines formed words text text
all_left-start lines formed words text = record { left = λ values rest each lacks same. record { values = values; each = each; same = same } }

-- the values behind the first one are left
left_behind : {V : Type 0} (lines : V → List ℕ) (formed : V → Type 0) (rest current behind : List ℕ) (values : List V) → All formed values → current ≡ flat_map lines values ++ rest
    → (current ≡ rest → ⊥) → ((v : V) (more : List ℕ) → formed v → current ≡ lines v ++ more → behind ≡ more) → AllLeft lines formed rest behind
left_behind lines formed rest current behind [] each same some one = absurd (some same)
left_behind lines formed rest current behind (v ∷ values) each same some one = record {
  values = values;
  each = All-tail formed v values each;
  same = one v (flat_map lines values ++ rest) (All-head formed v values each) (same ∙ append_assoc (lines v) (flat_map lines values) rest);
}

-- where the lines of no value stand, there are none
left_none : {V : Type 0} (lines : V → List ℕ) (formed : V → Type 0) (rest current : List ℕ) (values : List V) → All formed values → current ≡ flat_map lines values ++ rest
    → ((v : V) (more : List ℕ) → formed v → current ≡ lines v ++ more → ⊥) → current ≡ rest
left_none lines formed rest current [] each same none = same
left_none lines formed rest current (v ∷ values) each same none =
    absurd (none v (flat_map lines values ++ rest) (All-head formed v values each) (same ∙ append_assoc (lines v) (flat_map lines values) rest))

-- a value was found, whose lines aren't those of what lacks the words
pub all_left-next : {V : Type 0} (lines : V → List ℕ) (formed : V → Type 0) (words : List (List ℕ)) (text current behind : List ℕ) → KeepsAll lines formed words text current
    → ((rest : List ℕ) → LacksEach rest words → current ≡ rest → ⊥)
    → ((v : V) (rest : List ℕ) → formed v → current ≡ lines v ++ rest → behind ≡ rest)
    → KeepsAll lines formed words text behind
all_left-next lines formed words text current behind keeps some one = record {
  left = λ values rest each lacks same.
      let now = keeps.left values rest each lacks same in
      left_behind lines formed rest current behind now.values now.each now.same (some rest lacks) one;
}

-- no value was found, so none is left
pub all_left-none : {V : Type 0} (lines : V → List ℕ) (formed : V → Type 0) (words : List (List ℕ)) (text current : List ℕ) → KeepsAll lines formed words text current
    → ((v : V) (rest : List ℕ) → formed v → current ≡ lines v ++ rest → ⊥)
    → (values : List V) (rest : List ℕ) → All formed values → LacksEach rest words → text ≡ flat_map lines values ++ rest → current ≡ rest
all_left-none lines formed words text current keeps none values rest each lacks same =
    let now = keeps.left values rest each lacks same in
    left_none lines formed rest current now.values now.each now.same none

-- what was found is of no such value, so there are none
pub all_left-fails : {V : Type 0} (lines : V → List ℕ) (formed : V → Type 0) (words : List (List ℕ)) (text current : List ℕ) → KeepsAll lines formed words text current
    → ((rest : List ℕ) → LacksEach rest words → current ≡ rest → ⊥)
    → ((v : V) (rest : List ℕ) → formed v → current ≡ lines v ++ rest → ⊥)
    → (values : List V) (rest : List ℕ) → All formed values → LacksEach rest words → text ≡ flat_map lines values ++ rest → ⊥
all_left-fails lines formed words text current keeps some none values rest each lacks same =
    some rest lacks (all_left-none lines formed words text current keeps none values rest each lacks same)

-- elements that rise are left at the front of a text, whose keys are greater than the last one
pub record RisingLeft {A : Type 0} (key lines : A → List ℕ) (formed : A → Type 0) (last rest current : List ℕ) : Type 0 where
  pub items : List A
  pub each : All formed items
  pub rises : rises_behind key last items ≡ true
  pub same : current ≡ flat_map lines items ++ rest

-- where elements that rise stand at the front of a text, and behind them what lacks some words, those behind the last one are left
pub record KeepsRising {A : Type 0} (key lines : A → List ℕ) (formed : A → Type 0) (words : List (List ℕ)) (text current last : List ℕ) : Type 0 where
  pub left : (items : List A) (rest : List ℕ) → AreRising key formed items → LacksEach rest words → text ≡ flat_map lines items ++ rest → RisingLeft key lines formed last rest current

-- elements that rise, of which no key is empty, rise behind an empty one
rises_first : {A : Type 0} (key : A → List ℕ) (formed : A → Type 0) (items : List A) → All formed items → ((x : A) → formed x → comes_before [] (key x) ≡ true) → is_rising key items ≡ true
    → rises_behind key [] items ≡ true
rises_first key formed [] each some rising = refl
rises_first key formed (x ∷ items) each some rising = and_from _ _ (some x (All-head formed x items each)) rising

-- elements that rise behind a text rise behind the first one of them
rises_next : {A : Type 0} (key : A → List ℕ) (last : List ℕ) (x : A) (items : List A) → rises_behind key last (x ∷ items) ≡ true → rises_behind key (key x) items ≡ true
rises_next key last x [] rises = refl
rises_next key last x (y ∷ items) rises = (and_parts (comes_before last (key x)) (is_rising_after key x (y ∷ items)) rises).1

-- at the start all of them are left, where no key is empty
pub rising_left-start : {A : Type 0} (key lines : A → List ℕ) (formed : A → Type 0) (words : List (List ℕ)) (text : List ℕ) → ((x : A) → formed x → comes_before [] (key x) ≡ true)
    → KeepsRising key lines formed words text text []
rising_left-start key lines formed words text some = record {
  left = λ items rest rising lacks same. record { items = items; each = rising.each; rises = rises_first key formed items rising.each some rising.rising; same = same };
}

-- the elements behind the first one are left
rising_behind : {A : Type 0} (key lines : A → List ℕ) (formed : A → Type 0) (last rest current behind named : List ℕ) (items : List A) → All formed items → rises_behind key last items ≡ true
    → current ≡ flat_map lines items ++ rest → (current ≡ rest → ⊥)
    → ((x : A) (others : List A) → formed x → current ≡ lines x ++ (flat_map lines others ++ rest) → (named ≡ key x) × (behind ≡ flat_map lines others ++ rest))
    → RisingLeft key lines formed named rest behind
rising_behind key lines formed last rest current behind named [] each rises same some one = absurd (some same)
rising_behind key lines formed last rest current behind named (x ∷ items) each rises same some one =
    let found = one x items (All-head formed x items each) (same ∙ append_assoc (lines x) (flat_map lines items) rest) in
    record {
      items = items;
      each = All-tail formed x items each;
      rises = subst (λ (l : List ℕ). rises_behind key l items ≡ true) (sym found.0) (rises_next key last x items rises);
      same = found.1;
    }

-- where the lines of no element stand, there are none
rising_none : {A : Type 0} (lines : A → List ℕ) (formed : A → Type 0) (rest current : List ℕ) (items : List A) → All formed items → current ≡ flat_map lines items ++ rest
    → ((x : A) (others : List A) → formed x → current ≡ lines x ++ (flat_map lines others ++ rest) → ⊥) → current ≡ rest
rising_none lines formed rest current [] each same none = same
rising_none lines formed rest current (x ∷ items) each same none = absurd (none x items (All-head formed x items each) (same ∙ append_assoc (lines x) (flat_map lines items) rest))

-- the first element's key is greater than the last one
rising_fails : {A : Type 0} (key lines : A → List ℕ) (formed : A → Type 0) (last rest current named : List ℕ) (items : List A) → All formed items → rises_behind key last items ≡ true
    → current ≡ flat_map lines items ++ rest → (current ≡ rest → ⊥) → ((x : A) (others : List A) → formed x → current ≡ lines x ++ (flat_map lines others ++ rest) → named ≡ key x)
    → comes_before last named ≡ false → ⊥
rising_fails key lines formed last rest current named [] each rises same some one falls = some same
rising_fails key lines formed last rest current named (x ∷ items) each rises same some one falls =
    let found : named ≡ key x = one x items (All-head formed x items each) (same ∙ append_assoc (lines x) (flat_map lines items) rest) in
    let greater : comes_before last (key x) ≡ true = (and_parts (comes_before last (key x)) (is_rising_after key x items) rises).0 in
    true≢false (sym greater ∙ ap (comes_before last) (sym found) ∙ falls)

-- an element was found; `inner` are the words that what stands behind one element lacks
pub rising_left-next : {A : Type 0} (key lines : A → List ℕ) (formed : A → Type 0) (words inner : List (List ℕ)) (text current behind last named : List ℕ) → KeepsRising key lines formed words text current last
    → ((items : List A) (rest : List ℕ) → LacksEach rest words → LacksEach (flat_map lines items ++ rest) inner)
    → ((rest : List ℕ) → LacksEach rest words → current ≡ rest → ⊥)
    → ((x : A) (rest : List ℕ) → formed x → LacksEach rest inner → current ≡ lines x ++ rest → (named ≡ key x) × (behind ≡ rest))
    → KeepsRising key lines formed words text behind named
rising_left-next key lines formed words inner text current behind last named keeps inside some one = record {
  left = λ items rest rising lacks same.
      let now = keeps.left items rest rising lacks same in
      rising_behind key lines formed last rest current behind named now.items now.each now.rises now.same (some rest lacks)
      (λ x others is stands. one x (flat_map lines others ++ rest) is (inside others rest lacks) stands);
}

-- no element was found, so none is left
pub rising_left-none : {A : Type 0} (key lines : A → List ℕ) (formed : A → Type 0) (words inner : List (List ℕ)) (text current last : List ℕ) → KeepsRising key lines formed words text current last
    → ((items : List A) (rest : List ℕ) → LacksEach rest words → LacksEach (flat_map lines items ++ rest) inner)
    → ((x : A) (rest : List ℕ) → formed x → LacksEach rest inner → current ≡ lines x ++ rest → ⊥)
    → (items : List A) (rest : List ℕ) → AreRising key formed items → LacksEach rest words → text ≡ flat_map lines items ++ rest → current ≡ rest
rising_left-none key lines formed words inner text current last keeps inside none items rest rising lacks same =
    let now = keeps.left items rest rising lacks same in
    rising_none lines formed rest current now.items now.each now.same (λ x others is stands. none x (flat_map lines others ++ rest) is (inside others rest lacks) stands)

-- an element was found whose key isn't greater than the last one, so these elements don't stand there
pub rising_left-fails : {A : Type 0} (key lines : A → List ℕ) (formed : A → Type 0) (words inner : List (List ℕ)) (text current behind last named : List ℕ) → KeepsRising key lines formed words text current last
    → ((items : List A) (rest : List ℕ) → LacksEach rest words → LacksEach (flat_map lines items ++ rest) inner)
    → ((rest : List ℕ) → LacksEach rest words → current ≡ rest → ⊥)
    → ((x : A) (rest : List ℕ) → formed x → LacksEach rest inner → current ≡ lines x ++ rest → (named ≡ key x) × (behind ≡ rest))
    → comes_before last named ≡ false
    → (items : List A) (rest : List ℕ) → AreRising key formed items → LacksEach rest words → text ≡ flat_map lines items ++ rest → ⊥
rising_left-fails key lines formed words inner text current behind last named keeps inside some one falls items rest rising lacks same =
    let now = keeps.left items rest rising lacks same in
    rising_fails key lines formed last rest current named now.items now.each now.rises now.same (some rest lacks)
    (λ x others is stands. (one x (flat_map lines others ++ rest) is (inside others rest lacks) stands).0) falls
