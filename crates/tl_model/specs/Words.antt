-- The words of a line, with and without stretches in double quotes.
use Rattle.std.specs.Prelude.{◌≡◌, ℕ, ◌+◌, ◌==◌, Bool, true, false, cond, if◌then◌else◌, not, ◌||◌, ◌&&◌, List, [], ◌∷◌, ◌++◌, take, drop, filter, All, slice_get, Option, Some, unwrap_or}
use Rattle.std.specs.List.{onto_first, slice_split}
use Rattle.std.proofs.Common.{sym, ◌∙◌, ap, subst, refl, zero, suc, add-one}
use Rattle.std.proofs.lemmas.Bool.{true≢false}
use Rattle.std.proofs.lemmas.List.Elements.{All-head, All-tail}

-- whether a byte is a space or a tab
abbrev pub is_blank : ℕ → Bool
is_blank b = b == 32 || b == 9

-- whether a part has a byte
abbrev pub is_full : List ℕ → Bool
is_full [] = false
is_full (b ∷ part) = true

-- the maximal runs of bytes that aren't blanks
abbrev pub fields : List ℕ → List (List ℕ)
fields line = filter is_full (slice_split is_blank line)

-- whether a quoted stretch is open behind a text, where at its start one was open or not
abbrev pub is_open_after : Bool → List ℕ → Bool
is_open_after open_before [] = open_before
is_open_after open_before (b ∷ text) = is_open_after (if b == 34 then not open_before else open_before) text

-- the parts between the blanks that stand in no quoted stretch, where at the start one is open or not
abbrev pub quoted_parts : Bool → List ℕ → List (List ℕ)
quoted_parts open_before [] = [] ∷ []
quoted_parts open_before (b ∷ line) =
    if is_blank b && not open_before then [] ∷ quoted_parts open_before line
    else onto_first b (quoted_parts (if b == 34 then not open_before else open_before) line)

-- the maximal runs of bytes that aren't blanks outside of quoted stretches: a double quote begins a stretch up to the next one
abbrev pub quoted_words : List ℕ → List (List ℕ)
quoted_words line = filter is_full (quoted_parts false line)

-- the double quote at this place begins a stretch, and no double quote stands behind it
abbrev pub IsLoneQuote : List ℕ → ℕ → Type 0
IsLoneQuote line at =
    (slice_get line at ≡ Some 34) × (is_open_after false (take at line) ≡ false) × All (λ b. (b == 34) ≡ false) (drop (at + 1) line)

-- each double quote of a line has a partner
abbrev pub IsQuoted : List ℕ → Type 0
IsQuoted line = is_open_after false line ≡ false

-- a text after another
pub is_open_after-append : (open_before : Bool) (text more : List ℕ) → is_open_after open_before (text ++ more) ≡ is_open_after (is_open_after open_before text) more
is_open_after-append open_before [] more = refl
is_open_after-append open_before (b ∷ text) more = is_open_after-append (cond (b == 34) (not open_before) open_before) text more

-- a text without double quotes opens and closes none
pub is_open_after-none : (open_before : Bool) (text : List ℕ) → All (λ b. (b == 34) ≡ false) text → is_open_after open_before text ≡ open_before
is_open_after-none open_before [] none = refl
is_open_after-none open_before (b ∷ text) none =
    ap (λ t. is_open_after (cond t (not open_before) open_before) text) (All-head (λ b. (b == 34) ≡ false) b text none)
    ∙ is_open_after-none open_before text (All-tail (λ b. (b == 34) ≡ false) b text none)

-- a line with a lone double quote ends in an open stretch
pub lone-open : (line : List ℕ) (at : ℕ) → IsLoneQuote line at → is_open_after false line ≡ true
lone-open line at lone = from_any false line at lone.0 lone.1 (subst (λ n. All (λ b. (b == 34) ≡ false) (drop n line)) (add-one at) lone.2)
  where
    some_same : {a b : ℕ} → Some a ≡ Some b → a ≡ b
    some_same {a} e = ap (λ (o : Option ℕ). unwrap_or o a) e

    from_any : (open_before : Bool) (line : List ℕ) (at : ℕ) → slice_get line at ≡ Some 34 → is_open_after open_before (take at line) ≡ false
        → All (λ b. (b == 34) ≡ false) (drop (suc at) line) → is_open_after open_before line ≡ true
    from_any open_before [] at is closed none = absurd (cc)
    from_any open_before (b ∷ line) zero is closed none =
        let quote : b ≡ 34 = some_same is in
        ap (λ c. is_open_after (cond (c == 34) (not open_before) open_before) line) quote ∙ is_open_after-none (not open_before) line none ∙ ap not closed
    from_any open_before (b ∷ line) (suc at) is closed none = from_any (cond (b == 34) (not open_before) open_before) line at is closed none

-- where each double quote has a partner, none is alone
pub lone-none : (line : List ℕ) (at : ℕ) → IsQuoted line → IsLoneQuote line at → ⊥
lone-none line at quoted lone = true≢false (sym (lone-open line at lone) ∙ quoted)
