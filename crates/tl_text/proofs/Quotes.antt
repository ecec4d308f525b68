-- Which double quote is open at a place of a line.
use Rattle.std.proofs.Common.{◌≡◌, ◌⊎◌, ℕ, ◌+◌, ◌<◌, Bool, true, false, cond, Option, Some, None, List, [], ◌∷◌, length, take, get_or, refl, sym, ◌∙◌, ap, subst, inl, inr, arith}
use Rattle.std.specs.Prelude.{◌==◌, ◌&&◌, slice_range, slice_get, unwrap_or, not, is_some, All}
use Rattle.std.specs.List.{onto_first}
use Rattle.std.proofs.lemmas.Bool.{cases_Bool, true≢false}
use Rattle.std.proofs.lemmas.List.{take_more, take_all, take_rest}
use Rattle.std.proofs.lemmas.List.Edits.{between_more}
use Rattle.std.proofs.lemmas.List.Elements.{All-push, All-nil}
use Rattle.std.proofs.lemmas.Option.{slice_get-get_or}
use Rattle.tl_model.specs.Words.{is_blank, is_open_after, is_open_after-append, quoted_parts, IsLoneQuote, IsQuoted}
use Rattle.tl_text.specs.Quotes.{quote_after}
use Rattle.tl_text.proofs.Runs.{no_run}

-- the double quote at this place is open at a later place
pub record IsOpenQuote (line : List ℕ) (at place : ℕ) : Type 0 where
  pub before : at < place
  pub quote : slice_get line at ≡ Some 34
  pub closed : is_open_after false (take at line) ≡ false
  pub none : All (λ b. (b == 34) ≡ false) (slice_range line (at + 1) place)

-- the open double quote at a place is told
pub record QuotesSoFar (line : List ℕ) (quote : Option ℕ) (place : ℕ) : Type 0 where
  pub state : is_open_after false (take place line) ≡ is_some quote
  pub told : (at : ℕ) → quote ≡ Some at → IsOpenQuote line at place

pub quotes_start : (line : List ℕ) → QuotesSoFar line None 0
quotes_start line = record { state = refl; told = λ at e. absurd (cc) }

some_same : {a b : ℕ} → Some a ≡ Some b → a ≡ b
some_same {a} e = ap (λ (o : Option ℕ). unwrap_or o a) e

pub is_some-quote_after : (quote : Option ℕ) (b at : ℕ) → is_some (quote_after quote b at) ≡ cond (b == 34) (not (is_some quote)) (is_some quote)
is_some-quote_after None b at = elim (cases_Bool (b == 34)) [ inl e ↦ rw e refl | inr e ↦ rw e refl ]
is_some-quote_after (Some quote) b at = elim (cases_Bool (b == 34)) [ inl e ↦ rw e refl | inr e ↦ rw e refl ]

eq_from_test : (b : ℕ) → (b == 34) ≡ true → b ≡ 34
eq_from_test b e = grind arith

opens : (line : List ℕ) (i : ℕ) → i < length line → (get_or line i 0 == 34) ≡ true → is_open_after false (take i line) ≡ false → IsOpenQuote line i (i + 1)
opens line i within e closed = record {
  before = omega arith;
  quote = slice_get-get_or line i 0 within ∙ ap (λ (b : ℕ). Some b) (eq_from_test (get_or line i 0) e);
  closed = closed;
  none = subst (λ (run : List ℕ). All (λ b. (b == 34) ≡ false) run) (sym (no_run line (i + 1))) (All-nil (λ b. (b == 34) ≡ false));
}

stays : (line : List ℕ) (at i : ℕ) → i < length line → (get_or line i 0 == 34) ≡ false → IsOpenQuote line at i → IsOpenQuote line at (i + 1)
stays line at i within e here = record {
  before = omega (arith, here.before);
  quote = here.quote;
  closed = here.closed;
  none = subst (λ (run : List ℕ). All (λ b. (b == 34) ≡ false) run) (sym (between_more line (at + 1) i 0 (omega (arith, here.before)) within)) (All-push (λ b. (b == 34) ≡ false) _ (get_or line i 0) here.none e);
}

told_after : (line : List ℕ) (quote : Option ℕ) (i : ℕ) → i < length line → QuotesSoFar line quote i
    → (get_or line i 0 == 34 ≡ true) ⊎ (get_or line i 0 == 34 ≡ false) → (at : ℕ) → quote_after quote (get_or line i 0) i ≡ Some at → IsOpenQuote line at (i + 1)
told_after line None i within here (inl e) at is =
    let same : i ≡ at = some_same (sym (ap (λ t. cond t (Some i) None) e) ∙ is) in
    subst (λ n. IsOpenQuote line n (i + 1)) same (opens line i within e here.state)
told_after line None i within here (inr e) at is = let never : None ≡ Some at = sym (ap (λ t. cond t (Some i) None) e) ∙ is in absurd (cc)
told_after line (Some quote) i within here (inl e) at is = let never : None ≡ Some at = sym (ap (λ t. cond t None (Some quote)) e) ∙ is in absurd (cc)
told_after line (Some quote) i within here (inr e) at is =
    let same : Some quote ≡ Some at = sym (ap (λ t. cond t None (Some quote)) e) ∙ is in stays line at i within e (here.told at same)

pub quotes_more : (line : List ℕ) (quote : Option ℕ) (i : ℕ) → i < length line → QuotesSoFar line quote i → QuotesSoFar line (quote_after quote (get_or line i 0) i) (i + 1)
quotes_more line quote i within here = record {
  state = ap (is_open_after false) (take_more line i 0 within) ∙ is_open_after-append false (take i line) (get_or line i 0 ∷ [])
      ∙ ap (λ (o : Bool). cond (get_or line i 0 == 34) (not o) o) here.state ∙ sym (is_some-quote_after quote (get_or line i 0) i);
  told = told_after line quote i within here (cases_Bool (get_or line i 0 == 34));
}

pub lone_quote : (line : List ℕ) (quote : Option ℕ) (i at : ℕ) → i ≡ length line → QuotesSoFar line quote i → quote ≡ Some at → IsLoneQuote line at
lone_quote line quote i at last here is =
    let open_here : IsOpenQuote line at (length line) = subst (IsOpenQuote line at) last (here.told at is) in
    (open_here.quote, open_here.closed, subst (λ (run : List ℕ). All (λ b. (b == 34) ≡ false) run) (take_rest line (at + 1)) open_here.none)

pub no_lone_quote : (line : List ℕ) (quote : Option ℕ) (i : ℕ) → i ≡ length line → QuotesSoFar line quote i → quote ≡ None → IsQuoted line
no_lone_quote line quote i last here is =
    ap (is_open_after false) (sym (take_all i line (omega arith))) ∙ here.state ∙ ap (λ (o : Option ℕ). is_some o) is

no_quote : (b : ℕ) → is_blank b ≡ true → (b == 34) ≡ false
no_quote b blank = elim (cases_Bool (b == 34)) [
  | inl e ↦ absurd (true≢false (sym blank ∙ ap is_blank (eq_from_test b e)))
  | inr e ↦ e
]

-- a blank outside of quoted stretches ends a run
pub quoted_cut : (quote : Option ℕ) (b at : ℕ) (rest : List ℕ) → quote ≡ None → is_blank b ≡ true
    → quoted_parts (is_some quote) (b ∷ rest) ≡ [] ∷ quoted_parts (is_some (quote_after quote b at)) rest
quoted_cut quote b at rest is blank =
    let base : quoted_parts false (b ∷ rest) ≡ [] ∷ quoted_parts (is_some (quote_after None b at)) rest = rw (blank, no_quote b blank) refl in
    let P : Option ℕ → Type 0 = λ q. quoted_parts (is_some q) (b ∷ rest) ≡ [] ∷ quoted_parts (is_some (quote_after q b at)) rest in subst P (sym is) base

-- any other byte goes on with it
pub quoted_on : (quote : Option ℕ) (b at : ℕ) (rest : List ℕ) → (is_blank b && not (is_some quote)) ≡ false
    → quoted_parts (is_some quote) (b ∷ rest) ≡ onto_first b (quoted_parts (is_some (quote_after quote b at)) rest)
quoted_on quote b at rest goes_on = rw (goes_on, is_some-quote_after quote b at) refl

pub in_stretch : (blank : Bool) (quote : Option ℕ) → is_some quote ≡ true → (blank && not (is_some quote)) ≡ false
in_stretch blank None e = absurd (true≢false (sym e))
in_stretch true (Some quote) e = refl
in_stretch false (Some quote) e = refl
