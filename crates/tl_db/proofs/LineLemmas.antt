-- The first line that begins with a text.
use Rattle.std.proofs.Common.{◌≡◌, ℕ, ◌+◌, ◌<◌, ◌≤◌, true, false, cond, List, [], ◌∷◌, ◌++◌, length, get_or, set, take, drop, Option, Some, None, refl, sym, ap, ◌∙◌, append_assoc, add-one, Bor}
use Rattle.std.specs.Prelude.{is_some, option_copied}
use Rattle.std.proofs.lemmas.List.{drop_more, drop_all, take_more, set_split, take_all}
use Rattle.tl_object.specs.Values.{stripped}
use Rattle.tl_db.specs.Options.{or_first, first_after, with_line}

abbrev Lines : Type 0
Lines = List (List ℕ)

-- what a reference points to is there where the reference is
pub is_some-copied : {X : Type 0} (o : Option (Bor X)) → is_some (option_copied o) ≡ is_some o
is_some-copied None = refl
is_some-copied (Some x) = refl

-- a line that begins otherwise is passed over
pub first_step : (prefix : List ℕ) (lines : Lines) (i : ℕ) (line : List ℕ) → i < length lines → line ≡ get_or lines i line → stripped prefix line ≡ None
    → first_after prefix (drop i lines) ≡ first_after prefix (drop (i + 1) lines)
first_step prefix lines i line lt is other =
    ap (first_after prefix) (drop_more lines i line lt)
    ∙ ap (λ (l : List ℕ). or_first (stripped prefix l) (first_after prefix (drop (i + 1) lines))) (sym is)
    ∙ ap (λ (o : Option (List ℕ)). or_first o (first_after prefix (drop (i + 1) lines))) other

-- a line that begins so is the first one
pub first_found : (prefix : List ℕ) (lines : Lines) (i : ℕ) (line value : List ℕ) → i < length lines → line ≡ get_or lines i line → stripped prefix line ≡ Some value
    → first_after prefix (drop i lines) ≡ Some value
first_found prefix lines i line value lt is begins =
    ap (first_after prefix) (drop_more lines i line lt)
    ∙ ap (λ (l : List ℕ). or_first (stripped prefix l) (first_after prefix (drop (i + 1) lines))) (sym is)
    ∙ ap (λ (o : Option (List ℕ)). or_first o (first_after prefix (drop (i + 1) lines))) begins

pub first_none : (prefix : List ℕ) (lines : Lines) (i : ℕ) → length lines ≤ i → first_after prefix (drop i lines) ≡ None
first_none prefix lines i le = ap (first_after prefix) (drop_all i lines le)

-- where the lines so far begin otherwise, the new line stands behind them
abbrev pub IsBehind : List ℕ → Lines → ℕ → Type 0
IsBehind prefix lines i = (line : List ℕ) → with_line prefix line lines ≡ take i lines ++ with_line prefix line (drop i lines)

with_line_at : (prefix line kept : List ℕ) (lines : Lines) (i : ℕ) → i < length lines → kept ≡ get_or lines i kept
    → with_line prefix line (drop i lines) ≡ cond (is_some (stripped prefix kept)) (line ∷ drop (i + 1) lines) (kept ∷ with_line prefix line (drop (i + 1) lines))
with_line_at prefix line kept lines i lt is =
    ap (with_line prefix line) (drop_more lines i kept lt)
    ∙ ap (λ (l : List ℕ). cond (is_some (stripped prefix l)) (line ∷ drop (i + 1) lines) (l ∷ with_line prefix line (drop (i + 1) lines))) (sym is)

pub behind_step : (prefix kept : List ℕ) (lines : Lines) (i : ℕ) → i < length lines → kept ≡ get_or lines i kept → is_some (stripped prefix kept) ≡ false
    → IsBehind prefix lines i → IsBehind prefix lines (i + 1)
behind_step prefix kept lines i lt is other so_far line =
    so_far line
    ∙ ap (λ (more : Lines). take i lines ++ more)
    (with_line_at prefix line kept lines i lt is ∙ ap (λ t. cond t (line ∷ drop (i + 1) lines) (kept ∷ with_line prefix line (drop (i + 1) lines))) other)
    ∙ sym (append_assoc (take i lines) (kept ∷ []) (with_line prefix line (drop (i + 1) lines)))
    ∙ ap (λ (front : Lines). front ++ with_line prefix line (drop (i + 1) lines))
    (ap (λ (l : List ℕ). take i lines ++ l ∷ []) is ∙ sym (take_more lines i kept lt))

pub behind_found : (prefix kept : List ℕ) (lines : Lines) (i : ℕ) → i < length lines → kept ≡ get_or lines i kept → is_some (stripped prefix kept) ≡ true
    → IsBehind prefix lines i → (line : List ℕ) → with_line prefix line lines ≡ set lines i line
behind_found prefix kept lines i lt is begins so_far line =
    so_far line
    ∙ ap (λ (more : Lines). take i lines ++ more)
    (with_line_at prefix line kept lines i lt is ∙ ap (λ t. cond t (line ∷ drop (i + 1) lines) (kept ∷ with_line prefix line (drop (i + 1) lines))) begins
    ∙ ap (λ n. line ∷ drop n lines) (add-one i))
    ∙ sym (set_split lines i line lt)

pub behind_all : (prefix : List ℕ) (lines : Lines) (i : ℕ) → length lines ≤ i → IsBehind prefix lines i → (line : List ℕ) → with_line prefix line lines ≡ lines ++ line ∷ []
behind_all prefix lines i le so_far line =
    so_far line ∙ ap (λ (front : Lines). front ++ with_line prefix line (drop i lines)) (take_all i lines le)
    ∙ ap (λ (more : Lines). lines ++ with_line prefix line more) (drop_all i lines le)
