-- The lines of marks, read one after the other.
use Rattle.std.proofs.Common.{◌≡◌, ℕ, ◌+◌, ◌<◌, ◌≤◌, ◌==◌, List, [], ◌∷◌, ◌++◌, length, get_or, drop, Option, Some, None, Ok, Err, sym, ap, subst, ◌∙◌, arith, inl, inr, suc}
use Rattle.std.specs.List.{onto_first}
use Rattle.std.proofs.lemmas.Bool.{cases_Bool}
use Rattle.std.proofs.lemmas.List.Elements.{All-tail}
use Rattle.std.proofs.lemmas.List.{length-map, at_drop_more, at_drop_all}
use Rattle.tl_model.specs.Lines.{lines}
use Rattle.tl_text.specs.declared.span.Span.{Span}
use Rattle.tl_text.specs.Spans.{stretch, stretches, IsWithin, AreRising}
use Rattle.tl_marks.specs.declared.marks.MarkedPath.{MarkedPath}
use Rattle.tl_marks.specs.Form.{path_in}
use Rattle.tl_marks.specs.Reading.{following, next_path, paths_in}

length-onto_first-le : (b n : ℕ) (some : List (List ℕ)) → length some ≤ n → length (onto_first b some) ≤ n + 1
length-onto_first-le b n [] le = omega arith
length-onto_first-le b n (line ∷ some) le = omega (arith, le)

-- a text has no more lines than bytes
pub length-lines-le : (text : List ℕ) → length (lines text) ≤ length text
length-lines-le [] = omega arith
length-lines-le (b ∷ text) = elim (cases_Bool (b == 10)) [
  | inl end ↦ rw end (omega (arith, length-lines-le text))
  | inr other ↦ rw other (omega (arith, length-onto_first-le b (length text) (lines text) (length-lines-le text)))
]

-- the paths so far, with what the other lines say behind them, are what all lines say
pub record ReadSoFar (counter first : ℕ) (text : List ℕ) (spans : List Span) (paths : List MarkedPath) (i : ℕ) : Type 0 where
  pub same : paths_in counter paths (first + i) (stretches text (drop i spans)) ≡ paths_in counter [] first (stretches text spans)

pub none_read : (counter first : ℕ) (text : List ℕ) (spans : List Span) → ReadSoFar counter first text spans [] 0
none_read counter first text spans =
    let same : first + 0 ≡ first = omega arith in record { same = ap (λ n. paths_in counter [] n (stretches text spans)) same }

one_line : (counter first : ℕ) (text line : List ℕ) (spans : List Span) (paths : List MarkedPath) (i : ℕ) (d : Span) (o : Option MarkedPath) → i < length spans
    → line ≡ stretch text (get_or spans i d) → following paths (path_in counter line) ≡ o → ReadSoFar counter first text spans paths i
    → next_path paths (first + i) o (λ more. paths_in counter more (first + i + 1) (stretches text (drop (i + 1) spans))) ≡ paths_in counter [] first (stretches text spans)
one_line counter first text line spans paths i d o lt is says so_far =
    ap (λ (r : Option MarkedPath). next_path paths (first + i) r (λ more. paths_in counter more (first + i + 1) (stretches text (drop (i + 1) spans))))
    (sym says ∙ ap (λ (l : List ℕ). following paths (path_in counter l)) is)
    ∙ sym (at_drop_more (λ (rest : List Span). paths_in counter paths (first + i) (stretches text rest)) spans i d lt)
    ∙ so_far.same

-- a line that has a path, which may follow
pub read_more : (counter first : ℕ) (text line : List ℕ) (spans : List Span) (paths : List MarkedPath) (i : ℕ) (d : Span) (m : MarkedPath) → i < length spans
    → line ≡ stretch text (get_or spans i d) → following paths (path_in counter line) ≡ Some m → ReadSoFar counter first text spans paths i
    → ReadSoFar counter first text spans (paths ++ m ∷ []) (i + 1)
read_more counter first text line spans paths i d m lt is says so_far =
    let next : first + (i + 1) ≡ first + i + 1 = omega arith in
    record {
      same = ap (λ n. paths_in counter (paths ++ m ∷ []) n (stretches text (drop (i + 1) spans))) next
          ∙ one_line counter first text line spans paths i d (Some m) lt is says so_far;
    }

-- a line that has none
pub read_none : (counter first : ℕ) (text line : List ℕ) (spans : List Span) (paths : List MarkedPath) (i : ℕ) (d : Span) → i < length spans
    → line ≡ stretch text (get_or spans i d) → following paths (path_in counter line) ≡ None → ReadSoFar counter first text spans paths i
    → paths_in counter [] first (stretches text spans) ≡ Err (first + i)
read_none counter first text line spans paths i d lt is says so_far = sym (one_line counter first text line spans paths i d None lt is says so_far)

-- all lines are read
pub all_read : (counter first : ℕ) (text : List ℕ) (spans : List Span) (paths : List MarkedPath) (i : ℕ) → length spans ≤ i → ReadSoFar counter first text spans paths i
    → paths_in counter [] first (stretches text spans) ≡ Ok paths
all_read counter first text spans paths i all so_far =
    sym so_far.same ∙ at_drop_all (λ (rest : List Span). paths_in counter paths (first + i) (stretches text rest)) spans i all

-- the spans behind the first one rise too
pub others_rising : (len : ℕ) (spans others : List Span) (first : Span) → spans ≡ first ∷ others → AreRising len spans → AreRising len others
others_rising len spans others first is are =
    let all = subst (AreRising len) is are in
    record {
      within = All-tail (IsWithin len) first others all.within;
      apart = λ i j d lt within. all.apart (suc i) (suc j) d (omega (arith, lt)) (omega (arith, within));
    }

-- a text has no fewer bytes than lines behind the first one, and one more
pub few_others : (text : List ℕ) (spans others : List Span) (first : Span) → spans ≡ first ∷ others → stretches text spans ≡ lines text → length others + 1 ≤ length text
few_others text spans others first is are =
    omega (arith, ap length is, ap length are, length-map spans (stretch text), length-lines-le text)
