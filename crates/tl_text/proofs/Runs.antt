-- Runs of bytes between those that end them, and the spans of such runs so far.
use Rattle.std.proofs.Common.{◌≡◌, ◌⊎◌, ℕ, ◌+◌, ◌-◌, ◌<◌, ◌≤◌, true, false, cond, List, [], ◌∷◌, ◌++◌, length, filter, drop, get_or, refl, sym, ◌∙◌, ap, subst, inl, inr, append_assoc, arith}
use Rattle.std.specs.Prelude.{◌==◌, slice_range, nat_lt, All, AllPairs}
use Rattle.std.specs.List.{onto_first}
use Rattle.std.proofs.lemmas.Bool.{cases_Bool, ltb-true, ltb-false}
use Rattle.std.proofs.lemmas.List.{drop_all, drop_more, nil_from_length, map-append, append-nil}
use Rattle.std.proofs.lemmas.List.Edits.{between_more, length-between}
use Rattle.std.proofs.lemmas.List.Elements.{All-push, All-weaker, All-nil}
use Rattle.std.proofs.lemmas.List.Quantifiers.{all_pairs_push}
use Rattle.tl_model.specs.Lines.{lines}
use Rattle.tl_model.specs.Words.{is_full}
use Rattle.tl_text.specs.Spans.{stretch, stretches, IsWithin, AreRising, line_spans, run_spans}
use Rattle.tl_text.specs.declared.span.Span.{Span}

-- a run of bytes in front of the first of some parts
abbrev pub glue : List ℕ → List (List ℕ) → List (List ℕ)
glue [] parts = parts
glue (b ∷ run) parts = onto_first b (glue run parts)

pub glue-push : (run : List ℕ) (b : ℕ) (parts : List (List ℕ)) → glue (run ++ b ∷ []) parts ≡ glue run (onto_first b parts)
glue-push [] b parts = refl
glue-push (a ∷ run) b parts = ap (onto_first a) (glue-push run b parts)

pub glue-cut : (run : List ℕ) (parts : List (List ℕ)) → glue run ([] ∷ parts) ≡ run ∷ parts
glue-cut [] parts = refl
glue-cut (a ∷ run) parts = ap (onto_first a) (glue-cut run parts)

pub glue-last : (run : List ℕ) → 0 < length run → glue run [] ≡ run ∷ []
glue-last [] some = absurd (omega arith)
glue-last (a ∷ []) some = refl
glue-last (a ∷ b ∷ run) some = ap (onto_first a) (glue-last (b ∷ run) (omega arith))

pub no_run : (text : List ℕ) (i : ℕ) → slice_range text i i ≡ []
no_run text i = let none : i - i ≡ 0 = omega arith in rw none refl

-- one byte more of a run
pub glue_more : (F G : List ℕ → List (List ℕ)) (text : List ℕ) (start i : ℕ) → start ≤ i → i < length text
    → F (get_or text i 0 ∷ drop (i + 1) text) ≡ onto_first (get_or text i 0) (G (drop (i + 1) text))
    → glue (slice_range text start i) (F (drop i text)) ≡ glue (slice_range text start (i + 1)) (G (drop (i + 1) text))
glue_more F G text start i order within steps =
    ap (λ rest. glue (slice_range text start i) (F rest)) (drop_more text i 0 within)
    ∙ ap (glue (slice_range text start i)) steps
    ∙ sym (glue-push (slice_range text start i) (get_or text i 0) (G (drop (i + 1) text)))
    ∙ ap (λ run. glue run (G (drop (i + 1) text))) (sym (between_more text start i 0 order within))

-- the byte that ends a run
pub glue_cut : (F G : List ℕ → List (List ℕ)) (text : List ℕ) (start i : ℕ) → i < length text
    → F (get_or text i 0 ∷ drop (i + 1) text) ≡ [] ∷ G (drop (i + 1) text)
    → glue (slice_range text start i) (F (drop i text)) ≡ slice_range text start i ∷ glue (slice_range text (i + 1) (i + 1)) (G (drop (i + 1) text))
glue_cut F G text start i within steps =
    ap (λ rest. glue (slice_range text start i) (F rest)) (drop_more text i 0 within)
    ∙ ap (glue (slice_range text start i)) steps
    ∙ glue-cut (slice_range text start i) (G (drop (i + 1) text))
    ∙ ap (λ run. slice_range text start i ∷ glue run (G (drop (i + 1) text))) (sym (no_run text (i + 1)))

-- spans so far, all before a place
pub record SpansSoFar (spans : List Span) (place : ℕ) : Type 0 where
  pub within : All (IsWithin place) spans
  pub apart : AllPairs (λ (before after : Span). before.end ≤ after.start) spans

pub none_so_far : SpansSoFar [] 0
none_so_far = record { within = All-nil (IsWithin 0); apart = λ i j d lt within. absurd (omega arith) }

pub later : (spans : List Span) (place next : ℕ) → place ≤ next → SpansSoFar spans place → SpansSoFar spans next
later spans place next order so_far = record {
  within = All-weaker (IsWithin place) (IsWithin next) (λ span is. (is.0, omega (arith, is.1))) spans so_far.within;
  apart = so_far.apart;
}

pub push_so_far : (spans : List Span) (start end : ℕ) → start ≤ end → SpansSoFar spans start → SpansSoFar (spans ++ record { start = start; end = end } ∷ []) end
push_so_far spans start end order so_far = record {
  within = All-push (IsWithin end) spans (record { start = start; end = end }) (later spans start end order so_far).within (order, omega arith);
  apart = all_pairs_push (λ (before after : Span). before.end ≤ after.start) spans (record { start = start; end = end }) so_far.apart (λ k d lt. (so_far.within k d lt).1);
}

pub run_so_far : (spans : List Span) (start end : ℕ) → start ≤ end → SpansSoFar spans start → SpansSoFar (spans ++ run_spans start end) end
run_so_far spans start end order so_far = elim (cases_Bool (nat_lt start end)) [
  | inl e ↦ rw e (push_so_far spans start end order so_far)
  | inr e ↦ rw (e, append-nil spans) (later spans start end order so_far)
]

run_length : (text : List ℕ) (start i : ℕ) → i ≤ length text → length (slice_range text start i) ≡ i - start
run_length text start i within = length-between text start i within

full_run : (run : List ℕ) → 0 < length run → is_full run ≡ true
full_run [] some = absurd (omega arith)
full_run (b ∷ run) some = refl

no_bytes : (run : List ℕ) → length run ≡ 0 → is_full run ≡ false
no_bytes [] none = refl
no_bytes (b ∷ run) none = absurd (omega arith)

-- the stretch of a run's span is the run, where it has a byte
pub stretches-run : (text : List ℕ) (start i : ℕ) (parts : List (List ℕ)) → i ≤ length text → stretches text (run_spans start i) ++ filter is_full parts ≡ filter is_full (slice_range text start i ∷ parts)
stretches-run text start i parts within = elim (cases_Bool (nat_lt start i)) [
  | inl e ↦ let less : start < i = ltb-true start i e in
      let some : 0 < length (slice_range text start i) = omega (arith, run_length text start i within) in rw (e, full_run _ some) refl
  | inr e ↦ let least : i ≤ start = ltb-false start i e in
      let none : length (slice_range text start i) ≡ 0 = omega (arith, run_length text start i within) in rw (e, no_bytes _ none) refl
]

-- one more list of stretches
more_stretches : (text : List ℕ) (spans added : List Span) (parts rest whole : List (List ℕ))
    → stretches text added ++ rest ≡ parts → stretches text spans ++ parts ≡ whole → stretches text (spans ++ added) ++ rest ≡ whole
more_stretches text spans added parts rest whole here so_far =
    ap (λ (ss : List (List ℕ)). ss ++ rest) (map-append (stretch text) spans added)
    ∙ append_assoc (stretches text spans) (stretches text added) rest
    ∙ ap (λ (ss : List (List ℕ)). stretches text spans ++ ss) here
    ∙ so_far

-- the words so far of a line whose rest has these parts, and whose words are whole
pub record WordsSoFar (line : List ℕ) (spans : List Span) (start place : ℕ) (parts whole : List (List ℕ)) : Type 0 where
  pub order : start ≤ place
  pub so_far : SpansSoFar spans start
  pub words : stretches line spans ++ filter is_full (glue (slice_range line start place) parts) ≡ whole

pub words_start : (line : List ℕ) (parts : List (List ℕ)) → WordsSoFar line [] 0 0 parts (filter is_full parts)
words_start line parts = record { order = omega arith; so_far = none_so_far; words = refl }

pub words_more : (F G : List ℕ → List (List ℕ)) (line : List ℕ) (spans : List Span) (start i : ℕ) (whole : List (List ℕ)) → i < length line
    → F (get_or line i 0 ∷ drop (i + 1) line) ≡ onto_first (get_or line i 0) (G (drop (i + 1) line))
    → WordsSoFar line spans start i (F (drop i line)) whole → WordsSoFar line spans start (i + 1) (G (drop (i + 1) line)) whole
words_more F G line spans start i whole within steps here = record {
  order = omega (arith, here.order);
  so_far = here.so_far;
  words = ap (λ (parts : List (List ℕ)). stretches line spans ++ filter is_full parts) (sym (glue_more F G line start i here.order within steps)) ∙ here.words;
}

pub words_cut : (F G : List ℕ → List (List ℕ)) (line : List ℕ) (spans : List Span) (start i : ℕ) (whole : List (List ℕ)) → i < length line
    → F (get_or line i 0 ∷ drop (i + 1) line) ≡ [] ∷ G (drop (i + 1) line)
    → WordsSoFar line spans start i (F (drop i line)) whole → WordsSoFar line (spans ++ run_spans start i) (i + 1) (i + 1) (G (drop (i + 1) line)) whole
words_cut F G line spans start i whole within steps here = let next : List (List ℕ) = glue (slice_range line (i + 1) (i + 1)) (G (drop (i + 1) line)) in record {
  order = omega arith;
  so_far = later (spans ++ run_spans start i) i (i + 1) (omega arith) (run_so_far spans start i here.order here.so_far);
  words = more_stretches line spans (run_spans start i) (filter is_full (slice_range line start i ∷ next)) (filter is_full next) whole (stretches-run line start i next (omega arith))
      (ap (λ (parts : List (List ℕ)). stretches line spans ++ filter is_full parts) (sym (glue_cut F G line start i within steps)) ∙ here.words);
}

pub words_end : (line : List ℕ) (spans : List Span) (start : ℕ) (whole : List (List ℕ)) → WordsSoFar line spans start (length line) ([] ∷ []) whole
    → (stretches line (spans ++ run_spans start (length line)) ≡ whole) × AreRising (length line) (spans ++ run_spans start (length line))
words_end line spans start whole here =
    let rising : SpansSoFar (spans ++ run_spans start (length line)) (length line) = run_so_far spans start (length line) here.order here.so_far in
    let run : List ℕ = slice_range line start (length line) in (
      sym (append-nil _) ∙ more_stretches line spans (run_spans start (length line)) (filter is_full (run ∷ [])) [] whole (stretches-run line start (length line) [] (omega arith))
          (ap (λ (parts : List (List ℕ)). stretches line spans ++ filter is_full parts) (sym (glue-cut run [])) ∙ here.words),
      record { within = rising.within; apart = rising.apart },
    )

pub words_done : (F : List ℕ → List (List ℕ)) (line : List ℕ) (spans : List Span) (start i : ℕ) (whole : List (List ℕ)) → F [] ≡ [] ∷ [] → i ≡ length line
    → WordsSoFar line spans start i (F (drop i line)) whole
    → (stretches line (spans ++ run_spans start (length line)) ≡ whole) × AreRising (length line) (spans ++ run_spans start (length line))
words_done F line spans start i whole none last here =
    let rest : F (drop i line) ≡ [] ∷ [] = ap F (drop_all i line (omega arith)) ∙ none in
    words_end line spans start whole (subst (λ n. WordsSoFar line spans start n ([] ∷ []) whole) last (subst (λ (parts : List (List ℕ)). WordsSoFar line spans start i parts whole) rest here))

-- the lines so far of a text, up to a place in the line that begins at start
pub record LinesSoFar (text : List ℕ) (spans : List Span) (start place : ℕ) : Type 0 where
  pub order : start ≤ place
  pub so_far : SpansSoFar spans start
  pub texts : stretches text spans ++ glue (slice_range text start place) (lines (drop place text)) ≡ lines text
  pub places : spans ++ line_spans start (glue (slice_range text start place) (lines (drop place text))) ≡ line_spans 0 (lines text)

lines_step_on : (b : ℕ) (rest : List ℕ) → (b == 10) ≡ false → lines (b ∷ rest) ≡ onto_first b (lines rest)
lines_step_on b rest e = ap (λ t. cond t ([] ∷ lines rest) (onto_first b (lines rest))) e

lines_step_end : (b : ℕ) (rest : List ℕ) → (b == 10) ≡ true → lines (b ∷ rest) ≡ [] ∷ lines rest
lines_step_end b rest e = ap (λ t. cond t ([] ∷ lines rest) (onto_first b (lines rest))) e

pub lines_more : (text : List ℕ) (spans : List Span) (start i : ℕ) → i < length text → (get_or text i 0 == 10) ≡ false → LinesSoFar text spans start i → LinesSoFar text spans start (i + 1)
lines_more text spans start i within apart here =
    let same : glue (slice_range text start i) (lines (drop i text)) ≡ glue (slice_range text start (i + 1)) (lines (drop (i + 1) text)) =
    glue_more lines lines text start i here.order within (lines_step_on (get_or text i 0) (drop (i + 1) text) apart) in
    record {
      order = omega (arith, here.order);
      so_far = here.so_far;
      texts = ap (λ (parts : List (List ℕ)). stretches text spans ++ parts) (sym same) ∙ here.texts;
      places = ap (λ (parts : List (List ℕ)). spans ++ line_spans start parts) (sym same) ∙ here.places;
    }

span_from : (start len end : ℕ) (others : List Span) → start + len ≡ end → record { start = start; end = start + len } ∷ others ≡ record { start = start; end = end } ∷ others
span_from start len end others e = ap (λ (n : ℕ). record { start = start; end = n } ∷ others) e

-- the spans of a line and of those behind it
line_spans-cut : (text : List ℕ) (start i : ℕ) (others : List (List ℕ)) → start ≤ i → i ≤ length text
    → line_spans start (slice_range text start i ∷ others) ≡ record { start = start; end = i } ∷ line_spans (i + 1) others
line_spans-cut text start i others order within =
    let ends : start + length (slice_range text start i) ≡ i = omega (arith, run_length text start i within) in
    ap (λ (n : ℕ). record { start = start; end = n } ∷ line_spans (n + 1) others) ends

pub lines_cut : (text : List ℕ) (spans : List Span) (start i : ℕ) → i < length text → (get_or text i 0 == 10) ≡ true → LinesSoFar text spans start i
    → LinesSoFar text (spans ++ record { start = start; end = i } ∷ []) (i + 1) (i + 1)
lines_cut text spans start i within ends here =
    let next : List (List ℕ) = glue (slice_range text (i + 1) (i + 1)) (lines (drop (i + 1) text)) in
    let same : glue (slice_range text start i) (lines (drop i text)) ≡ slice_range text start i ∷ next =
    glue_cut lines lines text start i within (lines_step_end (get_or text i 0) (drop (i + 1) text) ends) in
    let span : Span = record { start = start; end = i } in
    record {
      order = omega arith;
      so_far = later (spans ++ span ∷ []) i (i + 1) (omega arith) (push_so_far spans start i here.order here.so_far);
      texts = more_stretches text spans (span ∷ []) (slice_range text start i ∷ next) next (lines text) refl
          (ap (λ (parts : List (List ℕ)). stretches text spans ++ parts) (sym same) ∙ here.texts);
      places = append_assoc spans (span ∷ []) (line_spans (i + 1) next)
          ∙ ap (λ (ss : List Span). spans ++ ss) (sym (line_spans-cut text start i next here.order (omega arith)))
          ∙ ap (λ (parts : List (List ℕ)). spans ++ line_spans start parts) (sym same) ∙ here.places;
    }

pub record LinesDone (text : List ℕ) (spans : List Span) : Type 0 where
  pub texts : stretches text spans ≡ lines text
  pub places : spans ≡ line_spans 0 (lines text)
  pub rising : AreRising (length text) spans

last_line : (text : List ℕ) (spans : List Span) (start : ℕ) → LinesSoFar text spans start (length text) → (nat_lt start (length text) ≡ true) ⊎ (nat_lt start (length text) ≡ false)
    → (stretches text (spans ++ run_spans start (length text)) ≡ lines text) × (spans ++ run_spans start (length text) ≡ line_spans 0 (lines text))
last_line text spans start here (inl e) =
    let n : ℕ = length text in
    let run : List ℕ = slice_range text start n in
    let less : start < n = ltb-true start n e in
    let some : 0 < length run = omega (arith, run_length text start n (omega arith)) in
    let rest : glue run (lines (drop n text)) ≡ run ∷ [] = ap (λ (r : List ℕ). glue run (lines r)) (drop_all n text (omega arith)) ∙ glue-last run some in
    rw e (
      map-append (stretch text) spans (record { start = start; end = n } ∷ [])
          ∙ ap (λ (parts : List (List ℕ)). stretches text spans ++ parts) (sym rest) ∙ here.texts,
      ap (λ (ss : List Span). spans ++ ss) (sym (line_spans-cut text start n [] here.order (omega arith)))
          ∙ ap (λ (parts : List (List ℕ)). spans ++ line_spans start parts) (sym rest) ∙ here.places,
    )
last_line text spans start here (inr e) =
    let n : ℕ = length text in
    let run : List ℕ = slice_range text start n in
    let least : n ≤ start = ltb-false start n e in
    let none : run ≡ [] = nil_from_length run (omega (arith, run_length text start n (omega arith))) in
    let rest : glue run (lines (drop n text)) ≡ [] = ap (λ (r : List ℕ). glue run (lines r)) (drop_all n text (omega arith)) ∙ ap (λ (r : List ℕ). glue r []) none in
    rw (e, append-nil spans) (
      sym (append-nil (stretches text spans)) ∙ ap (λ (parts : List (List ℕ)). stretches text spans ++ parts) (sym rest) ∙ here.texts,
      sym (append-nil spans) ∙ ap (λ (parts : List (List ℕ)). spans ++ line_spans start parts) (sym rest) ∙ here.places,
    )

pub lines_done : (text : List ℕ) (spans : List Span) (start i : ℕ) → i ≡ length text → LinesSoFar text spans start i → LinesDone text (spans ++ run_spans start (length text))
lines_done text spans start i last here =
    let there : LinesSoFar text spans start (length text) = subst (λ n. LinesSoFar text spans start n) last here in
    let rising : SpansSoFar (spans ++ run_spans start (length text)) (length text) = run_so_far spans start (length text) there.order there.so_far in
    let done : (stretches text (spans ++ run_spans start (length text)) ≡ lines text) × (spans ++ run_spans start (length text) ≡ line_spans 0 (lines text)) = last_line text spans start there (cases_Bool (nat_lt start (length text))) in
    record { texts = done.0; places = done.1; rising = record { within = rising.within; apart = rising.apart } }
