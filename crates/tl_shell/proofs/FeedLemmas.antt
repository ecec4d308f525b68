-- Lines that are taken part by part.
use Rattle.std.proofs.Common.{◌≡◌, ℕ, suc, ◌+◌, ◌<◌, ◌≤◌, Bool, true, false, cond, List, [], ◌∷◌, ◌++◌, length, Option, Some, None, refl, sym, subst, ap, ◌∙◌, arith, append_assoc, inl, inr}
use Rattle.std.specs.Prelude.{◌==◌, ◌&&◌, not, nat_lt, if◌then◌else◌, drop}
use Rattle.std.specs.List.{onto_first}
use Rattle.std.proofs.lemmas.Bool.{cases_Bool, ltb-true, ltb-false, lt-ltb, le-ltb}
use Rattle.std.proofs.Math.Nat.{min-eq_left, min-eq_right, le-min}
use Rattle.std.proofs.Math.Seq.{drop-append-add}
use Rattle.std.proofs.lemmas.List.{append-nil, length-append, drop-drop}
use Rattle.std.proofs.lemmas.List.Elements.{All-nil, All-head, All-tail, All-append}
use Rattle.tl_model.specs.Lines.{lines, IsLine, lines-line, lines-last}
use Rattle.tl_model.specs.Seen.{Told}
use Rattle.tl_kind.specs.declared.quantity.What.{What}
use Rattle.tl_kind.specs.declared.quantity.What.TheVariants.{Line, Input}
use Rattle.tl_shell.specs.declared.error.FeedError.{FeedError}
use Rattle.tl_shell.specs.declared.error.FeedError.TheVariants.{TooLarge, InputFault, NoMemory}
use Rattle.tl_shell.specs.Feeds.{Feeding, first_limit, passed_limit, used_by, limit_passed_in, FeedsLine, IsFeedFault, IsPartPassed, IsCutAt, TakesPart, PartPasses}

-- which limits are passed, as inequalities
pub data Passing (start size used : ℕ) : Option What → Type 0 where
  on_line : 65536 < size → start + 65536 ≤ 17179869184 → Passing start size used (Some Line)
  on_input : (start + 65536 ≤ 17179869184 → size ≤ 65536) → 17179869184 < start + used → Passing start size used (Some Input)
  on_none : (start + 65536 ≤ 17179869184 → size ≤ 65536) → start + used ≤ 17179869184 → Passing start size used None

-- the limit that is passed, from the three comparisons
by_tests : (start size used : ℕ) (a b c : Bool) → nat_lt 65536 size ≡ a → nat_lt 17179869184 (start + 65536) ≡ b → nat_lt 17179869184 (start + used) ≡ c → Passing start size used (first_limit (a && not b) c)
by_tests start size used true false c ea eb ec = on_line (ltb-true _ _ ea) (ltb-false _ _ eb)
by_tests start size used true true true ea eb ec = on_input (λ le. absurd (omega (arith, le, ltb-true _ _ eb))) (ltb-true _ _ ec)
by_tests start size used true true false ea eb ec = on_none (λ le. absurd (omega (arith, le, ltb-true _ _ eb))) (ltb-false _ _ ec)
by_tests start size used false b true ea eb ec = on_input (λ le. ltb-false _ _ ea) (ltb-true _ _ ec)
by_tests start size used false b false ea eb ec = on_none (λ le. ltb-false _ _ ea) (ltb-false _ _ ec)

pub passing : (start size used : ℕ) → Passing start size used (passed_limit start size used)
passing start size used = by_tests start size used (nat_lt 65536 size) (nat_lt 17179869184 (start + 65536)) (nat_lt 17179869184 (start + used)) refl refl refl

-- it is determined by the inequalities
pub passed_is : (start size used : ℕ) (found : Option What) → Passing start size used found → passed_limit start size used ≡ found
passed_is start size used found (on_line past le) = rw (lt-ltb 65536 size past, le-ltb 17179869184 (start + 65536) le) refl
passed_is start size used found (on_input line past) = elim (cases_Bool (nat_lt 17179869184 (start + 65536))) [
  | inl far ↦ rw (far, lt-ltb 17179869184 (start + used) past) (no_line (nat_lt 65536 size))
  | inr near ↦ rw (le-ltb 65536 size (line (ltb-false _ _ near)), lt-ltb 17179869184 (start + used) past) refl
]
  where
    no_line : (b : Bool) → first_limit (b && false) true ≡ Some Input
    no_line true = refl
    no_line false = refl
passed_is start size used found (on_none line le) = elim (cases_Bool (nat_lt 17179869184 (start + 65536))) [
  | inl far ↦ rw (far, le-ltb 17179869184 (start + used) le) (no_limit (nat_lt 65536 size))
  | inr near ↦ rw (le-ltb 65536 size (line (ltb-false _ _ near)), le-ltb 17179869184 (start + used) le) refl
]
  where
    no_limit : (b : Bool) → first_limit (b && false) false ≡ None
    no_limit true = refl
    no_limit false = refl

-- a line within the limits
pub within_line : (start size used : ℕ) → size ≤ used → passed_limit start size used ≡ None → size ≤ 65536
within_line start size used le is = by (subst (Passing start size used) is (passing start size used))
  where
    by : Passing start size used None → size ≤ 65536
    by (on_none line input) = elim (cases_Bool (nat_lt 17179869184 (start + 65536))) [
      | inl far ↦ let past : 17179869184 < start + 65536 = ltb-true _ _ far in omega (arith, past, input, le)
      | inr near ↦ line (ltb-false _ _ near)
    ]

pub within_input : (start size used : ℕ) → passed_limit start size used ≡ None → start + used ≤ 17179869184
within_input start size used is = by (subst (Passing start size used) is (passing start size used))
  where
    by : Passing start size used None → start + used ≤ 17179869184
    by (on_none line input) = input

-- the first line of a text that begins with a part of a line
pub record Begins (front text : List ℕ) : Type 0 where
  pub first : List ℕ
  pub others : List (List ℕ)
  pub is : lines text ≡ first ∷ others
  pub size : length front ≤ length first

onto_some : (b : ℕ) (some : List (List ℕ)) → (first : List ℕ) × (others : List (List ℕ)) × (onto_first b some ≡ first ∷ others) × (1 ≤ length first)
onto_some b [] = (b ∷ [], [], refl, omega arith)
onto_some b (line ∷ some) = (b ∷ line, some, refl, omega arith)

pub begins : (front more : List ℕ) → IsLine front → 0 < length front → Begins front (front ++ more)
begins [] more is some = absurd (omega (arith, some))
begins (b ∷ []) more is some =
    let head : (b == 10) ≡ false = All-head (λ b. (b == 10) ≡ false) b [] is in
    let found = onto_some b (lines more) in
    record {
      first = found.0;
      others = found.1;
      is = ap (λ t. cond t ([] ∷ lines more) (onto_first b (lines more))) head ∙ found.2;
      size = found.3;
    }
begins (b ∷ c ∷ front) more is some =
    let head : (b == 10) ≡ false = All-head (λ b. (b == 10) ≡ false) b (c ∷ front) is in
    let tail = begins (c ∷ front) more (All-tail (λ b. (b == 10) ≡ false) b (c ∷ front) is) (omega arith) in
    record {
      first = b ∷ tail.first;
      others = tail.others;
      is = ap (λ t. cond t ([] ∷ lines (c ∷ front ++ more)) (onto_first b (lines (c ∷ front ++ more)))) head ∙ ap (onto_first b) tail.is;
      size = omega (arith, tail.size);
    }

-- a part of a line that was read, within the limits so far
pub record IsFed (start : ℕ) (line : List ℕ) : Type 0 where
  pub plain : IsLine line
  pub size : length line ≤ 65536
  pub input : 0 < length line → start + length line ≤ 17179869184

pub fed_start : (start : ℕ) (line : List ℕ) → line ≡ [] → IsFed start line
fed_start start line is = subst (IsFed start) (sym is) (record { plain = All-nil (λ b. (b == 10) ≡ false); size = omega arith; input = λ some. absurd (omega (arith, some)) })

-- a part more, which doesn't end the line
pub fed_on : (old new : Feeding) (before after : List ℕ) → TakesPart false old new before after → IsFed old.taken before → IsFed old.taken after
fed_on old new before after part fed = record {
  plain = subst IsLine (sym part.after_is) (All-append (λ b. (b == 10) ≡ false) before part.part fed.plain part.line);
  size = within_line old.taken (length after) (length after + 0) (omega arith) part.within;
  input = λ some. let le : old.taken + (length after + 0) ≤ 17179869184 = within_input old.taken (length after) (length after + 0) part.within in omega (arith, le);
}

pub all_on : (old new : Feeding) (before after left text : List ℕ) → TakesPart false old new before after → text ≡ before ++ (old.ahead ++ left) → text ≡ after ++ (new.ahead ++ left)
all_on old new before after left text part is =
    is ∙ ap (λ (l : List ℕ). before ++ (l ++ left)) (part.ahead ∙ append-nil part.part) ∙ sym (append_assoc before part.part left)
    ∙ ap (λ (l : List ℕ). l ++ left) (sym part.after_is) ∙ ap (λ (l : List ℕ). after ++ (l ++ left)) (sym (part.behind refl))

-- the text that is left where a line ends in what was read ahead
all_ended : (old new : Feeding) (before after left text : List ℕ) → TakesPart true old new before after → text ≡ before ++ (old.ahead ++ left) → text ≡ after ++ 10 ∷ (new.ahead ++ left)
all_ended old new before after left text part is =
    is ∙ ap (λ (l : List ℕ). before ++ (l ++ left)) part.ahead
    ∙ ap (λ (l : List ℕ). before ++ l) (append_assoc part.part (10 ∷ new.ahead) left) ∙ sym (append_assoc before part.part (10 ∷ (new.ahead ++ left)))
    ∙ ap (λ (l : List ℕ). l ++ 10 ∷ (new.ahead ++ left)) (sym part.after_is)

-- what a line that was taken with so many bytes says of the text that was left
pub record TakesLine (start used : ℕ) (text line rest : List ℕ) : Type 0 where
  pub first : lines text ≡ line ∷ lines rest
  pub within : limit_passed_in start text (lines text) ≡ None
  pub used_is : used_by line text ≡ used
  pub size : length text ≡ used_by line text + length rest

made : (start used : ℕ) (text line rest : List ℕ) → lines text ≡ line ∷ lines rest → used_by line text ≡ used → length text ≡ used + length rest → passed_limit start (length line) used ≡ None
    → TakesLine start used text line rest
made start used text line rest first used_is size within = record {
  first = first;
  within = ap (limit_passed_in start text) first ∙ ap (passed_limit start (length line)) used_is ∙ within;
  used_is = used_is;
  size = size ∙ ap (λ (n : ℕ). n + length rest) (sym used_is);
}

-- a line that ends in what was read ahead
pub takes_ended : (old new : Feeding) (before after left text : List ℕ) → IsFed old.taken before → TakesPart true old new before after → text ≡ before ++ (old.ahead ++ left)
    → TakesLine old.taken (length after + 1) text after (new.ahead ++ left)
takes_ended old new before after left text fed part is =
    let rest = new.ahead ++ left in
    let whole : text ≡ after ++ 10 ∷ rest = all_ended old new before after left text part is in
    let plain : IsLine after = subst IsLine (sym part.after_is) (All-append (λ b. (b == 10) ≡ false) before part.part fed.plain part.line) in
    let size : length text ≡ length after + suc (length rest) = ap length whole ∙ length-append after (10 ∷ rest) in
    made old.taken (length after + 1) text after rest (ap lines whole ∙ lines-line after rest plain) (min-eq_left (omega (arith, size))) (omega (arith, size)) part.within

-- the last line, which has no end
pub takes_last : (start : ℕ) (line text : List ℕ) → 0 < length line → IsFed start line → text ≡ line ++ [] → TakesLine start (length line) text line []
takes_last start line text some fed is =
    let whole : text ≡ line = is ∙ append-nil line in
    let size : length text ≡ length line = ap length whole in
    made start (length line) text line [] (ap lines whole ∙ lines-last line fed.plain some) (min-eq_right (omega (arith, size)) ∙ size) (omega (arith, size))
    (passed_is start (length line) (length line) None (on_none (λ le. fed.size) (fed.input some)))

-- a limit that is passed by a line of which only a part was read
passes_open : (start : ℕ) (front more : List ℕ) (what : What) → IsLine front → passed_limit start (length front) (length front + 0) ≡ Some what → start ≤ 17179869184
    → limit_passed_in start (front ++ more) (lines (front ++ more)) ≡ Some what
passes_open start front more what plain passed le = by (subst (Passing start (length front) (length front + 0)) passed (passing start (length front) (length front + 0)))
  where
    longer : 0 < length front → (what : What) → ((size used : ℕ) → length front ≤ size → length front ≤ used → Passing start size used (Some what)) → limit_passed_in start (front ++ more) (lines (front ++ more)) ≡ Some what
    longer some what each =
        let b = begins front more plain some in
        let whole : length (front ++ more) ≡ length front + length more = length-append front more in
        ap (limit_passed_in start (front ++ more)) b.is ∙ passed_is start (length b.first) (used_by b.first (front ++ more)) (Some what)
        (each (length b.first) (used_by b.first (front ++ more)) b.size (le-min (omega (arith, b.size)) (omega (arith, whole))))

    by : {found : What} → Passing start (length front) (length front + 0) (Some found) → limit_passed_in start (front ++ more) (lines (front ++ more)) ≡ Some found
    by (on_line past near) = longer (omega (arith, past)) Line (λ size used ls lu. on_line (omega (arith, past, ls)) near)
    by (on_input line past) = longer (omega (arith, past, le)) Input (λ size used ls lu. on_input (λ near. absurd (omega (arith, line near, past, near))) (omega (arith, past, lu)))

-- a limit that is passed by a whole line
passes_ended : (start : ℕ) (front rest : List ℕ) (what : What) → IsLine front → passed_limit start (length front) (length front + 1) ≡ Some what
    → limit_passed_in start (front ++ 10 ∷ rest) (lines (front ++ 10 ∷ rest)) ≡ Some what
passes_ended start front rest what plain passed =
    let size : length (front ++ 10 ∷ rest) ≡ length front + suc (length rest) = length-append front (10 ∷ rest) in
    let used : used_by front (front ++ 10 ∷ rest) ≡ length front + 1 = min-eq_left (omega (arith, size)) in
    ap (limit_passed_in start (front ++ 10 ∷ rest)) (lines-line front rest plain) ∙ ap (passed_limit start (length front)) used ∙ passed

-- the limit that a part of a line passes is the line's
pub passes : (old : Feeding) (before left text : List ℕ) (what : What) → IsFed old.taken before → PartPasses old before what → text ≡ before ++ (old.ahead ++ left)
    → limit_passed_in old.taken text (lines text) ≡ Some what
passes old before left text what fed part is = by part.ended part.ahead part.passed
  where
    front : List ℕ
    front = before ++ part.part

    plain : IsLine front
    plain = All-append (λ b. (b == 10) ≡ false) before part.part fed.plain part.line

    whole : (behind : List ℕ) → old.ahead ≡ part.part ++ behind → text ≡ front ++ (behind ++ left)
    whole behind ahead = is ∙ ap (λ (l : List ℕ). before ++ (l ++ left)) ahead ∙ ap (λ (l : List ℕ). before ++ l) (append_assoc part.part behind left) ∙ sym (append_assoc before part.part (behind ++ left))

    by : (ended : Bool) → old.ahead ≡ part.part ++ (if ended then 10 ∷ part.rest else []) → passed_limit old.taken (length front) (length front + (if ended then 1 else 0)) ≡ Some what
        → limit_passed_in old.taken text (lines text) ≡ Some what
    by true ahead passed = let w = whole (10 ∷ part.rest) ahead in rw w (passes_ended old.taken front (part.rest ++ left) what plain passed)
    by false ahead passed = let w = whole [] ahead in rw w (passes_open old.taken front left what plain passed part.start)

-- what is behind a front of what was read ahead
behind_cut : (text front rest : List ℕ) (ended : Bool) → text ≡ front ++ (if ended then 10 ∷ rest else []) → drop (length front + (if ended then 1 else 0)) text ≡ (if ended then rest else [])
behind_cut text front rest true is = ap (λ (l : List ℕ). drop (length front + 1) l) is ∙ drop-append-add front (10 ∷ rest) 1
behind_cut text front rest false is = ap (λ (l : List ℕ). drop (length front + 0) l) is ∙ drop-append-add front [] 0

-- a front of what was read ahead goes to a line
pub part_taken : (bytes front before after : List ℕ) (at taken num : ℕ) (ended : Bool) → IsCutAt (drop at bytes) front ended → num ≡ (if ended then 1 else 0) → after ≡ before ++ front
    → passed_limit taken (length before + length front) (length before + length front + num) ≡ None
    → TakesPart ended (record { ahead = drop at bytes; taken = taken }) (record { ahead = drop (at + (length front + num)) bytes; taken = taken }) before after
part_taken bytes front before after at taken num ended cut num_is after_is within =
    let rest_is : drop (at + (length front + num)) bytes ≡ (if ended then cut.rest else []) =
    sym (drop-drop (length front + num) at bytes) ∙ ap (λ (n : ℕ). drop (length front + n) (drop at bytes)) num_is ∙ behind_cut (drop at bytes) front cut.rest ended cut.whole in
    let size : length after ≡ length before + length front = ap length after_is ∙ length-append before front in
    record {
      part = front;
      line = cut.line;
      after_is = after_is;
      ahead = cut.whole ∙ ap (λ (l : List ℕ). front ++ l) (front_of ended cut.rest (drop (at + (length front + num)) bytes) rest_is);
      behind = λ e. rest_is ∙ ap (λ (b : Bool). if b then cut.rest else []) e;
      taken = refl;
      within = ap (λ (n : ℕ). passed_limit taken n (n + (if ended then 1 else 0))) size ∙ ap (λ (n : ℕ). passed_limit taken (length before + length front) (length before + length front + n)) (sym num_is) ∙ within;
    }
  where
    front_of : (ended : Bool) (rest behind : List ℕ) → behind ≡ (if ended then rest else []) → (if ended then 10 ∷ rest else []) ≡ (if ended then 10 ∷ behind else [])
    front_of true rest behind is = ap (λ (l : List ℕ). 10 ∷ l) (sym is)
    front_of false rest behind is = refl

-- a front of what was read ahead passes a limit
pub part_passed : (bytes front before : List ℕ) (at taken num : ℕ) (ended : Bool) (what : What) → taken ≤ 17179869184 → IsCutAt (drop at bytes) front ended → num ≡ (if ended then 1 else 0)
    → passed_limit taken (length before + length front) (length before + length front + num) ≡ Some what → PartPasses (record { ahead = drop at bytes; taken = taken }) before what
part_passed bytes front before at taken num ended what start cut num_is passed =
    let size : length (before ++ front) ≡ length before + length front = length-append before front in
    record {
      start = start;
      part = front;
      line = cut.line;
      ended = ended;
      rest = cut.rest;
      ahead = cut.whole;
      passed = ap (λ (n : ℕ). passed_limit taken n (n + (if ended then 1 else 0))) size ∙ ap (λ (n : ℕ). passed_limit taken (length before + length front) (length before + length front + n)) (sym num_is) ∙ passed;
    }

-- the fault of a part is that of the line
pub fault_of_part : (tells : Bool) (start : ℕ) (mid : Feeding) (before left text : List ℕ) (error : FeedError) → IsFed mid.taken before → mid.taken ≡ start → Told tells (text ≡ before ++ (mid.ahead ++ left))
    → IsPartPassed mid before error → IsFeedFault tells start text error
fault_of_part tells start mid before left text (TooLarge what limit) fed start_is is part =
    (part.0, λ t. ap (λ (n : ℕ). limit_passed_in n text (lines text)) (sym start_is) ∙ passes mid before left text what fed part.1 (is t))
fault_of_part tells start mid before left text InputFault fed start_is is part = tt
fault_of_part tells start mid before left text NoMemory fed start_is is part = tt

-- a line that was taken, of a feed
pub feeds : (old new : Feeding) (used : ℕ) (text line rest : List ℕ) → TakesLine old.taken used text line rest → new.taken ≡ old.taken + used → FeedsLine old new text rest (Some line)
feeds old new used text line rest takes taken = (takes.first, takes.within, taken ∙ ap (λ (n : ℕ). old.taken + n) (sym takes.used_is), takes.size)
