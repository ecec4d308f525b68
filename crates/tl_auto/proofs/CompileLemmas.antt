-- One pattern, by what `compile` answers.
use Rattle.std.proofs.Common.{◌≡◌, ℕ, ◌≤◌, ◌&&◌, Bool, true, false, List, [], ◌∷◌, ◌++◌, Option, None, Some, Result, Ok, Err, refl, ◌∙◌, ap, sym, subst, unwrap_or, is_some, if◌then◌else◌}
use Rattle.std.specs.Result.{IfErr}
use Rattle.std.specs.Str.{IsUtf8, is_utf8}
use Rattle.std.specs.FinMap as finite
use Rattle.std.proofs.lemmas.Str.{IsUtf8-from_is_utf8, is_utf8-from_IsUtf8}
use Rattle.std.proofs.lemmas.Bool.{false_from_ne_true}
use Rattle.tl_model.specs.Causes.{Rose}
use Rattle.tl_model.specs.Devices as seen
use Rattle.tl_model.specs.Devices.{Verdict, Verdicts, RegexpsSeen}
use Rattle.tl_regexp.specs.Answers.{Answers}
use Rattle.tl_regexp.specs.Finds.{reading}
use Rattle.tl_pattern.specs.Form.{PatternSeen, HasForm}
use Rattle.tl_pattern.specs.Answers.{Compiles, verdict_by}
use Rattle.tl_pattern.specs.declared.kind.PatternKind.{PatternKind}
use Rattle.tl_pattern.specs.declared.kind.PatternKind.TheVariants.{F, D, T, R}
use Rattle.tl_pattern.specs.declared.pattern.PlacedPattern.{PlacedPattern}
use Rattle.tl_pattern.specs.declared.error.PatternError.{PatternError}
use Rattle.tl_pattern.specs.declared.error.PatternError.TheVariants as causes
use Rattle.tl_auto.specs.declared.error.AutoError.{AutoError}
use Rattle.tl_auto.specs.declared.error.AutoError.TheVariants as errors
use Rattle.tl_auto.specs.Faults.{fault_of}
use Rattle.tl_auto.specs.Variables.{Setting, replaced}
use Rattle.tl_auto.specs.Wanted.{Wanted}
use Rattle.tl_auto.specs.Effective.{is_formed, judged, verdict_on, by_verdict, placed_with, formed, behind_values, compiled, before_others, all_compiled}
use Rattle.tl_auto.specs.Pushing.{KeepsVerdicts, KeepsRegexps, IsSizeCause, IsAnswered, Judges, behind_patterns, Pushes}
use Rattle.tl_auto.proofs.VerdictLemmas.{stands_later, keeps_answered, answered_stands, regexps_same}

pub formed_is : (kind : PatternKind) (text : List ℕ) → HasForm kind text → is_formed kind text ≡ true
formed_is F text h = h
formed_is D text h = h
formed_is T text h = h
formed_is R text h = is_utf8-from_IsUtf8 text h

formed_has : (kind : PatternKind) (text : List ℕ) → is_formed kind text ≡ true → HasForm kind text
formed_has F text h = h
formed_has D text h = h
formed_has T text h = h
formed_has R text h = IsUtf8-from_is_utf8 text h

pub formed_not : (kind : PatternKind) (text : List ℕ) → ¬ (HasForm kind text) → is_formed kind text ≡ false
formed_not kind text h = false_from_ne_true (is_formed kind text) (λ e. h (formed_has kind text e))

-- a verdict that stands is the one by which a regular expression is judged
judged_stands : (m later : Verdicts) (text : List ℕ) (v : Verdict) → KeepsVerdicts m later → finite.get m text ≡ Some v → judged later text ≡ v
judged_stands m later text v keeps is = ap (λ (o : Option Verdict). unwrap_or o (if is_some (reading text) then seen.Read else seen.Syntax)) (stands_later m later text v keeps is)

read_on : {P : Type 0} (kind : PatternKind) (text : List ℕ) (old new : RegexpsSeen) (p : P) → Answers text old new (verdict_by kind (Ok p)) → (later : Verdicts)
    → KeepsVerdicts new.verdicts later → verdict_on later kind text ≡ seen.Read
read_on F text old new p a later keeps = refl
read_on D text old new p a later keeps = refl
read_on T text old new p a later keeps = refl
read_on R text old new p a later keeps = judged_stands new.verdicts later text seen.Read keeps (answered_stands text old new seen.Read a)

-- a pattern of a text whose variables were replaced
placed : (v : Verdicts) (s : Setting) (w : Wanted) (text : List ℕ) (verdict : Verdict) → replaced s w.text ≡ Some text → is_formed w.kind (text ++ w.suffix) ≡ true
    → verdict_on v w.kind (text ++ w.suffix) ≡ verdict → compiled v s w ≡ by_verdict w.line (placed_with w (text ++ w.suffix)) verdict
placed v s w text verdict is has on = ap (behind_values v w) is
    ∙ ap (λ (b : Bool). if b then by_verdict w.line (placed_with w (text ++ w.suffix)) (verdict_on v w.kind (text ++ w.suffix)) else Err (errors.BadPath w.line)) has
    ∙ ap (by_verdict w.line (placed_with w (text ++ w.suffix))) on

same_pattern : (w : Wanted) (text : List ℕ) (p : PatternSeen) → p.kind ≡ w.kind → p.text ≡ text → placed_with w text ≡ record { positive = w.positive; pattern = p }
same_pattern w text p kind is =
    let make : PatternKind → List ℕ → PlacedPattern = λ k t. record { positive = w.positive; pattern = record { kind = k; text = t } } in
    ap (λ k. make k text) (sym kind) ∙ ap (make p.kind) (sym is)

pub judges_made : (s : Setting) (w : Wanted) (text : List ℕ) (old new : RegexpsSeen) (p : PatternSeen) → replaced s w.text ≡ Some text
    → p.kind ≡ w.kind → p.text ≡ text ++ w.suffix → Compiles w.kind (text ++ w.suffix) old new (Ok p)
    → Judges (λ pattern. pattern) (λ verdicts. compiled verdicts s w) old new (Ok (record { positive = w.positive; pattern = p }))
judges_made s w text old new p is kind same c = record {
  answered = λ later keeps. placed later s w text seen.Read is (formed_is w.kind (text ++ w.suffix) c.form)
      (read_on w.kind (text ++ w.suffix) old new p c.verdict later keeps)
      ∙ ap Ok (same_pattern w (text ++ w.suffix) p kind same);
  regexps = keeps_answered (text ++ w.suffix) old new (verdict_by w.kind (Ok p)) c.verdict;
  size = tt;
}

syntax_on : (kind : PatternKind) (text : List ℕ) (old new : RegexpsSeen) → kind ≡ R → Answers text old new (verdict_by {P = PatternSeen} kind (Err causes.Syntax)) → (later : Verdicts)
    → KeepsVerdicts new.verdicts later → verdict_on later kind text ≡ seen.Syntax
syntax_on F text old new is a later keeps = cc
syntax_on D text old new is a later keeps = cc
syntax_on T text old new is a later keeps = cc
syntax_on R text old new is a later keeps = judged_stands new.verdicts later text seen.Syntax keeps (answered_stands text old new seen.Syntax a)

size_is : (kind : PatternKind) (text : List ℕ) (old new : RegexpsSeen) → kind ≡ R → Answers text old new (verdict_by {P = PatternSeen} kind (Err causes.Size)) → (later : Verdicts)
    → KeepsVerdicts new.verdicts later → verdict_on later kind text ≡ seen.Size
size_is F text old new is a later keeps = cc
size_is D text old new is a later keeps = cc
size_is T text old new is a later keeps = cc
size_is R text old new is a later keeps = judged_stands new.verdicts later text seen.Size keeps (answered_stands text old new seen.Size a)

rose : (kind : PatternKind) (text : List ℕ) (old new : RegexpsSeen) → kind ≡ R → Answers text old new (verdict_by {P = PatternSeen} kind (Err causes.Size)) → Rose old.refusals new.refusals
rose F text old new is a = absurd (let no : F ≡ R = is in cc)
rose D text old new is a = absurd (let no : D ≡ R = is in cc)
rose T text old new is a = absurd (let no : T ≡ R = is in cc)
rose R text old new is a = a.cause

faulty : (v : Verdicts) (s : Setting) (w : Wanted) (text : List ℕ) → replaced s w.text ≡ Some text → is_formed w.kind (text ++ w.suffix) ≡ false
    → compiled v s w ≡ Err (errors.BadPath w.line)
faulty v s w text is has = ap (behind_values v w) is
    ∙ ap (λ (b : Bool). if b then by_verdict w.line (placed_with w (text ++ w.suffix)) (verdict_on v w.kind (text ++ w.suffix)) else Err (errors.BadPath w.line)) has

pub judges_not : (s : Setting) (w : Wanted) (text : List ℕ) (old new : RegexpsSeen) (e : PatternError) → replaced s w.text ≡ Some text
    → Compiles {P = PatternSeen} w.kind (text ++ w.suffix) old new (Err e)
    → Judges {T = PlacedPattern} (λ pattern. pattern) (λ verdicts. compiled verdicts s w) old new (Err (fault_of e w.line))
judges_not s w text old new causes.BadPath is c = record {
  answered = λ later keeps. faulty later s w text is (formed_not w.kind (text ++ w.suffix) c.form);
  regexps = keeps_answered (text ++ w.suffix) old new _ c.verdict;
  size = tt;
}
judges_not s w text old new causes.Syntax is c = record {
  answered = λ later keeps. placed later s w text seen.Syntax is (formed_is w.kind (text ++ w.suffix) c.form.1)
      (syntax_on w.kind (text ++ w.suffix) old new c.form.0 c.verdict later keeps);
  regexps = keeps_answered (text ++ w.suffix) old new _ c.verdict;
  size = tt;
}
judges_not s w text old new causes.Size is c = record {
  answered = λ later keeps. placed later s w text seen.Size is (formed_is w.kind (text ++ w.suffix) c.form.1)
      (size_is w.kind (text ++ w.suffix) old new c.form.0 c.verdict later keeps);
  regexps = keeps_answered (text ++ w.suffix) old new _ c.verdict;
  size = rose w.kind (text ++ w.suffix) old new c.form.0 c.verdict;
}
judges_not s w text old new causes.NoMemory is c = record {
  answered = λ later keeps. tt;
  regexps = keeps_answered (text ++ w.suffix) old new _ c.verdict;
  size = tt;
}

pub judges_unset : {T : Type 0} (s : Setting) (w : Wanted) (r : RegexpsSeen) (view : T → PlacedPattern) → replaced s w.text ≡ None
    → Judges view (λ verdicts. compiled verdicts s w) r r (Err (errors.UnsetVariable w.line))
judges_unset s w r view is = record {
  answered = λ later keeps. ap (behind_values later w) is;
  regexps = regexps_same r;
  size = tt;
}

-- one pattern that is pushed
pub pushes_one : {T : Type 0} (s : Setting) (w : Wanted) (front : List PlacedPattern) (old new : RegexpsSeen) (p : PlacedPattern) (value : T)
    → Judges {T = PlacedPattern} (λ pattern. pattern) (λ verdicts. compiled verdicts s w) old new (Ok p)
    → Pushes s (w ∷ []) front (front ++ p ∷ []) old new (Ok value)
pushes_one s w front old new p value j = record {
  answered = λ later keeps. ap (λ o. behind_patterns front (before_others o (Ok []))) (j.answered later keeps);
  regexps = j.regexps;
  size = tt;
}

not_answered : (Y : Type 0) (front now : List PlacedPattern) (o : Result PlacedPattern AutoError) (fault : AutoError)
    → IsAnswered {T = PlacedPattern} (λ pattern. pattern) o (Err fault) → IsAnswered {T = Y} (λ _. now) (behind_patterns front (before_others o (Ok []))) (Err fault)
not_answered Y front now o (errors.UnsetVariable line) h = ap (λ u. behind_patterns front (before_others u (Ok []))) h
not_answered Y front now o (errors.BadPath line) h = ap (λ u. behind_patterns front (before_others u (Ok []))) h
not_answered Y front now o (errors.Syntax line) h = ap (λ u. behind_patterns front (before_others u (Ok []))) h
not_answered Y front now o (errors.Size line) h = ap (λ u. behind_patterns front (before_others u (Ok []))) h
not_answered Y front now o errors.NoMemory h = tt

pub pushes_not : {T : Type 0} (s : Setting) (w : Wanted) (front now : List PlacedPattern) (old new : RegexpsSeen) (fault : AutoError)
    → Judges {T = PlacedPattern} (λ pattern. pattern) (λ verdicts. compiled verdicts s w) old new (Err fault)
    → Pushes {T = T} s (w ∷ []) front now old new (Err fault)
pushes_not {T} s w front now old new fault j = record {
  answered = λ later keeps. not_answered T front now (compiled later s w) fault (j.answered later keeps);
  regexps = j.regexps;
  size = j.size;
}

-- want of memory may come after any part of it
pub pushes_no_memory : {T V : Type 0} (view : T → V) (wanted : Verdicts → Result V AutoError) (old new : RegexpsSeen) → KeepsRegexps old new
    → Judges view wanted old new (Err errors.NoMemory)
pushes_no_memory view wanted old new keeps = record { answered = λ later h. tt; regexps = keeps; size = tt }

pub compiled_made : (s : Setting) (w : Wanted) (text all : List ℕ) (old new : RegexpsSeen) (p : PatternSeen) → Some text ≡ replaced s w.text → all ≡ text ++ w.suffix
    → p.kind ≡ w.kind → p.text ≡ all → Compiles w.kind all old new (Ok p)
    → Judges (λ pattern. pattern) (λ verdicts. compiled verdicts s w) old new (Ok (record { positive = w.positive; pattern = p }))
compiled_made s w text all old new p is longer kind same c = judges_made s w text old new p (sym is) kind (same ∙ longer)
    (subst (λ t. Compiles w.kind t old new (Ok p)) longer c)

pub compiled_not : (s : Setting) (w : Wanted) (text all : List ℕ) (old new : RegexpsSeen) (e : PatternError) (fault : AutoError) → Some text ≡ replaced s w.text
    → all ≡ text ++ w.suffix → Compiles {P = PatternSeen} w.kind all old new (Err e) → fault ≡ fault_of e w.line
    → Judges {T = PlacedPattern} (λ pattern. pattern) (λ verdicts. compiled verdicts s w) old new (Err fault)
compiled_not s w text all old new e fault is longer c said =
    let found = judges_not s w text old new e (sym is) (subst (λ t. Compiles {P = PatternSeen} w.kind t old new (Err e)) longer c) in
    subst (λ f. Judges {T = PlacedPattern} (λ pattern. pattern) (λ verdicts. compiled verdicts s w) old new (Err f)) (sym said) found
