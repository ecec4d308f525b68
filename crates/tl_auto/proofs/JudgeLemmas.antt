-- Answers one after another.
use Rattle.std.proofs.Common.{◌≡◌, ℕ, ◌≤◌, ◌++◌, List, [], ◌∷◌, Option, Some, Result, Ok, Err, refl, ◌∙◌, ap, sym, subst, append_assoc, append-nil, arith}
use Rattle.std.specs.Result.{IfErr}
use Rattle.tl_model.specs.Devices.{Verdicts, RegexpsSeen}
use Rattle.tl_pattern.specs.declared.pattern.PlacedPattern.{PlacedPattern}
use Rattle.tl_auto.specs.declared.error.AutoError.{AutoError}
use Rattle.tl_auto.specs.declared.error.AutoError.TheVariants.{UnsetVariable, BadPath, Syntax, Size, NoMemory}
use Rattle.tl_auto.specs.Variables.{Setting}
use Rattle.tl_srctext.specs.declared.fields.SourceFields.{SourceFields}
use Rattle.tl_auto.specs.declared.section.Section.{Section}
use Rattle.tl_auto.specs.Wanted.{Wanted, platform_in, wanted_in}
use Rattle.tl_auto.specs.Effective.{compiled, before_others, all_compiled, setting_in, effective}
use Rattle.tl_auto.specs.Pushing.{KeepsVerdicts, KeepsRegexps, IsSizeCause, IsAnswered, Judges, behind_patterns, Pushes}
use Rattle.tl_auto.proofs.VerdictLemmas.{keeps_on, regexps_same, regexps_on}

abbrev pub Patterns : Type 0
Patterns = Result (List PlacedPattern) AutoError

-- an answer behind another
abbrev pub joined : Patterns → Patterns → Patterns
joined (Ok patterns) others = behind_patterns patterns others
joined (Err fault) others = Err fault

behind_nil : (o : Patterns) → behind_patterns [] o ≡ o
behind_nil (Ok patterns) = refl
behind_nil (Err fault) = refl

before_joined : (p : Result PlacedPattern AutoError) (o u : Patterns) → before_others p (joined o u) ≡ joined (before_others p o) u
before_joined (Err fault) o u = refl
before_joined (Ok p) (Err fault) u = refl
before_joined (Ok p) (Ok ps) (Err fault) = refl
before_joined (Ok p) (Ok ps) (Ok qs) = refl

pub all_compiled-append : (v : Verdicts) (s : Setting) (ws us : List Wanted) → all_compiled v s (ws ++ us) ≡ joined (all_compiled v s ws) (all_compiled v s us)
all_compiled-append v s [] us = sym (behind_nil (all_compiled v s us))
all_compiled-append v s (w ∷ ws) us = ap (before_others (compiled v s w)) (all_compiled-append v s ws us)
    ∙ before_joined (compiled v s w) (all_compiled v s ws) (all_compiled v s us)

goes_on : (front mid : List PlacedPattern) (o u : Patterns) → behind_patterns front o ≡ Ok mid → behind_patterns front (joined o u) ≡ behind_patterns mid u
goes_on front mid (Err fault) u is = cc
goes_on front mid (Ok ps) (Err fault) is = refl
goes_on front mid (Ok ps) (Ok qs) is =
    let e : front ++ ps ≡ mid = cc in
    ap Ok (sym (append_assoc front ps qs) ∙ ap (λ (xs : List PlacedPattern). xs ++ qs) e)

stops : (front : List PlacedPattern) (fault : AutoError) (o u : Patterns) → behind_patterns front o ≡ Err fault → behind_patterns front (joined o u) ≡ Err fault
stops front fault (Err other) u is = is
stops front fault (Ok ps) u is = cc

pub moved : {V T : Type 0} (view : T → V) {a b : Result V AutoError} → a ≡ b → (answer : Result T AutoError) → IsAnswered view a answer → IsAnswered view b answer
moved view e answer h = subst (λ o. IsAnswered view o answer) e h

size_from : (a b c : ℕ) (fault : AutoError) → a ≤ b → IsSizeCause b c fault → IsSizeCause a c fault
size_from a b c (UnsetVariable line) le h = tt
size_from a b c (BadPath line) le h = tt
size_from a b c (Syntax line) le h = tt
size_from a b c (Size line) le h = omega arith
size_from a b c NoMemory le h = tt

pub size_on : {T : Type 0} (a b c : ℕ) (answer : Result T AutoError) → a ≤ b → IfErr answer (IsSizeCause b c) → IfErr answer (IsSizeCause a c)
size_on a b c (Ok value) le h = tt
size_on a b c (Err fault) le h = size_from a b c fault le h

pub pushes_on : {T U : Type 0} (s : Setting) (ws us : List Wanted) (front mid new : List PlacedPattern) (r0 r1 r2 : RegexpsSeen) (value : T) (answer : Result U AutoError)
    → Pushes s ws front mid r0 r1 (Ok value) → Pushes s us mid new r1 r2 answer → Pushes s (ws ++ us) front new r0 r2 answer
pushes_on s ws us front mid new r0 r1 r2 value answer first then = record {
  answered = λ later keeps. moved (λ _. new) (sym (ap (behind_patterns front) (all_compiled-append later s ws us)
      ∙ goes_on front mid (all_compiled later s ws) (all_compiled later s us) (first.answered later (keeps_on r1.verdicts r2.verdicts later then.regexps.verdicts keeps))))
      answer (then.answered later keeps);
  regexps = regexps_on r0 r1 r2 first.regexps then.regexps;
  size = size_on r0.refusals r1.refusals r2.refusals answer first.regexps.later then.size;
}

stops_answered : {T U : Type 0} (view : T → List PlacedPattern) (other : U → List PlacedPattern) (front : List PlacedPattern) (fault : AutoError) (o u : Patterns)
    → IsAnswered view (behind_patterns front o) (Err fault) → IsAnswered other (behind_patterns front (joined o u)) (Err fault)
stops_answered view other front (UnsetVariable line) o u h = stops front (UnsetVariable line) o u h
stops_answered view other front (BadPath line) o u h = stops front (BadPath line) o u h
stops_answered view other front (Syntax line) o u h = stops front (Syntax line) o u h
stops_answered view other front (Size line) o u h = stops front (Size line) o u h
stops_answered view other front NoMemory o u h = tt

pub pushes_cut : {T U : Type 0} (s : Setting) (ws us : List Wanted) (front mid new : List PlacedPattern) (r0 r1 : RegexpsSeen) (fault : AutoError)
    → Pushes {T = T} s ws front mid r0 r1 (Err fault) → Pushes {T = U} s (ws ++ us) front new r0 r1 (Err fault)
pushes_cut {T} {U} s ws us front mid new r0 r1 fault first = record {
  answered = λ later keeps. moved {T = U} (λ _. new) (ap (behind_patterns front) (sym (all_compiled-append later s ws us))) (Err fault)
      (stops_answered {T = T} {U = U} (λ _. mid) (λ _. new) front fault (all_compiled later s ws) (all_compiled later s us) (first.answered later keeps));
  regexps = first.regexps;
  size = first.size;
}

pub pushes_nothing : {T : Type 0} (s : Setting) (front : List PlacedPattern) (r : RegexpsSeen) (value : T) → Pushes s [] front front r r (Ok value)
pushes_nothing s front r value = record {
  answered = λ later keeps. ap Ok (append-nil front);
  regexps = regexps_same r;
  size = tt;
}

effective_answered : {T : Type 0} (view : T → List PlacedPattern) (v : Verdicts) (source : SourceFields) (section : Section) (platforms : List (List ℕ)) (s : Setting) (fault : AutoError) (now : List PlacedPattern)
    → s ≡ setting_in source section platforms
    → IsAnswered {T = Unit {0}} (λ _. now) (behind_patterns [] (all_compiled v s (wanted_in s.source section s.platform))) (Err fault)
    → IsAnswered view (effective v source section platforms) (Err fault)
unfolding effective
effective_answered {T} view v source section platforms s fault now is h = other fault (moved {T = Unit {0}} (λ _. now) (behind_nil (all_compiled v s (wanted_in s.source section s.platform))
    ∙ ap (λ (t : Setting). all_compiled v t (wanted_in t.source section t.platform)) is) (Err fault) h)
  where
    other : (e : AutoError) → IsAnswered {T = Unit {0}} (λ _. now) (all_compiled v (setting_in source section platforms) (wanted_in source section (platform_in section platforms))) (Err e)
        → IsAnswered view (all_compiled v (setting_in source section platforms) (wanted_in source section (platform_in section platforms))) (Err e)
    other (UnsetVariable line) k = k
    other (BadPath line) k = k
    other (Syntax line) k = k
    other (Size line) k = k
    other NoMemory k = tt

pub effective_not : {T : Type 0} (view : T → List PlacedPattern) (source : SourceFields) (section : Section) (platforms : List (List ℕ)) (s : Setting) (fault : AutoError) (now : List PlacedPattern)
    (r0 r1 : RegexpsSeen) → s ≡ setting_in source section platforms
    → Pushes {T = Unit {0}} s (wanted_in s.source section s.platform) [] now r0 r1 (Err fault)
    → Judges view (λ v. effective v source section platforms) r0 r1 (Err fault)
effective_not view source section platforms s fault now r0 r1 is p = record {
  answered = λ later keeps. effective_answered view later source section platforms s fault now is (p.answered later keeps);
  regexps = p.regexps;
  size = p.size;
}

effective_is : (v : Verdicts) (source : SourceFields) (section : Section) (platforms : List (List ℕ)) (s : Setting) → s ≡ setting_in source section platforms
    → effective v source section platforms ≡ behind_patterns [] (all_compiled v s (wanted_in s.source section s.platform))
unfolding effective
effective_is v source section platforms s is = ap (λ (t : Setting). all_compiled v t (wanted_in t.source section t.platform)) (sym is)
    ∙ sym (behind_nil (all_compiled v s (wanted_in s.source section s.platform)))

pub effective_made : {T U : Type 0} (view : T → List PlacedPattern) (source : SourceFields) (section : Section) (platforms : List (List ℕ)) (s : Setting) (patterns : T) (value : U)
    (r0 r1 : RegexpsSeen) → s ≡ setting_in source section platforms
    → Pushes s (wanted_in s.source section s.platform) [] (view patterns) r0 r1 (Ok value)
    → Judges view (λ v. effective v source section platforms) r0 r1 (Ok patterns)
effective_made view source section platforms s patterns value r0 r1 is p = record {
  answered = λ later keeps. effective_is later source section platforms s is ∙ p.answered later keeps;
  regexps = p.regexps;
  size = tt;
}
