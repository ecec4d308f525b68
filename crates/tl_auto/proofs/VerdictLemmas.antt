-- Verdicts that still stand.
use Rattle.std.proofs.Common.{◌≡◌, ℕ, ◌≤◌, Bool, true, false, cond, List, Option, None, Some, refl, ◌∙◌, ap, sym, subst, arith}
use Rattle.std.specs.Option.{IfSome}
use Rattle.std.specs.Cmp.Lexicographic.{nat_list_cmp_total}
use Rattle.std.specs.FinMap as finite
use Rattle.tl_model.specs.Volume.{same_name, same_name-is, same_name-refl}
use Rattle.tl_model.specs.Causes.{Rose}
use Rattle.tl_model.specs.Devices.{Verdict, Verdicts, RegexpsSeen}
use Rattle.tl_regexp.specs.Answers.{Answers}
use Rattle.tl_auto.specs.Pushing.{KeepsVerdicts, KeepsRegexps}

-- a verdict that stands still stands
pub stands_later : (old new : Verdicts) (text : List ℕ) (v : Verdict) → KeepsVerdicts old new → finite.get old text ≡ Some v → finite.get new text ≡ Some v
stands_later old new text v keeps stands = subst (λ o. IfSome o (λ w. finite.get new text ≡ Some w)) stands (keeps text)

pub keeps_same : (m : Verdicts) → KeepsVerdicts m m
keeps_same m text = by (finite.get m text) refl
  where
    by : (o : Option Verdict) → finite.get m text ≡ o → IfSome o (λ v. finite.get m text ≡ Some v)
    by None is = tt
    by (Some v) is = is

pub keeps_on : (a b c : Verdicts) → KeepsVerdicts a b → KeepsVerdicts b c → KeepsVerdicts a c
keeps_on a b c first then text = by (finite.get a text) refl
  where
    by : (o : Option Verdict) → finite.get a text ≡ o → IfSome o (λ v. finite.get c text ≡ Some v)
    by None is = tt
    by (Some v) is = stands_later b c text v then (stands_later a b text v first is)

-- a verdict that was told stands
pub told_stands : (m : Verdicts) (text : List ℕ) (v : Verdict) → finite.get (finite.insert m text v) text ≡ Some v
told_stands m text v = finite.get-insert nat_list_cmp_total m text v text ∙ ap (λ b. cond b (Some v) (finite.get m text)) (same_name-refl text)

pub keeps_told : (m : Verdicts) (text : List ℕ) (v : Verdict) → IfSome (finite.get m text) (λ before. before ≡ v) → KeepsVerdicts m (finite.insert m text v)
keeps_told m text v kept other = by (finite.get m other) refl
  where
    here : (w : Verdict) → finite.get m other ≡ Some w → (b : Bool) → same_name other text ≡ b → cond b (Some v) (finite.get m other) ≡ Some w
    here w is true one =
        let was = subst (λ o. IfSome o (λ before. before ≡ v)) (ap (finite.get m) (sym (same_name-is other text one)) ∙ is) kept in
        ap Some (sym was)
    here w is false apart = is

    by : (o : Option Verdict) → finite.get m other ≡ o → IfSome o (λ w. finite.get (finite.insert m text v) other ≡ Some w)
    by None is = tt
    by (Some w) is = finite.get-insert nat_list_cmp_total m text v other ∙ here w is (same_name other text) refl

pub keeps_answered : (text : List ℕ) (old new : RegexpsSeen) (verdict : Option Verdict) → Answers text old new verdict → KeepsRegexps old new
keeps_answered text old new None a = record { verdicts = subst (KeepsVerdicts old.verdicts) (sym a.verdicts) (keeps_same old.verdicts); later = a.later }
keeps_answered text old new (Some v) a = record { verdicts = subst (KeepsVerdicts old.verdicts) (sym a.verdicts) (keeps_told old.verdicts text v a.kept); later = a.later }

-- the verdict of an answer stands
pub answered_stands : (text : List ℕ) (old new : RegexpsSeen) (v : Verdict) → Answers text old new (Some v) → finite.get new.verdicts text ≡ Some v
answered_stands text old new v a = ap (λ m. finite.get m text) a.verdicts ∙ told_stands old.verdicts text v

pub regexps_same : (m : RegexpsSeen) → KeepsRegexps m m
regexps_same m = record { verdicts = keeps_same m.verdicts; later = omega arith }

pub regexps_on : (a b c : RegexpsSeen) → KeepsRegexps a b → KeepsRegexps b c → KeepsRegexps a c
regexps_on a b c first then = record { verdicts = keeps_on a.verdicts b.verdicts c.verdicts first.verdicts then.verdicts; later = omega (arith, first.later, then.later) }
