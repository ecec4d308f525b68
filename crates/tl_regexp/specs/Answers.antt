-- What is answered of a regular expression, and what its maker is seen as afterwards.
use Rattle.std.specs.Prelude.{◌≡◌, ℕ, ◌≤◌, List, Option, IfSome}
use Rattle.std.specs.FinMap as finite
use Rattle.tl_model.specs.Causes.{Rose}
use Rattle.tl_model.specs.Devices.{Verdict, Verdicts, Read, Syntax, Size, RegexpsSeen}
use Rattle.tl_regexp.specs.Finds.{IsRead, IsNotRead, MayStand}
use Rattle.tl_regexp.specs.Verdicts.{told_with}

-- each verdict stands where it may
abbrev pub MayAllStand : Verdicts → Type 0
MayAllStand verdicts = (text : List ℕ) → IfSome (finite.get verdicts text) (MayStand text)

-- the cause of a verdict: the grammar reads the text, or doesn't, or the count of refusals rose
abbrev pub IsCause : List ℕ → ℕ → ℕ → Verdict → Type 0
IsCause text before now Read = IsRead text
IsCause text before now Syntax = IsNotRead text
IsCause text before now Size = Rose before now

-- an answer with a verdict on a text, or none: the verdict has its cause, the text had no other, and no other text gets one; the
-- count of refusals never falls
pub record Answers (text : List ℕ) (old new : RegexpsSeen) (verdict : Option Verdict) : Type 0 where
  pub cause : IfSome verdict (IsCause text old.refusals new.refusals)
  pub kept : IfSome verdict (λ v. IfSome (finite.get old.verdicts text) (λ before. before ≡ v))
  pub verdicts : new.verdicts ≡ told_with text old.verdicts verdict
  pub later : old.refusals ≤ new.refusals
