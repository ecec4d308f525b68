use Rattle.std.proofs.Common.{List, ℕ, sym}
use Rattle.std.proofs.Common.{subst}
use Rattle.tl_srctext.specs.Steps.{FindsPart}
use Rattle.tl_srctext.specs.Line.{said_under, said_of}
use Rattle.tl_srctext.specs.Patterns.{pattern_of}
use Rattle.tl_srctext.specs.declared.key.Key.{Key}
use Rattle.tl_srctext.specs.declared.line.Said.TheVariants as saids
use Rattle.tl_srctext.proofs.line.said_under.Goals as goal

pub returns-in-Pattern : goal.returns-in-Pattern
returns-in-Pattern c =
    let by_text : List ℕ → Type 0 = λ l. FindsPart c.pattern_said.result (said_of (saids.Pattern c.in-Pattern.section) (pattern_of c.in-Pattern.section c.args.number l)) in
    let by_key : Key → Type 0 = λ k. FindsPart c.pattern_said.result (said_under c.args.name.now c.args.number k c.args.text) in
    subst by_key (sym c.in-Pattern.is) (subst by_text c.bytes-value.ensures.bytes c.pattern_said.ensures)
