use Rattle.std.proofs.Common.{sym, ◌∙◌}
use Rattle.tl_model.specs.Words.{fields}
use Rattle.tl_depend.proofs.NeedLemmas.{stands_on_platforms, stands_alone, named_spelled, named_alone}
use Rattle.tl_depend.proofs.needing.stands_for.Goals as goal

pub returns-in-Some : goal.returns-in-Some
returns-in-Some c =
    let words = fields c.args.platforms.now in
    let depend = c.args.depend.now in
    let front = c.in-Some.front.now in
    let cases = c.in-Some.ensures.cases in
    c.is_on_platform.ensures ∙ sym (stands_on_platforms words c.args.name.now depend front c.requires (named_spelled words depend front cases.0 cases.1))

pub returns-in-None : goal.returns-in-None
returns-in-None c =
    let words = fields c.args.platforms.now in
    let depend = c.args.depend.now in
    c.eq.ensures ∙ sym (stands_alone words c.args.name.now depend c.requires (named_alone words depend c.in-None.ensures.cases))
