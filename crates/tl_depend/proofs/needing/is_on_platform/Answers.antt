use Rattle.std.proofs.Common.{sym, ◌∙◌}
use Rattle.tl_model.specs.Words.{fields}
use Rattle.tl_depend.proofs.NeedLemmas.{with_platform, without_platform}
use Rattle.tl_depend.proofs.needing.is_on_platform.Goals as goal

pub returns-in-Some : goal.returns-in-Some
returns-in-Some c = c.has_word.ensures ∙ sym (with_platform c.args.name.now c.args.front.now c.in-Some.platform.now (fields c.args.platforms.now) c.in-Some.ensures)

pub returns-in-None : goal.returns-in-None
returns-in-None c = sym (without_platform c.args.name.now c.args.front.now (fields c.args.platforms.now) c.in-None.ensures)
