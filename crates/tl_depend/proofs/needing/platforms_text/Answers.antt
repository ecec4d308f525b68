use Rattle.std.proofs.Common.{sym, ◌∙◌}
use Rattle.tl_depend.proofs.NeedLemmas.{listed_platforms}
use Rattle.tl_depend.proofs.needing.platforms_text.Goals as goal

pub returns-in-Some : goal.returns-in-Some
returns-in-Some c = listed_platforms c.args.db.now c.in-Some.text.now (sym c.in-Some.ensures) (sym c.are_platforms.ensures ∙ c.if-are_platforms.true)
