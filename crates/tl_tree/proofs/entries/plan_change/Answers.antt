use Rattle.std.proofs.Common.{sym, ◌∙◌}
use Rattle.tl_tree.proofs.AfterParts.{after_none}
use Rattle.tl_tree.proofs.entries.plan_change.Goals as goal

pub returns-then-not-has_entries-clause-next : goal.returns-then-not-has_entries-clause-next
returns-then-not-has_entries-clause-next c =
    sym (after_none c.args.parts.now c.args.db.now (sym c.has_entries.ensures ∙ c.if-not-has_entries.true))
