use Rattle.std.proofs.Common.{sym, ◌∙◌}
use Rattle.tl_object.proofs.BareLemmas.{placed-new, placed-again}
use Rattle.tl_object.proofs.section.GatheredPathsSectionFiles.put.Goals as goal

pub returns-then-branch : goal.returns-then-branch
returns-then-branch c =
    let file = c.file.inside in
    rw (← c.file.view_is)
    (placed-new c.args.self.now c.add.new.self (record { path = file.path; details = file.details; language = file.language }) c.in_ok-add.field-0
    (sym c.is_some.ensures ∙ c.if-is_some.false) (sym c.is_some-else-is_some.ensures ∙ c.if-is_some-2.false) c.if-branch.true c.in_ok-add.ensures.ok)

pub returns : goal.returns
returns c =
    let file = c.file.inside in
    rw (← c.file.view_is)
    (placed-again c.args.self.now c.add.new.self (record { path = file.path; details = file.details; language = file.language }) c.in_ok-add.field-0
    (sym c.is_some.ensures ∙ c.if-is_some.false) (sym c.is_some-else-is_some.ensures ∙ c.if-is_some-2.false) c.if-branch.false c.in_ok-add.ensures.ok)
