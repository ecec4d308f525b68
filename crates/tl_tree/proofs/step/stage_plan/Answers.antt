use Rattle.std.proofs.Common.{◌++◌, sym, subst}
use Rattle.std.specs.Prelude.{map}
use Rattle.tl_model.specs.Seen.{Seen}
use Rattle.tl_journal.specs.Spent.{Stages}
use Rattle.tl_journal.proofs.Stagings.{stages_join}
use Rattle.tl_tree.specs.Changes.{named_bytes, coming}
use Rattle.tl_tree.specs.Staged.{files_of}
use Rattle.tl_tree.proofs.Opening.{stages_asked, files_moved}
use Rattle.tl_tree.proofs.step.stage_plan.Goals as goal

pub returns-then-is_err-clause-stages : goal.returns-then-is_err-clause-stages
returns-then-is_err-clause-stages g c t =
    subst (λ (s : Seen). Stages c.args.journal s) (sym c.into_host-then-is_err.ensures) (stages_asked c.args.journal c.ask_all.new.journal (c.stands.ensures.stays t) (c.ask_all.ensures.same t))

pub stage_all-requires-clause-files : goal.stage_all-requires-clause-files
stage_all-requires-clause-files g c = files_moved (coming c.args.parts.now ++ map named_bytes c.args.made.now) (files_of c.in-Ok.work.writes.items) c.in-Ok.ensures.writes c.requires.files

pub returns-in-Ok-stage_all-clause-stages : goal.returns-in-Ok-stage_all-clause-stages
returns-in-Ok-stage_all-clause-stages g c t =
    stages_join c.args.journal c.ask_all.new.journal c.in-Ok-stage_all.staging (stages_asked c.args.journal c.ask_all.new.journal (c.stands.ensures.stays t) (c.ask_all.ensures.same t)) (c.in-Ok-stage_all.ensures.stages t)

pub returns-clause-stages : goal.returns-clause-stages
returns-clause-stages g c t =
    stages_join c.args.journal c.ask_all.new.journal (g.H.Host.seen c.in-Err-stage_all.lost.host)
    (stages_asked c.args.journal c.ask_all.new.journal (c.stands.ensures.stays t) (c.ask_all.ensures.same t)) (c.in-Err-stage_all.ensures.stages t)
