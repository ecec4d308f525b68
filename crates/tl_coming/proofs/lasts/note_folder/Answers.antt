use Rattle.std.proofs.Common.{◌∙◌}
use Rattle.tl_plan.proofs.SetLaws.{on_ok_weaker}
use Rattle.tl_coming.proofs.LastLaws.{folder_slash, folder_other}
use Rattle.tl_coming.proofs.lasts.note_folder.Goals as goal

pub returns-then-path-end-eq47 : goal.returns-then-path-end-eq47
returns-then-path-end-eq47 c = on_ok_weaker c.note.result _ _
    (λ noted least folder. noted least folder ∙ folder_slash c.args.path.now folder c.args.end _ _ c.if-path-end-eq47.true) c.note.ensures

pub returns-else-path-end-eq47 : goal.returns-else-path-end-eq47
returns-else-path-end-eq47 c least folder = folder_other c.args.path.now folder c.args.end _ _ c.if-path-end-eq47.false
