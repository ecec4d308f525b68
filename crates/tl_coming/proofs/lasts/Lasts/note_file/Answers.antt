use Rattle.tl_plan.proofs.SetLaws.{on_ok_weaker}
use Rattle.tl_coming.proofs.LastLaws.{file_noted}
use Rattle.tl_coming.proofs.lasts.Lasts.note_file.Goals as goal

pub returns : goal.returns
returns c = on_ok_weaker c.note_folders.result _ _
    (λ folders noted are. file_noted c.args.self.now _ noted c.args.number c.args.file.now c.bytes.result.now c.bytes-2.result.now c.bytes.ensures.bytes c.bytes-2.ensures.bytes c.in_ok-note.ensures folders are)
    c.note_folders.ensures
