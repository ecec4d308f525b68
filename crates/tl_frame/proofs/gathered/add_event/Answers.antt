use Rattle.std.proofs.Common.{List, ℕ, sym, ◌∙◌, ap}
use Rattle.std.proofs.lemmas.Result.{on_ok_weaker}
use Rattle.tl_file.specs.declared.file.FileBytes.{FileBytes}
use Rattle.tl_frame.specs.declared.event.FrameEvent.{FrameEvent}
use Rattle.tl_frame.specs.Events.{event_tokens, with_tokens}
use Rattle.tl_frame.proofs.GatherLaws.{with_tokens-bytes}
use Rattle.tl_frame.proofs.gathered.add_event.Goals as goal

pub returns-in-Bytes : goal.returns-in-Bytes
returns-in-Bytes c =
    let held : List ℕ × List FileBytes = (c.args.entry.now, c.args.files.now.items) in
    on_ok_weaker c.add_bytes.result (λ same.
    ap (λ (e : FrameEvent). with_tokens held (event_tokens e)) c.in-Bytes.is
    ∙ with_tokens-bytes c.in-Bytes.bytes c.args.entry.now c.args.files.now.items
    ∙ ap (λ (l : List FileBytes). (c.args.entry.now, l)) (sym same)) c.add_bytes.ensures
