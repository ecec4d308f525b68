use Rattle.std.proofs.Common.{◌∙◌, ℕ, List, OnOk, sym, ap, subst}
use Rattle.tl_frame.specs.Events.{event_tokens}
use Rattle.tl_frame.specs.Scan.{Token}
use Rattle.tl_frame.specs.declared.event.FrameEvent.TheVariants.{Bytes}
use Rattle.tl_fetch.specs.Unpacked.{Unpacks}
use Rattle.tl_fetch.proofs.unpacking.Unpacking.take.Goals as goal

pub returns-in-Bytes-clause-goes : goal.returns-in-Bytes-clause-goes
returns-in-Bytes-clause-goes g c =
    subst (λ (tokens : List Token). OnOk c.take_bytes.result (Unpacks g.K.FileSink.tells (g.K.FileSink.seen c.args.sink.now) (g.K.FileSink.seen c.take_bytes.new.sink) c.args.self.now c.args.self.now tokens))
    (ap event_tokens (ap (λ (l : List ℕ). Bytes l) c.as_slice-in-Bytes.ensures ∙ sym c.in-Bytes.is)) c.take_bytes.ensures.goes
