use Rattle.std.proofs.Common.{◌≡◌, ◌≤◌, ◌∙◌, ℕ, false, length, sym, subst}
use Rattle.tl_fetch.specs.Sinks.{HasBrought, behind_last}
use Rattle.tl_fetch.proofs.TakeLemmas.{bytes_fit, when_ok}
use Rattle.tl_fetch.proofs.UnpackLemmas.{bytes_refused, bytes_taken}
use Rattle.tl_fetch.proofs.unpacking.Unpacking.take_bytes.Goals as goal

pub piece-requires : goal.piece-requires
piece-requires g c = bytes_fit g.K.FileSink.tells c.args.self.now (g.K.FileSink.seen c.args.sink.now) c.args.bytes.now c.requires c.if-self.false

pub returns-then-self-clause-goes : goal.returns-then-self-clause-goes
returns-then-self-clause-goes g c entry first s f = bytes_refused g.K.FileSink.tells entry first (g.K.FileSink.seen c.args.sink.now) c.args.self.now s f c.args.bytes.now c.if-self.true

pub returns-clause-goes : goal.returns-clause-goes
returns-clause-goes g c entry first s f =
    let sink = g.K.FileSink.seen c.args.sink.now in
    let new = g.K.FileSink.seen c.piece.new.self in
    let bytes = c.args.bytes.now in
    let right : s.wrong ≡ false = sym f.wrong ∙ c.if-self.false in
    let room : length bytes ≤ sink.lacks = bytes_fit g.K.FileSink.tells c.args.self.now sink bytes c.requires c.if-self.false in
    let few : length bytes ≤ s.lacks = subst (λ (n : ℕ). length bytes ≤ n) (f.lacks right) room in
    bytes_taken g.K.FileSink.tells entry first sink c.args.self.now s f bytes new right few
    (when_ok c.piece.result (HasBrought (length bytes) sink new) c.is_err.result c.is_err.ensures.value c.if-is_err.false c.piece.ensures.brought)
    (λ t. when_ok c.piece.result (new.given ≡ behind_last bytes sink.given) c.is_err.result c.is_err.ensures.value c.if-is_err.false (c.piece.ensures.given t))
