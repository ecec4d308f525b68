use Rattle.std.proofs.Common.{◌≡◌, ◌∙◌, ◌++◌, ◌∷◌, [], true, false, sym, ap}
use Rattle.tl_fetch.specs.Sinks.{HasBegun}
use Rattle.tl_fetch.specs.Unpacked.{heads}
use Rattle.tl_fetch.proofs.TakeLemmas.{head_fits, when_ok}
use Rattle.tl_fetch.proofs.UnpackLemmas.{head_taken}
use Rattle.tl_fetch.proofs.unpacking.Unpacking.take_file.Goals as goal

pub file-requires : goal.file-requires
file-requires g c = head_fits g.K.FileSink.tells c.args.self.now (g.K.FileSink.seen c.args.sink.now) c.args.path.now c.args.len c.requires c.if-self.false (sym c.is_next.ensures.next ∙ c.if-not-is_next.false)

pub returns-clause-goes : goal.returns-clause-goes
returns-clause-goes g c entry first s f =
    let sink = g.K.FileSink.seen c.args.sink.now in
    let new = g.K.FileSink.seen c.file.new.self in
    let path = c.args.path.now in
    let right : s.wrong ≡ false = sym f.wrong ∙ c.if-self.false in
    let is : heads path s.left ≡ true = ap (heads path) (sym f.left) ∙ (sym c.is_next.ensures.next ∙ c.if-not-is_next.false) in
    head_taken g.K.FileSink.tells entry first sink c.args.self.now s f path c.args.len new right is
    (when_ok c.file.result (HasBegun path c.args.len sink new) c.is_err.result c.is_err.ensures.value c.if-is_err.false c.file.ensures.begun)
    (λ t. when_ok c.file.result (new.given ≡ sink.given ++ (path, []) ∷ []) c.is_err.result c.is_err.ensures.value c.if-is_err.false (c.file.ensures.given t))
