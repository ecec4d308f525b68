use Rattle.std.proofs.Common.{◌∙◌, ap, ◌++◌, arith}
use Rattle.tl_journal.specs.States.{coming}
use Rattle.tl_journal.proofs.Live.{keeps_clean, keeps_open}
use Rattle.tl_journal.proofs.Staged.{writing_more, piece_coming}
use Rattle.tl_journal.proofs.Called.{stages_of}
use Rattle.tl_journal.specs.States.{Writes}
use Rattle.tl_journal.proofs.writing.Writing.piece.Goals as goal

pub overflow_sub-left : goal.overflow_sub-left
overflow_sub-left g c = omega (arith, c.requires, ap (λ (w : Writes). w.left) c.self.view_is)

pub invariant_of-result : goal.invariant_of-result
invariant_of-result g c t =
    let s = g.H.Host.seen in
    let inv = c.self.invariant t in
    let keeps = c.add.ensures.keeps t in
    (writing_more (s c.self.inside.host) (s c.add.new.host) c.self.inside.left c.args.bytes.now inv.0 (keeps_clean _ _ keeps inv.0.clean) (omega (arith, c.requires, ap (λ (w : Writes). w.left) c.self.view_is)) (c.in-Ok.ensures.grows t), keeps_open _ _ keeps ∙ inv.1)

pub returns-in-Ok-clause-coming : goal.returns-in-Ok-clause-coming
returns-in-Ok-clause-coming g c t rest =
    let s = g.H.Host.seen in
    piece_coming (s c.self.inside.host) (s c.add.new.host) 0 c.self.inside.left c.args.bytes.now (c.in-Ok.ensures.grows t) rest
    ∙ ap (λ (w : Writes). coming w (c.args.bytes.now ++ rest)) c.self.view_is

pub returns-in-Ok-clause-stages : goal.returns-in-Ok-clause-stages
returns-in-Ok-clause-stages g c t = stages_of _ _ _ c.self.inside.opened c.spare.result (ap (λ (w : Writes). w.seen) c.self.view_is) (c.self.invariant t).1 c.spare.ensures (c.add.ensures.keeps t) (c.add.ensures.touches t)

pub returns-in-Err-clause-stages : goal.returns-in-Err-clause-stages
returns-in-Err-clause-stages g c t = stages_of _ _ _ c.self.inside.opened c.spare.result (ap (λ (w : Writes). w.seen) c.self.view_is) (c.self.invariant t).1 c.spare.ensures (c.add.ensures.keeps t) (c.add.ensures.touches t)
