use Rattle.std.proofs.Common.{◌∙◌, ap, subst, [], ◌∷◌, ◌++◌, arith}
use Rattle.tl_model.specs.Volume.{Name}
use Rattle.tl_model.specs.Seen.{Seen}
use Rattle.tl_journal_text.specs.Records.{Write, write_head}
use Rattle.tl_journal_text.proofs.Targets.{is_target_of}
use Rattle.tl_journal.specs.States.{Grows, staged}
use Rattle.tl_journal.proofs.Live.{keeps_clean, keeps_open}
use Rattle.tl_journal.proofs.Staged.{writing_start, begin_coming}
use Rattle.tl_journal.proofs.Called.{stages_of}
use Rattle.tl_journal.proofs.states.Staging.begin_write.Goals as goal

pub invariant_of-result : goal.invariant_of-result
invariant_of-result g c t =
    let s = g.H.Host.seen in
    let inv = c.self.invariant t in
    let keeps = c.add_head.ensures.keeps t in
    let grows = subst (λ (n : Name). Grows (write_head n c.args.len) (s c.self.inside.host) (s c.add_head.new.host)) c.view.ensures (c.in-Ok.ensures.grows t) in
    (writing_start (s c.self.inside.host) _ c.args.path.now c.args.len inv.0 (keeps_clean _ _ keeps inv.0.clean) (is_target_of c.args.path.now c.bytes-path.ensures.path c.requires) (omega (arith, c.ranges.len)) grows, keeps_open _ _ keeps ∙ inv.1)

pub returns-in-Ok-clause-coming : goal.returns-in-Ok-clause-coming
returns-in-Ok-clause-coming g c t bytes is =
    let s = g.H.Host.seen in
    let inv = c.self.invariant t in
    let keeps = c.add_head.ensures.keeps t in
    let grows = subst (λ (n : Name). Grows (write_head n c.args.len) (s c.self.inside.host) (s c.add_head.new.host)) c.view.ensures (c.in-Ok.ensures.grows t) in
    begin_coming (s c.self.inside.host) (s c.add_head.new.host) c.args.path.now c.args.len inv.0 (keeps_clean _ _ keeps inv.0.clean) (is_target_of c.args.path.now c.bytes-path.ensures.path c.requires) (omega (arith, c.ranges.len)) grows bytes is
    ∙ ap (λ (s : Seen). staged s ++ (Write c.args.path.now bytes) ∷ []) c.self.view_is

pub returns-in-Ok-clause-stages : goal.returns-in-Ok-clause-stages
returns-in-Ok-clause-stages g c t = stages_of _ _ _ c.self.inside.opened c.spare.result c.self.view_is (c.self.invariant t).1 c.spare.ensures (c.add_head.ensures.keeps t) (c.add_head.ensures.touches t)

pub returns-in-Err-clause-stages : goal.returns-in-Err-clause-stages
returns-in-Err-clause-stages g c t = stages_of _ _ _ c.self.inside.opened c.spare.result c.self.view_is (c.self.invariant t).1 c.spare.ensures (c.add_head.ensures.keeps t) (c.add_head.ensures.touches t)
