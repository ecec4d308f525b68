use Rattle.std.proofs.Common.{◌∙◌, ap, subst, [], ◌∷◌, ◌++◌}
use Rattle.tl_model.specs.Volume.{Name}
use Rattle.tl_model.specs.Seen.{Seen}
use Rattle.tl_journal_text.specs.Records.{Remove, text_of}
use Rattle.tl_journal_text.proofs.Targets.{is_target_of}
use Rattle.tl_journal.specs.States.{Grows, staged}
use Rattle.tl_journal.proofs.Live.{keeps_clean, keeps_open}
use Rattle.tl_journal.proofs.Staged.{more_is, more_staging}
use Rattle.tl_journal.proofs.Called.{stages_of}
use Rattle.tl_journal.proofs.states.Staging.stage_remove.Goals as goal

pub invariant_of-result : goal.invariant_of-result
invariant_of-result g c t =
    let s = g.H.Host.seen in
    let inv = c.self.invariant t in
    let keeps = c.add_remove.ensures.keeps t in
    let grows = subst (λ (n : Name). Grows (text_of (Remove n)) (s c.self.inside.host) (s c.add_remove.new.host)) c.view.ensures (c.in-Ok.ensures.grows t) in
    (more_staging (s c.self.inside.host) _ (Remove c.args.path.now) inv.0 (keeps_clean _ _ keeps inv.0.clean) (is_target_of c.args.path.now c.bytes-path.ensures.path c.requires) grows, keeps_open _ _ keeps ∙ inv.1)

pub returns-in-Ok-clause-added : goal.returns-in-Ok-clause-added
returns-in-Ok-clause-added g c t =
    let s = g.H.Host.seen in
    let inv = c.self.invariant t in
    let grows = subst (λ (n : Name). Grows (text_of (Remove n)) (s c.self.inside.host) (s c.add_remove.new.host)) c.view.ensures (c.in-Ok.ensures.grows t) in
    more_is (s c.self.inside.host) (s c.add_remove.new.host) (Remove c.args.path.now) inv.0 (is_target_of c.args.path.now c.bytes-path.ensures.path c.requires) grows
    ∙ ap (λ (s : Seen). staged s ++ (Remove c.args.path.now) ∷ []) c.self.view_is

pub returns-in-Ok-clause-stages : goal.returns-in-Ok-clause-stages
returns-in-Ok-clause-stages g c t = stages_of _ _ _ c.self.inside.opened c.spare.result c.self.view_is (c.self.invariant t).1 c.spare.ensures (c.add_remove.ensures.keeps t) (c.add_remove.ensures.touches t)

pub returns-in-Err-clause-stages : goal.returns-in-Err-clause-stages
returns-in-Err-clause-stages g c t = stages_of _ _ _ c.self.inside.opened c.spare.result c.self.view_is (c.self.invariant t).1 c.spare.ensures (c.add_remove.ensures.keeps t) (c.add_remove.ensures.touches t)
