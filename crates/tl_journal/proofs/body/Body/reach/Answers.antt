use Rattle.tl_journal.proofs.Pieces.{loaded_part, loaded_enough, on_ok_both}
use Rattle.tl_journal.specs.Reading.{body_at}
use Rattle.tl_journal.proofs.body.Body.reach.Goals as goal

pub returns-clause-part : goal.returns-clause-part
returns-clause-part g c t =
    let s = g.H.Host.seen in
    on_ok_both c.load.result _ _ _ (λ start bytes. loaded_part (s c.args.host.now) (s c.load.new.host) c.args.self.now c.load.new.self c.args.from (c.load.ensures.quiet t) c.load.ensures.same (c.requires.part t) start bytes) c.load.ensures.start (c.load.ensures.loaded t)

pub returns-clause-reached : goal.returns-clause-reached
returns-clause-reached g c t =
    on_ok_both c.load.result _ _ _ (λ start bytes. loaded_enough c.load.new.self c.args.from c.args.need (body_at c.args.self.now.slot (g.H.Host.seen c.args.host.now)) c.requires.most start bytes) c.load.ensures.start (c.load.ensures.loaded t)
