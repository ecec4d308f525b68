use Rattle.tl_frame.proofs.StateLaws.{takes_ended, takes_faulty, is_faulty}
use Rattle.tl_frame.proofs.step.pass.Goals as goal

pub returns-in-Ended-clause-takes : goal.returns-in-Ended-clause-takes
returns-in-Ended-clause-takes c last = takes_ended c.args.waiting c.at.result last c.args.piece.now c.args.out.now.items c.in-Ended.is c.requires.some c.at.ensures

pub returns-in_default-clause-takes : goal.returns-in_default-clause-takes
returns-in_default-clause-takes c last =
    takes_faulty c.args.waiting last c.args.piece.now c.args.out.now.items (is_faulty c.args.waiting.stage c.requires.wanted c.requires.live c.in_default.not-Ended c.in_default.not-Content)
