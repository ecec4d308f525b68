use Rattle.std.proofs.Common.{refl}
use Rattle.tl_frame.specs.declared.stage.Stage.TheVariants.{Magic}
use Rattle.tl_frame.proofs.FeedLaws.{leads_none}
use Rattle.tl_frame.proofs.pieces.FrameReader.new.Goals as goal

pub returns-clause-fed : goal.returns-clause-fed
returns-clause-fed c live = leads_none (record { stage = Magic; place = 0; files = 0; size = 0 }) c.new.result.items c.new-2.result.items refl refl c.new.ensures.items
