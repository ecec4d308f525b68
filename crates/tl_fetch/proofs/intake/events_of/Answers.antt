use Rattle.tl_fetch.proofs.TakeLemmas.{told_more}
use Rattle.tl_fetch.proofs.intake.events_of.Goals as goal

pub returns-in-Ok : goal.returns-in-Ok
returns-in-Ok c fed is_fed =
    told_more c.args.reader.now c.feed.new.self fed c.args.piece.now c.new-events.result.items c.feed.new.out.items _ c.new-events.ensures.items (λ never. absurd (cc)) (c.in-Ok.ensures.answer fed is_fed) (c.feed.ensures.fed fed is_fed) (c.feed.ensures.tells fed is_fed)

pub returns-in-Err-BadFrame : goal.returns-in-Err-BadFrame
returns-in-Err-BadFrame c fed is_fed =
    told_more c.args.reader.now c.feed.new.self fed c.args.piece.now c.new-events.result.items c.feed.new.out.items _ c.new-events.ensures.items (λ never. absurd (cc)) (c.in-Err-BadFrame.ensures.answer fed is_fed) (c.feed.ensures.fed fed is_fed) (c.feed.ensures.tells fed is_fed)
