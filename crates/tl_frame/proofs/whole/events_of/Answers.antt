use Rattle.std.proofs.Common.{◌<◌, ◌^◌, [], length, sym, ◌∙◌, arith}
use Rattle.std.proofs.lemmas.Result.{err_from_is_err_and}
use Rattle.tl_frame.specs.States.{is_spent}
use Rattle.tl_frame.proofs.PlaceLaws.{fed_error, finished_error}
use Rattle.tl_frame.proofs.FeedLaws.{ends_at, told_whole}
use Rattle.tl_frame.proofs.whole.events_of.Goals as goal

pub returns-in_err-feed-clause-fault : goal.returns-in_err-feed-clause-fault
returns-in_err-feed-clause-fault c =
    let small : length c.args.bytes.now < 2 ^ 64 = omega arith in
    let error = fed_error (is_spent c.feed.new.self) c.args.bytes.now c.in_err-feed.field-0.0 small (sym (c.feed.ensures.answer [] c.new-reader.ensures.fed) ∙ c.in_err-feed.was) in
    let p = err_from_is_err_and c.from_residual.result c.from_residual.ensures.1 in
    rw (p.1, p.2) error

pub returns-in_err-finish-clause-fault : goal.returns-in_err-finish-clause-fault
returns-in_err-finish-clause-fault c =
    let small : length c.args.bytes.now < 2 ^ 64 = omega arith in
    let all = c.feed.ensures.fed [] c.new-reader.ensures.fed in
    let error = finished_error (is_spent c.feed.new.self) c.args.bytes.now c.in_err-finish.field-0.0 small (sym (c.finish.ensures.answer c.args.bytes.now all) ∙ c.in_err-finish.was) in
    let p = err_from_is_err_and c.from_residual-in_err-finish.result c.from_residual-in_err-finish.ensures.1 in
    rw (p.1, p.2) error

pub returns-clause-told : goal.returns-clause-told
returns-clause-told c =
    let all = c.feed.ensures.fed [] c.new-reader.ensures.fed in
    let ends = ends_at (is_spent c.feed.new.self) c.args.bytes.now (sym (c.finish.ensures.answer c.args.bytes.now all) ∙ c.in_ok-finish.was) in
    told_whole c.args.bytes.now c.new-events.result.items c.feed.new.out.items (is_spent c.feed.new.self) c.new-events.ensures.items ends.0 (c.feed.ensures.tells [] c.new-reader.ensures.fed)

pub returns-clause-whole : goal.returns-clause-whole
returns-clause-whole c = c.in_ok-finish.ensures.whole c.args.bytes.now (c.feed.ensures.fed [] c.new-reader.ensures.fed)
