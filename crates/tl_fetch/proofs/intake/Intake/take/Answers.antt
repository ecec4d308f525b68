use Rattle.std.proofs.Common.{◌≡◌, ◌++◌, List, ℕ, OnOk, Ok, Err, Result, subst}
use Rattle.std.specs.List.{flat_map}
use Rattle.tl_frame.specs.Scan.{tokens_of}
use Rattle.tl_fetch.specs.Unpacked.{Unpacked, Follows, awaiting, unpacked}
use Rattle.tl_fetch.proofs.TakeLemmas.{piece_taken, piece_told, on_ok}
use Rattle.tl_fetch.proofs.intake.Intake.take.Goals as goal

pub take_all-requires : goal.take_all-requires
take_all-requires g c =
    let held = c.requires.1 in
    let took = held.took in
    piece_taken g.K.FileSink.tells held.entry held.paths held.first (g.K.FileSink.seen c.args.sink.now) c.args.self.now.unpacking c.requires.0 c.args.piece.now c.in_ok-events.events.items took.follows (c.in_ok-events.ensures c.requires.0 took.fed).told

pub returns-clause-took : goal.returns-clause-took
returns-clause-took g c = on_ok c.take_all.result c.take_all.ensures.goes (λ goes entry paths first bytes took.
    let told = c.in_ok-events.ensures bytes took.fed in
    record {
      holds = c.update.ensures bytes took.holds;
      fed = told.fed_more;
      live = told.live;
      follows = subst (λ (s : Unpacked). Follows g.K.FileSink.tells entry first (g.K.FileSink.seen c.take_all.new.sink) c.take_all.new.self s) (piece_told entry paths bytes c.args.piece.now c.in_ok-events.events.items told.told)
          (goes entry first (unpacked entry (awaiting paths) (tokens_of bytes)) took.follows);
    })
