use Rattle.std.proofs.Common.{◌≡◌, ◌≤◌, ◌-◌, ◌++◌, vec_len}
use Rattle.tl_model.specs.Seen.{Told}
use Rattle.tl_shell.specs.Feeds.{left_behind}
use Rattle.tl_shell.proofs.FeedLemmas.{IsFed}
use Rattle.tl_shell.proofs.feed.Feed.line.Given as goal

abbrev pub invariant-loop-line : goal.invariant-loop-line
invariant-loop-line g l = record {
  read : IsFed l.self.taken l.line.items;
  taken : l.self.taken ≡ l.fn.self.taken;
  all : Told g.I.Source.tells (left_behind l.fn.self (g.I.Source.seen l.fn.input) ≡ l.line.items ++ left_behind l.self (g.I.Source.seen l.input));
  later : (g.I.Source.seen l.fn.input).faults ≤ (g.I.Source.seen l.input).faults;
}

abbrev pub decreases-loop-line : goal.decreases-loop-line
decreases-loop-line g l = 65536 - vec_len l.line
