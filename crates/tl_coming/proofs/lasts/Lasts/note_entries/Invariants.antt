use Rattle.std.proofs.Common.{List}
use Rattle.tl_coming.specs.Lasts.{Noted, AreNoted, number_at}
use Rattle.tl_coming.proofs.LastLaws.{HasNoted}
use Rattle.tl_coming.proofs.lasts.Lasts.note_entries.Given as goal

abbrev pub invariant-loop-entry : goal.invariant-loop-entry
invariant-loop-entry l = (noted : List Noted) → AreNoted noted l.fn.self → HasNoted noted (number_at l.numbers) l.db l.entry-iterator.rest.now l.self
