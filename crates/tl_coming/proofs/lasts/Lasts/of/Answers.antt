use Rattle.std.proofs.Common.{[]}
use Rattle.tl_coming.specs.Lasts.{number_at}
use Rattle.tl_coming.proofs.LastLaws.{none_noted, last_of_noted}
use Rattle.tl_coming.proofs.lasts.Lasts.of.Goals as goal

pub returns : goal.returns
returns c =
    last_of_noted (number_at c.in_ok-numbers.numbers) c.args.db.now c.args.plan.now c.note_entries.new.self
    (c.in_ok-note_entries.ensures [] (none_noted (record { files = c.new-files.result; folders = c.new-folders.result }) c.new-files.ensures.empty c.new-folders.ensures.empty)) c.in_ok-numbers.ensures
