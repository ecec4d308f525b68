use Rattle.std.specs.Prelude.{true}
use Rattle.tl_object.specs.Content.{content, entry_lines}
use Rattle.tl_object.specs.Reading.{entry_groups}
use Rattle.tl_object.proofs.ReadingLemmas.{object-read, object-fails}
use Rattle.tl_object.proofs.read.read_entry.Goals as goal

pub returns-in-Err-clause-fault : goal.returns-in-Err-clause-fault
returns-in-Err-clause-fault c = object-fails c.in-Err.fault (entry_groups (entry_lines true (content c.args.before c.args.text.now))) c.in-Err.ensures.fault

pub returns-clause-object : goal.returns-clause-object
returns-clause-object c =
    let parts = c.in-Ok.ensures.parts in
    object-read (entry_groups (entry_lines true (content c.args.before c.args.text.now))) c.in-Ok.parts.builder parts.0 c.in_ok-object.object parts.1.0 parts.1.1 c.in_ok-object.ensures
