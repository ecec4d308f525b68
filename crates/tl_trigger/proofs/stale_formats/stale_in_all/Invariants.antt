use Rattle.std.proofs.Common.{◌≡◌, []}
use Rattle.std.specs.List.{flat_map}
use Rattle.std.specs.HashSet.{contains_text}
use Rattle.tl_trigger.specs.Stale.{with_formats, stale_by}
use Rattle.tl_trigger.proofs.stale_formats.stale_in_all.Given as goal

abbrev pub invariant-loop-entry : goal.invariant-loop-entry
invariant-loop-entry l =
    with_formats l.formats (flat_map (stale_by (contains_text l.changed)) l.entry-iterator.rest.now) ≡ with_formats [] (flat_map (stale_by (contains_text l.changed)) l.db)
