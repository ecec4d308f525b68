use Rattle.std.proofs.Common.{◌≡◌, ◌++◌, drop}
use Rattle.tl_expand.specs.Objects.{parts_of}
use Rattle.tl_expand.proofs.entries.push_parts.Given as goal

abbrev pub invariant-loop-number : goal.invariant-loop-number
invariant-loop-number l = l.objects.items ++ parts_of l.source l.revision (drop l.number l.platforms) (drop l.number l.bins)
    ≡ l.initial.objects.items ++ parts_of l.source l.revision l.platforms l.bins
