use Rattle.std.proofs.Common.{◌≡◌, take}
use Rattle.tl_coming.specs.Made.{made_parts}
use Rattle.tl_install.proofs.parts.parts_of.Given as goal

abbrev pub invariant-loop-part : goal.invariant-loop-part
invariant-loop-part l = l.parts.items ≡ made_parts l.repos (take l.part-index l.step)
