use Rattle.std.proofs.Common.{◌≡◌}
use Rattle.tl_path.specs.Inside.{components_left}
use Rattle.tl_lsr.specs.Reading.{base_name, last_from}
use Rattle.tl_lsr.proofs.listing.has_base_name.Given as goal

abbrev pub invariant-loop-component : goal.invariant-loop-component
invariant-loop-component l = last_from l.base (components_left l.component-iterator) ≡ base_name l.path
