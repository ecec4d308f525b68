use Rattle.std.proofs.Common.{◌≡◌, ◌≤◌, ◌+◌, length}
use Rattle.std.specs.List.{sum_by}
use Rattle.tl_path.specs.Path.{component_fault, component_fault_from}
use Rattle.tl_path.specs.Inside.{components_left}
use Rattle.tl_path.proofs.fault.walked_fault.Given as goal

abbrev pub invariant-loop-component : goal.invariant-loop-component
invariant-loop-component l = record {
  can : (goal.iterator-loop-component).can_next l.component-iterator;
  ends : (goal.iterator-loop-component).is_finite l.component-iterator;
  same : component_fault l.fn.text ≡ component_fault_from l.at l.count (components_left l.component-iterator);
  room : l.at + sum_by (λ c. length c + 1) (components_left l.component-iterator) ≤ length l.fn.text + 1;
  few : l.count ≤ 64;
}
