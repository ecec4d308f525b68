use Rattle.std.proofs.Common.{◌≡◌, ap, sym, ◌∙◌, arith, length, ◌+◌}
use Rattle.std.specs.List.{sum_by}
use Rattle.tl_path.proofs.Split.{lengths-components}
use Rattle.tl_path.specs.Path.{component_fault_from}
use Rattle.tl_path.specs.Components.{components}
use Rattle.tl_path.specs.Inside.{components_left}
use Rattle.tl_path.proofs.fault.walked_fault.Goals as goal

pub loop-component-init : goal.loop-component-init
loop-component-init c =
    let all : components_left c.into_iter-component-iterator.result ≡ components c.args.text.now
    = ap components_left c.into_iter-component-iterator.ensures.into_iter_gives ∙ c.of-component-items.ensures in
    record {
      can = tt;
      ends = tt;
      same = ap (component_fault_from 0 0) (sym all);
      room = omega (arith, lengths-components c.args.text.now, ap (sum_by (λ d. length d + 1)) all);
      few = omega arith;
    }
