use Rattle.std.proofs.Common.{◌≡◌, ◌++◌, ◌∷◌, take}
use Rattle.std.specs.List.{flat_map}
use Rattle.tl_pin.proofs.pins.append_globs.Given as goal

abbrev pub invariant-loop-glob : goal.invariant-loop-glob
invariant-loop-glob l = l.out.items ≡ l.initial.out.items ++ flat_map (λ glob. 44 ∷ glob) (take l.glob-index l.others)
