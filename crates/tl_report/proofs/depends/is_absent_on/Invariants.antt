use Rattle.std.proofs.Common.{◌≡◌, ◌++◌, ◌∷◌, false, take}
use Rattle.std.specs.List.{list_any}
use Rattle.tl_report.specs.Depends.{is_absent_name}
use Rattle.tl_report.proofs.depends.is_absent_on.Given as goal

abbrev pub invariant-loop-platform : goal.invariant-loop-platform
invariant-loop-platform l = list_any (λ platform. is_absent_name l.db (l.front ++ 46 ∷ platform.now)) (take l.platform-index l.platforms) ≡ false
