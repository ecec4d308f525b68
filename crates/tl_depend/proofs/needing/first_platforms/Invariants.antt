use Rattle.std.proofs.Common.{◌≡◌, drop}
use Rattle.tl_db.specs.Options.{option_prefix, first_after}
use Rattle.tl_db.specs.declared.options.TreeOption.TheVariants.{Platforms}
use Rattle.tl_depend.proofs.needing.first_platforms.Given as goal

abbrev pub invariant-loop-line : goal.invariant-loop-line
invariant-loop-line l = first_after (option_prefix Platforms) l.lines ≡ first_after (option_prefix Platforms) (drop l.line-index l.lines)
