use Rattle.std.proofs.Common.{◌≡◌, Some, None, sym, ◌∙◌}
use Rattle.tl_journal_text.proofs.Targets.{target_path}
use Rattle.tl_path.specs.declared.fault.PathFault.{PathFault}
use Rattle.tl_journal_text.proofs.names.target.Goals as goal

differs : (fault : PathFault) → None ≡ Some fault → ⊥
differs fault e = absurd cc

pub unreachable-requires : goal.unreachable-requires
unreachable-requires c = differs c.in-Err.field-0 (sym (target_path c.args.name.now c.requires) ∙ c.in-Err.ensures.path)
