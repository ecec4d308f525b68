use Rattle.std.proofs.Common.{◌∙◌, sym, ap, subst}
use Rattle.std.specs.FinMap as map
use Rattle.tl_model.specs.Volume.{Volume, at}
use Rattle.tl_memhost.specs.Held.{ArePaths}
use Rattle.tl_memhost.proofs.Held.{contents, at-volume_of, volume_of-remove_entry, paths-remove_entry}
use Rattle.tl_memhost.proofs.files.Files.remove.Goals as goal

pub invariant_of-self : goal.invariant_of-self
invariant_of-self c = subst ArePaths (sym c.remove.ensures.entries) (paths-remove_entry c.self.inside.held.entries _ c.self.invariant)

pub returns-clause-before : goal.returns-clause-before
returns-clause-before c = ap contents c.remove.ensures.value ∙ sym (at-volume_of c.self.inside.held.entries c.args.name.now) ∙ ap (λ (v : Volume). at v c.args.name.now) c.self.view_is

pub returns-clause-removed : goal.returns-clause-removed
returns-clause-removed c = volume_of-remove_entry c.self.inside.held.entries c.remove.new.self.entries c.args.name.now c.remove.ensures.entries c.remove.ensures.updates.1 ∙ ap (λ (v : Volume). map.remove v c.args.name.now) c.self.view_is
