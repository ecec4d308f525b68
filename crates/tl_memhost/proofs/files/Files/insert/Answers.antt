use Rattle.std.proofs.Common.{◌∙◌, sym, ap, subst}
use Rattle.std.specs.FinMap as map
use Rattle.tl_model.specs.Volume.{Volume, at}
use Rattle.tl_memhost.specs.Held.{volume_of, ArePaths}
use Rattle.tl_memhost.proofs.Held.{contents, at-volume_of, volume_of-insert_entry, paths-insert_entry}
use Rattle.tl_memhost.proofs.files.Files.insert.Goals as goal

pub invariant_of-self : goal.invariant_of-self
invariant_of-self c = subst ArePaths (sym c.in-Ok.ensures.entries) (paths-insert_entry c.self.inside.held.entries c.args.name c.args.bytes c.requires c.self.invariant)

pub returns-in-Ok-clause-before : goal.returns-in-Ok-clause-before
returns-in-Ok-clause-before c = ap contents c.in-Ok.ensures.old ∙ sym (at-volume_of c.self.inside.held.entries c.args.name.items) ∙ ap (λ (v : Volume). at v c.args.name.items) c.self.view_is

pub returns-in-Ok-clause-ok : goal.returns-in-Ok-clause-ok
returns-in-Ok-clause-ok c = ap volume_of c.in-Ok.ensures.entries ∙ volume_of-insert_entry c.self.inside.held.entries c.args.name c.args.bytes ∙ ap (λ (v : Volume). map.insert v c.args.name.items c.args.bytes.items) c.self.view_is
