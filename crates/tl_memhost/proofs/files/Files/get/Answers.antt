use Rattle.std.proofs.Common.{◌∙◌, sym, ap, Some}
use Rattle.tl_model.specs.Volume.{Volume, at}
use Rattle.tl_memhost.proofs.Held.{contents, at-volume_of}
use Rattle.tl_memhost.proofs.files.Files.get.Goals as goal

pub returns-in-Some : goal.returns-in-Some
returns-in-Some c = ap Some c.as_slice.ensures.value ∙ ap contents c.in-Some.ensures.value ∙ sym (at-volume_of c.self.inside.held.entries c.args.name.now) ∙ ap (λ (v : Volume). at v c.args.name.now) c.self.view_is

pub returns-in-None : goal.returns-in-None
returns-in-None c = ap contents c.in-None.ensures.value ∙ sym (at-volume_of c.self.inside.held.entries c.args.name.now) ∙ ap (λ (v : Volume). at v c.args.name.now) c.self.view_is
