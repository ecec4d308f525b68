use Rattle.std.proofs.Common.{◌∙◌, sym, ap}
use Rattle.tl_path.specs.Path.{earlier, fault}
use Rattle.tl_path.specs.declared.fault.PathKind.TheVariants.{Utf8}
use Rattle.std.proofs.Common.{Some}
use Rattle.tl_path.proofs.Form.{path_fault-text, path_fault-bytes, size-small}
use Rattle.tl_path.proofs.path_ref.sized_text.Goals as goal

pub place_fault-form-requires : goal.place_fault-form-requires
place_fault-form-requires c = size-small _ c.requires

pub returns-in-Some : goal.returns-in-Some
returns-in-Some c = path_fault-text c.args.text.now c.requires c.in-Ok.ensures.cases.1 ∙ sym c.place_fault-form.ensures ∙ c.in-Some.is

pub returns-in-None : goal.returns-in-None
returns-in-None c = (
  c.in-Ok.ensures.cases.0,
  path_fault-text c.args.text.now c.requires c.in-Ok.ensures.cases.1 ∙ sym c.place_fault-form.ensures ∙ c.in-None.is,
)

pub returns-in-Err : goal.returns-in-Err
returns-in-Err c =
    path_fault-bytes c.args.text.now c.valid_up_to-at.result c.requires (rw c.valid_up_to-at.ensures c.in-Err.ensures.cases.1)
    ∙ ap (earlier (Some (fault Utf8 c.valid_up_to-at.result))) (sym c.place_fault-form.ensures)
    ∙ c.earlier_of.ensures
