use Rattle.std.proofs.Common.{◌≡◌, ◌∙◌, [], ◌∷◌, ◌++◌, List, None, sym, ap, append_assoc}
use Rattle.std.specs.FinMap as map
use Rattle.tl_model.specs.Volume.{Name, Volume, at}
use Rattle.tl_memhost.specs.Given.{given}
use Rattle.tl_file.specs.declared.file.FileBytes.{FileBytes}
use Rattle.tl_memhost.proofs.Held.{contents}
use Rattle.tl_memhost.proofs.Apart.{given_push, apart_push}
use Rattle.tl_memhost.proofs.given.files_of.Goals as goal

pub loop-file-preserved : goal.loop-file-preserved
loop-file-preserved c =
    let name : c.in-Ok.name.items ≡ c.in-Some.file.path = c.in-Ok.ensures.items ∙ c.bytes.ensures.bytes in
    let absent : at (given c.loop-file.yielded) c.in-Some.file.path ≡ None =
    ap (λ (v : Volume). at v c.in-Some.file.path) (sym c.loop-file.invariant.made)
    ∙ ap (at c.loop-file.made) (sym name)
    ∙ sym c.in-Ok-None.ensures.before
    ∙ ap contents c.in-Ok-None.field-0-is in
    record {
      made = c.in-Ok-None.ensures.ok
          ∙ ap (λ (n : Name). map.insert c.loop-file.made n c.into_vec.result.items) name
          ∙ ap (map.insert c.loop-file.made c.in-Some.file.path) c.into_vec.ensures
          ∙ ap (λ (v : Volume). map.insert v c.in-Some.file.path c.in-Some.file.bytes) c.loop-file.invariant.made
          ∙ sym (given_push c.loop-file.yielded c.in-Some.file absent);
      apart = apart_push c.loop-file.yielded c.in-Some.file c.loop-file.invariant.apart absent;
      split = c.loop-file.invariant.split ∙ ap (λ (l : List FileBytes). c.loop-file.yielded ++ l) c.in-Some.ensures.steps.0 ∙ sym (append_assoc c.loop-file.yielded (c.in-Some.file ∷ []) _);
    }
