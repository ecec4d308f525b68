use Rattle.std.proofs.Common.{◌∙◌, ◌++◌, List, Vec, ap}
use Rattle.std.specs.declared.alloc.Global.{Global}
use Rattle.tl_file.specs.declared.file.FileBytes.{FileBytes}
use Rattle.tl_memhost.proofs.Apart.{shelf_refusal}
use Rattle.tl_memhost.proofs.shelf.MemShelf.new.Goals as goal

pub returns-in-Err-clause-refused : goal.returns-in-Err-clause-refused
returns-in-Err-clause-refused c = shelf_refusal c.args.repos.items c.loop-files.yielded _ c.in-Some.files c.in-Err.error (c.loop-files.invariant.split ∙ ap (λ (l : List (Vec FileBytes Global)). c.loop-files.yielded ++ l) c.in-Some.ensures.steps.0) c.loop-files.invariant.apart c.in-Err.ensures.refused
