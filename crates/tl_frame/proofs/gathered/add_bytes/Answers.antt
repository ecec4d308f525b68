use Rattle.std.proofs.Common.{List, ◌++◌, ◌∷◌, [], ℕ, sym, ◌∙◌, ap}
use Rattle.tl_file.specs.declared.file.FileBytes.{FileBytes}
use Rattle.tl_frame.specs.Events.{with_bytes}
use Rattle.tl_frame.proofs.GatherLaws.{with_bytes-push}
use Rattle.tl_frame.proofs.gathered.add_bytes.Goals as goal

pub returns-in_ok-push-in-Some : goal.returns-in_ok-push-in-Some
returns-in_ok-push-in-Some c =
    c.in_ok-push-in-Some.ensures.items
    ∙ ap (λ (bytes : List ℕ). c.pop.new.self.items ++ record { path = c.in-Some.file.path; bytes = bytes } ∷ []) c.in_ok-bytes-in-Some.ensures
    ∙ sym (ap (λ (l : List FileBytes). with_bytes l c.args.bytes) c.in-Some.ensures.items ∙ with_bytes-push c.pop.new.self.items c.in-Some.file c.args.bytes)
