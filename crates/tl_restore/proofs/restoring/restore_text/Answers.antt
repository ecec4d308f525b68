use Rattle.std.proofs.Common.{◌≡◌, rules}
use Rattle.std.specs.Prelude.{IfOk, string_bytes}
use Rattle.tl_refusal.proofs.Plain.{line_of_name}
use Rattle.tl_restore.specs.Restoring.{restore_text}
use Rattle.tl_restore.proofs.Labels.{line_of_text}
use Rattle.tl_restore.proofs.EndLaws.{ok_line}
use Rattle.tl_restore.proofs.restoring.restore_text.Goals as goal

pub returns-clause-line : goal.returns-clause-line
returns-clause-line c =
    let is : IfOk c.format.result (λ text. string_bytes text ≡ restore_text c.args.name.now c.args.revision) = search rules in
    ok_line (λ text. string_bytes text) c.format.result (restore_text c.args.name.now c.args.revision) is (line_of_text c.args.name.now c.args.revision (line_of_name c.args.name.now c.text-name.ensures.name))
