use Rattle.std.proofs.Common.{◌≡◌, List, ℕ, Result, Ok, Err, rules, arith, sym, subst}
use Rattle.std.specs.Prelude.{IfOk, string_bytes}
use Rattle.tl_model.specs.Lines.{IsLine}
use Rattle.tl_backups.specs.Backing.{backup_text}
use Rattle.tl_backups.proofs.Packages.{line_of_backup}
use Rattle.tl_backups.proofs.backing.backup_text.Goals as goal

ok_line : {V E : Type 0} (bytes : V → List ℕ) (made : Result V E) (text : List ℕ) → IfOk made (λ v. bytes v ≡ text) → IsLine text → IfOk made (λ v. IsLine (bytes v))
ok_line bytes (Ok v) text is line = subst IsLine (sym is) line
ok_line bytes (Err e) text is line = tt

pub returns-clause-line : goal.returns-clause-line
returns-clause-line c =
    let is : IfOk c.format.result (λ text. string_bytes text ≡ backup_text c.args.name.now c.args.revision) = search rules in
    ok_line (λ text. string_bytes text) c.format.result (backup_text c.args.name.now c.args.revision) is
    (line_of_backup c.args.name.now c.args.revision c.text-name.ensures.name (omega (arith, c.ranges.revision.fits)))
