use Rattle.std.proofs.Common.{rules, ◌≡◌, ◌∙◌, ap, arith}
use Rattle.tl_backup.specs.Files.{backup_at, backup_path}
use Rattle.tl_backup.proofs.PathLaws.{at-path}
use Rattle.tl_backup.proofs.names.backup_path.Goals as goal

pub returns-in-Ok-clause-named : goal.returns-in-Ok-clause-named
returns-in-Ok-clause-named c =
    let is : c.in-Ok.path ≡ backup_path c.args.name.now c.args.revision = search rules in
    ap backup_at is ∙ at-path c.args.name.now c.args.revision c.text-name.ensures.name (omega (arith, c.ranges.revision.fits))
