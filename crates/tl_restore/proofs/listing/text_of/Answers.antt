use Rattle.std.proofs.Common.{◌≡◌, ◌++◌, arith, rules}
use Rattle.std.specs.Prelude.{IfOk, codes, string_bytes}
use Rattle.tl_model.specs.Decimal.{decimal_text}
use Rattle.tl_restore.proofs.Lines.{plain_backup, plain_made}
use Rattle.tl_restore.proofs.listing.text_of.Goals as goal

pub returns-clause-plain : goal.returns-clause-plain
returns-clause-plain c =
    let is : IfOk c.format.result (λ text. string_bytes text ≡ c.args.name.now ++ (codes " r" ++ decimal_text c.args.revision)) = search rules in
    plain_made (λ text. string_bytes text) c.format.result (c.args.name.now ++ (codes " r" ++ decimal_text c.args.revision)) is (plain_backup c.args.name.now c.args.revision c.text-name.ensures.name (omega (arith, c.ranges.revision.fits)))
