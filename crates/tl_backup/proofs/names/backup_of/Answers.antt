use Rattle.std.proofs.Common.{◌≡◌, arith}
use Rattle.std.specs.Char.{is_ascii_digit}
use Rattle.std.specs.List.{suffix_len}
use Rattle.std.specs.Prelude.{reverse}
use Rattle.std.proofs.lemmas.List.{length-reverse}
use Rattle.std.proofs.lemmas.List.Sums.{prefix_len-le-length}
use Rattle.tl_backup.proofs.names.backup_of.Goals as goal

pub overflow_sub-text : goal.overflow_sub-text
overflow_sub-text c =
    let text = c.args.text.now in
    let is : c.digits_at_end.result ≡ suffix_len is_ascii_digit text = c.digits_at_end.ensures in
    omega (arith, is, prefix_len-le-length is_ascii_digit (reverse text), length-reverse text)
