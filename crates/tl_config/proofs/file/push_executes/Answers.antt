use Rattle.std.proofs.Common.{ap, length, arith}
use Rattle.tl_text.specs.Texts.{length-text}
use Rattle.tl_config.proofs.file.push_executes.Goals as goal

pub push_lines-requires : goal.push_lines-requires
push_lines-requires c = omega (arith, length-text _ c.bytes-text.ensures.is_text, ap length c.bytes-text.ensures.bytes)
