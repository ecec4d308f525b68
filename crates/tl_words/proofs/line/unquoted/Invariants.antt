use Rattle.std.proofs.Common.{◌≡◌, take}
use Rattle.tl_words.specs.Lines.{unquoted}
use Rattle.tl_words.proofs.line.unquoted.Given as goal

abbrev pub invariant-loop-byte : goal.invariant-loop-byte
invariant-loop-byte l = l.bytes.items ≡ unquoted (take l.byte-index l.word)
