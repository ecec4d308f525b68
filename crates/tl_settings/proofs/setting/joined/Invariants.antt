use Rattle.std.proofs.Common.{◌≡◌, ◌++◌, drop}
use Rattle.tl_settings.proofs.Joined.{spaced}
use Rattle.tl_settings.proofs.setting.joined.Given as goal

abbrev pub invariant-loop-word : goal.invariant-loop-word
invariant-loop-word l = l.value.items ++ spaced (drop l.word-index l.others) ≡ l.fn.first ++ spaced l.others
