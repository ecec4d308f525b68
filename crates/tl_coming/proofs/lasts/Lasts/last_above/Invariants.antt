use Rattle.std.proofs.Common.{◌≡◌, ℕ, List}
use Rattle.std.specs.Prelude.{nat_lt}
use Rattle.tl_coming.specs.Lasts.{Noted, AreNoted, is_noted}
use Rattle.tl_coming.proofs.LastLaws.{is_front}
use Rattle.tl_coming.proofs.lasts.Lasts.last_above.Given as goal

abbrev pub invariant-loop-end : goal.invariant-loop-end
invariant-loop-end l = (noted : List Noted) → AreNoted noted l.self → (least : ℕ) → nat_lt least l.last ≡ is_noted least (is_front l.path l.end) noted
