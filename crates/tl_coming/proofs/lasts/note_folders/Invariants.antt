use Rattle.std.proofs.Common.{◌≡◌, ◌||◌, ◌&&◌, ℕ, List}
use Rattle.std.specs.Prelude.{nat_lt}
use Rattle.tl_coming.specs.Lasts.{number_at}
use Rattle.tl_coming.proofs.LastLaws.{is_front}
use Rattle.tl_coming.proofs.lasts.note_folders.Given as goal

abbrev pub invariant-loop-end : goal.invariant-loop-end
invariant-loop-end l = (least : ℕ) (folder : List ℕ)
    → nat_lt least (number_at l.numbers folder) ≡ (nat_lt least (number_at l.fn.numbers folder) || (nat_lt least l.number && is_front l.path l.end folder))
