use Rattle.std.proofs.Common.{◌++◌, ℕ, List, map, take}
use Rattle.tl_coming.specs.Lasts.{Noted, AreNoted}
use Rattle.tl_coming.proofs.lasts.Lasts.note_files.Given as goal

abbrev pub invariant-loop-file : goal.invariant-loop-file
invariant-loop-file l = (noted : List Noted) → AreNoted noted l.fn.self → AreNoted (noted ++ map (λ (file : List ℕ). (l.number, file)) (take l.file-index l.files)) l.self
