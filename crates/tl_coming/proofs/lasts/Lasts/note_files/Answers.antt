use Rattle.std.proofs.Common.{List, ℕ, ◌++◌, map, take, subst, arith}
use Rattle.std.proofs.lemmas.List.{take_all}
use Rattle.tl_coming.specs.Lasts.{Noted, AreNoted}
use Rattle.tl_coming.proofs.LastLaws.{files_start, files_next}
use Rattle.tl_coming.proofs.lasts.Lasts.note_files.Goals as goal

pub loop-file-init : goal.loop-file-init
loop-file-init c noted are = files_start noted c.args.number c.args.files.now c.args.self.now are

pub loop-file-preserved : goal.loop-file-preserved
loop-file-preserved c noted are =
    subst (λ (l : List Noted). AreNoted l c.note_file.new.self)
    (files_next noted c.args.number c.args.files.now c.loop-file.file-index c.file-item.result c.loop-file-test.true c.file-item.is)
    (c.in_ok-note_file.ensures (noted ++ map (λ (f : List ℕ). (c.args.number, f)) (take c.loop-file.file-index c.args.files.now)) (c.loop-file.invariant noted are))

pub returns : goal.returns
returns c noted are =
    subst (λ (l : List (List ℕ)). AreNoted (noted ++ map (λ (f : List ℕ). (c.args.number, f)) l) c.loop-file.self)
    (take_all c.loop-file.file-index c.args.files.now (let e = c.loop-file-test.false in omega (arith, e))) (c.loop-file.invariant noted are)
