use Rattle.std.proofs.Common.{Some, map, ap, sym, ℕ, List}
use Rattle.tl_object.specs.Steps.{bare}
use Rattle.tl_object.proofs.BareLemmas.{paths-bare}
use Rattle.tl_object.proofs.read.read_part.Goals as goal

pub returns-in_ok-section-in-Run-clause-read : goal.returns-in_ok-section-in-Run-clause-read
returns-in_ok-section-in-Run-clause-read c =
    let paths = c.in_ok-section-in-Run.section.files in (
      map bare paths,
      rw c.in-Run.is (ap (λ (ps : List (List ℕ)). record c.args.builder.now { run = Some (record { blocks = c.args.blocks; paths = ps }) }) (sym (paths-bare paths))),
      rw c.in-Run.is c.in_ok-section-in-Run.ensures.read,
    )

pub returns-in_ok-section-in-Src-clause-read : goal.returns-in_ok-section-in-Src-clause-read
returns-in_ok-section-in-Src-clause-read c =
    let paths = c.in_ok-section-in-Src.section.files in (
      map bare paths,
      rw c.in-Src.is (ap (λ (ps : List (List ℕ)). record c.args.builder.now { src = Some (record { blocks = c.args.blocks; paths = ps }) }) (sym (paths-bare paths))),
      rw c.in-Src.is c.in_ok-section-in-Src.ensures.read,
    )
