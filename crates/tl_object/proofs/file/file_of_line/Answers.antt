use Rattle.std.proofs.Common.{◌≡◌, sym, subst, List, ℕ, Ok, None}
use Rattle.tl_object.specs.Grammar.{line_value}
use Rattle.tl_object.specs.Line as lines
use Rattle.tl_object.proofs.FileLemmas.{entry, line_alone, line_filed}
use Rattle.tl_object.proofs.LineLemmas.{line_value-other}
use Rattle.tl_object.proofs.file.file_of_line.Goals as goal

pub returns-in-Ok : goal.returns-in-Ok
returns-in-Ok c =
    let line = c.args.line.now in
    subst (λ (path : List ℕ). line_value line ≡ Ok (lines.File (entry path None None))) (sym c.in-Ok.ensures.path.0)
    (line_alone line c.requires c.in-Ok.ensures.path.1)

pub returns-in-Ok-from_utf8 : goal.returns-in-Ok-from_utf8
returns-in-Ok-from_utf8 c = line_filed c.args.line.now c.file_of.result c.requires c.in-Ok-from_utf8.ensures.cases.1 c.file_of.ensures

pub returns-in-Err : goal.returns-in-Err
returns-in-Err c = line_value-other _ c.in-Err.ensures.cases.0
