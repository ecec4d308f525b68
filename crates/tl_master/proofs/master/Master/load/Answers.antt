use Rattle.std.proofs.Common.{◌≡◌, Err, rules}
use Rattle.tl_marks.specs.Form.{MarksEntry}
use Rattle.tl_master.specs.Marked.{marks_in}
use Rattle.tl_master.specs.Masters.{Master, master_behind}
use Rattle.tl_master.proofs.Finding.{asks_finds, finds_cut, finds_then}
use Rattle.tl_master.proofs.master.Master.load.Goals as goal

pub returns-in_err-marks : goal.returns-in_err-marks
returns-in_err-marks g c =
    let is : c.from_residual.result ≡ Err c.in_err-marks.field-0.0 = search rules in
    rw is
    (finds_cut g.H.Host.tells (λ (marks : MarksEntry). marks) (λ (m : Master). m) (λ verdicts t. marks_in t) (λ verdicts t. master_behind verdicts t) c.args.tree.now c.read_marks.new.tree
    c.args.regexps.now c.args.regexps.now c.in_err-marks.field-0.0
    (asks_finds g.H.Host.tells (λ (marks : MarksEntry). marks) marks_in c.args.tree.now c.read_marks.new.tree c.args.regexps.now (Err c.in_err-marks.field-0.0) c.in_err-marks.ensures))

pub returns : goal.returns
returns g c =
    finds_then g.H.Host.tells (λ (marks : MarksEntry). marks) (λ (m : Master). m) (λ verdicts t. marks_in t) (λ verdicts t. master_behind verdicts t) c.args.tree.now c.read_marks.new.tree c.master_behind.new.tree
    c.args.regexps.now c.args.regexps.now c.master_behind.new.regexps c.in_ok-marks.marks c.master_behind.result
    (asks_finds g.H.Host.tells (λ (marks : MarksEntry). marks) marks_in c.args.tree.now c.read_marks.new.tree c.args.regexps.now _ c.in_ok-marks.ensures) c.master_behind.ensures
