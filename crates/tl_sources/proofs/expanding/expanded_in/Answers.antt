use Rattle.std.proofs.Common.{◌≡◌, Err, rules}
use Rattle.tl_master.specs.Masters.{expanded, master_of, Master}
use Rattle.tl_sources.proofs.Finding.{finds_then, finds_cut}
use Rattle.tl_sources.proofs.expanding.expanded_in.Goals as goal

pub returns-in_err-master-clause-text : goal.returns-in_err-master-clause-text
returns-in_err-master-clause-text g c =
    let is : c.from_residual.result ≡ Err c.in_err-master.field-0.0 = search rules in
    rw is
    (finds_cut g.H.Host.tells (λ (master : Master). master) (λ text. text.items) master_of (λ verdicts. expanded verdicts c.args.name.now) c.args.tree.now c.load.new.tree c.args.regexps.now c.load.new.regexps c.load.new.regexps
    c.in_err-master.field-0.0 c.in_err-master.ensures)

pub returns-clause-text : goal.returns-clause-text
returns-clause-text g c =
    finds_then g.H.Host.tells (λ (master : Master). master) (λ text. text.items) master_of (λ verdicts. expanded verdicts c.args.name.now) c.args.tree.now c.load.new.tree c.args.regexps.now c.load.new.regexps c.expand.new.regexps
    c.in_ok-master.master c.expand.result c.in_ok-master.ensures c.expand.ensures.text
