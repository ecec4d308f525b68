use Rattle.std.proofs.Common.{◌≡◌, ◌∙◌, Some, ap, rules}
use Rattle.tl_master.specs.Masters.{entries_of, expanded, source_named, text_from, text_of}
use Rattle.tl_master.specs.Sources.{pattern_fault}
use Rattle.tl_master.proofs.Judging.{fault_judged}
use Rattle.tl_master.proofs.master.Master.expand.Goals as goal

pub returns-in-Err-clause-text : goal.returns-in-Err-clause-text
returns-in-Err-clause-text c =
    let name = c.args.name.now in
    let master = c.args.self.now in
    let marked = c.in-Some.marked.now in
    let named : source_named name master.sources ≡ Some marked = search rules in
    let same : c.pattern_fault.result ≡ pattern_fault name c.in-Err.fault = search rules in
    rw same
    (fault_judged (λ objects. objects.items) (λ text. text.items) name c.in-Err.fault (λ verdicts. entries_of verdicts master marked) (λ verdicts. expanded verdicts name master) c.args.regexps.now c.entries_of.new.regexps
    (λ verdicts f is. ap (text_from verdicts master name) named ∙ ap (text_of name) is) c.in-Err.ensures)
