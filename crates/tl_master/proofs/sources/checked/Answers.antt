use Rattle.std.proofs.Common.{◌≡◌, ◌∙◌, ℕ, List, [], Err, Vec, Global, ap, subst, rules}
use Rattle.tl_entry.specs.declared.object.Object.{Object}
use Rattle.tl_index.specs.declared.hit.Hit.{Hit}
use Rattle.tl_auto.specs.Pushing as judges
use Rattle.tl_expand.specs.Objects.{objects_of}
use Rattle.tl_master.specs.Sources.{checked, no_stamp, pattern_fault}
use Rattle.tl_master.specs.declared.master.MarkedSource.{MarkedSource}
use Rattle.tl_master.proofs.Judging.{fault_judged}
use Rattle.tl_master.proofs.sources.checked.Goals as goal

pub returns-in_ok-clone-in-Err : goal.returns-in_ok-clone-in-Err
returns-in_ok-clone-in-Err c =
    let file = c.args.file.now in
    let name : c.in_ok-clone-in-Err.field-0 ≡ file.name = search rules in
    let is : c.pattern_fault.result ≡ pattern_fault file.name c.in-Err.fault = c.pattern_fault.ensures ∙ ap (λ (n : List ℕ). pattern_fault n c.in-Err.fault) name in
    rw is (fault_judged (λ (objects : Vec Object Global). objects.items) (λ (s : MarkedSource). s) file.name c.in-Err.fault (λ v. objects_of v c.args.source no_stamp [] c.args.platforms.now)
    (λ v. checked file c.args.source (objects_of v c.args.source no_stamp [] c.args.platforms.now)) c.args.regexps.now c.expand.new.regexps (λ v f same. ap (checked file c.args.source) same)
    (subst (λ (hits : List Hit). judges.Judges (λ (objects : Vec Object Global). objects.items) (λ v. objects_of v c.args.source no_stamp hits c.args.platforms.now) c.args.regexps.now c.expand.new.regexps (Err c.in-Err.fault))
    c.new-files.ensures c.in-Err.ensures))
