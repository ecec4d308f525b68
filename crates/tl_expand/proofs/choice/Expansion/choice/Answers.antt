use Rattle.std.proofs.Common.{◌≡◌, List, Err, refl, rules}
use Rattle.tl_index.specs.declared.hit.Hit.{Hit}
use Rattle.tl_expand.specs.declared.choice.Choice.{Choice}
use Rattle.tl_expand.specs.Choices.{choice_in}
use Rattle.tl_expand.proofs.ThenLemmas.{judges_then, judges_cut, judges_known}
use Rattle.tl_expand.proofs.choice.Expansion.choice.Goals as goal

pub returns-in_err-run : goal.returns-in_err-run
unfolding choice_in
returns-in_err-run c =
    let is : c.from_residual.result ≡ Err c.in_err-run.field-0.0 = search rules in
    rw is (judges_cut (λ (h : List Hit). h) (λ (a : Choice). a) _ _ c.args.regexps.now c.chosen.new.regexps c.in_err-run.field-0.0 c.in_err-run.ensures)

pub returns-in_err-doc : goal.returns-in_err-doc
unfolding choice_in
returns-in_err-doc c =
    let is : c.from_residual-in_err-doc.result ≡ Err c.in_err-doc.field-0.0 = search rules in
    rw is (judges_then (λ (h : List Hit). h) (λ (a : Choice). a) _ _ c.args.regexps.now c.chosen.new.regexps c.chosen-2.new.regexps c.in_ok-run.run' _ c.in_ok-run.ensures
    (judges_cut (λ (h : List Hit). h) (λ (a : Choice). a) _ _ c.chosen.new.regexps c.chosen-2.new.regexps c.in_err-doc.field-0.0 c.in_err-doc.ensures))

pub returns-in_err-src : goal.returns-in_err-src
unfolding choice_in
returns-in_err-src c =
    let is : c.from_residual-in_err-src.result ≡ Err c.in_err-src.field-0.0 = search rules in
    rw is (judges_then (λ (h : List Hit). h) (λ (a : Choice). a) _ _ c.args.regexps.now c.chosen.new.regexps c.chosen-3.new.regexps c.in_ok-run.run' _ c.in_ok-run.ensures
    (judges_then (λ (h : List Hit). h) (λ (a : Choice). a) _ _ c.chosen.new.regexps c.chosen-2.new.regexps c.chosen-3.new.regexps c.in_ok-doc.doc _ c.in_ok-doc.ensures
    (judges_cut (λ (h : List Hit). h) (λ (a : Choice). a) _ _ c.chosen-2.new.regexps c.chosen-3.new.regexps c.in_err-src.field-0.0 c.in_err-src.ensures)))

pub returns-in_err-bins : goal.returns-in_err-bins
unfolding choice_in
returns-in_err-bins c =
    let is : c.from_residual-in_err-bins.result ≡ Err c.in_err-bins.field-0.0 = search rules in
    rw is (judges_then (λ (h : List Hit). h) (λ (a : Choice). a) _ _ c.args.regexps.now c.chosen.new.regexps c.bins.new.regexps c.in_ok-run.run' _ c.in_ok-run.ensures
    (judges_then (λ (h : List Hit). h) (λ (a : Choice). a) _ _ c.chosen.new.regexps c.chosen-2.new.regexps c.bins.new.regexps c.in_ok-doc.doc _ c.in_ok-doc.ensures
    (judges_then (λ (h : List Hit). h) (λ (a : Choice). a) _ _ c.chosen-2.new.regexps c.chosen-3.new.regexps c.bins.new.regexps c.in_ok-src.src _ c.in_ok-src.ensures
    (judges_cut (λ (h : List (List Hit)). h) (λ (a : Choice). a) _ _ c.chosen-3.new.regexps c.bins.new.regexps c.in_err-bins.field-0.0 c.in_err-bins.ensures))))

pub returns : goal.returns
unfolding choice_in
returns c =
    judges_then (λ (h : List Hit). h) (λ (a : Choice). a) _ _ c.args.regexps.now c.chosen.new.regexps c.bins.new.regexps c.in_ok-run.run' _ c.in_ok-run.ensures
    (judges_then (λ (h : List Hit). h) (λ (a : Choice). a) _ _ c.chosen.new.regexps c.chosen-2.new.regexps c.bins.new.regexps c.in_ok-doc.doc _ c.in_ok-doc.ensures
    (judges_then (λ (h : List Hit). h) (λ (a : Choice). a) _ _ c.chosen-2.new.regexps c.chosen-3.new.regexps c.bins.new.regexps c.in_ok-src.src _ c.in_ok-src.ensures
    (judges_then (λ (h : List (List Hit)). h) (λ (a : Choice). a) _ _ c.chosen-3.new.regexps c.bins.new.regexps c.bins.new.regexps c.in_ok-bins.bins _ c.in_ok-bins.ensures
    (judges_known (λ (a : Choice). a) _ _ c.bins.new.regexps refl))))
