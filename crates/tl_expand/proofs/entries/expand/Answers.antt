use Rattle.std.proofs.Common.{◌≡◌, ◌∙◌, Vec, Err, ap, sym, rules}
use Rattle.std.specs.declared.alloc.Global.{Global}
use Rattle.tl_entry.specs.declared.object.Object.{Object}
use Rattle.tl_expand.specs.declared.choice.Choice.{Choice}
use Rattle.tl_srctext.specs.declared.fields.SourceFields.{SourceFields}
use Rattle.tl_expand.specs.Objects.{objects_by, objects_of}
use Rattle.tl_expand.proofs.ThenLemmas.{judges_then, judges_cut, judges_known}
use Rattle.tl_expand.proofs.entries.expand.Goals as goal

pub returns-in_err-choice : goal.returns-in_err-choice
unfolding objects_of
returns-in_err-choice c =
    let is : c.from_residual.result ≡ Err c.in_err-choice.field-0.0 = search rules in
    rw is (judges_cut (λ (a : Choice). a) (λ (v : Vec Object Global). v.items) _ _ c.args.regexps.now c.choice.new.regexps c.in_err-choice.field-0.0 c.in_err-choice.ensures)

pub returns : goal.returns
unfolding objects_of
returns c =
    let s = c.args.source.now in
    judges_then (λ (a : Choice). a) (λ (v : Vec Object Global). v.items) _ _ c.args.regexps.now c.choice.new.regexps c.choice.new.regexps c.in_ok-choice.choice _ c.in_ok-choice.ensures
    (judges_known (λ (v : Vec Object Global). v.items) c.in_ok-objects.objects (objects_by s c.args.stamp c.args.platforms.now c.in_ok-choice.choice) c.choice.new.regexps
    (sym (c.in_ok-objects.ensures ∙ ap (λ (f : SourceFields). objects_by f c.args.stamp c.args.platforms.now c.in_ok-choice.choice) c.fields.ensures)))
