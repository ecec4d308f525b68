use Rattle.std.proofs.Common.{◌∙◌, List, false, ap}
use Rattle.std.specs.Prelude.{map}
use Rattle.tl_file.specs.declared.file.FileBytes.{FileBytes}
use Rattle.tl_tree.specs.Changes.{named_bytes}
use Rattle.tl_tree.proofs.Opening.{names_go, files_come, opened_planned, opened_under, opened_given}
use Rattle.tl_tree.proofs.step.open.Goals as goal

pub stage_plan-requires-clause-names : goal.stage_plan-requires-clause-names
stage_plan-requires-clause-names g c =
    names_go c.args.old c.args.change.now.parts c.as_slice-parts.result.now c.args.change.now.label c.as_slice-parts.ensures c.requires.change c.in-Ok.both.0.names.items (map named_bytes c.as_slice.result.now) c.in-Ok.both.1
    c.in-Ok.both.0.next c.in-Ok.ensures.leaving (ap (λ (fs : List FileBytes). map named_bytes fs) c.as_slice.ensures.value ∙ c.in-Ok.ensures.made) c.in-Ok.ensures.next c.in-Ok.ensures.read c.in-Ok.ensures.waiting

pub stage_plan-requires-clause-files : goal.stage_plan-requires-clause-files
stage_plan-requires-clause-files g c =
    files_come c.args.old c.args.change.now.parts c.as_slice-parts.result.now c.args.change.now.label c.as_slice-parts.ensures c.requires.change c.in-Ok.both.0.names.items (map named_bytes c.as_slice.result.now) c.in-Ok.both.1
    c.in-Ok.both.0.next c.in-Ok.ensures.leaving (ap (λ (fs : List FileBytes). map named_bytes fs) c.as_slice.ensures.value ∙ c.in-Ok.ensures.made) c.in-Ok.ensures.next c.in-Ok.ensures.read c.in-Ok.ensures.waiting

pub invariant_of-result : goal.invariant_of-result
invariant_of-result g c = (
  opened_planned c.args.old c.args.change.now.parts c.as_slice-parts.result.now c.args.change.now.label c.as_slice-parts.ensures c.requires.change c.in-Ok.both.0.names.items (map named_bytes c.as_slice.result.now) c.in-Ok.both.1
      c.in-Ok.both.0.next c.in-Ok.ensures.leaving (ap (λ (fs : List FileBytes). map named_bytes fs) c.as_slice.ensures.value ∙ c.in-Ok.ensures.made) c.in-Ok.ensures.next c.in-Ok.ensures.read c.in-Ok.ensures.waiting c.in-Ok-stage_plan.staging 0 false,
  λ t. opened_under c.args.old c.args.change.now.parts c.as_slice-parts.result.now c.args.change.now.label c.as_slice-parts.ensures c.requires.change c.in-Ok.both.0.names.items (map named_bytes c.as_slice.result.now) c.in-Ok.both.1
      c.in-Ok.both.0.next c.in-Ok.ensures.leaving (ap (λ (fs : List FileBytes). map named_bytes fs) c.as_slice.ensures.value ∙ c.in-Ok.ensures.made) c.in-Ok.ensures.next c.in-Ok.ensures.read c.in-Ok.ensures.waiting
      false c.args.journal c.in-Ok-stage_plan.staging (c.requires.read t) (c.in-Ok-stage_plan.ensures.stages t) (c.in-Ok-stage_plan.ensures.staged t),
)

pub returns-in-Ok-stage_plan-clause-given : goal.returns-in-Ok-stage_plan-clause-given
returns-in-Ok-stage_plan-clause-given g c t =
    opened_given c.args.old c.args.change.now.parts c.as_slice-parts.result.now c.args.change.now.label c.as_slice-parts.ensures c.requires.change c.in-Ok.both.0.names.items (map named_bytes c.as_slice.result.now) c.in-Ok.both.1
    c.in-Ok.both.0.next c.in-Ok.ensures.leaving (ap (λ (fs : List FileBytes). map named_bytes fs) c.as_slice.ensures.value ∙ c.in-Ok.ensures.made) c.in-Ok.ensures.next c.in-Ok.ensures.read c.in-Ok.ensures.waiting
    false c.args.journal c.in-Ok-stage_plan.staging (c.requires.read t) (c.in-Ok-stage_plan.ensures.stages t) (c.in-Ok-stage_plan.ensures.staged t)
