use Rattle.std.proofs.Common.{◌∙◌, List, [], ◌∷◌, ◌++◌, ap, subst}
use Rattle.tl_model.specs.Seen.{Seen}
use Rattle.tl_journal_text.specs.Records.{Record, Write}
use Rattle.tl_journal.specs.Spent.{Stages}
use Rattle.tl_tree.specs.Opened.{Opened, may_begin, given}
use Rattle.tl_tree.specs.Under.{seen_as}
use Rattle.tl_tree.proofs.Underway.{awaited_outside, may_begin_parts, begun_planned, under_begun, begun_given}
use Rattle.tl_tree.proofs.step.Step.begin.Goals as goal

pub begin_write-requires : goal.begin_write-requires
begin_write-requires g c =
    let s = c.self.inside in
    let step = seen_as s.place s.old s.change.now.parts s.change.now.label s.waiting s.astray in
    let path = c.args.path.now in
    let may = may_begin_parts path step (ap (λ (o : Opened). may_begin path o) c.self.view_is ∙ c.requires) in
    awaited_outside step s.next c.self.invariant.0 path may.awaited

pub invariant_of-result : goal.invariant_of-result
invariant_of-result g c =
    let s = c.self.inside in
    let step = seen_as s.place s.old s.change.now.parts s.change.now.label s.waiting s.astray in
    let path = c.args.path.now in
    let writing = c.in-Ok.writing in
    let awaits = c.take-there.new.self in
    let may = may_begin_parts path step (ap (λ (o : Opened). may_begin path o) c.self.view_is ∙ c.requires) in (
      begun_planned step s.next c.self.invariant.0 path writing.seen awaits writing.left c.take-there.ensures.taken,
      λ t. under_begun step s.next c.self.invariant.0 (c.self.invariant.1 t) path c.args.len may writing.seen awaits writing.left c.take-there.ensures.taken c.in-Ok.ensures.left
          (subst (λ (o : Seen). Stages o writing.seen) c.ended.ensures.seen (c.in-Ok.ensures.stages t))
          (λ bytes long. c.in-Ok.ensures.coming t bytes long ∙ ap (λ (rs : List Record). rs ++ Write path bytes ∷ []) (c.ended.ensures.staged t)),
    )

pub returns-in-Ok-clause-given : goal.returns-in-Ok-clause-given
returns-in-Ok-clause-given g c t =
    let s = c.self.inside in
    let step = seen_as s.place s.old s.change.now.parts s.change.now.label s.waiting s.astray in
    let path = c.args.path.now in
    let writing = c.in-Ok.writing in
    let awaits = c.take-there.new.self in
    let may = may_begin_parts path step (ap (λ (o : Opened). may_begin path o) c.self.view_is ∙ c.requires) in
    begun_given step s.next c.self.invariant.0 (c.self.invariant.1 t) path c.args.len may writing.seen awaits writing.left c.take-there.ensures.taken c.in-Ok.ensures.left
    (subst (λ (o : Seen). Stages o writing.seen) c.ended.ensures.seen (c.in-Ok.ensures.stages t))
    (λ bytes long. c.in-Ok.ensures.coming t bytes long ∙ ap (λ (rs : List Record). rs ++ Write path bytes ∷ []) (c.ended.ensures.staged t))
    ∙ ap (λ (o : Opened). given o ++ (path, []) ∷ []) c.self.view_is
