use Rattle.std.proofs.Common.{◌∙◌, ℕ, List, [], ◌∷◌, sym, ap, subst}
use Rattle.std.specs.Option.{unwrap_or}
use Rattle.tl_model.specs.Trace.{Step, Trace, Cut}
use Rattle.tl_journal_text.specs.Stand.{stand, tree_of}
use Rattle.tl_journal.specs.States.{coming as staged_with}
use Rattle.tl_entry.specs.declared.object.Object.{Object}
use Rattle.tl_db.specs.Reading.{IsRead}
use Rattle.tl_tree.specs.Planted.{database_text}
use Rattle.tl_tree.specs.Changes.{entries_after}
use Rattle.tl_tree.specs.Staged.{next_tree}
use Rattle.tl_tree.specs.Opened.{Opened, given}
use Rattle.tl_tree.specs.Under.{IsPlanned, IsUnderWay}
use Rattle.tl_tree.proofs.Fillings.{entries-filled}
use Rattle.tl_tree.proofs.Finishing.{finish_stepped, finish_lost, finish_read}
use Rattle.tl_tree.proofs.step.Step.finish.Goals as goal

pub invariant_of-result : goal.invariant_of-result
invariant_of-result g c t =
    let step = c.args.self in
    let is = c.self.view_is in
    let planned = subst (λ (o : Opened). IsPlanned o c.self.inside.next) is c.self.invariant.0 in
    let under = subst IsUnderWay is (c.self.invariant.1 t) in
    let seen = c.ended.ensures.seen ∙ ap (λ (o : Opened). o.seen) is in
    let all = c.ended.ensures.staged t ∙ ap (λ (o : Opened). staged_with (record { seen = o.seen; left = 0 }) []) is in
    subst (λ (os : List Object). IsRead (database_text (tree_of c.in-Ok.journal.present.held)) os) (sym (c.unwrap_or.ensures ∙ ap (λ (o : Opened). unwrap_or c.self.inside.next o.db) is))
    (finish_read step c.self.inside.next planned under c.requires c.ended.result seen all c.in-Ok.journal (c.in-Ok.ensures.tree t))

pub returns-in-Ok-clause-db : goal.returns-in-Ok-clause-db
returns-in-Ok-clause-db g c =
    let step = c.args.self in
    c.unwrap_or.ensures ∙ c.self.invariant.0.next ∙ ap (λ (o : Opened). entries_after o.parts o.db) c.self.view_is ∙ sym (entries-filled (given step) step.parts step.db)

pub returns-in-Ok-clause-stepped : goal.returns-in-Ok-clause-stepped
returns-in-Ok-clause-stepped g c t =
    let step = c.args.self in
    let is = c.self.view_is in
    let planned = subst (λ (o : Opened). IsPlanned o c.self.inside.next) is c.self.invariant.0 in
    let under = subst IsUnderWay is (c.self.invariant.1 t) in
    let seen = c.ended.ensures.seen ∙ ap (λ (o : Opened). o.seen) is in
    let all = c.ended.ensures.staged t ∙ ap (λ (o : Opened). staged_with (record { seen = o.seen; left = 0 }) []) is in
    finish_stepped step c.self.inside.next planned under c.requires c.ended.result seen all c.in-Ok.journal c.unwrap_or.result
    (c.unwrap_or.ensures ∙ c.self.invariant.0.next ∙ ap (λ (o : Opened). entries_after o.parts o.db) is) (c.in-Ok.ensures.tree t)
    (subst (λ (l : List ℕ). Trace stand c.ended.result c.in-Ok.journal (tree_of c.ended.result.present.held) (Step (next_tree c.ended.result) l ∷ [])) (c.as_slice.ensures ∙ ap (λ (o : Opened). o.label) is)
    (c.in-Ok.ensures.trace t))

pub returns-clause-lost : goal.returns-clause-lost
returns-clause-lost g c t =
    let step = c.args.self in
    let is = c.self.view_is in
    let last = g.H.Host.seen c.in-Err.lost.host in
    let planned = subst (λ (o : Opened). IsPlanned o c.self.inside.next) is c.self.invariant.0 in
    let under = subst IsUnderWay is (c.self.invariant.1 t) in
    let seen = c.ended.ensures.seen ∙ ap (λ (o : Opened). o.seen) is in
    let all = c.ended.ensures.staged t ∙ ap (λ (o : Opened). staged_with (record { seen = o.seen; left = 0 }) []) is in
    finish_lost step c.self.inside.next planned under c.requires c.ended.result seen all last
    (subst (λ (l : List ℕ). Cut stand c.ended.result last (tree_of c.ended.result.present.held) (Step (next_tree c.ended.result) l ∷ [])) (c.as_slice.ensures ∙ ap (λ (o : Opened). o.label) is)
    (c.in-Err.ensures.cut t))
