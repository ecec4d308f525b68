use Rattle.std.proofs.Common.{◌∙◌, ap, subst, length}
use Rattle.tl_journal.specs.Spent.{Stages}
use Rattle.tl_tree.specs.Opened.{Opened, may_come, with_bytes, given}
use Rattle.tl_tree.specs.Under.{seen_of}
use Rattle.tl_tree.proofs.Places.{adds_between, adds_within}
use Rattle.tl_tree.proofs.step.Step.add.Goals as goal
use Rattle.tl_tree.proofs.step.Step.add.Goals.{in-Between, in-Within+in-Ok}

pub invariant_of-result : goal.invariant_of-result
invariant_of-result g c =
    let s = c.self.inside in
    let may = ap (λ (o : Opened). may_come (length c.args.bytes.now) o) c.self.view_is ∙ c.requires in
    elim c.match-place.branch [
      | in-Between w ↦
          let adds = adds_between _ s.old s.change.now.parts s.change.now.label s.waiting s.astray s.next c.args.bytes.now s.place c.match-place.place g.H.Host.tells may c.self.invariant.0 c.self.invariant.1
          w.in-Between.staging w.in-Between.is w.place-is in (adds.planned, adds.under)
      | in-Within+in-Ok w ↦
          let adds = adds_within _ s.old s.change.now.parts s.change.now.label s.waiting s.astray s.next c.args.bytes.now s.place c.match-place.place g.H.Host.tells may c.self.invariant.0 c.self.invariant.1
          w.in-Within.writing w.in-Ok.writing w.in-Within.is w.place-is w.in-Ok.ensures.left w.in-Ok.ensures.coming w.in-Ok.ensures.stages in (adds.planned, adds.under)
    ]

pub returns-clause-given : goal.returns-clause-given
returns-clause-given g c t =
    let s = c.self.inside in
    let bytes = c.args.bytes.now in
    let may = ap (λ (o : Opened). may_come (length bytes) o) c.self.view_is ∙ c.requires in
    let same = ap (λ (o : Opened). with_bytes bytes (given o)) c.self.view_is in
    elim c.match-place.branch [
      | in-Between w ↦
          (adds_between _ s.old s.change.now.parts s.change.now.label s.waiting s.astray s.next bytes s.place c.match-place.place g.H.Host.tells may c.self.invariant.0 c.self.invariant.1
          w.in-Between.staging w.in-Between.is w.place-is).given t ∙ same
      | in-Within+in-Ok w ↦
          (adds_within _ s.old s.change.now.parts s.change.now.label s.waiting s.astray s.next bytes s.place c.match-place.place g.H.Host.tells may c.self.invariant.0 c.self.invariant.1
          w.in-Within.writing w.in-Ok.writing w.in-Within.is w.place-is w.in-Ok.ensures.left w.in-Ok.ensures.coming w.in-Ok.ensures.stages).given t ∙ same
    ]

pub returns-clause-stages : goal.returns-clause-stages
returns-clause-stages g c t =
    let s = c.self.inside in
    let bytes = c.args.bytes.now in
    let may = ap (λ (o : Opened). may_come (length bytes) o) c.self.view_is ∙ c.requires in
    let P : Opened → Type 0 = λ o. Stages o.seen (seen_of c.match-place.place) in
    elim c.match-place.branch [
      | in-Between w ↦
          subst P c.self.view_is ((adds_between _ s.old s.change.now.parts s.change.now.label s.waiting s.astray s.next bytes s.place c.match-place.place g.H.Host.tells may c.self.invariant.0 c.self.invariant.1
          w.in-Between.staging w.in-Between.is w.place-is).stages t)
      | in-Within+in-Ok w ↦
          subst P c.self.view_is ((adds_within _ s.old s.change.now.parts s.change.now.label s.waiting s.astray s.next bytes s.place c.match-place.place g.H.Host.tells may c.self.invariant.0 c.self.invariant.1
          w.in-Within.writing w.in-Ok.writing w.in-Within.is w.place-is w.in-Ok.ensures.left w.in-Ok.ensures.coming w.in-Ok.ensures.stages).stages t)
    ]
