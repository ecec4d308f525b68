use Rattle.std.proofs.Common.{◌≡◌, sym, ap, subst, ◌∙◌, Some, None, Option, length, take, inr}
use Rattle.std.specs.Option.{option_map}
use Rattle.std.proofs.lemmas.Result.{IfOk-weaker}
use Rattle.tl_model.specs.Volume.{Name, at, IsNext}
use Rattle.tl_model.specs.Seen.{Moment}
use Rattle.tl_model.specs.Pictures.{quiet_join}
use Rattle.tl_tree.specs.Nexts.{behind}
use Rattle.tl_tree.proofs.Absences.{absent}
use Rattle.tl_tree.proofs.look.next_behind.Goals as goal

pub returns-in-None-clause-same : goal.returns-in-None-clause-same
returns-in-None-clause-same g c t = quiet_join c.args.journal.now c.size.new.self c.next_name.new.self (c.in_ok-size.ensures.size t).same (c.next_name.ensures.next t).same

pub returns-in-None-clause-next : goal.returns-in-None-clause-next
returns-in-None-clause-next g c t =
    let held = c.args.journal.now.present.held in
    let quiet = (c.in_ok-size.ensures.size t).same in
    let first = c.again.ensures ∙ c.known-first.ensures in
    let none : at held behind ≡ None = absent (at held behind) (sym c.in-None.is ∙ (c.in_ok-size.ensures.size t).length ∙ ap (λ (n : Name). option_map length (at held n)) first) in
    IfOk-weaker c.next_name.result _ _ (λ found next.
    let name : Option Name = option_map (λ count. take count c.next_name.new.name) found in
    inr (none, subst (λ (n : Name). IsNext held (Some n) name) c.known-first.ensures (subst (λ (m : Moment). IsNext m.held (Some c.known-first.result) name) quiet.present next)))
    (c.next_name.ensures.next t).next
