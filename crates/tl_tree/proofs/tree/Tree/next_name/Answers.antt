use Rattle.std.proofs.Common.{◌≤◌, sym, subst, ◌∙◌, Some, None, Option, ℕ, take, IfSome}
use Rattle.std.specs.Option.{option_map}
use Rattle.std.proofs.lemmas.Result.{IfOk-weaker}
use Rattle.tl_model.specs.Volume.{Name, IsAfter, IsNext}
use Rattle.tl_model.specs.Seen.{Moment, Quiet}
use Rattle.tl_model.specs.Pictures.{quiet_join}
use Rattle.tl_path.specs.Path.{IsPath}
use Rattle.tl_journal_text.specs.Stand.{tree_of}
use Rattle.tl_tree.specs.Planted.{Planted}
use Rattle.tl_tree.specs.Nexts.{IsNextFrom}
use Rattle.tl_tree.proofs.Order.{next_outside, next_none, next_from}
use Rattle.tl_tree.proofs.Absences.{path_from}
use Rattle.tl_tree.proofs.tree.Tree.next_name.Goals as goal

pub returns-then-is_ours-clause-same : goal.returns-then-is_ours-clause-same
returns-then-is_ours-clause-same g c t =
    subst (λ (p : Planted). Quiet p.seen c.next_behind.new.journal) c.self.view_is
    (quiet_join c.self.inside.journal c.next_name.new.self c.next_behind.new.journal (c.in_ok-count.ensures.next t).same (c.next_behind.ensures.same t))

pub returns-then-is_ours-clause-next : goal.returns-then-is_ours-clause-next
returns-then-is_ours-clause-next g c t =
    let held = c.self.inside.journal.present.held in
    let name = take c.in-Some.count c.next_name.new.name in
    let next = subst (λ (o : Option ℕ). IsNext held c.args.after (option_map (λ count. take count c.next_name.new.name) o)) c.in-Some.is (c.in_ok-count.ensures.next t).next in
    IfOk-weaker c.next_behind.result _ _ (λ found more.
    let given : Option Name = option_map (λ count. take count c.next_behind.new.name) found in
    subst (λ (p : Planted). IsNext (tree_of p.seen.present.held) c.args.after given) c.self.view_is
    (next_from held c.args.after name given (sym c.is_ours.ensures ∙ c.if-is_ours.true) next (subst (λ (m : Moment). IsNextFrom m.held given) (c.in_ok-count.ensures.next t).same.present more)))
    (c.next_behind.ensures.next t)

pub returns-then-is_ours-clause-path : goal.returns-then-is_ours-clause-path
returns-then-is_ours-clause-path g c =
    let name = take c.in-Some.count c.next_name.new.name in
    let path = subst (λ (o : Option ℕ). IfSome o (λ count. (count ≤ 1024) × IsPath (take count c.next_name.new.name) × IsAfter c.args.after (take count c.next_name.new.name))) c.in-Some.is c.in_ok-count.ensures.path in
    IfOk-weaker c.next_behind.result _ _ (λ found more. path_from c.args.after name (sym c.is_ours.ensures ∙ c.if-is_ours.true) path.2 found c.next_behind.new.name more) c.next_behind.ensures.path

pub returns-else-is_ours-clause-next : goal.returns-else-is_ours-clause-next
returns-else-is_ours-clause-next g c t =
    let held = c.self.inside.journal.present.held in
    let name = take c.in-Some.count c.next_name.new.name in
    let next = subst (λ (o : Option ℕ). IsNext held c.args.after (option_map (λ count. take count c.next_name.new.name) o)) c.in-Some.is (c.in_ok-count.ensures.next t).next in
    subst (λ (p : Planted). IsNext (tree_of p.seen.present.held) c.args.after (Some name)) c.self.view_is (next_outside held c.args.after name (sym c.is_ours.ensures ∙ c.if-is_ours.false) next)

pub returns-in-None-clause-next : goal.returns-in-None-clause-next
returns-in-None-clause-next g c t =
    let held = c.self.inside.journal.present.held in
    let none = subst (λ (o : Option ℕ). IsNext held c.args.after (option_map (λ count. take count c.next_name.new.name) o)) c.in-None.is (c.in_ok-count.ensures.next t).next in
    subst (λ (p : Planted). IsNext (tree_of p.seen.present.held) c.args.after None) c.self.view_is (next_none held c.args.after none)
