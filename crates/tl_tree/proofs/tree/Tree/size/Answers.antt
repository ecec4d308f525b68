use Rattle.std.proofs.Common.{◌≡◌, sym, ap, subst, ◌∙◌, Option, List, ℕ, length, IfOk}
use Rattle.std.specs.Option.{option_map}
use Rattle.tl_model.specs.Volume.{at}
use Rattle.tl_journal_text.specs.Records.{is_ours}
use Rattle.tl_tree.specs.Planted.{Planted}
use Rattle.tl_tree.specs.Names.{at-tree_of-ours, at-tree_of-outside}
use Rattle.tl_tree.proofs.tree.Tree.size.Goals as goal

pub returns-then-is_ours-clause-length : goal.returns-then-is_ours-clause-length
returns-then-is_ours-clause-length g c t =
    ap (λ (o : Option (List ℕ)). option_map length o) (sym (at-tree_of-ours c.args.self.now.seen.present.held c.args.name (ap is_ours (sym c.bytes.ensures.bytes) ∙ sym c.is_ours.ensures ∙ c.if-is_ours.true)))

pub returns-clause-length : goal.returns-clause-length
returns-clause-length g c t =
    let held = c.args.self.now.seen.present.held in
    let same = ap (λ (p : Planted). at p.seen.present.held c.args.name) c.self.view_is
    ∙ sym (at-tree_of-outside held c.args.name (ap is_ours (sym c.bytes.ensures.bytes) ∙ sym c.is_ours.ensures ∙ c.if-is_ours.false)) in
    subst (λ (o : Option (List ℕ)). IfOk c.size.result (λ size. size ≡ option_map length o)) same (c.size.ensures.size t).length
