use Rattle.std.proofs.Common.{◌≡◌, sym, ap, subst, ◌∙◌, Option, List, ℕ, [], length, take, drop, IfOk}
use Rattle.std.specs.Option.{unwrap_or}
use Rattle.tl_model.specs.Volume.{at}
use Rattle.tl_journal_text.specs.Records.{is_ours}
use Rattle.tl_tree.specs.Planted.{Planted}
use Rattle.tl_tree.specs.Names.{at-tree_of-ours, at-tree_of-outside}
use Rattle.tl_tree.proofs.Absences.{nothing, nothing_long}
use Rattle.tl_tree.proofs.tree.Tree.read.Goals as goal

pub returns-then-is_ours-clause-bytes : goal.returns-then-is_ours-clause-bytes
returns-then-is_ours-clause-bytes g c t =
    nothing (length c.args.into.now) c.args.from _ (at-tree_of-ours c.args.self.now.seen.present.held c.args.name (ap is_ours (sym c.bytes.ensures.bytes) ∙ sym c.is_ours.ensures ∙ c.if-is_ours.true))

pub returns-then-is_ours-clause-count : goal.returns-then-is_ours-clause-count
returns-then-is_ours-clause-count g c t =
    nothing_long (length c.args.into.now) c.args.from _ (at-tree_of-ours c.args.self.now.seen.present.held c.args.name (ap is_ours (sym c.bytes.ensures.bytes) ∙ sym c.is_ours.ensures ∙ c.if-is_ours.true))

pub returns-clause-bytes : goal.returns-clause-bytes
returns-clause-bytes g c t =
    let held = c.args.self.now.seen.present.held in
    let same = ap (λ (p : Planted). at p.seen.present.held c.args.name) c.self.view_is
    ∙ sym (at-tree_of-outside held c.args.name (ap is_ours (sym c.bytes.ensures.bytes) ∙ sym c.is_ours.ensures ∙ c.if-is_ours.false)) in
    subst (λ (o : Option (List ℕ)). IfOk c.read.result (λ count. take count c.read.new.into ≡ take (length c.read.new.into) (drop c.args.from (unwrap_or o [])))) same (c.read.ensures.bytes t).bytes

pub returns-clause-count : goal.returns-clause-count
returns-clause-count g c t =
    let held = c.args.self.now.seen.present.held in
    let same = ap (λ (p : Planted). at p.seen.present.held c.args.name) c.self.view_is
    ∙ sym (at-tree_of-outside held c.args.name (ap is_ours (sym c.bytes.ensures.bytes) ∙ sym c.is_ours.ensures ∙ c.if-is_ours.false)) in
    subst (λ (o : Option (List ℕ)). IfOk c.read.result (λ count. count ≡ length (take (length c.read.new.into) (drop c.args.from (unwrap_or o []))))) same (c.read.ensures.bytes t).count
