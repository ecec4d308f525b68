use Rattle.std.proofs.Common.{◌≡◌, sym, ap, subst, ◌∙◌, Option, List, ℕ, [], IfOk, IfErr}
use Rattle.std.specs.Option.{option_map, unwrap_or}
use Rattle.tl_model.specs.Volume.{at}
use Rattle.tl_journal_text.specs.Records.{is_ours}
use Rattle.tl_tree.specs.Contents.{IsContentsError}
use Rattle.tl_tree.specs.Planted.{Planted}
use Rattle.tl_tree.specs.Names.{at-tree_of-ours, at-tree_of-outside}
use Rattle.tl_tree.proofs.tree.Tree.contents.Goals as goal

pub returns-then-is_ours-clause-bytes : goal.returns-then-is_ours-clause-bytes
returns-then-is_ours-clause-bytes g c t =
    sym (at-tree_of-ours c.args.self.now.seen.present.held c.args.path (ap is_ours (sym c.bytes.ensures.bytes) ∙ sym c.is_ours.ensures ∙ c.if-is_ours.true))

pub returns-clause-bytes : goal.returns-clause-bytes
returns-clause-bytes g c t =
    let held = c.args.self.now.seen.present.held in
    let same = ap (λ (p : Planted). at p.seen.present.held c.args.path) c.self.view_is
    ∙ sym (at-tree_of-outside held c.args.path (ap is_ours (sym c.bytes.ensures.bytes) ∙ sym c.is_ours.ensures ∙ c.if-is_ours.false)) in
    subst (λ (o : Option (List ℕ)). IfOk c.read_within.result (λ found. option_map (λ v. v.items) found ≡ o)) same (c.read_within.ensures.bytes t)

pub returns-clause-error : goal.returns-clause-error
returns-clause-error g c t =
    let held = c.args.self.now.seen.present.held in
    let same = ap (λ (p : Planted). at p.seen.present.held c.args.path) c.self.view_is
    ∙ sym (at-tree_of-outside held c.args.path (ap is_ours (sym c.bytes.ensures.bytes) ∙ sym c.is_ours.ensures ∙ c.if-is_ours.false)) in
    subst (λ (o : Option (List ℕ)). IfErr c.read_within.result (IsContentsError c.args.what (unwrap_or o []))) same (c.read_within.ensures.error t)
