use Rattle.std.proofs.Common.{◌≡◌, ◌∙◌, ap, sym, get_or, None, List, ℕ}
use Rattle.std.specs.Bool.{IsTrue}
use Rattle.tl_model.specs.Volume.{Volume}
use Rattle.tl_entry.specs.declared.object.Object.{Object}
use Rattle.tl_backup.specs.Asked.{tree_in}
use Rattle.tl_backup.proofs.Making.{asked_join, asked_tree}
use Rattle.tl_backups.specs.Backing.{size_fault}
use Rattle.tl_backups.proofs.Packages.{fault_on}
use Rattle.tl_backups.proofs.backing.check_all_large.Goals as goal

pub returns-in_err-check_large-clause-asked : goal.returns-in_err-check_large-clause-asked
returns-in_err-check_large-clause-asked g c = asked_join _ _ _ _ c.loop-name.invariant.0 c.check_large.ensures.asked

pub loop-name-preserved : goal.loop-name-preserved
loop-name-preserved g c =
    let old = c.args.tree.now in
    let tree = tree_in old in
    let loop = c.loop-name.tree in
    let item = c.name-item.result in
    let names = c.args.packages.now in
    let none : IsTrue g.H.Host.tells → size_fault old.db tree (get_or names c.loop-name.name-index item) ≡ None =
    λ t. sym (ap (λ (db : List Object). size_fault db (tree_in loop) item) c.loop-name.invariant.0.db ∙ ap (λ (v : Volume). size_fault old.db v item) (asked_tree _ _ _ c.loop-name.invariant.0 t)
    ∙ ap (λ (n : List ℕ). size_fault old.db tree n) c.name-item.is) ∙ c.in_ok-check_large.ensures.fault t in (
      asked_join _ _ _ _ c.loop-name.invariant.0 c.check_large.ensures.asked,
      λ t. c.loop-name.invariant.1 t ∙ fault_on (size_fault old.db tree) names c.loop-name.name-index item c.loop-name-test.true (none t),
    )
