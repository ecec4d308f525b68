use Rattle.std.proofs.Common.{List, ℕ, subst, ◌∙◌}
use Rattle.tl_journal_text.specs.Stand.{tree_of}
use Rattle.tl_db.specs.Reading.{IsDbError}
use Rattle.tl_tree.specs.Planted.{database_text}
use Rattle.tl_tree.proofs.load.read_entries.Goals as goal

pub returns-clause-error : goal.returns-clause-error
returns-clause-error g c t =
    c.tree_error.ensures.error (database_text (tree_of c.args.journal.now.present.held))
    (subst (λ (l : List ℕ). IsDbError l c.in-Err-read_db.error) (c.as_slice.ensures.value ∙ c.in-Ok.ensures.text t) c.in-Err-read_db.ensures)
