use Rattle.std.proofs.Common.{List, ℕ, subst}
use Rattle.tl_journal_text.specs.Stand.{tree_of}
use Rattle.tl_db.specs.Reading.{IsDbError}
use Rattle.tl_tree.specs.Planted.{database_text}
use Rattle.tl_tree.proofs.load.canonical_database.Goals as goal

pub returns-in-Err-canonical_text-clause-error : goal.returns-in-Err-canonical_text-clause-error
returns-in-Err-canonical_text-clause-error g c t =
    c.tree_error.ensures.error (database_text (tree_of c.args.journal.now.present.held))
    (subst (λ (l : List ℕ). IsDbError l c.in-Err-canonical_text.error) (c.in-Ok.ensures.text t) c.in-Err-canonical_text.ensures.text)
