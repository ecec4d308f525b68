use Rattle.std.proofs.Common.{ℕ, List, sym, ap, subst, arith}
use Rattle.std.proofs.lemmas.Slice.{first_rest}
use Rattle.tl_execute.specs.Executes.{Gives, read_words}
use Rattle.tl_execute.proofs.Finds.{texts}
use Rattle.tl_execute.proofs.read.read_words.Goals as goal

pub returns-in-len1-up : goal.returns-in-len1-up
returns-in-len1-up c =
    subst (λ (ws : List (List ℕ)). Gives (read_words ws) c.read_first.result) (sym (ap texts (first_rest c.args.words.now _ (omega arith)))) c.read_first.ensures
