use Rattle.std.proofs.Common.{◌∙◌, ap, subst, ℕ, []}
use Rattle.tl_journal.specs.States.{coming}
use Rattle.tl_journal.proofs.Staged.{writing_end, end_coming}
use Rattle.tl_journal.specs.States.{Writes, IsWriting}
use Rattle.tl_journal.proofs.writing.Writing.end.Goals as goal

pub invariant_of-result : goal.invariant_of-result
invariant_of-result g c t =
    let inv = c.self.invariant t in
    let none = ap (λ (w : Writes). w.left) c.self.view_is ∙ c.requires in
    (writing_end (g.H.Host.seen c.self.inside.host) (subst (λ (n : ℕ). IsWriting (g.H.Host.seen c.self.inside.host) n) none inv.0), inv.1)

pub returns-clause-added : goal.returns-clause-added
returns-clause-added g c t = end_coming (g.H.Host.seen c.self.inside.host) c.self.inside.left ∙ ap (λ (w : Writes). coming w []) c.self.view_is
