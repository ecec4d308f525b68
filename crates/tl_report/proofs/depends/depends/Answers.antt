use Rattle.std.proofs.Common.{◌≡◌, ◌∷◌, Bor, List, ℕ, map, ap, ◌∙◌, rules}
use Rattle.tl_model.specs.Words.{fields}
use Rattle.tl_depend.specs.Needed.{tree_platforms}
use Rattle.tl_report.proofs.DependLemmas.{unmet-more}
use Rattle.tl_report.proofs.depends.depends.Goals as goal

pub loop-entry-preserved : goal.loop-entry-preserved
loop-entry-preserved c =
    let left : c.loop-entry.entry-iterator.rest.now ≡ c.in-Some.entry.now ∷ c.next.new.self.rest.now = search rules in
    unmet-more c.args.db.now (tree_platforms c.args.db.now) (map (λ (p : Bor (List ℕ)). p.now) c.deref-in-loop-entry.result.now) c.loop-entry.lines c.add_unmet.new.lines _ c.in-Some.entry.now c.next.new.self.rest.now c.loop-entry.entry-iterator.rest.now
    (ap (map (λ (p : Bor (List ℕ)). p.now)) c.deref-in-loop-entry.ensures.value ∙ c.in_ok-platforms.ensures ∙ ap fields (c.deref.ensures.value ∙ c.in_ok-value.ensures))
    left c.in_ok-add_unmet.ensures c.loop-entry.invariant
