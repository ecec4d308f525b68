use Rattle.std.proofs.Common.{◌≡◌, ◌==◌, List, ℕ, Bor, length, map, sym, ap, ◌∙◌, rules}
use Rattle.std.specs.Prelude.{filter, not}
use Rattle.std.proofs.lemmas.List.Elements.{filter_from_retain}
use Rattle.tl_model.specs.Words.{is_full}
use Rattle.tl_report.proofs.AnyLemmas.{map-filter}
use Rattle.tl_report.proofs.DependLemmas.{full-is}
use Rattle.tl_report.proofs.depends.words_of.Goals as goal

pub returns : goal.returns
returns c =
    ap (map (λ (w : Bor (List ℕ)). w.now))
    (filter_from_retain _ (λ (w : Bor (List ℕ)). is_full w.now) (λ p x b q k. let is : b ≡ not (length x.now == 0) = search rules in is ∙ sym (full-is x.now)) _ c.in_ok-words.words.items c.retain.new.self.items c.retain.ensures.filtered)
    ∙ map-filter (λ (w : Bor (List ℕ)). w.now) is_full c.in_ok-words.words.items
    ∙ ap (filter is_full) c.in_ok-words.ensures
