use Rattle.std.proofs.Common.{List, ℕ, ap, ◌∙◌, rules}
use Rattle.std.specs.Prelude.{filter, not}
use Rattle.std.proofs.lemmas.List.Elements.{filter_from_retain}
use Rattle.tl_path.specs.Reserved.{is_reserved}
use Rattle.tl_coming.proofs.ClashLaws.{same_listed}
use Rattle.tl_coming.proofs.owned.own_files.Goals as goal

pub returns : goal.returns
returns c =
    filter_from_retain _ (λ (path : List ℕ). not (is_reserved path)) (λ p x b q k. search rules) _ c.in_ok-files.files.items c.retain.new.self.items c.retain.ensures.filtered
    ∙ ap (filter (λ (path : List ℕ). not (is_reserved path))) (c.in_ok-files.ensures ∙ same_listed c.args.entry.now)
