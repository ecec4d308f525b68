use Rattle.std.proofs.Common.{◌≡◌, ◌∙◌, ap, List, ℕ, rules}
use Rattle.std.specs.Prelude.{not, filter}
use Rattle.std.proofs.lemmas.Fn.{filter_same}
use Rattle.tl_path.specs.Reserved.{is_reserved}
use Rattle.tl_restore.proofs.reading.own_paths.Goals as goal

kept : (c : goal.After-retain) → c.retain.new.self.items ≡ filter (λ (path : List ℕ). not (is_reserved path)) c.in_ok-paths.paths.items
kept c = filter_same _ (λ (path : List ℕ). not (is_reserved path)) _ (λ x b f' called. (search rules, search rules)) _ _ c.retain.ensures.filtered

pub returns : goal.returns
returns c = kept c ∙ ap (filter (λ (path : List ℕ). not (is_reserved path))) c.in_ok-paths.ensures.paths
