use Rattle.std.proofs.Common.{◌≡◌, ◌∙◌, ap, sym, subst, List, ℕ, true, rules}
use Rattle.std.specs.Prelude.{not, filter}
use Rattle.std.proofs.lemmas.Fn.{filter_same}
use Rattle.tl_path.specs.Reserved.{is_reserved}
use Rattle.tl_entry.specs.Rising.{is_rising}
use Rattle.tl_backup.proofs.Making.{rising-filter}
use Rattle.tl_backup.proofs.make.own_paths.Goals as goal

kept : (c : goal.After-retain) → c.retain.new.self.items ≡ filter (λ (path : List ℕ). not (is_reserved path)) c.in_ok-paths.paths.items
kept c = filter_same _ (λ (path : List ℕ). not (is_reserved path)) _ (λ x b f' called. (search rules, search rules)) _ _ c.retain.ensures.filtered

pub returns-clause-paths : goal.returns-clause-paths
returns-clause-paths c = kept c ∙ ap (filter (λ (path : List ℕ). not (is_reserved path))) c.in_ok-paths.ensures.paths

pub returns-clause-rising : goal.returns-clause-rising
returns-clause-rising c = subst (λ (l : List (List ℕ)). is_rising (λ (p : List ℕ). p) l ≡ true) (sym (kept c)) (rising-filter (λ (path : List ℕ). not (is_reserved path)) c.in_ok-paths.paths.items c.in_ok-paths.ensures.rising)
