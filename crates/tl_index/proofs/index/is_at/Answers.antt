use Rattle.std.proofs.Common.{◌≡◌, ℕ, ◌++◌, ◌∷◌, ◌-◌, [], List, true, false, sym, ap, subst, ◌∙◌, arith, rules, Some, None, take, drop, length, get_or, bytes_eq, filter, not, ◌==◌, ◌+◌, ◌<◌}
use Rattle.std.specs.List.{list_any}
use Rattle.tl_path.specs.Components.{is_below}
use Rattle.tl_entry.specs.Rising.{is_rising, comes_before}
use Rattle.tl_index.specs.declared.hit.Hit.{Hit}
use Rattle.tl_index.specs.declared.hit.Leaf.{Leaf}
use Rattle.tl_index.specs.Entries.{path_of, has, without, with_leaf, leaf_of, is_directly_in}
use Rattle.tl_index.specs.Fronts.{begins, IsFirstFrom, IsStretch}
use Rattle.tl_index.specs.Folders.{Knows, IsIndex}
use Rattle.std.proofs.lemmas.Bool.{le-ltb}
use Rattle.tl_index.proofs.EntryLemmas.{there_is, there_not}
use Rattle.tl_index.proofs.index.is_at.Goals as goal

pub returns-then-at-hits-clause-there : goal.returns-then-at-hits-clause-there
returns-then-at-hits-clause-there c =
    there_is c.args.path.now c.args.hits.now c.args.at c.index-hits-at.result c.eq.result c.requires.rising c.requires.place c.if-at-hits.true c.index-hits-at.is (c.eq.ensures ∙ ap (λ (h : Hit). bytes_eq h.path c.args.path.now) (sym c.index-hits-at.is))

pub returns-else-at-hits-clause-there : goal.returns-else-at-hits-clause-there
returns-else-at-hits-clause-there c =
    le-ltb c.args.at (length c.args.hits.now) c.if-at-hits.false ∙ sym (there_not c.args.path.now c.args.hits.now c.args.at c.requires.rising c.requires.place c.if-at-hits.false)
