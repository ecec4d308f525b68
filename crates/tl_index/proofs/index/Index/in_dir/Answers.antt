use Rattle.std.proofs.Common.{◌≡◌, ℕ, ◌++◌, ◌∷◌, ◌-◌, [], List, true, false, sym, ap, subst, ◌∙◌, arith, rules, Some, None, take, drop, length, get_or, filter, not, ◌==◌, ◌+◌, ◌<◌}
use Rattle.std.specs.List.{list_any}
use Rattle.tl_path.specs.Components.{is_below}
use Rattle.tl_entry.specs.Rising.{is_rising, comes_before}
use Rattle.tl_index.specs.declared.hit.Hit.{Hit}
use Rattle.tl_index.specs.declared.hit.Leaf.{Leaf}
use Rattle.tl_index.specs.Entries.{path_of, has, without, with_leaf, leaf_of, is_directly_in}
use Rattle.tl_index.specs.Fronts.{begins, IsFirstFrom, IsStretch}
use Rattle.tl_index.specs.Folders.{Knows, IsIndex}
use Rattle.tl_index.proofs.FrontLemmas.{filter_both}
use Rattle.tl_index.proofs.index.Index.in_dir.Goals as goal

pub returns : goal.returns
returns c =
    let dir = c.args.dir.now in
    c.keep_direct.ensures ∙ ap (filter (λ (h : Hit). not (list_any (λ b. b == 47) (drop (length dir + 1) h.path)))) c.in_ok-hits.ensures
    ∙ sym (filter_both (λ (h : Hit). is_below h.path dir) (λ (h : Hit). not (list_any (λ b. b == 47) (drop (length dir + 1) h.path))) c.args.self.now)
