use Rattle.std.proofs.Common.{◌≡◌, sym, subst, true, List}
use Rattle.tl_entry.specs.Rising.{is_rising}
use Rattle.tl_index.specs.Entries.{path_of}
use Rattle.tl_index.specs.Fronts.{IsFirstFrom, IsFrontPart}
use Rattle.tl_index.specs.declared.hit.Hit.{Hit}
use Rattle.tl_index.proofs.FrontLemmas.{rising-drop, behind_first, stretch_of}
use Rattle.tl_index.proofs.fronts.stretch.Goals as goal

pub count_in_front-requires : goal.count_in_front-requires
count_in_front-requires c = record {
  rising = subst (λ (xs : List Hit). is_rising path_of xs ≡ true) (sym c.split_at.ensures.back) (rising-drop c.first_from-low.result c.args.hits.now c.requires);
  from = subst (λ (xs : List Hit). IsFirstFrom c.args.front.now xs 0) (sym c.split_at.ensures.back) (behind_first c.args.front.now c.args.hits.now c.first_from-low.result c.first_from-low.ensures);
}

pub returns : goal.returns
returns c = stretch_of c.args.front.now c.args.hits.now c.first_from-low.result c.count_in_front.result c.first_from-low.ensures
    (subst (λ (xs : List Hit). IsFrontPart c.args.front.now xs c.count_in_front.result) c.split_at.ensures.back c.count_in_front.ensures)
