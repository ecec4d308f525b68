use Rattle.std.proofs.Common.{rules, tests}
use Rattle.std.proofs.lemmas.List.Sorted.{IsPartitionPoint-from_clause}
use Rattle.tl_entry.specs.Rising.{comes_before}
use Rattle.tl_index.specs.declared.hit.Hit.{Hit}
use Rattle.tl_index.proofs.FrontLemmas.{before_point, first_from_point}
use Rattle.tl_index.proofs.fronts.first_from.Goals as goal

pub returns : goal.returns
returns c = first_from_point c.args.text.now c.args.hits.now _ c.partition_point.ensures.bound
    (IsPartitionPoint-from_clause (λ (h : Hit). comes_before h.path c.args.text.now) c.args.hits.now _ c.partition_point.ensures.partitioned
    (before_point c.args.text.now c.args.hits.now c.requires) (λ a r q k. search (rules, tests)))
