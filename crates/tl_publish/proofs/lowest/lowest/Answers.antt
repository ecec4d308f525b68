use Rattle.std.proofs.Common.{ℕ, List, ◌++◌, sym, ap, ◌∙◌}
use Rattle.std.specs.Prelude.{filter}
use Rattle.tl_publish.specs.Listable.{is_lowest}
use Rattle.tl_publish.proofs.LowestLemmas.{kept_of, kept-lowest, kept_more, behind_rises}
use Rattle.tl_publish.proofs.lowest.lowest.Goals as goal

pub loop-name-init : goal.loop-name-init
loop-name-init c = (
  ap (λ (l : List (List ℕ)). l ++ kept_of c.args.names.now) c.new-kept.ensures.items ∙ sym (kept-lowest c.args.names.now c.requires.rising),
  c.requires.rising,
)

pub loop-name-preserved : goal.loop-name-preserved
loop-name-preserved c =
    let all = filter (is_lowest c.args.names.now) c.args.names.now in (
      kept_more c.loop-name.kept.items c.push_lowest.new.kept.items c.loop-name.rest.now c.in-Some.behind.now all c.in-Some.name.now c.in-Some.ensures.cases.0 c.in_ok-push_lowest.ensures c.loop-name.invariant.0,
      behind_rises c.in-Some.name.now c.loop-name.rest.now c.in-Some.behind.now c.in-Some.ensures.cases.0 c.loop-name.invariant.1,
    )
