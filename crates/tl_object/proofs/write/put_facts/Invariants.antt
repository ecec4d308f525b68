use Rattle.std.proofs.Common.{◌≡◌, ◌++◌, take}
use Rattle.std.specs.Prelude.{All}
use Rattle.std.specs.List.{flat_map}
use Rattle.tl_model.specs.Acks.{IsPlain}
use Rattle.tl_object.specs.Formed.{IsFormedFact}
use Rattle.tl_object.specs.Writing.{fact_line}
use Rattle.tl_object.proofs.write.put_facts.Given as goal

abbrev pub invariant-loop-fact : goal.invariant-loop-fact
invariant-loop-fact l = record {
  written : l.out.items ≡ l.fn.out.items ++ flat_map fact_line (take l.fact-index l.facts);
  plain : IsPlain l.fn.out.items → IsPlain l.out.items;
  formed : All IsFormedFact (take l.fact-index l.facts);
}
