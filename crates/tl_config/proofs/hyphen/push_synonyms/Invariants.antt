use Rattle.std.proofs.Common.{◌≡◌, ◌++◌, drop}
use Rattle.std.specs.List.{flat_map}
use Rattle.tl_config.specs.Files.{synonym_line}
use Rattle.tl_config.proofs.hyphen.push_synonyms.Given as goal

abbrev pub invariant-loop-synonym : goal.invariant-loop-synonym
invariant-loop-synonym l = l.out.items ++ flat_map synonym_line (drop l.synonym-index l.synonyms) ≡ l.initial.out.items ++ flat_map synonym_line l.synonyms
