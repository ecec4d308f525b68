use Rattle.std.proofs.Common.{◌≡◌, ◌++◌, drop}
use Rattle.std.specs.List.{flat_map}
use Rattle.tl_config.specs.Files.{more_synonym}
use Rattle.tl_config.proofs.lua.push_more.Given as goal

abbrev pub invariant-loop-synonym : goal.invariant-loop-synonym
invariant-loop-synonym l = l.out.items ++ flat_map more_synonym (drop l.synonym-index l.synonyms) ≡ l.initial.out.items ++ flat_map more_synonym l.synonyms
