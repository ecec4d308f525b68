use Rattle.std.proofs.Common.{◌≡◌, ◌++◌, drop}
use Rattle.std.specs.List.{flat_map}
use Rattle.tl_config.specs.Files.{def_line}
use Rattle.tl_config.proofs.hyphen.push_def_synonyms.Given as goal

abbrev pub invariant-loop-synonym : goal.invariant-loop-synonym
invariant-loop-synonym l =
    l.out.items ++ flat_map (def_line l.file l.least.0 l.least.1) (drop l.synonym-index l.synonyms) ≡ l.initial.out.items ++ flat_map (def_line l.file l.least.0 l.least.1) l.synonyms
