use Rattle.std.proofs.Common.{◌==◌, ◌+◌, drop, length, rules}
use Rattle.std.specs.Prelude.{not}
use Rattle.std.specs.List.{list_any}
use Rattle.std.proofs.lemmas.Fn.{filter_same}
use Rattle.tl_index.specs.declared.hit.Hit.{Hit}
use Rattle.tl_index.proofs.index.keep_direct.Goals as goal

pub returns : goal.returns
returns c = filter_same _ (λ (h : Hit). not (list_any (λ b. b == 47) (drop (length c.args.dir.now + 1) h.path))) _ (λ x b q k. search rules) _ _ c.retain.ensures.filtered
