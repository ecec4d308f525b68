use Rattle.std.proofs.Common.{◌≡◌, false, nat_eq, sym, ◌∙◌}
use Rattle.std.specs.Prelude.{codes, bytes_eq}
use Rattle.std.specs.List.{starts_with}
use Rattle.tl_lsr.specs.Lists.{list_path}
use Rattle.tl_publish.proofs.OwnLemmas.{touching_else}
use Rattle.tl_publish.proofs.owning.touches_path.Goals as goal

pub returns : goal.returns
returns c =
    let path = c.args.path.now in
    let other : bytes_eq path list_path ≡ false = sym c.eq.ensures ∙ c.if-eq.false in
    let past : starts_with nat_eq path (codes "texmf-dist/ls-R/") ≡ false = sym c.starts_with.ensures.value ∙ c.if-starts_with.false in
    c.eq-2.ensures ∙ touching_else path other past
