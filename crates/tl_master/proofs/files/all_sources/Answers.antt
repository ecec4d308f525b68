use Rattle.std.proofs.Common.{List, [], ◌∷◌, ◌++◌, take, sym, ap, ◌∙◌}
use Rattle.std.specs.List.{filter_map}
use Rattle.std.proofs.lemmas.List.{take_more}
use Rattle.std.proofs.lemmas.List.Elements.{filter_map-append}
use Rattle.tl_marks.specs.declared.marks.MarkedPath.{MarkedPath}
use Rattle.tl_master.specs.Sources.{source_at}
use Rattle.tl_master.specs.declared.files.SourceFile.{SourceFile}
use Rattle.tl_master.proofs.files.all_sources.Goals as goal

pub loop-marked-preserved : goal.loop-marked-preserved
loop-marked-preserved c =
    let listing = c.args.listing.now in
    let i = c.loop-marked.marked-index in
    let item = c.marked-item.result in
    c.in_ok-push_source.ensures
    ∙ ap (λ (l : List SourceFile). l ++ filter_map source_at (item ∷ [])) c.loop-marked.invariant
    ∙ sym (filter_map-append source_at (take i listing) (item ∷ []))
    ∙ ap (λ (m : MarkedPath). filter_map source_at (take i listing ++ m ∷ [])) c.marked-item.is
    ∙ ap (filter_map source_at) (sym (take_more listing i item c.loop-marked-test.true))
