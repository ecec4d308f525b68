use Rattle.std.proofs.Common.{List, ℕ, [], ◌∷◌, ◌++◌, map, take, sym, ◌∙◌, ap}
use Rattle.std.specs.Prelude.{string_bytes}
use Rattle.std.proofs.lemmas.List.{map_more}
use Rattle.tl_model.specs.Lines.{text_of}
use Rattle.tl_report.proofs.LineLemmas.{text_of-more}
use Rattle.tl_report.proofs.lines.text_of.Goals as goal

pub loop-line-preserved : goal.loop-line-preserved
loop-line-preserved c =
    let line = string_bytes c.line-item.result in
    let before = map string_bytes (take c.loop-line.line-index c.args.lines.now) in
    c.in_ok-push.ensures.items
    ∙ ap (λ (text : List ℕ). text ++ 10 ∷ [])
    (c.in_ok-extend_from_slice.ensures.items ∙ ap (λ (text : List ℕ). c.loop-line.text.items ++ text) c.as_bytes.ensures.value ∙ ap (λ (text : List ℕ). text ++ line) c.loop-line.invariant)
    ∙ sym (text_of-more before line)
    ∙ ap (λ (text : List ℕ). text_of (before ++ text ∷ [])) (ap string_bytes c.line-item.is)
    ∙ ap text_of (sym (map_more string_bytes c.args.lines.now c.loop-line.line-index c.line-item.result c.loop-line-test.true))
