use Rattle.std.proofs.Common.{List, ℕ, map, sym, ◌∙◌, ap, subst}
use Rattle.std.specs.Prelude.{string_bytes, String}
use Rattle.std.specs.declared.alloc.Global.{Global}
use Rattle.std.proofs.lemmas.Result.{IfOk-weaker}
use Rattle.tl_model.specs.Acks.{IsPlain}
use Rattle.tl_model.specs.Lines.{text_of}
use Rattle.tl_report.specs.Lines.{in_order}
use Rattle.tl_report.proofs.LineLemmas.{plain-in_order}
use Rattle.tl_report.proofs.OrderLemmas.{sorted_once}
use Rattle.tl_report.proofs.lines.Lines.into_text.Goals as goal

pub returns-clause-text : goal.returns-clause-text
returns-clause-text c = IfOk-weaker c.text_of.result _ _ (λ text is.
    is ∙ ap (λ (lines : List (String Global)). text_of (map string_bytes lines)) c.deref.ensures.value
    ∙ ap text_of (sorted_once string_bytes c.self.inside.items.items c.sort_unstable.new.self.items c.dedup.new.self.items c.sort_unstable.ensures.permutation c.sort_unstable.ensures.sorted c.dedup.ensures.filtered)
    ∙ ap (λ (lines : List (List ℕ)). in_order lines) c.self.view_is) c.text_of.ensures

pub returns-clause-plain : goal.returns-clause-plain
returns-clause-plain c =
    let lines = c.self.inside.items.items in
    IfOk-weaker c.text_of.result _ _ (λ text is. subst (λ (bytes : List ℕ). IsPlain bytes)
    (sym (is ∙ ap (λ (lines : List (String Global)). text_of (map string_bytes lines)) c.deref.ensures.value
    ∙ ap text_of (sorted_once string_bytes lines c.sort_unstable.new.self.items c.dedup.new.self.items c.sort_unstable.ensures.permutation c.sort_unstable.ensures.sorted c.dedup.ensures.filtered)))
    (plain-in_order (map string_bytes lines) c.self.invariant)) c.text_of.ensures
