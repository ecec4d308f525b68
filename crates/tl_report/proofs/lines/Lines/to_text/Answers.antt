use Rattle.std.proofs.Common.{List, ℕ, map, sym, ◌∙◌, ap, subst}
use Rattle.std.specs.Prelude.{string_bytes, String}
use Rattle.std.specs.declared.alloc.Global.{Global}
use Rattle.std.proofs.lemmas.Result.{IfOk-weaker}
use Rattle.tl_model.specs.Acks.{IsPlain}
use Rattle.tl_model.specs.Lines.{text_of}
use Rattle.tl_report.proofs.NamedLines.{plain-lines}
use Rattle.tl_report.proofs.lines.Lines.to_text.Goals as goal

pub returns-clause-plain : goal.returns-clause-plain
returns-clause-plain c =
    IfOk-weaker c.text_of.result _ _ (λ text is. subst (λ (bytes : List ℕ). IsPlain bytes)
    (sym (is ∙ ap (λ (lines : List (String Global)). text_of (map string_bytes lines)) c.deref.ensures.value))
    (plain-lines (map string_bytes c.self.inside.items.items) c.self.invariant)) c.text_of.ensures
