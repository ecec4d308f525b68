use Rattle.std.proofs.Common.{◌≡◌, List, ℕ, ◌++◌, sym, ap, subst, ◌∙◌}
use Rattle.tl_srctext.specs.Writing.{source_text}
use Rattle.tl_srctext.specs.Again.{ReadsAgain}
use Rattle.tl_srctext.proofs.RoundTrip.{reads-again}
use Rattle.tl_srctext.proofs.writing.write.Goals as goal

pub returns-clause-again : goal.returns-clause-again
returns-clause-again c =
    let whole : c.put_source.new.out.items ≡ source_text c.args.source.now =
    c.in_ok-put_source.ensures ∙ ap (λ (l : List ℕ). l ++ source_text c.fields.result.now) c.new-out.ensures.items ∙ ap source_text c.fields.ensures in
    λ is. subst (ReadsAgain c.args.source.now) (sym whole) (reads-again c.args.source.now is)
