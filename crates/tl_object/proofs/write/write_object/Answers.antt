use Rattle.std.proofs.Common.{ℕ, List, ◌++◌, sym, subst, ◌∙◌, ap}
use Rattle.tl_model.specs.Acks.{IsPlain, plain-nil}
use Rattle.tl_object.specs.Reading.{entry_of}
use Rattle.tl_object.specs.Writing.{object_text}
use Rattle.tl_object.proofs.RoundTrip.{entry-again}
use Rattle.tl_object.proofs.write.write_object.Goals as goal

pub returns-clause-plain : goal.returns-clause-plain
returns-clause-plain c = c.in_ok-append_object.ensures.plain (subst IsPlain (sym c.new-out.ensures.items) plain-nil)

pub returns-clause-reads : goal.returns-clause-reads
returns-clause-reads c =
    ap entry_of (c.in_ok-append_object.ensures.written ∙ ap (λ (before : List ℕ). before ++ object_text c.args.object.now) c.new-out.ensures.items) ∙ entry-again c.args.object.now c.in_ok-append_object.ensures.again
