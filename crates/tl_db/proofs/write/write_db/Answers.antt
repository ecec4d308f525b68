use Rattle.std.proofs.Common.{◌≡◌, List, ℕ, take, ◌∙◌, ap, arith, subst, sym}
use Rattle.std.specs.Prelude.{All}
use Rattle.std.proofs.lemmas.List.{take_all}
use Rattle.std.proofs.lemmas.Grind.{common_steps}
use Rattle.std.proofs.lemmas.List.Elements.{All-nil}
use Rattle.tl_model.specs.Acks.{IsPlain, plain-nil}
use Rattle.tl_object.specs.Again.{ReadsAgain}
use Rattle.tl_object.proofs.PlainLemmas.{each_more}
use Rattle.tl_db.specs.Reading.{db_of}
use Rattle.tl_db.specs.Text.{db_text}
use Rattle.tl_db.proofs.AgainLemmas.{db-again}
use Rattle.tl_db.proofs.write.write_db.Goals as goal

pub loop-object-init : goal.loop-object-init
loop-object-init c = record {
  written = c.new-out.ensures.items;
  plain = subst (λ (l : List ℕ). IsPlain l) (sym c.new-out.ensures.items) plain-nil;
  again = All-nil ReadsAgain;
}

pub loop-object-preserved : goal.loop-object-preserved
loop-object-preserved c = record {
  written = grind (arith, common_steps);
  plain = c.in_ok-append_entry.ensures.plain c.loop-object.invariant.plain;
  again = each_more ReadsAgain _ c.loop-object.object-index c.object-item.result c.loop-object-test.true c.object-item.is c.in_ok-append_entry.ensures.again c.loop-object.invariant.again;
}

pub returns-clause-reads : goal.returns-clause-reads
returns-clause-reads c =
    let all : take c.loop-object.object-index c.objects-object-items.result.now ≡ c.args.db.now =
    take_all c.loop-object.object-index c.objects-object-items.result.now c.loop-object-test.false ∙ c.objects-object-items.ensures.objects in
    ap db_of (c.loop-object.invariant.written ∙ ap db_text all)
    ∙ db-again c.args.db.now (subst (All ReadsAgain) all c.loop-object.invariant.again) c.objects-object-items.ensures.rising
