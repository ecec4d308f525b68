use Rattle.std.proofs.Common.{◌≡◌, take}
use Rattle.tl_model.specs.Acks.{IsPlain}
use Rattle.tl_db.specs.Text.{db_text}
use Rattle.tl_master.proofs.expanded.text_of.Given as goal

abbrev pub invariant-loop-object : goal.invariant-loop-object
invariant-loop-object l = record {
  written : l.text.items ≡ db_text (take l.object-index l.objects);
  plain : IsPlain l.text.items;
}
