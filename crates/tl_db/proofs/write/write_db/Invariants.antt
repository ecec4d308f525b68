use Rattle.std.proofs.Common.{◌≡◌, take}
use Rattle.std.specs.Prelude.{All}
use Rattle.std.specs.List.{flat_map}
use Rattle.tl_model.specs.Acks.{IsPlain}
use Rattle.tl_object.specs.Again.{ReadsAgain}
use Rattle.tl_db.specs.Text.{entry_text}
use Rattle.tl_db.proofs.write.write_db.Given as goal

abbrev pub invariant-loop-object : goal.invariant-loop-object
invariant-loop-object l = record {
  written : l.out.items ≡ flat_map entry_text (take l.object-index l.object-items);
  plain : IsPlain l.out.items;
  again : All ReadsAgain (take l.object-index l.object-items);
}
