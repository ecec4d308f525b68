use Rattle.std.proofs.Common.{◌≡◌, ◌++◌, take}
use Rattle.std.specs.Prelude.{All}
use Rattle.std.specs.List.{flat_map}
use Rattle.tl_model.specs.Acks.{IsPlain}
use Rattle.tl_text.specs.Texts.{IsText}
use Rattle.tl_object.specs.Writing.{key_line}
use Rattle.tl_object.proofs.write.put_texts.Given as goal

abbrev pub invariant-loop-text : goal.invariant-loop-text
invariant-loop-text l = record {
  written : l.out.items ≡ l.fn.out.items ++ flat_map (key_line l.key) (take l.text-index l.texts);
  plain : IsPlain l.fn.out.items → IsPlain l.out.items;
  formed : All IsText (take l.text-index l.texts);
}
