use Rattle.std.proofs.Common.{◌≡◌, ◌++◌, take}
use Rattle.std.specs.Prelude.{All}
use Rattle.std.specs.List.{flat_map}
use Rattle.tl_model.specs.Acks.{IsPlain}
use Rattle.tl_object.specs.Formed.{IsFormedBin}
use Rattle.tl_object.specs.Writing.{bin_lines}
use Rattle.tl_object.proofs.write.put_bins.Given as goal

abbrev pub invariant-loop-bin : goal.invariant-loop-bin
invariant-loop-bin l = record {
  written : l.out.items ≡ l.fn.out.items ++ flat_map bin_lines (take l.bin-index l.bins);
  plain : IsPlain l.fn.out.items → IsPlain l.out.items;
  formed : All IsFormedBin (take l.bin-index l.bins);
}
