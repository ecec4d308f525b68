use Rattle.std.proofs.Common.{◌≡◌, ◌++◌, take}
use Rattle.std.specs.Prelude.{All}
use Rattle.std.specs.List.{flat_map}
use Rattle.tl_model.specs.Acks.{IsPlain}
use Rattle.tl_path.specs.Path.{IsPath}
use Rattle.tl_object.specs.Writing.{path_line}
use Rattle.tl_object.proofs.write.put_paths.Given as goal

abbrev pub invariant-loop-index : goal.invariant-loop-index
invariant-loop-index l = record {
  written : l.out.items ≡ l.fn.out.items ++ flat_map path_line (take l.index l.paths);
  plain : IsPlain l.fn.out.items → IsPlain l.out.items;
  formed : All IsPath (take l.index l.paths);
}
