use Rattle.std.proofs.Common.{◌≡◌, ◌++◌, take}
use Rattle.std.specs.Prelude.{All}
use Rattle.std.specs.List.{flat_map}
use Rattle.tl_model.specs.Acks.{IsPlain}
use Rattle.tl_object.specs.Formed.{IsFormedFile}
use Rattle.tl_object.specs.Writing.{file_line}
use Rattle.tl_object.proofs.write.put_doc_files.Given as goal

abbrev pub invariant-loop-file : goal.invariant-loop-file
invariant-loop-file l = record {
  written : l.out.items ≡ l.fn.out.items ++ flat_map file_line (take l.file-index l.files);
  plain : IsPlain l.fn.out.items → IsPlain l.out.items;
  formed : All IsFormedFile (take l.file-index l.files);
}
