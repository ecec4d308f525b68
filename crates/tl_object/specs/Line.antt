-- What a line of an entry says.
use Rattle.tl_entry.specs.Parts.{FileEntry}
use Rattle.tl_object.specs.declared.head.Head as head

-- what a line says: a file, or what its key and its value say
pub data Line : Type 0 where
  Head : head.Head → Line
  File : FileEntry → Line
