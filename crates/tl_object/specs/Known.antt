-- What stands already among the parts that a reader keeps.
use Rattle.std.specs.Prelude.{Bool, true, false, is_some}
use Rattle.tl_entry.specs.Rising.{has_key}
use Rattle.tl_entry.specs.declared.object.Container.{Container}
use Rattle.tl_object.specs.declared.key.Part.{Part}
use Rattle.tl_object.specs.declared.key.Part.TheVariants.{Run, Doc, Src}
use Rattle.tl_object.specs.declared.head.Head.{Head}
use Rattle.tl_object.specs.declared.head.Head.TheVariants as heads
use Rattle.tl_entry.specs.declared.object.BinFiles.{BinFiles}
use Rattle.tl_object.specs.declared.builder.Builder.{Builder}

-- what is known of a part's container
abbrev pub container_of : Builder → Part → Container
container_of b Run = b.run_box
container_of b Doc = b.doc_box
container_of b Src = b.src_box

-- whether what a line says stands among the parts already, where it may stand once
abbrev pub is_known : Builder → Head → Bool
is_known b (heads.Name x) = true
is_known b (heads.Category x) = is_some b.category
is_known b (heads.Revision x) = is_some b.revision
is_known b (heads.Catalogue x) = is_some b.catalogue
is_known b (heads.Shortdesc x) = is_some b.shortdesc
is_known b (heads.Relocated x) = is_some b.relocated
is_known b (heads.Size Run x) = is_some b.run_box.size
is_known b (heads.Size Doc x) = is_some b.doc_box.size
is_known b (heads.Size Src x) = is_some b.src_box.size
is_known b (heads.Digest Run x) = is_some b.run_box.digest
is_known b (heads.Digest Doc x) = is_some b.doc_box.digest
is_known b (heads.Digest Src x) = is_some b.src_box.digest
is_known b (heads.Files Run x) = is_some b.run
is_known b (heads.Files Doc x) = is_some b.doc
is_known b (heads.Files Src x) = is_some b.src
is_known b (heads.Binfiles platform x) = has_key (λ (bin : BinFiles). bin.platform) platform b.bin
is_known b other = false
