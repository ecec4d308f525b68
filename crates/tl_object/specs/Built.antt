-- What a reader keeps of the groups that it has read.
use Rattle.std.specs.Prelude.{false, List, [], ◌∷◌, ◌++◌, Some, unwrap_or}
use Rattle.tl_entry.specs.Parts.{FileEntry}
use Rattle.tl_object.specs.Groups.{Group, only, every, name_of, category_of, revision_of, catalogue_of, shortdesc_of, relocated_of, longdesc_of, depend_of, execute_of, postaction_of, fact_of, container, files_of, doc_of, bins, with_bin}
use Rattle.tl_entry.specs.Sections.{paths_of, no_files, no_doc_files}
use Rattle.tl_path.specs.declared.kinds.Category.TheVariants.{Package}
use Rattle.tl_entry.specs.declared.object.Object.{Object}
use Rattle.tl_object.specs.declared.key.Part.TheVariants.{Run, Doc, Src}
use Rattle.tl_object.specs.declared.head.Head.{Head}
use Rattle.tl_object.specs.declared.head.Head.TheVariants as heads
use Rattle.tl_object.specs.declared.builder.Builder.{Builder}

-- the parts of an entry that some groups give
abbrev pub built : List Group → Builder
built groups = record {
  name = unwrap_or (only name_of groups) [];
  category = only category_of groups;
  revision = only revision_of groups;
  catalogue = only catalogue_of groups;
  shortdesc = only shortdesc_of groups;
  relocated = only relocated_of groups;
  longdesc = every longdesc_of groups;
  depends = every depend_of groups;
  executes = every execute_of groups;
  postactions = every postaction_of groups;
  run_box = container Run groups;
  doc_box = container Doc groups;
  src_box = container Src groups;
  doc = only doc_of groups;
  src = only (files_of Src) groups;
  run = only (files_of Run) groups;
  bin = bins groups;
  catalogue_facts = every fact_of groups;
}

-- the parts of an entry with those of one more group
abbrev pub put : Builder → Head → List FileEntry → Builder
put b (heads.Name name) files = record b { name = name }
put b (heads.Category category) files = record b { category = Some category }
put b (heads.Revision revision) files = record b { revision = Some revision }
put b (heads.Catalogue text) files = record b { catalogue = Some text }
put b (heads.Shortdesc text) files = record b { shortdesc = Some text }
put b (heads.Relocated flag) files = record b { relocated = Some flag }
put b (heads.Longdesc text) files = record b { longdesc = b.longdesc ++ text ∷ [] }
put b (heads.Depend text) files = record b { depends = b.depends ++ text ∷ [] }
put b (heads.Execute text) files = record b { executes = b.executes ++ text ∷ [] }
put b (heads.Postaction text) files = record b { postactions = b.postactions ++ text ∷ [] }
put b (heads.Size Run size) files = record b { run_box = record b.run_box { size = Some size } }
put b (heads.Size Doc size) files = record b { doc_box = record b.doc_box { size = Some size } }
put b (heads.Size Src size) files = record b { src_box = record b.src_box { size = Some size } }
put b (heads.Digest Run digest) files = record b { run_box = record b.run_box { digest = Some digest } }
put b (heads.Digest Doc digest) files = record b { doc_box = record b.doc_box { digest = Some digest } }
put b (heads.Digest Src digest) files = record b { src_box = record b.src_box { digest = Some digest } }
put b (heads.Files Run blocks) files = record b { run = Some (record { blocks = blocks; paths = paths_of files }) }
put b (heads.Files Doc blocks) files = record b { doc = Some (record { blocks = blocks; files = files }) }
put b (heads.Files Src blocks) files = record b { src = Some (record { blocks = blocks; paths = paths_of files }) }
put b (heads.Binfiles platform blocks) files = record b { bin = with_bin (Some (record { platform = platform; blocks = blocks; paths = paths_of files })) b.bin }
put b (heads.Fact fact) files = record b { catalogue_facts = b.catalogue_facts ++ fact ∷ [] }

-- the entry of some parts
abbrev pub finished : Builder → Object
finished b = record {
  name = b.name;
  category = unwrap_or b.category Package;
  revision = unwrap_or b.revision 0;
  catalogue = b.catalogue;
  shortdesc = b.shortdesc;
  relocated = unwrap_or b.relocated false;
  longdesc = b.longdesc;
  depends = b.depends;
  executes = b.executes;
  postactions = b.postactions;
  run_box = b.run_box;
  doc_box = b.doc_box;
  src_box = b.src_box;
  doc = unwrap_or b.doc no_doc_files;
  src = unwrap_or b.src no_files;
  run = unwrap_or b.run no_files;
  bin = b.bin;
  catalogue_facts = b.catalogue_facts;
}
