-- The forms that the parts of an entry have, as their types keep them.
use Rattle.std.specs.Prelude.{◌≡◌, ℕ, ◌^◌, ◌<◌, true, List, length, Option, IfSome, All}
use Rattle.hex.specs.Hex.{IsBytes}
use Rattle.tl_text.specs.Texts.{IsText}
use Rattle.tl_path.specs.Names.{is_name}
use Rattle.tl_path.specs.Path.{IsPath}
use Rattle.tl_path.specs.Names.{is_platform}
use Rattle.tl_entry.specs.Forms.{is_fact_key, has_no_quote}
use Rattle.tl_entry.specs.Parts.{FileEntry, FactEntry}
use Rattle.tl_entry.specs.Rising.{is_rising}
use Rattle.tl_entry.specs.declared.object.Container.{Container}
use Rattle.tl_entry.specs.declared.object.Files.{Files}
use Rattle.tl_entry.specs.declared.object.DocFiles.{DocFiles}
use Rattle.tl_entry.specs.declared.object.BinFiles.{BinFiles}
use Rattle.tl_entry.specs.declared.object.Object.{Object}

-- a text that may be absent is one of one line
abbrev pub IsFormedText : Option (List ℕ) → Type 0
IsFormedText text = IfSome text IsText

-- a number that may be absent is below 2^64
abbrev pub IsFormedSize : Option ℕ → Type 0
IsFormedSize size = IfSome size (λ n. n < 2 ^ 64)

-- 64 bytes
abbrev pub IsDigest : List ℕ → Type 0
IsDigest digest = (length digest ≡ 64) × IsBytes digest

-- a digest that may be absent has 64 bytes
abbrev pub IsFormedDigest : Option (List ℕ) → Type 0
IsFormedDigest digest = IfSome digest IsDigest

-- what is known of a container
pub record IsFormedBox (box : Container) : Type 0 where
  pub size : IsFormedSize box.size
  pub digest : IsFormedDigest box.digest

-- a mark of a file: a text of one line without a double quote
abbrev pub IsMark : List ℕ → Type 0
IsMark text = IsText text × (has_no_quote text ≡ true)

-- a file with its marks
pub record IsFormedFile (file : FileEntry) : Type 0 where
  pub path : IsPath file.path
  pub details : IfSome file.details IsMark
  pub language : IfSome file.language IsMark

-- the documentation files, each path once and in rising order
pub record IsFormedDoc (doc : DocFiles) : Type 0 where
  pub blocks : doc.blocks < 2 ^ 64
  pub files : All IsFormedFile doc.files
  pub rising : is_rising (λ (file : FileEntry). file.path) doc.files ≡ true

-- the files of a section, each path once and in rising order
pub record IsFormedSection (files : Files) : Type 0 where
  pub blocks : files.blocks < 2 ^ 64
  pub paths : All IsPath files.paths
  pub rising : is_rising (λ (path : List ℕ). path) files.paths ≡ true

-- the binaries for a platform, each path once and in rising order
pub record IsFormedBin (bin : BinFiles) : Type 0 where
  pub platform : is_platform bin.platform ≡ true
  pub blocks : bin.blocks < 2 ^ 64
  pub paths : All IsPath bin.paths
  pub rising : is_rising (λ (path : List ℕ). path) bin.paths ≡ true

-- what the catalogue says under a key
pub record IsFormedFact (fact : FactEntry) : Type 0 where
  pub key : is_fact_key fact.key ≡ true
  pub value : IsText fact.value

-- the name, the revision and the texts that stand once
pub record HasFormedFront (o : Object) : Type 0 where
  pub name : is_name o.name ≡ true
  pub revision : o.revision < 2 ^ 32
  pub catalogue : IsFormedText o.catalogue
  pub shortdesc : IsFormedText o.shortdesc

-- the texts that may stand more than once
pub record HasFormedTexts (o : Object) : Type 0 where
  pub longdesc : All IsText o.longdesc
  pub depends : All IsText o.depends
  pub executes : All IsText o.executes
  pub postactions : All IsText o.postactions

-- the containers and the files
pub record HasFormedFiles (o : Object) : Type 0 where
  pub run_box : IsFormedBox o.run_box
  pub doc_box : IsFormedBox o.doc_box
  pub src_box : IsFormedBox o.src_box
  pub doc : IsFormedDoc o.doc
  pub src : IsFormedSection o.src
  pub run : IsFormedSection o.run
  pub bin : All IsFormedBin o.bin
  pub platforms : is_rising (λ (bin : BinFiles). bin.platform) o.bin ≡ true
