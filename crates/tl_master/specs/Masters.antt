-- The master of a tree.
use Rattle.std.specs.Prelude.{ℕ, List, [], Option, Some, None, Result, Ok, Err, find}
use Rattle.std.specs.Str.{bytes_eq}
use Rattle.tl_model.specs.Devices.{Verdicts}
use Rattle.tl_model.specs.Volume.{Volume}
use Rattle.tl_entry.specs.declared.object.Object.{Object}
use Rattle.tl_db.specs.Text.{db_text}
use Rattle.tl_index.specs.declared.hit.Hit.{Hit}
use Rattle.tl_marks.specs.Form.{MarksEntry}
use Rattle.tl_marks.specs.declared.marks.MarkedPath.{MarkedPath}
use Rattle.tl_marks.specs.declared.marks.MarkedPlatforms.{MarkedPlatforms}
use Rattle.tl_auto.specs.declared.error.AutoError.{AutoError}
use Rattle.tl_expand.specs.Objects.{objects_of}
use Rattle.tl_master.specs.declared.error.MasterError.{MasterError}
use Rattle.tl_master.specs.declared.error.MasterError.TheVariants.{NoSource}
use Rattle.tl_master.specs.declared.master.MarkedSource.{MarkedSource}
use Rattle.tl_master.specs.Listing.{names_in, merged, index_of}
use Rattle.tl_master.specs.Marked.{marks_in}
use Rattle.tl_master.specs.Sources.{then_read, source_files, sources_in, pattern_fault}

-- a master: its sources in the order of their names, with their marks; its paths, those that are gone too; its platforms with their mark,
-- which is 0 where they were never set; and the count of its changes
pub record Master : Type 0 where
  pub sources : List MarkedSource
  pub index : List Hit
  pub platforms : List (List ℕ)
  pub platforms_mark : ℕ
  pub counter : ℕ

-- the platforms that marks name; none where they name none
abbrev pub platforms_named : Option MarkedPlatforms → List (List ℕ)
platforms_named None = []
platforms_named (Some marked) = marked.platforms

-- the mark of these platforms
abbrev pub platforms_mark : Option MarkedPlatforms → ℕ
platforms_mark None = 0
platforms_mark (Some marked) = marked.mark

-- the paths of a tree with these marks: its names that may have a mark, and the marked ones
abbrev pub listing_in : Volume → MarksEntry → Result (List MarkedPath) MasterError
listing_in tree marks = then_read (λ names. Ok (merged names marks.paths)) (names_in tree)

-- the master with these parts
abbrev pub master_from : Volume → MarksEntry → List MarkedPath → List MarkedSource → Master
master_from tree marks listing sources = record {
  sources = sources;
  index = index_of tree listing;
  platforms = platforms_named marks.platforms;
  platforms_mark = platforms_mark marks.platforms;
  counter = marks.counter;
}

-- the master of a tree with these marks and listed paths
abbrev pub master_with : Verdicts → Volume → MarksEntry → List MarkedPath → Result Master MasterError
master_with verdicts tree marks listing =
    then_read (λ files. then_read (λ sources. Ok (master_from tree marks listing sources)) (sources_in verdicts tree (platforms_named marks.platforms) files))
    (source_files listing)

-- the master of a tree with these marks
abbrev pub master_behind : Verdicts → Volume → MarksEntry → Result Master MasterError
master_behind verdicts tree marks = then_read (master_with verdicts tree marks) (listing_in tree marks)

-- the master of a tree, or what is wrong: with its marks first, then with the number of its names, then with that of its sources, then with
-- each source in the order of their names
abbrev pub master_of : Verdicts → Volume → Result Master MasterError
master_of verdicts tree = then_read (master_behind verdicts tree) (marks_in tree)

-- the entries of a source of a master, or the fault of its patterns
abbrev pub entries_of : Verdicts → Master → MarkedSource → Result (List Object) AutoError
entries_of verdicts master marked =
    objects_of verdicts marked.source (record { source = marked.mark; platforms = master.platforms_mark }) master.index master.platforms

-- the source of a package
abbrev pub source_named : List ℕ → List MarkedSource → Option MarkedSource
source_named name sources = find (λ (s : MarkedSource). bytes_eq s.source.name name) sources

-- the text of some entries, each followed by one empty line; or the fault of the patterns of their source
abbrev pub text_of : List ℕ → Result (List Object) AutoError → Result (List ℕ) MasterError
text_of name (Ok objects) = Ok (db_text objects)
text_of name (Err fault) = Err (pattern_fault name fault)

-- the text of the entries of a source
abbrev pub text_from : Verdicts → Master → List ℕ → Option MarkedSource → Result (List ℕ) MasterError
text_from verdicts master name None = Err NoSource
text_from verdicts master name (Some marked) = text_of name (entries_of verdicts master marked)

-- the text of the entries of a package's source
abbrev pub expanded : Verdicts → List ℕ → Master → Result (List ℕ) MasterError
expanded verdicts name master = text_from verdicts master name (source_named name master.sources)
