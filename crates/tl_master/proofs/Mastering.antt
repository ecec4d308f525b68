-- A master, part by part.
use Rattle.std.proofs.Common.{◌≡◌, Bool, List, Result, Ok, Err, Vec, Global, ap}
use Rattle.tl_model.specs.Devices.{Verdicts, RegexpsSeen}
use Rattle.tl_model.specs.Volume.{Volume}
use Rattle.tl_tree.specs.Planted.{Planted}
use Rattle.tl_index.specs.declared.hit.Hit.{Hit}
use Rattle.tl_marks.specs.Form.{MarksEntry}
use Rattle.tl_marks.specs.declared.marks.MarkedPath.{MarkedPath}
use Rattle.tl_master.specs.Answers.{Answers, Asks, Finds, IsOwn}
use Rattle.tl_master.specs.Listing.{index_of}
use Rattle.tl_master.specs.Masters.{Master, master_from, master_with, platforms_mark, platforms_named}
use Rattle.tl_master.specs.Sources.{source_files, sources_in, then_read}
use Rattle.tl_master.specs.declared.error.MasterError.{MasterError}
use Rattle.tl_master.specs.declared.files.SourceFile.{SourceFile}
use Rattle.tl_master.specs.declared.master.MarkedSource.{MarkedSource}
use Rattle.tl_master.proofs.Finding.{asks_finds, finds_cut, finds_known, finds_then, own_finds}

-- the master with this index
abbrev pub with_index : MarksEntry → List MarkedSource → List Hit → Master
with_index marks sources index = record {
  sources = sources;
  index = index;
  platforms = platforms_named marks.platforms;
  platforms_mark = platforms_mark marks.platforms;
  counter = marks.counter;
}

-- what is read behind the files of sources
abbrev pub behind_files : MarksEntry → List MarkedPath → Verdicts → Volume → List SourceFile → Result Master MasterError
behind_files marks listing verdicts t files = then_read (λ sources. Ok (master_from t marks listing sources)) (sources_in verdicts t (platforms_named marks.platforms) files)

-- what is read behind the sources
abbrev pub behind_sources : MarksEntry → List MarkedPath → Verdicts → Volume → List MarkedSource → Result Master MasterError
behind_sources marks listing verdicts t sources = Ok (master_from t marks listing sources)

module _ (tells : Bool) (marks : MarksEntry) (listing : List MarkedPath) where
  -- the files of sources were found
  pub files_then : (tree new : Planted) (r0 r1 : RegexpsSeen) (files : Vec SourceFile Global) (answer : Result Master MasterError) → source_files listing ≡ Ok files.items
      → Finds tells (λ (m : Master). m) (λ verdicts t. behind_files marks listing verdicts t files.items) tree new r0 r1 answer → Finds tells (λ (m : Master). m) (λ verdicts t. master_with verdicts t marks listing) tree new r0 r1 answer
  files_then tree new r0 r1 files answer is behind =
      finds_then tells (λ (fs : Vec SourceFile Global). fs.items) (λ (m : Master). m) (λ verdicts t. source_files listing) (behind_files marks listing) tree tree new r0 r0 r1 files answer
      (own_finds tells (λ (fs : Vec SourceFile Global). fs.items) (source_files listing) tree r0 (Ok files) is tt) behind

  pub files_cut : (tree : Planted) (r : RegexpsSeen) (fault : MasterError) → Answers (λ (fs : Vec SourceFile Global). fs.items) (Err fault) (source_files listing) → IsOwn fault
      → Finds tells (λ (m : Master). m) (λ verdicts t. master_with verdicts t marks listing) tree tree r r (Err fault)
  files_cut tree r fault answers own =
      finds_cut tells (λ (fs : Vec SourceFile Global). fs.items) (λ (m : Master). m) (λ verdicts t. source_files listing) (behind_files marks listing) tree tree r r fault
      (own_finds tells (λ (fs : Vec SourceFile Global). fs.items) (source_files listing) tree r (Err fault) answers own)

  module _ (files : List SourceFile) where
    -- the sources were read
    pub sources_then : (tree mid new : Planted) (r0 r1 : RegexpsSeen) (sources : Vec MarkedSource Global) (answer : Result Master MasterError)
        → Finds tells (λ (s : Vec MarkedSource Global). s.items) (λ verdicts t. sources_in verdicts t (platforms_named marks.platforms) files) tree mid r0 r1 (Ok sources)
        → Finds tells (λ (m : Master). m) (λ verdicts t. behind_sources marks listing verdicts t sources.items) mid new r1 r1 answer
        → Finds tells (λ (m : Master). m) (λ verdicts t. behind_files marks listing verdicts t files) tree new r0 r1 answer
    sources_then tree mid new r0 r1 sources answer first behind =
        finds_then tells (λ (s : Vec MarkedSource Global). s.items) (λ (m : Master). m) (λ verdicts t. sources_in verdicts t (platforms_named marks.platforms) files) (behind_sources marks listing) tree mid new r0 r1 r1 sources answer first behind

    pub sources_cut : (tree mid : Planted) (r0 r1 : RegexpsSeen) (fault : MasterError)
        → Finds tells (λ (s : Vec MarkedSource Global). s.items) (λ verdicts t. sources_in verdicts t (platforms_named marks.platforms) files) tree mid r0 r1 (Err fault)
        → Finds tells (λ (m : Master). m) (λ verdicts t. behind_files marks listing verdicts t files) tree mid r0 r1 (Err fault)
    sources_cut tree mid r0 r1 fault first =
        finds_cut tells (λ (s : Vec MarkedSource Global). s.items) (λ (m : Master). m) (λ verdicts t. sources_in verdicts t (platforms_named marks.platforms) files) (behind_sources marks listing) tree mid r0 r1 fault first

  module _ (sources : List MarkedSource) (mid new : Planted) (r : RegexpsSeen) where
    -- the index was made
    pub index_then : (index : List Hit) (master : Master) → Asks tells (λ (i : List Hit). i) (λ t. Ok (index_of t listing)) mid new (Ok index) → with_index marks sources index ≡ master
        → Finds tells (λ (m : Master). m) (λ verdicts t. behind_sources marks listing verdicts t sources) mid new r r (Ok master)
    index_then index master asks is =
        finds_then tells (λ (i : List Hit). i) (λ (m : Master). m) (λ verdicts t. Ok (index_of t listing)) (λ verdicts t i. Ok (with_index marks sources i)) mid new new r r r index (Ok master)
        (asks_finds tells (λ (i : List Hit). i) (λ t. Ok (index_of t listing)) mid new r (Ok index) asks)
        (finds_known tells (λ (m : Master). m) (λ verdicts t. Ok (with_index marks sources index)) new r master (λ verdicts. ap (λ (m : Master). Ok m) is))

    pub index_cut : (fault : MasterError) → Asks tells (λ (i : List Hit). i) (λ t. Ok (index_of t listing)) mid new (Err fault)
        → Finds tells (λ (m : Master). m) (λ verdicts t. behind_sources marks listing verdicts t sources) mid new r r (Err fault)
    index_cut fault asks =
        finds_cut tells (λ (i : List Hit). i) (λ (m : Master). m) (λ verdicts t. Ok (index_of t listing)) (λ verdicts t i. Ok (with_index marks sources i)) mid new r r fault
        (asks_finds tells (λ (i : List Hit). i) (λ t. Ok (index_of t listing)) mid new r (Err fault) asks)
