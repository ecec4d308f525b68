-- Which files the sections of a source choose.
use Rattle.std.specs.Prelude.{ℕ, zero, suc, ◌==◌, Bool, not, if◌then◌else◌, List, [], ◌∷◌, ◌++◌, length, max, fold, filter, Result, Ok, Err}
use Rattle.tl_model.specs.Devices.{Verdicts}
use Rattle.tl_pattern.specs.declared.pattern.PlacedPattern.{PlacedPattern}
use Rattle.tl_index.specs.declared.hit.Hit.{Hit}
use Rattle.tl_index.specs.Select.{selected}
use Rattle.tl_srctext.specs.declared.fields.SourceFields.{SourceFields}
use Rattle.tl_auto.specs.declared.error.AutoError.{AutoError}
use Rattle.tl_auto.specs.declared.section.Section.{Section}
use Rattle.tl_auto.specs.declared.section.Section.TheVariants.{Run, Doc, Src, Bin}
use Rattle.tl_auto.specs.Effective.{effective}
use Rattle.tl_expand.specs.declared.choice.Choice.{Choice}
use Rattle.tl_expand.specs.declared.choice.Stamp.{Stamp}

-- what follows an answer, unless that is a fault
abbrev pub with_answer : {A B : Type 0} → (A → Result B AutoError) → Result A AutoError → Result B AutoError
with_answer next (Ok value) = next value
with_answer next (Err fault) = Err fault

-- what patterns choose in an index, gone files too, where there are patterns
abbrev pub selected_by : List Hit → Result (List PlacedPattern) AutoError → Result (List Hit) AutoError
selected_by index patterns = with_answer (λ ps. Ok (selected ps index)) patterns

-- what a section chooses
abbrev pub chosen_in : Verdicts → SourceFields → List (List ℕ) → List Hit → Section → Result (List Hit) AutoError
chosen_in verdicts source platforms index section = selected_by index (effective verdicts source section platforms)

-- whether a source has patterns of binaries
abbrev pub has_binaries : SourceFields → Bool
has_binaries source = not (length source.bin == 0)

-- what the binaries of each of the first so many platforms choose, or the first fault
abbrev pub chosen_bins : (ℕ → Result (List Hit) AutoError) → ℕ → Result (List (List Hit)) AutoError
chosen_bins choose zero = Ok []
chosen_bins choose (suc count) = with_answer (λ before. with_answer (λ hits. Ok (before ++ hits ∷ [])) (choose count)) (chosen_bins choose count)

-- for how many platforms a source has binaries
abbrev pub bin_count : SourceFields → List (List ℕ) → ℕ
bin_count source platforms = if has_binaries source then length platforms else 0

-- what all sections choose, or the first fault in the order run, doc, src and the platforms
unfoldable pub choice_in : Verdicts → SourceFields → List (List ℕ) → List Hit → Result Choice AutoError
choice_in verdicts source platforms index =
    with_answer (λ run. with_answer (λ doc. with_answer (λ src. with_answer (λ bins. Ok (record { run = run; doc = doc; src = src; bins = bins }))
    (chosen_bins (λ i. chosen_in verdicts source platforms index (Bin i)) (bin_count source platforms)))
    (chosen_in verdicts source platforms index Src))
    (chosen_in verdicts source platforms index Doc))
    (chosen_in verdicts source platforms index Run)

-- the greatest of a mark and those of some files
abbrev pub greatest_mark : ℕ → List Hit → ℕ
greatest_mark mark hits = fold (λ m (h : Hit). max m h.leaf.mark) mark hits

-- the greatest of a mark and those of the files of each of some lists
abbrev pub greatest_of_all : ℕ → List (List Hit) → ℕ
greatest_of_all mark lists = fold greatest_mark mark lists

-- the mark of a source, and where it has patterns of binaries of the platforms, whichever is greater
abbrev pub first_mark : SourceFields → Stamp → ℕ
first_mark source stamp = if has_binaries source then max stamp.source stamp.platforms else stamp.source

-- the revision of a source's entries: the greatest mark of all that they are made of
abbrev pub revision_of : SourceFields → Stamp → Choice → ℕ
revision_of source stamp choice =
    greatest_of_all (greatest_mark (greatest_mark (greatest_mark (first_mark source stamp) choice.run) choice.doc) choice.src) choice.bins

-- the files that are there
abbrev pub living : List Hit → List Hit
living hits = filter (λ (h : Hit). h.leaf.lives) hits
