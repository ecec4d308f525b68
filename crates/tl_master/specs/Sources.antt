-- The sources of a master.
use Rattle.std.specs.Prelude.{ℕ, nat_lt, if◌then◌else◌, List, [], ◌∷◌, length, Option, Some, None, Result, Ok, Err}
use Rattle.std.specs.Option.{option_and_then, option_map, unwrap_or}
use Rattle.std.specs.List.{filter_map}
use Rattle.std.specs.Ordering.{nat_cmp, ordering_then}
use Rattle.std.specs.declared.cmp.Ordering.{Ordering}
use Rattle.std.specs.Cmp.Lexicographic.{slice_cmp}
use Rattle.tl_model.specs.Devices.{Verdicts}
use Rattle.tl_model.specs.Volume.{Name, Volume, at}
use Rattle.tl_path.specs.Names.{is_name}
use Rattle.tl_kind.specs.Quantities.{limit_of}
use Rattle.tl_kind.specs.declared.kinds.RegexpKind.TheVariants as regexps
use Rattle.tl_kind.specs.declared.kinds.SourceKind.{SourceKind}
use Rattle.tl_kind.specs.declared.quantity.What.TheVariants as quantities
use Rattle.tl_entry.specs.declared.object.Object.{Object}
use Rattle.tl_marks.specs.Form.{source_front, source_end}
use Rattle.tl_marks.specs.declared.marks.MarkedPath.{MarkedPath}
use Rattle.tl_srctext.specs.Reading.{source_of}
use Rattle.tl_srctext.specs.declared.fields.SourceFields.{SourceFields}
use Rattle.tl_auto.specs.declared.error.AutoError.{AutoError}
use Rattle.tl_auto.specs.declared.error.AutoError.TheVariants as faults
use Rattle.tl_expand.specs.Objects.{objects_of}
use Rattle.tl_expand.specs.declared.choice.Stamp.{Stamp}
use Rattle.tl_backup.specs.Files.{before_back, behind_front}
use Rattle.tl_backup.specs.Ordered.{in_order}
use Rattle.tl_master.specs.declared.error.MasterError.{MasterError}
use Rattle.tl_master.specs.declared.error.MasterError.TheVariants.{BadSource, UnsetVariable, BadPath, Regexp, TooLarge, NoMemory}
use Rattle.tl_master.specs.declared.files.SourceFile.{SourceFile}
use Rattle.tl_master.specs.declared.master.MarkedSource.{MarkedSource}

-- the name that a text is; None where it is none
abbrev pub name_if : List ℕ → Option (List ℕ)
name_if text = if is_name text then Some text else None

-- the package whose source has a path: `tlpkg/tlpsrc/NAME.tlpsrc`; None where the path is no source's
abbrev pub source_name : Name → Option (List ℕ)
source_name path = option_and_then name_if (option_and_then (before_back source_end) (behind_front source_front path))

-- a listed path that is there, as the file of a package's source
abbrev pub source_at : MarkedPath → Option SourceFile
source_at marked = if marked.lives then option_map (λ name. record { name = name; mark = marked.mark; path = marked.path }) (source_name marked.path) else None

-- the order of sources: that of their names, of which no two files have one
abbrev pub source_cmp : SourceFile → SourceFile → Ordering
source_cmp a b = ordering_then (slice_cmp nat_cmp a.name b.name) (ordering_then (nat_cmp a.mark b.mark) (slice_cmp nat_cmp a.path b.path))

-- files of sources, where there are no more than the limit
abbrev pub within_sources : List SourceFile → Result (List SourceFile) MasterError
within_sources files = if nat_lt (limit_of quantities.Sources) (length files) then Err (TooLarge quantities.Sources (limit_of quantities.Sources)) else Ok files

-- the files of sources among listed paths, in the order of the packages' names, where there are no more than the limit
abbrev pub source_files : List MarkedPath → Result (List SourceFile) MasterError
source_files listing = within_sources (in_order source_cmp (filter_map source_at listing))

-- the fault of a package's pattern
abbrev pub pattern_fault : List ℕ → AutoError → MasterError
pattern_fault name (faults.UnsetVariable line) = UnsetVariable name line
pattern_fault name (faults.BadPath line) = BadPath name line
pattern_fault name (faults.Syntax line) = Regexp name line regexps.Syntax
pattern_fault name (faults.Size line) = Regexp name line regexps.Size
pattern_fault name faults.NoMemory = NoMemory

-- no marks
abbrev pub no_stamp : Stamp
no_stamp = record { source = 0; platforms = 0 }

-- a source, where it stands for entries: the first fault of its patterns doesn't depend on files, so that it is looked for among none
abbrev pub checked : SourceFile → SourceFields → Result (List Object) AutoError → Result MarkedSource MasterError
checked file source (Ok objects) = Ok (record { source = source; mark = file.mark })
checked file source (Err fault) = Err (pattern_fault file.name fault)

-- a source whose text reads
abbrev pub from_text : Verdicts → List (List ℕ) → SourceFile → Result SourceFields (ℕ × SourceKind) → Result MarkedSource MasterError
from_text verdicts platforms file (Ok source) = checked file source (objects_of verdicts source no_stamp [] platforms)
from_text verdicts platforms file (Err bad) = Err (BadSource file.name bad.0 bad.1)

-- what follows on what was read, unless that has a fault
abbrev pub then_read : {A B : Type 0} → (A → Result B MasterError) → Result A MasterError → Result B MasterError
then_read next (Ok found) = next found
then_read next (Err fault) = Err fault

-- a text that may be a source's: it has no more bytes than the limit
abbrev pub within_source : List ℕ → Result (List ℕ) MasterError
within_source text = if nat_lt (limit_of quantities.Source) (length text) then Err (TooLarge quantities.Source (limit_of quantities.Source)) else Ok text

-- the text of a source
abbrev pub text_of_source : Volume → SourceFile → Result (List ℕ) MasterError
text_of_source tree file = within_source (unwrap_or (at tree file.path) [])

-- a source, or the fault of its text, or else that of its first pattern that has one
abbrev pub source_in : Verdicts → Volume → List (List ℕ) → SourceFile → Result MarkedSource MasterError
source_in verdicts tree platforms file = then_read (λ text. from_text verdicts platforms file (source_of file.name text)) (text_of_source tree file)

-- a source in front of others, or the first fault
abbrev pub in_front : Result MarkedSource MasterError → Result (List MarkedSource) MasterError → Result (List MarkedSource) MasterError
in_front (Err fault) others = Err fault
in_front (Ok source) (Err fault) = Err fault
in_front (Ok source) (Ok sources) = Ok (source ∷ sources)

-- all sources, or the fault of the first that has one
abbrev pub sources_in : Verdicts → Volume → List (List ℕ) → List SourceFile → Result (List MarkedSource) MasterError
sources_in verdicts tree platforms [] = Ok []
sources_in verdicts tree platforms (file ∷ files) = in_front (source_in verdicts tree platforms file) (sources_in verdicts tree platforms files)
