-- The run of a step whose files are fetched.
use Rattle.std.specs.Prelude.{◌≡◌, ◌++◌, ℕ, Bool, List, [], ◌∷◌, Result, Ok, Err}
use Rattle.tl_model.specs.Trace.{Step}
use Rattle.tl_model.specs.Volume.{Name, Volume}
use Rattle.tl_entry.specs.declared.object.Object.{Object}
use Rattle.tl_tree.specs.Changes.{changed, later}
use Rattle.tl_tree.specs.Filled.{filled}
use Rattle.tl_tree.specs.Planted.{Planted}
use Rattle.tl_tree.specs.Staged.{has_name}
use Rattle.tl_tree.specs.declared.change.Part.{Part}
use Rattle.tl_refusal.specs.declared.refusal.Refusal.TheVariants as refusals
use Rattle.tl_command.specs.Endings.{Faults}
use Rattle.tl_command.specs.Loaded.{Steps}
use Rattle.tl_command.specs.Runs.{Run, changing_entries, finished, followed, refused}
use Rattle.std.specs.List.{IsDistinct}
use Rattle.tl_model.specs.Volume.{same_name}
use Rattle.tl_fetch.specs.declared.fetch_error.FetchError.{FetchError}
use Rattle.tl_fetch.specs.declared.fetch_error.FetchError.TheVariants as errors
use Rattle.tl_fill.specs.Wanted.{Wanted, WereFetched, all_paths, files_wanted, wanted_name}

-- the run that refuses a container for this reason; a fault of a device and want of memory are none
abbrev pub refused_container : Wanted → FetchError → Run
refused_container wanted (errors.ContainerFormat format) = refused (refusals.ContainerFormat wanted.repo.tag format)
refused_container wanted (errors.Relocated name) = refused (refusals.Relocated name)
refused_container wanted (errors.NoContainer name) = refused (refusals.NoContainer name)
refused_container wanted (errors.TooLarge what limit) = refused (refusals.TooLarge what limit)
refused_container wanted (errors.Absent name) = refused (refusals.Absent wanted.repo.tag name)
refused_container wanted (errors.SizeDiffers name want got) = refused (refusals.SizeDiffers wanted.repo.tag name want got)
refused_container wanted (errors.DigestDiffers name want got) = refused (refusals.DigestDiffers wanted.repo.tag name want got)
refused_container wanted (errors.BadFrame at) = refused (refusals.BadFrame (wanted_name wanted) at)
refused_container wanted (errors.FrameEntry name) = refused (refusals.FrameEntry name)
refused_container wanted errors.ShelfFault = finished
refused_container wanted errors.SinkFault = finished
refused_container wanted errors.NoMemory = finished

-- a run over the files of a container, where it is taken
abbrev pub over_container : Wanted → (List (Name × List ℕ) → Run) → Result (List (Name × List ℕ)) FetchError → Run
over_container wanted go (Ok files) = go files
over_container wanted go (Err error) = refused_container wanted error

-- a run over the files of containers that are fetched one after the other, behind some files
abbrev pub over_containers : List Volume → List Wanted → (List (Name × List ℕ) → Run) → List (Name × List ℕ) → Run
over_containers volumes [] go files = go files
over_containers volumes (wanted ∷ more) go files =
    over_container wanted (λ own. over_containers volumes more go (files ++ own)) (files_wanted volumes wanted)

-- the run that makes a step of a tree with these entries, the later files of which are fetched, and then goes on over the next tree
abbrev pub filling : List Volume → List Wanted → List Object → List Part → List ℕ → (Volume → Run) → Volume → Run
filling volumes all db parts label rest tree =
    changing_entries db parts (over_containers volumes all (λ files.
    followed (Step (changed db (filled files parts) tree) label ∷ []) (rest (changed db (filled files parts) tree))) [])

-- the files that containers have to hold are those of a change whose bytes come later, each once
pub record AreLater (parts : List Part) (all : List Wanted) : Type 0 where
  pub apart : IsDistinct same_name (all_paths all)
  pub same : (path : Name) → has_name path (all_paths all) ≡ has_name path (later parts)

-- a step was made of a tree with the files of containers
pub record FillsStep (shelf_tells tells : Bool) (volumes : List Volume) (all : List Wanted) (parts : List Part) (label : List ℕ) (old new : Planted) : Type 0 where
  pub files : List (Name × List ℕ)
  pub fetched : WereFetched shelf_tells volumes all [] files
  pub steps : Steps tells (filled files parts) label old new

-- the counts of a command that is given a shelf with so many faults and no input
abbrev pub beside_shelf : ℕ → Faults
beside_shelf faults = record { shelf = faults; input = 0 }
