-- What `lsr` says and does.
use Rattle.std.specs.Prelude.{ℕ, List, [], ◌∷◌, codes, length, Option, Some, None}
use Rattle.std.specs.FinMap.{keys}
use Rattle.tl_model.specs.Volume.{Name, Volume}
use Rattle.tl_kind.specs.declared.quantity.What.TheVariants.{Database, Files}
use Rattle.tl_entry.specs.declared.object.Object.{Object}
use Rattle.tl_lsr.specs.Lists.{list_path, lsr_text}
use Rattle.tl_tree.specs.declared.change.Part.TheVariants.{Write}
use Rattle.tl_refusal.specs.declared.refusal.Refusal.TheVariants.{Owned, Occupied}
use Rattle.tl_command.specs.Runs.{Run, finished, refused, limited, stepping}
use Rattle.tl_publish.specs.Listable.{listable, occupant}
use Rattle.tl_publish.specs.Owning.{list_owner}

-- the line that acknowledges the list
abbrev pub lsr_label : List ℕ
lsr_label = codes "step 1/1 lsr done\n"

-- the run that writes the list in one step, where its text is within the limit
abbrev pub writing_run : List ℕ → List Object → Volume → Run
writing_run text db tree = limited Database (length text) (stepping db (Write list_path text ∷ []) lsr_label finished tree)

-- a run, unless a name stands below the list
abbrev pub unless_occupied : Option Name → Run → Run
unless_occupied None run = run
unless_occupied (Some path) run = refused (Occupied path)

-- a run, unless an entry has a file that is the list, or above or below it
abbrev pub unless_owned : Option Name → Run → Run
unless_owned None run = run
unless_owned (Some owner) run = refused (Owned list_path owner)

-- a run over the names of a tree, where there are no more than the limit
abbrev pub over_names : (List Name → Run) → Volume → Run
over_names go tree = limited Files (length (keys tree)) (go (keys tree))

-- the run that lists some names
abbrev pub names_run : List Object → Volume → List Name → Run
names_run db tree names = unless_occupied (occupant names) (writing_run (lsr_text (listable names)) db tree)

-- the run of `lsr` over a tree with these entries
abbrev pub lsr_run : Volume → List Object → Run
lsr_run tree db = unless_owned (list_owner db) (over_names (names_run db tree) tree)
