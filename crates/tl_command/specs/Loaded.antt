-- What the frame's calls give a command to go on with.
use Rattle.std.specs.Prelude.{◌≡◌, ◌≤◌, ℕ, Bool, List, [], ◌∷◌, length, Option, Some, IfSome}
use Rattle.tl_model.specs.Volume.{Name, Volume, at}
use Rattle.tl_model.specs.Acks.{IsPlain}
use Rattle.tl_model.specs.Seen.{Seen, Told}
use Rattle.tl_model.specs.Trace.{Step}
use Rattle.tl_kind.specs.Quantities.{limit_of}
use Rattle.tl_kind.specs.declared.quantity.What.{What}
use Rattle.tl_journal_text.specs.Stand.{stand, tree_of}
use Rattle.tl_db.specs.Reading.{IsRead}
use Rattle.tl_db.specs.Canonical.{IsRewritten}
use Rattle.tl_journal.specs.Spent.{Stages}
use Rattle.tl_tree.specs.Planted.{Planted, database_text}
use Rattle.tl_tree.specs.Opened.{Opened, begun, given}
use Rattle.tl_tree.specs.Changes.{entries_after, changed}
use Rattle.tl_tree.specs.Answers.{IsAllowed}
use Rattle.tl_tree.specs.Packages.{ReplacesWhole}
use Rattle.tl_tree.specs.declared.change.Part.{Part}
use Rattle.tl_command.specs.Performs.{Advances}

-- a tree was loaded: nothing else was done, and where the host tells, its entries are what the database reads as
pub record Loads (tells : Bool) (first : Seen) (loaded : Planted) : Type 0 where
  pub quiet : Advances tells (λ _. []) first loaded.seen
  pub reads : Told tells ((tree : Volume) → stand first.present.held ≡ Some tree → IsRead (database_text tree) loaded.db)

-- a file of a tree was read: nothing else was done, and the entries stay; where the host tells, the file holds what was found. It has no
-- more bytes than the quantity may have
pub record Reads (tells : Bool) (what : What) (path : Name) (old new : Planted) (found : Option (List ℕ)) : Type 0 where
  pub quiet : Advances tells (λ _. []) old.seen new.seen
  pub db : new.db ≡ old.db
  pub holds : Told tells ((tree : Volume) → stand old.seen.present.held ≡ Some tree → at tree path ≡ found)
  pub within : IfSome found (λ bytes. length bytes ≤ limit_of what)

-- a database was brought into canonical form: nothing else was done, and where the host tells, the text is that of what the database
-- reads as; it has no acknowledged line
pub record Rewrites (tells : Bool) (first last : Seen) (written : List ℕ) : Type 0 where
  pub quiet : Advances tells (λ _. []) first last
  pub text : Told tells ((tree : Volume) → stand first.present.held ≡ Some tree → IsRewritten (database_text tree) written)
  pub plain : IsPlain written

-- a step was made of a tree: the database that it leaves is within its limits, and where the host tells, packages were replaced whole
pub record Steps (tells : Bool) (parts : List Part) (label : List ℕ) (old new : Planted) : Type 0 where
  pub made : Advances tells (λ tree. Step (changed old.db parts tree) label ∷ []) old.seen new.seen
  pub db : new.db ≡ entries_after parts old.db
  pub allowed : IsAllowed old parts
  pub packages : Told tells (ReplacesWhole old.db parts (tree_of old.seen.present.held) new.db (tree_of new.seen.present.held))

-- a step of a tree was opened: the database that it will leave is within its limits, no file of it has been given yet, and nothing else was
-- done; where the host tells, the volume stands for its tree, and each picture since for the same
pub record Opens (tells : Bool) (parts : List Part) (label : List ℕ) (old : Planted) (step : Opened) : Type 0 where
  pub begins : step ≡ begun old parts label step.seen
  pub given_none : Told tells (given step ≡ [])
  pub allowed : IsAllowed old parts
  pub stands : Told tells (stand old.seen.present.held ≡ Some (tree_of old.seen.present.held))
  pub stages : Told tells (Stages old.seen step.seen)
  pub later : old.seen.faults ≤ step.seen.faults
