-- What a call that spends its state leaves, whichever way it ended.
use Rattle.std.specs.Prelude.{◌≡◌, ◌≤◌, ◌+◌, None, Some, Result}
use Rattle.tl_model.specs.Left.{left}
use Rattle.tl_model.specs.Seen.{Seen, Since}
use Rattle.tl_journal_text.specs.Slots.{open_slot}
use Rattle.tl_journal_text.specs.Records.{after}
use Rattle.tl_journal_text.specs.Stand.{tree_of, stand, Stays, IsBeforeOrAfter, IsResumed}
use Rattle.tl_journal.specs.States.{Writes, IsStaged, IsCommitted, IsRested, IsPending, pending, staged}
use Rattle.tl_journal.specs.Touching.{TouchesOnly}
use Rattle.tl_journal.specs.declared.lost.Lost.{Lost}
use Rattle.tl_journal.specs.declared.recovery.Recovered.{Recovered}

-- the host that a call leaves: that of the next state, or the one that its error hands back
abbrev pub left_by : {H E : Type 0} → (H → Seen) → Result Seen (Lost H E) → Seen
left_by {H} {E} seen result = left (λ (state : Seen). state) (λ (lost : Lost H E). seen lost.host) result

-- the same of a write in pieces
abbrev pub left_writing : {H E : Type 0} → (H → Seen) → Result Writes (Lost H E) → Seen
left_writing {H} {E} seen result = left (λ (state : Writes). state.seen) (λ (lost : Lost H E). seen lost.host) result

-- the same of a recovery
abbrev pub left_recovered : {H E : Type 0} → (H → Seen) → Result (Recovered H) (Lost H E) → Seen
left_recovered {H} {E} seen result = left (λ (state : Recovered H). state.journal) (λ (lost : Lost H E). seen lost.host) result

-- what each call that stages keeps: the tree stays, and what each picture stands for; it touches the body that is being written
-- alone, and doesn't sync
pub record Stages (old new : Seen) : Type 0 where
  pub tree : tree_of new.present.held ≡ tree_of old.present.held
  pub stays : Stays old new
  pub touches : TouchesOnly (IsStaged (open_slot old.present.held)) old new
  pub syncs : new.syncs ≡ old.syncs

-- what a commit keeps: it says nothing, each picture stands for the tree or for the tree with the records that were staged, it
-- touches no more than its names, and syncs twice at most
pub record Commits (old new : Seen) : Type 0 where
  pub said : new.present.said ≡ old.present.said
  pub pictures : Since old new (IsBeforeOrAfter (staged old) old)
  pub touches : TouchesOnly (IsCommitted (open_slot old.present.held)) old new
  pub syncs : new.syncs ≤ old.syncs + 2

-- the records that were staged are made stable: each picture from now on stands for the tree with them
pub record HasCommitted (old new : Seen) : Type 0 where
  pub stands : stand new.present.held ≡ Some (after (staged old) (tree_of old.present.held))
  pub records : pending new.present.held ≡ staged old
  pub rests : Stays new new

-- what carrying records out keeps: what each picture stands for; it touches their names alone, and doesn't sync
pub record CarriesOut (old new : Seen) : Type 0 where
  pub stays : Stays old new
  pub touches : TouchesOnly (IsPending old.present.held) old new
  pub syncs : new.syncs ≡ old.syncs

-- what coming to rest keeps: the tree stays, and what each picture stands for; it touches the gate and the body at which it
-- isn't open alone, and syncs twice at most
pub record Rests (old new : Seen) : Type 0 where
  pub tree : tree_of new.present.held ≡ tree_of old.present.held
  pub stays : Stays old new
  pub touches : TouchesOnly (IsRested (open_slot old.present.held)) old new
  pub syncs : new.syncs ≤ old.syncs + 2

-- what a recovery keeps: what the volume stands for; nothing is said; each picture stands for the same or could be left before;
-- it touches names of the records alone, syncs once at most, and changes no name where the volume stands for nothing
pub record Resumes (old new : Seen) : Type 0 where
  pub stands : stand new.present.held ≡ stand old.present.held
  pub said : new.present.said ≡ old.present.said
  pub pictures : Since old new (IsResumed old)
  pub touches : TouchesOnly (IsPending old.present.held) old new
  pub syncs : new.syncs ≤ old.syncs + 1
  pub kept : stand old.present.held ≡ None → new.present.held ≡ old.present.held
