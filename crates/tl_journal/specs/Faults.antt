-- What an answer of a recovery says.
use Rattle.std.specs.Prelude.{◌≡◌, Some, None}
use Rattle.tl_model.specs.Seen.{Seen}
use Rattle.tl_journal_text.specs.Stand.{stand, journal_fault}
use Rattle.tl_journal.specs.declared.resume.RecoverError.{RecoverError}
use Rattle.tl_journal.specs.declared.resume.RecoverError.TheVariants.{HostFault, BadJournal}

-- where the body isn't in the grammar the volume stands for nothing, the place is that of the first field that is cut or
-- wrong, and no name has changed
abbrev pub IsFault : Seen → Seen → RecoverError → Type 0
IsFault old new HostFault = Unit {0}
IsFault old new (BadJournal place) =
    (stand old.present.held ≡ None) × (journal_fault old.present.held ≡ Some place) × (new.present.held ≡ old.present.held)
