-- What a plan that isn't made answers, and how the command goes on behind an offer.
use Rattle.std.proofs.Common.{◌≡◌, Bool, IsTrue, List, [], Result, Err, sym, ◌∙◌, ap}
use Rattle.tl_model.specs.Seen.{Seen}
use Rattle.tl_model.specs.Volume.{Volume}
use Rattle.tl_db.specs.declared.repo.Repo.{Repo}
use Rattle.tl_pin.specs.declared.line.PinLine.{PinLine}
use Rattle.tl_action.specs.declared.command.Repository.{Repository}
use Rattle.tl_tree.specs.Planted.{Planted}
use Rattle.tl_command.specs.declared.ending.Ending.{Ending}
use Rattle.tl_command.specs.Endings.{Faults}
use Rattle.tl_command.specs.Loaded.{Loads}
use Rattle.tl_command.specs.Performs.{Performs}
use Rattle.tl_command.specs.Runs.{Run}
use Rattle.tl_command.proofs.Joins.{advances_fewer, performs_quiet, performs_same}
use Rattle.tl_coming.specs.Asked.{Answers, IsFree}
use Rattle.tl_coming.specs.declared.error.ComingError.{ComingError}
use Rattle.tl_coming.specs.declared.error.ComingError.TheVariants as errors
use Rattle.tl_offer.specs.Offered.{LoadsOffer, offering, repos_of}
use Rattle.tl_offer.specs.Pinned.{over_read}

-- an error that isn't free is the one that is given
pub answered : {X Y : Type 0} (view : X → Y) (error : ComingError) (given : Result Y ComingError) → (IsFree error → ⊥) → Answers view (Err error) given → given ≡ Err error
answered view (errors.Protected name) given bound is = is
answered view (errors.NotInstalled name) given bound is = is
answered view (errors.UnknownPackage name) given bound is = is
answered view (errors.BadExecute name at kind) given bound is = is
answered view (errors.Reserved path) given bound is = is
answered view (errors.Clash path first second) given bound is = is
answered view (errors.Owned path owner) given bound is = is
answered view (errors.TooLarge what limit) given bound is = is
answered view (errors.Occupied path) given bound is = is
answered view errors.HostFault given bound is = absurd (bound tt)
answered view errors.NoMemory given bound is = absurd (bound tt)

-- what is left of a command behind the pins and the repositories
pub performs_offered : {T : Type 0} (tells : Bool) (seen : T → Seen) (repositories : List Repository) (volumes : List Volume) (old new : Planted) (pins : List PinLine) (repos : List Repo) (before after : Faults) (ending : Ending) (state : Result Seen T)
    (go : Volume → List PinLine → List Repo → Run) → LoadsOffer tells repositories volumes old new pins repos → Performs tells seen (λ t. go t pins repos) 0 new.seen before after ending state
    → Performs tells seen (λ t. offering repositories volumes (go t) t) 0 old.seen before after ending state
performs_offered tells seen repositories volumes old new pins repos before after ending state go loads near =
    performs_same tells seen 0 old.seen before after ending state (λ t. go t pins repos) (λ t. offering repositories volumes (go t) t)
    (λ t tree stood. sym (ap (over_read (λ ps. over_read (go tree ps) (repos_of repositories volumes))) (loads.pinned t tree stood) ∙ ap (over_read (go tree pins)) (loads.loaded t)))
    (performs_quiet tells seen 0 old.seen before after ending state (λ t. go t pins repos) new.seen loads.quiet near)

-- a tree that was loaded, as fewer devices tell
pub loads_fewer : (fewer more : Bool) → (IsTrue fewer → IsTrue more) → (first : Seen) (loaded : Planted) → Loads more first loaded → Loads fewer first loaded
loads_fewer fewer more told first loaded loads = record {
  quiet = advances_fewer fewer more told (λ _. []) first loaded.seen loads.quiet;
  reads = λ t. loads.reads (told t);
}
