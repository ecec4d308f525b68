-- The run of words whose fault or command is known, and what it reads.
use Rattle.std.proofs.Common.{◌≡◌, ℕ, Bool, true, false, not, ◌&&◌, ◌||◌, List, [], ◌∷◌, Option, Some, None, refl, ◌∙◌, ap, subst}
use Rattle.std.specs.Prelude.{option_map, IsTrue}
use Rattle.tl_model.specs.Volume.{Volume}
use Rattle.tl_model.specs.Devices.{Outside}
use Rattle.tl_action.specs.declared.action_name.ActionName.{ActionName}
use Rattle.tl_action.specs.declared.command.Action.{Action}
use Rattle.tl_action.specs.declared.command.Command.{Command}
use Rattle.tl_action.specs.declared.command.Repository.{Repository}
use Rattle.tl_words.specs.declared.faults.Fault.{Fault}
use Rattle.tl_words.specs.Parts.{Part}
use Rattle.tl_words.specs.Faults.{program_parts, plains}
use Rattle.tl_words.specs.Commands.{first_action, first_word, action_of, HasRoot, IsCommandOf}
use Rattle.tl_refusal.specs.declared.refusal.Refusal.TheVariants.{BadWords, BadJournal}
use Rattle.tl_command.specs.Runs.{refused}
use Rattle.tl_command.specs.Whole.{journal_place}
use Rattle.tl_tool.specs.Commands.{built_actions, program_fault, command_with, command_at, act_of, act_at, by_words, run_of, run_without, reads_repositories, reads_input, tells_all, tells_at, command_by, tells_for}

-- words without a fault
pub run_of-command : (words : List (List ℕ)) (command : Command) (outside : Outside) (tree : Volume) → program_fault words ≡ None → command_at words ≡ Some command → run_of words outside tree ≡ act_of command outside tree
unfolding run_of
run_of-command words command outside tree none is =
    ap (λ (f : Option Fault). by_words f (act_at (command_at words) outside tree)) none ∙ ap (λ (c : Option Command). act_at c outside tree) is

pub run_without-command : (words : List (List ℕ)) (volume : Volume) → program_fault words ≡ None → run_without words volume ≡ refused (BadJournal (journal_place volume))
unfolding run_without
run_without-command words volume none = ap (λ (f : Option Fault). by_words f (refused (BadJournal (journal_place volume)))) none

-- words with a fault
pub run_of-fault : (words : List (List ℕ)) (fault : Fault) (outside : Outside) (tree : Volume) → program_fault words ≡ Some fault → run_of words outside tree ≡ refused (BadWords fault.at fault.kind)
unfolding run_of
run_of-fault words fault outside tree is = ap (λ (f : Option Fault). by_words f (act_at (command_at words) outside tree)) is

pub run_without-fault : (words : List (List ℕ)) (fault : Fault) (volume : Volume) → program_fault words ≡ Some fault → run_without words volume ≡ refused (BadWords fault.at fault.kind)
unfolding run_without
run_without-fault words fault volume is = ap (λ (f : Option Fault). by_words f (refused (BadJournal (journal_place volume)))) is

-- where all that the command of words without a fault reads tells what it holds
pub tells-command : (words : List (List ℕ)) (command : Command) (shelf input host : Bool) → program_fault words ≡ None → command_at words ≡ Some command → IsTrue (tells_for words shelf input host)
    → IsTrue (tells_all command.action shelf input host)
unfolding tells_for
tells-command words command shelf input host none is told = subst (λ (c : Option Command). IsTrue (tells_at c shelf input host))
    (ap (λ (f : Option Fault). command_by f (command_at words)) none ∙ is) told

both : (a b : Bool) → (a && b) ≡ true → (a ≡ true) × (b ≡ true)
both true b is = (refl, is)
both false b is = absurd (cc)

-- where all that the command of words reads tells what it holds, the host does
pub tells-host : (words : List (List ℕ)) (shelf input host : Bool) → IsTrue (tells_for words shelf input host) → IsTrue host
unfolding tells_for
tells-host words shelf input host tells = by (command_by (program_fault words) (command_at words)) tells
  where
    by : (command : Option Command) → IsTrue (tells_at command shelf input host) → IsTrue host
    by None told = told
    by (Some command) told =
        let parts = both (not (reads_repositories command.action) || shelf) ((not (reads_input command.action) || input) && host) told in
        (both (not (reads_input command.action) || input) host parts.1).1

commanding : List ℕ → List Repository → ℕ → Action → Option (List ℕ) → Bool → Command
commanding root repositories workers action user formats = record { root = root; repositories = repositories; workers = workers; action = action; user = user; formats = formats }

rebuilt : (command : Command) → commanding command.root command.repositories command.workers command.action command.user command.formats ≡ command
unfolding commanding
rebuilt command = refl

-- the command that was read is the one that the words ask for
pub command_at-read : (words : List (List ℕ)) (command : Command) → HasRoot words command → IsCommandOf built_actions (program_parts words) command → command_at words ≡ Some command
command_at-read words command root says = by (first_action built_actions (plains all)) says.action
  where
    all : List Part
    all = program_parts words

    rooted : (words : List (List ℕ)) → HasRoot words command → command.root ≡ first_word words
    rooted [] is = elim is [ ]
    rooted (word ∷ words) is = is

    made : (name : ActionName) → action_of all name ≡ command.action → commanding (first_word words) (command_with (first_word words) all name).repositories (command_with (first_word words) all name).workers
        (action_of all name) (command_with (first_word words) all name).user (command_with (first_word words) all name).formats ≡ command
    made name is = let here = rooted words root in cc (here, is, says.repositories, says.workers, says.user, says.formats, rebuilt command)

    by : (found : Option ActionName) → option_map (action_of all) found ≡ Some command.action → option_map (command_with (first_word words) all) found ≡ Some command
    by None is = absurd (cc)
    by (Some name) is = ap Some (unfold commanding in made name (cc))
