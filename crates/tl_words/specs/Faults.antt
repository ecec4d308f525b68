-- Where a list of words fails to be a command.
use Rattle.std.specs.Prelude.{ℕ, ◌+◌, ◌==◌, ◌&&◌, ◌||◌, Bool, true, false, not, if◌then◌else◌, List, [], ◌∷◌, length, Option, Some, None, nat_lt}
use Rattle.tl_words.specs.declared.error.WordKind.TheVariants as kinds
use Rattle.tl_words.specs.declared.faults.Fault.{Fault}
use Rattle.tl_action.specs.declared.table.OptionName.{OptionName}
use Rattle.tl_action.specs.declared.table.OptionName.TheVariants.{Usertree, Usermode, Local, All}
use Rattle.tl_action.specs.declared.action_name.ActionName.{ActionName}
use Rattle.tl_action.specs.Table.{action_named_among, goes_with, is_unfit_for_users, is_for_users, needs_local, operands_of, is_served}
use Rattle.tl_words.specs.Parts.{Part, given, plain, parts}
use Rattle.tl_words.specs.Order.{fault, or_else, earlier}
use Rattle.tl_words.specs.Settings.{options_fault, repositories_of, has_option, is_option}
use Rattle.tl_words.specs.Operands.{operands_fault}

-- the first word past the limits: 4,096 words of 65,536 bytes each
abbrev pub size_fault : ℕ → List (List ℕ) → Option Fault
size_fault at [] = None
size_fault at (word ∷ words) = if at == 4096 || nat_lt 65536 (length word) then Some (fault kinds.Number at)
    else size_fault (at + 1) words

-- the words that are no options, with their places
abbrev pub plains : List Part → List (ℕ × List ℕ)
plains [] = []
plains (plain at word ∷ others) = (at, word) ∷ plains others
plains (given at option value ∷ others) = plains others

-- whether an option is refused: it doesn't go with the action, or not with `usermode`, or not without it
abbrev pub is_foreign : ActionName → Bool → Option OptionName → Bool
is_foreign action usermode None = true
is_foreign action usermode (Some option) = not (goes_with action option)
    || (if usermode then is_unfit_for_users option else is_for_users option)

-- the first option that is refused
abbrev pub foreign_fault : ActionName → Bool → List Part → Option Fault
foreign_fault action usermode [] = None
foreign_fault action usermode (plain at word ∷ others) = foreign_fault action usermode others
foreign_fault action usermode (given at option value ∷ others) =
    if is_foreign action usermode option then Some (fault kinds.Option at) else foreign_fault action usermode others

-- `usermode` needs `usertree`; the fault stands at the words' end
abbrev pub user_fault : ℕ → List Part → Option Fault
user_fault end all = if has_option Usermode all && not (has_option Usertree all) then Some (fault kinds.Value end) else None

-- an action may need the flag `local`; the fault stands at the words' end
abbrev pub required_fault : ActionName → ℕ → List Part → Option Fault
required_fault action end all = if needs_local action && not (has_option Local all) then Some (fault kinds.Option end) else None

-- the first fault of the options with an action
abbrev pub flags_fault : ActionName → ℕ → List Part → Option Fault
flags_fault action end all = or_else (foreign_fault action (has_option Usermode all) all)
    (or_else (user_fault end all) (required_fault action end all))

-- too few or too many repositories for an action, which stands at the words' end; a session's line has none of its own
abbrev pub repository_fault : Bool → ActionName → ℕ → ℕ → Option Fault
repository_fault in_session action end count = if in_session || is_served action count then None else Some (fault kinds.Repository end)

-- the first fault of a known action's words: one of the options, of the operands, of the repositories
abbrev pub asked_fault : Bool → ActionName → ℕ → List Part → List (ℕ × List ℕ) → Option Fault
asked_fault in_session action end all operands = or_else (flags_fault action end all)
    (or_else (operands_fault (operands_of action (has_option All all)) end operands)
    (repository_fault in_session action end (length (repositories_of all))))

-- the first fault of an action's words; the action may be unknown
abbrev pub known_fault : Bool → Option ActionName → ℕ → ℕ → List Part → List (ℕ × List ℕ) → Option Fault
known_fault in_session None at end all operands = Some (fault kinds.Action at)
known_fault in_session (Some action) at end all operands = asked_fault in_session action end all operands

-- the first fault of the action and what goes with it; `end` is the number of words
abbrev pub action_fault : List ActionName → Bool → ℕ → List Part → List (ℕ × List ℕ) → Option Fault
action_fault on in_session end all [] = Some (fault kinds.Action end)
action_fault on in_session end all (first ∷ operands) = known_fault in_session (action_named_among on first.1) first.0 end all operands

-- the first fault of words, where some actions are on: one at the least place among those of options and of sizes, else one of the action
abbrev pub command_fault : List ActionName → Bool → List (List ℕ) → List Part → Option Fault
command_fault on in_session words all =
    or_else (earlier (options_fault [] all) (size_fault 0 words)) (action_fault on in_session (length words) all (plains all))

-- the parts of the program's words, of which the first is the root
abbrev pub program_parts : List (List ℕ) → List Part
program_parts [] = []
program_parts (root ∷ words) = parts false None false 1 words

-- the first fault of the program's words, where some actions are on: there is no root, or one of the command
abbrev pub words_fault : List ActionName → List (List ℕ) → Option Fault
words_fault on [] = Some (fault kinds.Root 0)
words_fault on (root ∷ words) = command_fault on false (root ∷ words) (program_parts (root ∷ words))

-- the parts of the words of a session's line
abbrev pub session_parts : List (List ℕ) → List Part
session_parts words = parts true None false 0 words

-- the first fault of the words of a session's line, where some actions are on
abbrev pub session_fault : List ActionName → List (List ℕ) → Option Fault
session_fault on words = command_fault on true words (session_parts words)

-- the fault of words that may not have this option: it stands at its first place
abbrev pub forbidden_fault : OptionName → List Part → Option Fault
forbidden_fault this [] = None
forbidden_fault this (plain at word ∷ others) = forbidden_fault this others
forbidden_fault this (given at option value ∷ others) = if is_option this option then Some (fault kinds.Option at) else forbidden_fault this others
