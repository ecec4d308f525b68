-- The command that words stand for.
use Rattle.std.specs.Prelude.{◌≡◌, ℕ, Bool, if◌then◌else◌, List, [], ◌∷◌, ◌++◌, Option, Some, None, option_map, unwrap_or, map, find, bytes_eq}
use Rattle.std.specs.List.{list_any}
use Rattle.tl_model.specs.Decimal.{decimal_value}
use Rattle.tl_path.specs.declared.kinds.Check.{Check}
use Rattle.tl_path.specs.declared.kinds.Check.TheVariants.{All as AllChecks}
use Rattle.tl_path.specs.Kinds.{check_word, all_checks}
use Rattle.tl_action.specs.declared.table.OptionName.{OptionName}
use Rattle.tl_action.specs.declared.table.OptionName.TheVariants as options
use Rattle.tl_action.specs.declared.action_name.ActionName.{ActionName}
use Rattle.tl_action.specs.declared.action_name.ActionName.TheVariants as names
use Rattle.tl_action.specs.declared.form.PinWord.{PinWord}
use Rattle.tl_action.specs.declared.form.PinWord.TheVariants as pins
use Rattle.tl_action.specs.declared.command.PinAction.{PinAction}
use Rattle.tl_action.specs.declared.command.PinAction.TheVariants.{Show, Add, Remove}
use Rattle.tl_action.specs.declared.command.Action.{Action}
use Rattle.tl_action.specs.declared.command.Action.TheVariants as actions
use Rattle.tl_action.specs.declared.command.Command.{Command}
use Rattle.tl_action.specs.Table.{action_named_among}
use Rattle.tl_words.specs.Parts.{Part}
use Rattle.tl_action.specs.Forms.{is_number_within, pin_word}
use Rattle.tl_words.specs.Settings.{repositories_of, workers_of, user_of, has_option}
use Rattle.tl_words.specs.Faults.{plains}

-- the action that the first word which is no option asks for, where some actions are on
abbrev pub first_action : List ActionName → List (ℕ × List ℕ) → Option ActionName
first_action on [] = None
first_action on (first ∷ operands) = action_named_among on first.1

-- some words without their places
abbrev pub unplaced : List (ℕ × List ℕ) → List (List ℕ)
unplaced words = map (λ placed. placed.1) words

-- the first of some words; none of them stands for an empty one
abbrev pub first_word : List (List ℕ) → List ℕ
first_word [] = []
first_word (word ∷ words) = word

-- the words behind the first
abbrev pub later_words : List (List ℕ) → List (List ℕ)
later_words [] = []
later_words (word ∷ words) = words

-- the first of some words, if there is one
abbrev pub may_word : List (List ℕ) → Option (List ℕ)
may_word [] = None
may_word (word ∷ words) = Some word

-- some words with one more, where it isn't among them
abbrev pub with_word : List (List ℕ) → List ℕ → List (List ℕ)
with_word kept word = if list_any (bytes_eq word) kept then kept else kept ++ word ∷ []

-- each of some words once, after others that are kept
abbrev pub distinct_after : List (List ℕ) → List (List ℕ) → List (List ℕ)
distinct_after kept [] = kept
distinct_after kept (word ∷ words) = distinct_after (with_word kept word) words

-- each of some words once, in its first place
abbrev pub distinct : List (List ℕ) → List (List ℕ)
distinct words = distinct_after [] words

-- the number that a text stands for, or 0 where it is none within the bounds
abbrev pub number_within : ℕ → ℕ → List ℕ → ℕ
number_within least most text = if is_number_within least most text then decimal_value text else 0

-- what a word says is to be checked; all of it where it says nothing
abbrev pub check_of : List ℕ → Check
check_of word = unwrap_or (find (λ check. bytes_eq (check_word check) word) all_checks) AllChecks

-- what is done with the pins: what the first word says, for a tag and globs
abbrev pub pins_by : Bool → Option PinWord → List (List ℕ) → PinAction
pins_by with_all (Some pins.Add) words = Add (first_word words) (distinct (later_words words))
pins_by with_all (Some pins.Remove) words = Remove (first_word words) (distinct (later_words words)) with_all
pins_by with_all _ words = Show

-- what the operands of `pinning` ask for
abbrev pub pins_of : Bool → List (List ℕ) → PinAction
pins_of with_all words = pins_by with_all (pin_word (first_word words)) (later_words words)

-- an action with its options and its operands
abbrev pub action_with : (OptionName → Bool) → List (List ℕ) → ActionName → Action
action_with has words names.DumpTlpdb = actions.DumpTlpdb (has options.Local)
action_with has words names.Info = actions.Info (may_word words)
action_with has words names.Search = actions.Search (first_word words)
action_with has words names.Candidates = actions.Candidates (first_word words)
action_with has words names.Check = actions.Check (check_of (first_word words))
action_with has words names.Install = actions.Install (distinct words) (has options.NoDepends) (has options.NoDependsAtAll) (has options.Reinstall)
action_with has words names.Update = actions.Update (distinct words) (has options.All) (has options.NoAutoInstall) (has options.NoAutoRemove) (has options.ReinstallForciblyRemoved)
action_with has words names.Remove = actions.Remove (distinct words) (has options.Force)
action_with has words names.Backup = actions.Backup (distinct words) (has options.All)
action_with has words names.Restore = actions.Restore (may_word words) (option_map (number_within 0 4294967295) (may_word (later_words words)))
action_with has words names.Setting = actions.Setting (may_word words) (later_words words)
action_with has words names.Pinning = actions.Pinning (pins_of (has options.All) words)
action_with has words names.Expand = actions.Expand (first_word words)
action_with has words names.Edit = actions.Edit
action_with has words names.Build = actions.Build
action_with has words names.Mirror = actions.Mirror
action_with has words names.Lsr = actions.Lsr
action_with has words names.Which = actions.Which (first_word words)
action_with has words names.Shell = actions.Shell
action_with has words names.GenerateMaster = actions.GenerateMaster (number_within 1 1000 (first_word words))

-- an action with the options and the operands among some parts
abbrev pub action_of : List Part → ActionName → Action
action_of all action = action_with (λ option. has_option option all) (later_words (unplaced (plains all))) action

-- what a command says of some parts, where some actions are on: the repositories in order, the workers, 4 where none are given,
-- the action with its options and operands, the folder of the user's tree, and whether formats are made
pub record IsCommandOf (on : List ActionName) (all : List Part) (command : Command) : Type 0 where
  pub repositories : command.repositories ≡ repositories_of all
  pub workers : command.workers ≡ workers_of 4 all
  pub action : option_map (action_of all) (first_action on (plains all)) ≡ Some command.action
  pub user : command.user ≡ user_of None all
  pub formats : command.formats ≡ has_option options.Formats all

-- the first word is the root
abbrev pub HasRoot : List (List ℕ) → Command → Type 0
HasRoot [] command = ⊥
HasRoot (root ∷ words) command = command.root ≡ root
