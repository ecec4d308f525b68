-- The action of a word is one of those that are on.
use Rattle.std.proofs.Common.{◌≡◌, ℕ, Bool, true, false, cond, ◌||◌, List, [], ◌∷◌, Option, Some, None, option_map, refl, ap, sym, ◌∙◌, subst, bytes_eq, Result, Ok, Err, IfOk}
use Rattle.std.proofs.lemmas.Slice.Eq.{bytes_eq-Decides}
use Rattle.tl_action.specs.declared.action_name.ActionName.{ActionName}
use Rattle.tl_action.specs.declared.action_name.ActionName.TheVariants.{DumpTlpdb, Info, Search, Candidates, Check, Install, Update, Remove, Backup, Restore, Setting, Pinning, Expand, Edit, Build, Mirror, Lsr, Which, Shell, GenerateMaster}
use Rattle.tl_action.specs.declared.table.OptionName.{OptionName}
use Rattle.tl_action.specs.declared.command.Action.{Action}
use Rattle.tl_action.specs.declared.command.Command.{Command}
use Rattle.tl_words.specs.declared.error.WordsError.{WordsError}
use Rattle.tl_words.specs.Settings.{has_option}
use Rattle.tl_action.specs.Table.{action_text, action_named_among, is_on}
use Rattle.tl_words.specs.Parts.{Part}
use Rattle.tl_words.specs.Faults.{plains}
use Rattle.tl_words.specs.Commands.{first_action, later_words, unplaced, action_with, action_of, IsCommandOf}
use Rattle.tl_action.specs.Actions.{action_name}

same_text : (text : List ℕ) → bytes_eq text text ≡ true
same_text text = (bytes_eq-Decides text text).1 refl

or_true : (b : Bool) → (b || true) ≡ true
or_true true = refl
or_true false = refl

-- the action of a word is on
named_on : (on : List ActionName) (word : List ℕ) (name : ActionName) → action_named_among on word ≡ Some name → is_on on name ≡ true
named_on [] word name is = absurd (cc)
named_on (first ∷ on) word name is = step (bytes_eq (action_text first) word) (λ found. named_on on word name found) is
  where
    step : (b : Bool) → (action_named_among on word ≡ Some name → is_on on name ≡ true)
        → cond b (Some first) (action_named_among on word) ≡ Some name → is_on (first ∷ on) name ≡ true
    step true more found =
        let one : first ≡ name = cc in
        subst (λ (other : ActionName). (bytes_eq (action_text first) (action_text other) || is_on on other) ≡ true) one
        (ap (λ (b : Bool). b || is_on on first) (same_text (action_text first)))
    step false more found =
        ap (λ (b : Bool). bytes_eq (action_text first) (action_text name) || b) (more found)
        ∙ or_true (bytes_eq (action_text first) (action_text name))

-- an action that is read from words has the name that they ask for
name_of : (has : OptionName → Bool) (words : List (List ℕ)) (name : ActionName) → action_name (action_with has words name) ≡ name
name_of has words DumpTlpdb = refl
name_of has words Info = refl
name_of has words Search = refl
name_of has words Candidates = refl
name_of has words Check = refl
name_of has words Install = refl
name_of has words Update = refl
name_of has words Remove = refl
name_of has words Backup = refl
name_of has words Restore = refl
name_of has words Setting = refl
name_of has words Pinning = refl
name_of has words Expand = refl
name_of has words Edit = refl
name_of has words Build = refl
name_of has words Mirror = refl
name_of has words Lsr = refl
name_of has words Which = refl
name_of has words Shell = refl
name_of has words GenerateMaster = refl

found_on : (on : List ActionName) (all : List Part) (action : Action) (word : List ℕ) (asked : Option ActionName)
    → action_named_among on word ≡ asked → option_map (action_of all) asked ≡ Some action → is_on on (action_name action) ≡ true
found_on on all action word None named has = absurd (cc)
found_on on all action word (Some name) named has =
    let one : action_of all name ≡ action = cc in
    subst (λ (other : Action). is_on on (action_name other) ≡ true) one
    (subst (λ (other : ActionName). is_on on other ≡ true)
    (sym (name_of (λ option. has_option option all) (later_words (unplaced (plains all))) name)) (named_on on word name named))

-- the action of a command is on
action_on : (on : List ActionName) (all : List Part) (action : Action) (words : List (ℕ × List ℕ))
    → option_map (action_of all) (first_action on words) ≡ Some action → is_on on (action_name action) ≡ true
action_on on all action [] has = absurd (cc)
action_on on all action (first ∷ others) has = found_on on all action first.1 (action_named_among on first.1) refl has

-- so is that of a command that was read
pub read_on : (on : List ActionName) (all : List Part) (result : Result Command WordsError)
    → IfOk result (IsCommandOf on all) → IfOk result (λ command. is_on on (action_name command.action) ≡ true)
read_on on all (Ok command) is = action_on on all command.action (plains all) is.action
read_on on all (Err error) is = tt
