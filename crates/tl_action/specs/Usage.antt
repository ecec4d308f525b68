-- The text that says how the program is called.
use Rattle.std.specs.Prelude.{ℕ, ◌++◌, false, not, if◌then◌else◌, List, [], codes}
use Rattle.std.specs.List.{flat_map}
use Rattle.tl_action.specs.declared.table.OptionName.{OptionName}
use Rattle.tl_action.specs.declared.table.OptionName.TheVariants as options
use Rattle.tl_action.specs.declared.action_name.ActionName.{ActionName}
use Rattle.tl_action.specs.declared.action_name.ActionName.TheVariants.{DumpTlpdb, Info, Search, Candidates, Check, Install, Update, Remove, Backup, Restore, Setting, Pinning, Expand, Edit, Build, Mirror, Lsr, Which, Shell, GenerateMaster}
use Rattle.tl_action.specs.Table.{option_text, action_text, is_own, needs_local, known_options}

-- what stands for an option's value
abbrev pub value_text : OptionName → List ℕ
value_text options.Repository = codes "=[TAG=]DIR"
value_text options.Workers = codes "=N"
value_text options.Usertree = codes "=DIR"
value_text _ = []

-- an option in the line of an action: with brackets where it may be left out, and nothing where it isn't the action's own
abbrev pub option_usage : ActionName → OptionName → List ℕ
option_usage action option = if not (is_own action option) then []
    else (if needs_local action then codes " -" ++ option_text option
    else codes " [-" ++ option_text option ++ value_text option ++ codes "]")

-- the operands of an action in its line
abbrev pub operands_text : ActionName → List ℕ
operands_text Info = codes " [NAME]"
operands_text Search = codes " WORD"
operands_text Candidates = codes " NAME"
operands_text Check = codes " files|depends|duplicates|executes|all"
operands_text Install = codes " NAME.."
operands_text Update = codes " [NAME..]"
operands_text Remove = codes " NAME.."
operands_text Backup = codes " [NAME..]"
operands_text Restore = codes " [NAME [REV]]"
operands_text Setting = codes " [OPTION [VALUE..]]"
operands_text Pinning = codes " show|add TAG GLOB..|remove TAG [GLOB..]"
operands_text Expand = codes " NAME"
operands_text Which = codes " FILE"
operands_text GenerateMaster = codes " N"
operands_text _ = []

-- what an action does, in a line
abbrev pub effect_text : ActionName → List ℕ
effect_text DumpTlpdb = codes "Says the text of the local database."
effect_text Info = codes "Says what is known of a package, or which packages there are."
effect_text Search = codes "Says the packages that have a word in their name or description."
effect_text Candidates = codes "Says which repositories have a package."
effect_text Check = codes "Says what is wrong in the tree."
effect_text Install = codes "Installs packages."
effect_text Update = codes "Updates packages."
effect_text Remove = codes "Removes packages."
effect_text Backup = codes "Backs packages up."
effect_text Restore = codes "Says which backups there are, or brings one back."
effect_text Setting = codes "Says the options of the tree, or sets one."
effect_text Pinning = codes "Says or changes the pins."
effect_text Expand = codes "Says the objects of a source."
effect_text Edit = codes "Changes sources and files by the lines of the input."
effect_text Build = codes "Publishes the repository."
effect_text Mirror = codes "Copies a repository."
effect_text Lsr = codes "Writes the list of the tree's files."
effect_text Which = codes "Says where files of a name stand."
effect_text Shell = codes "Carries out the commands of the input's lines."
effect_text GenerateMaster = codes "Makes packages for trials, from 1 to 1000."

-- the lines of an action
abbrev pub action_usage : ActionName → List ℕ
action_usage action = codes "  " ++ action_text action ++ flat_map (option_usage action) (known_options false)
    ++ operands_text action ++ codes "\n      " ++ effect_text action ++ codes "\n"

-- how the program is called, where some actions are on: each of them, and the options that go with every action
abbrev pub usage_text : List ActionName → List ℕ
usage_text on = codes "Usage: texlive ROOT ACTION [OPTION..] [OPERAND..]\n\nActions:\n" ++ flat_map action_usage on
    ++ codes "\nOptions of every action:\n"
    ++ codes "  -repository=[TAG=]DIR\n      A repository's folder; the tag is main where none is given.\n"
    ++ codes "  -workers=N\n      How many workers, 1 to 64; 4 where it isn't given.\n"
