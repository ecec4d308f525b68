-- The options and actions that the program knows.
use Rattle.std.specs.Prelude.{ℕ, ◌==◌, Bool, true, false, cond, ◌||◌, not, if◌then◌else◌, List, [], ◌∷◌, codes, Option, find, bytes_eq}
use Rattle.std.specs.List.{list_any}
use Rattle.tl_action.specs.declared.table.OptionName.{OptionName}
use Rattle.tl_action.specs.declared.table.OptionName.TheVariants.{Repository, Workers, Usertree, Usermode, Local, All, Force, Formats, Reinstall, NoDepends, NoDependsAtAll, NoAutoInstall, NoAutoRemove, ReinstallForciblyRemoved}
use Rattle.tl_action.specs.declared.action_name.ActionName.{ActionName}
use Rattle.tl_action.specs.declared.action_name.ActionName.TheVariants.{DumpTlpdb, Info, Search, Candidates, Check, Install, Update, Remove, Backup, Restore, Setting, Pinning, Expand, Edit, Build, Mirror, Lsr, Which, Shell, GenerateMaster}
use Rattle.tl_action.specs.declared.expected.Expected.{Expected}
use Rattle.tl_action.specs.declared.expected.Expected.TheVariants.{Nothing, MayName, OneName, SomeNames, AnyNames, OneWord, OneCheck, OneComponent, OneCount, MayNameAndRevision, MayNameAndWords, Pins, PinsWithAll}

-- an option as it is written after its dashes
abbrev pub option_text : OptionName → List ℕ
option_text Repository = codes "repository"
option_text Workers = codes "workers"
option_text Usertree = codes "usertree"
option_text Usermode = codes "usermode"
option_text Local = codes "local"
option_text All = codes "all"
option_text Force = codes "force"
option_text Formats = codes "formats"
option_text Reinstall = codes "reinstall"
option_text NoDepends = codes "no-depends"
option_text NoDependsAtAll = codes "no-depends-at-all"
option_text NoAutoInstall = codes "no-auto-install"
option_text NoAutoRemove = codes "no-auto-remove"
option_text ReinstallForciblyRemoved = codes "reinstall-forcibly-removed"

-- whether two options are one: they are written alike
abbrev pub is_same_option : OptionName → OptionName → Bool
is_same_option option other = bytes_eq (option_text option) (option_text other)

-- whether an option takes a value
abbrev pub takes_value : OptionName → Bool
takes_value Repository = true
takes_value Workers = true
takes_value Usertree = true
takes_value _ = false

-- the options of a session's lines
unfoldable pub session_options : List OptionName
session_options = Workers ∷ Usertree ∷ Usermode ∷ Local ∷ All ∷ Force ∷ Formats ∷ Reinstall ∷ NoDepends ∷ NoDependsAtAll
    ∷ NoAutoInstall ∷ NoAutoRemove ∷ ReinstallForciblyRemoved ∷ []

-- the options that are known, in a session's line or among the program's words
abbrev pub known_options : Bool → List OptionName
known_options in_session = cond in_session session_options (Repository ∷ session_options)

-- the option of a name
abbrev pub option_named : Bool → List ℕ → Option OptionName
option_named in_session name = find (λ option. bytes_eq (option_text option) name) (known_options in_session)

-- an action as it is written
abbrev pub action_text : ActionName → List ℕ
action_text DumpTlpdb = codes "dump-tlpdb"
action_text Info = codes "info"
action_text Search = codes "search"
action_text Candidates = codes "candidates"
action_text Check = codes "check"
action_text Install = codes "install"
action_text Update = codes "update"
action_text Remove = codes "remove"
action_text Backup = codes "backup"
action_text Restore = codes "restore"
action_text Setting = codes "option"
action_text Pinning = codes "pinning"
action_text Expand = codes "expand"
action_text Edit = codes "edit"
action_text Build = codes "build"
action_text Mirror = codes "mirror"
action_text Lsr = codes "lsr"
action_text Which = codes "which"
action_text Shell = codes "shell"
action_text GenerateMaster = codes "generate-master"

-- the action of a word, where some are on
abbrev pub action_named_among : List ActionName → List ℕ → Option ActionName
action_named_among on word = find (λ action. bytes_eq (action_text action) word) on

-- whether an action is on, where some are: one of them is written like it
abbrev pub is_on : List ActionName → ActionName → Bool
is_on on action = list_any (λ other. bytes_eq (action_text other) (action_text action)) on

-- whether an option goes with every action
abbrev pub is_common : OptionName → Bool
is_common Repository = true
is_common Workers = true
is_common _ = false

-- the flag of `dump-tlpdb`
abbrev pub is_dump_option : OptionName → Bool
is_dump_option Local = true
is_dump_option _ = false

-- the options of `install`
abbrev pub is_install_option : OptionName → Bool
is_install_option NoDepends = true
is_install_option NoDependsAtAll = true
is_install_option Reinstall = true
is_install_option Formats = true
is_install_option Usermode = true
is_install_option Usertree = true
is_install_option _ = false

-- the options of `update`
abbrev pub is_update_option : OptionName → Bool
is_update_option All = true
is_update_option NoAutoInstall = true
is_update_option NoAutoRemove = true
is_update_option ReinstallForciblyRemoved = true
is_update_option Formats = true
is_update_option _ = false

-- the options of `remove`
abbrev pub is_remove_option : OptionName → Bool
is_remove_option Force = true
is_remove_option Formats = true
is_remove_option Usermode = true
is_remove_option Usertree = true
is_remove_option _ = false

-- the flag of `backup` and of `pinning`
abbrev pub is_all_option : OptionName → Bool
is_all_option All = true
is_all_option _ = false

-- the options that go with one action
abbrev pub is_own : ActionName → OptionName → Bool
is_own DumpTlpdb option = is_dump_option option
is_own Install option = is_install_option option
is_own Update option = is_update_option option
is_own Remove option = is_remove_option option
is_own Backup option = is_all_option option
is_own Pinning option = is_all_option option
is_own _ option = false

-- whether an option goes with an action
abbrev pub goes_with : ActionName → OptionName → Bool
goes_with action option = is_common option || is_own action option

-- whether an option may not stand beside `usermode`
abbrev pub is_unfit_for_users : OptionName → Bool
is_unfit_for_users NoDependsAtAll = true
is_unfit_for_users Reinstall = true
is_unfit_for_users Formats = true
is_unfit_for_users _ = false

-- whether an option needs `usermode` beside it
abbrev pub is_for_users : OptionName → Bool
is_for_users Usertree = true
is_for_users _ = false

-- whether an action needs the flag `local`
abbrev pub needs_local : ActionName → Bool
needs_local DumpTlpdb = true
needs_local _ = false

-- some names: one at least, or any number of them where the flag `all` is given
abbrev pub names_expected : Bool → Expected
names_expected with_all = if with_all then AnyNames else SomeNames

-- the operands of an action, with the flag `all` or without it
abbrev pub operands_of : ActionName → Bool → Expected
operands_of Info with_all = MayName
operands_of Search with_all = OneWord
operands_of Candidates with_all = OneName
operands_of Check with_all = OneCheck
operands_of Install with_all = SomeNames
operands_of Update with_all = names_expected with_all
operands_of Remove with_all = SomeNames
operands_of Backup with_all = names_expected with_all
operands_of Restore with_all = MayNameAndRevision
operands_of Setting with_all = MayNameAndWords
operands_of Pinning with_all = if with_all then PinsWithAll else Pins
operands_of Expand with_all = OneName
operands_of Which with_all = OneComponent
operands_of GenerateMaster with_all = OneCount
operands_of _ with_all = Nothing

-- whether an action may be asked for with so many repositories
abbrev pub is_served : ActionName → ℕ → Bool
is_served Install count = not (count == 0)
is_served Update count = not (count == 0)
is_served Candidates count = not (count == 0)
is_served Mirror count = count == 1
is_served _ count = true
