-- The options of a tree, which the entry `00texlive.installation` keeps.
use Rattle.std.specs.Prelude.{◌≡◌, ℕ, ◌&&◌, not, nat_le, Bool, true, false, if◌then◌else◌, List, [], ◌∷◌, ◌++◌, codes, length, Option, Some, None, is_some, option_map, option_and_then, unwrap_or, Result, Ok, Err}
use Rattle.std.specs.Str.{bytes_eq}
use Rattle.std.specs.List.{list_all, join_with_byte}
use Rattle.tl_model.specs.Decimal.{is_decimal, decimal_value, decimal_text}
use Rattle.tl_model.specs.Words.{fields}
use Rattle.tl_path.specs.Names.{is_platform}
use Rattle.tl_path.specs.declared.kinds.Category.TheVariants.{TLCore}
use Rattle.tl_object.specs.Values.{stripped}
use Rattle.tl_entry.specs.Rising.{insert_by, has_key}
use Rattle.tl_entry.specs.FilePaths.{rising_of}
use Rattle.tl_entry.specs.Copies.{no_container}
use Rattle.tl_entry.specs.Sections.{no_files, no_doc_files}
use Rattle.tl_entry.specs.declared.object.Object.{Object}
use Rattle.tl_db.specs.Entries.{entry_of, others}
use Rattle.tl_db.specs.declared.options.TreeOption.{TreeOption}
use Rattle.tl_db.specs.declared.options.TreeOption.TheVariants.{Autobackup, Platforms}
use Rattle.tl_db.specs.declared.options.OptionError.{OptionError}
use Rattle.tl_db.specs.declared.options.OptionError.TheVariants.{UnknownOption, BadValue, NoMemory}

-- an option's name
abbrev pub option_name : TreeOption → List ℕ
option_name Autobackup = codes "autobackup"
option_name Platforms = codes "platforms"

-- the option that has this name; None where none has it
abbrev pub option_named : List ℕ → Option TreeOption
option_named name =
    if bytes_eq name (codes "autobackup") then Some Autobackup
    else if bytes_eq name (codes "platforms") then Some Platforms
    else None

-- what the line that keeps an option begins with; its value follows
abbrev pub option_prefix : TreeOption → List ℕ
option_prefix Autobackup = codes "opt_autobackup:"
option_prefix Platforms = codes "setting_available_architectures:"

-- the value of an option that no line keeps
abbrev pub option_default : TreeOption → List ℕ
option_default Autobackup = codes "0"
option_default Platforms = []

-- the name of the entry that keeps the options
abbrev pub installation : List ℕ
installation = codes "00texlive.installation"

-- whether no two words are the same
abbrev pub are_distinct : List (List ℕ) → Bool
are_distinct [] = true
are_distinct (word ∷ words) = not (has_key (λ w. w) word words) && are_distinct words

-- whether words are platforms, no two the same and at most 32
abbrev pub are_platforms : List (List ℕ) → Bool
are_platforms words = nat_le (length words) 32 && (list_all is_platform words && are_distinct words)

-- a number up to 1,000 without leading zeros, which may stand in its digits; None where digits aren't one
abbrev pub spelled_number : List ℕ → Option (List ℕ)
spelled_number value =
    if is_decimal value && nat_le (decimal_value value) 1000 then Some (decimal_text (decimal_value value)) else None

-- platforms that blanks part, in the order of their bytes with one space between two; None where a text isn't some
abbrev pub spelled_platforms : List ℕ → Option (List ℕ)
spelled_platforms value =
    if are_platforms (fields value) then Some (join_with_byte 32 (rising_of (fields value))) else None

-- the value of an option in its one spelling; None where it isn't in its form
abbrev pub spelled : TreeOption → List ℕ → Option (List ℕ)
spelled Autobackup value = if bytes_eq value (codes "-1") then Some (codes "-1") else spelled_number value
spelled Platforms value = spelled_platforms value

-- the first of two, where it is there
abbrev pub or_first : Option (List ℕ) → Option (List ℕ) → Option (List ℕ)
or_first None other = other
or_first (Some value) other = Some value

-- what follows a text at the front of the first line that begins with it; None where no line does
abbrev pub first_after : List ℕ → List (List ℕ) → Option (List ℕ)
first_after prefix [] = None
first_after prefix (line ∷ lines) = or_first (stripped prefix line) (first_after prefix lines)

-- what an entry's first line for an option says
abbrev pub kept_value : TreeOption → List Object → Option (List ℕ)
kept_value option objects =
    option_and_then (λ (o : Object). first_after (option_prefix option) o.depends) (entry_of installation objects)

-- the value of an option: that of its line, where one is there and its value is in its form
abbrev pub option_value : TreeOption → List Object → List ℕ
option_value option objects =
    unwrap_or (option_and_then (spelled option) (kept_value option objects)) (option_default option)

-- the value of the option that has this name; None where none has it
abbrev pub option_of : List ℕ → List Object → Option (List ℕ)
option_of name objects = option_map (λ option. option_value option objects) (option_named name)

-- an entry that keeps no option
abbrev pub no_options : Object
no_options = record {
  name = installation;
  category = TLCore;
  revision = 0;
  catalogue = None;
  shortdesc = None;
  relocated = false;
  longdesc = [];
  depends = [];
  executes = [];
  postactions = [];
  run_box = no_container;
  doc_box = no_container;
  src_box = no_container;
  doc = no_doc_files;
  src = no_files;
  run = no_files;
  bin = [];
  catalogue_facts = [];
}

-- lines of which the first that begins with a text gives its place to another; where none does, the other is last
abbrev pub with_line : List ℕ → List ℕ → List (List ℕ) → List (List ℕ)
with_line prefix line [] = line ∷ []
with_line prefix line (kept ∷ lines) =
    if is_some (stripped prefix kept) then line ∷ lines else kept ∷ with_line prefix line lines

-- an entry that keeps this value of an option
abbrev pub keeping : TreeOption → List ℕ → Object → Object
keeping option value o =
    record o { depends = with_line (option_prefix option) (option_prefix option ++ value) o.depends }

-- the entry that keeps the options, with a value that is spelled so
abbrev pub entry_keeping : TreeOption → Option (List ℕ) → List Object → Result Object OptionError
entry_keeping option None objects = Err BadValue
entry_keeping option (Some value) objects = Ok (keeping option value (unwrap_or (entry_of installation objects) no_options))

-- the entry that keeps the options, with this value of an option
abbrev pub entry_setting : Option TreeOption → List ℕ → List Object → Result Object OptionError
entry_setting None value objects = Err UnknownOption
entry_setting (Some option) value objects = entry_keeping option (spelled option value) objects

-- the entry that keeps the options, with a value of the option that has this name
abbrev pub entry_with : List ℕ → List ℕ → List Object → Result Object OptionError
entry_with name value objects = entry_setting (option_named name) value objects

-- the entries with one in the place of that with its name, or among the others
abbrev pub with_entry : Object → List Object → List Object
with_entry object objects = insert_by (λ (o : Object). o.name) object (others object.name objects)

-- the entries with that of the options, where it could be made
abbrev pub with_made : Result Object OptionError → List Object → Result (List Object) OptionError
with_made (Ok object) objects = Ok (with_entry object objects)
with_made (Err fault) objects = Err fault

-- the entries with a value of the option that has this name
abbrev pub with_option : List ℕ → List ℕ → List Object → Result (List Object) OptionError
with_option name value objects = with_made (entry_with name value objects) objects

-- the one spelling of a value of the option that has this name
abbrev pub spelling_of : List ℕ → List ℕ → Option (List ℕ)
spelling_of name value = option_and_then (λ option. spelled option value) (option_named name)

-- an error that was answered is that of the definition; want of memory says nothing
abbrev pub IsOptionFault : {A : Type 0} → Result A OptionError → OptionError → Type 0
IsOptionFault wanted UnknownOption = wanted ≡ Err UnknownOption
IsOptionFault wanted BadValue = wanted ≡ Err BadValue
IsOptionFault wanted NoMemory = Unit {0}

-- no option has this name; no value of an option that is kept is refused, and want of memory says nothing
abbrev pub IsUnknown : List ℕ → OptionError → Type 0
IsUnknown name UnknownOption = option_named name ≡ None
IsUnknown name BadValue = ⊥
IsUnknown name NoMemory = Unit {0}
