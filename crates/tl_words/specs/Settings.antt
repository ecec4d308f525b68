-- What the options of words say, and the first fault of them.
use Rattle.std.specs.Prelude.{ℕ, ◌==◌, ◌&&◌, ◌||◌, ◌++◌, Bool, false, not, if◌then◌else◌, List, [], ◌∷◌, length, map, codes, Option, Some, None, nat_lt, nat_le, bytes_eq}
use Rattle.std.specs.List.{before_first, after_first, position_or_len, list_any}
use Rattle.tl_model.specs.Decimal.{decimal_value}
use Rattle.tl_path.specs.Names.{is_tag}
use Rattle.tl_words.specs.declared.error.WordKind.TheVariants as kinds
use Rattle.tl_words.specs.declared.faults.Fault.{Fault}
use Rattle.tl_action.specs.declared.table.OptionName.{OptionName}
use Rattle.tl_action.specs.declared.table.OptionName.TheVariants as options
use Rattle.tl_action.specs.declared.command.Repository.{Repository}
use Rattle.tl_words.specs.Order.{fault, or_else}
use Rattle.tl_action.specs.Forms.{is_number_within}
use Rattle.tl_action.specs.Table.{takes_value, is_same_option}
use Rattle.tl_words.specs.Parts.{Part, given, plain}

-- whether a repository's value begins with a tag and a '='
abbrev pub has_tag : List ℕ → Bool
has_tag value = nat_lt (position_or_len (λ b. b == 61) value) (length value) && is_tag (before_first (λ b. b == 61) value)

-- the tag of a repository's value, `main` where it gives none
abbrev pub tag_of : List ℕ → List ℕ
tag_of value = if has_tag value then before_first (λ b. b == 61) value else codes "main"

-- the folder of a repository's value
abbrev pub folder_of : List ℕ → List ℕ
folder_of value = if has_tag value then after_first (λ b. b == 61) value else value

-- a number of workers: 1 to 64
abbrev pub is_worker_count : List ℕ → Bool
is_worker_count value = is_number_within 1 64 value

-- the fault of an option's value that isn't empty, where repositories of some tags stand before
abbrev pub setting_fault : List (List ℕ) → OptionName → ℕ → List ℕ → Option Fault
setting_fault tags options.Repository at value = if list_any (bytes_eq (tag_of value)) tags then Some (fault kinds.Value at)
    else (if nat_le 16 (length tags) then Some (fault kinds.Number at) else None)
setting_fault tags options.Workers at value = if is_worker_count value then None else Some (fault kinds.Number at)
setting_fault tags _ at value = None

-- the fault of an option: no action knows it, a flag has a value, a value is missing or empty, or its own
abbrev pub given_fault : List (List ℕ) → ℕ → Option OptionName → Option (ℕ × List ℕ) → Option Fault
given_fault tags at None value = Some (fault kinds.Option at)
given_fault tags at (Some option) None = None
given_fault tags at (Some option) (Some value) = if not (takes_value option) then Some (fault kinds.Value at)
    else (if length value.1 == 0 then Some (fault kinds.Value value.0) else setting_fault tags option value.0 value.1)

-- the tags of repositories after one more option
abbrev pub tags_after : List (List ℕ) → Option OptionName → Option (ℕ × List ℕ) → List (List ℕ)
tags_after tags (Some options.Repository) (Some value) = tags ++ tag_of value.1 ∷ []
tags_after tags _ value = tags

-- the first fault of the options among some parts, where repositories of some tags stand before
abbrev pub options_fault : List (List ℕ) → List Part → Option Fault
options_fault tags [] = None
options_fault tags (plain at word ∷ others) = options_fault tags others
options_fault tags (given at option value ∷ others) =
    or_else (given_fault tags at option value) (options_fault (tags_after tags option value) others)

-- the repository that a value stands for
abbrev pub repository_of : List ℕ → Repository
repository_of value = record { tag = tag_of value; folder = folder_of value }

-- the repositories that an option gives
abbrev pub repository_list : Option OptionName → Option (ℕ × List ℕ) → List Repository
repository_list (Some options.Repository) (Some value) = repository_of value.1 ∷ []
repository_list _ value = []

-- the repositories among some parts, in order
abbrev pub repositories_of : List Part → List Repository
repositories_of [] = []
repositories_of (plain at word ∷ others) = repositories_of others
repositories_of (given at option value ∷ others) = repository_list option value ++ repositories_of others

-- the tags of some repositories
abbrev pub tags_in : List Repository → List (List ℕ)
tags_in repositories = map (λ repository. repository.tag) repositories

-- the number of workers after one more option
abbrev pub workers_after : ℕ → Option OptionName → Option (ℕ × List ℕ) → ℕ
workers_after before (Some options.Workers) (Some value) = decimal_value value.1
workers_after before _ value = before

-- the number of workers that the last `workers` among some parts gives
abbrev pub workers_of : ℕ → List Part → ℕ
workers_of before [] = before
workers_of before (plain at word ∷ others) = workers_of before others
workers_of before (given at option value ∷ others) = workers_of (workers_after before option value) others

-- the folder of the user's tree after one more option
abbrev pub user_after : Option (List ℕ) → Option OptionName → Option (ℕ × List ℕ) → Option (List ℕ)
user_after before (Some options.Usertree) (Some value) = Some value.1
user_after before _ value = before

-- the folder of the user's tree that the last `usertree` among some parts gives
abbrev pub user_of : Option (List ℕ) → List Part → Option (List ℕ)
user_of before [] = before
user_of before (plain at word ∷ others) = user_of before others
user_of before (given at option value ∷ others) = user_of (user_after before option value) others

-- whether an option is this one
abbrev pub is_option : OptionName → Option OptionName → Bool
is_option this None = false
is_option this (Some option) = is_same_option this option

-- whether an option is among some parts
abbrev pub has_option : OptionName → List Part → Bool
has_option this [] = false
has_option this (plain at word ∷ others) = has_option this others
has_option this (given at option value ∷ others) = is_option this option || has_option this others
