-- Which words are options, which are their values, and which are the action and its operands.
use Rattle.std.specs.Prelude.{ℕ, ◌+◌, ◌==◌, ◌&&◌, Bool, true, false, not, if◌then◌else◌, List, [], ◌∷◌, length, drop, slice_index, codes, Option, Some, None, is_none, nat_lt, nat_le, bytes_eq}
use Rattle.std.specs.List.{before_first, after_first, position_or_len}
use Rattle.tl_action.specs.declared.table.OptionName.{OptionName}
use Rattle.tl_action.specs.Table.{takes_value, option_named}

-- what words stand for: an option, which is None where no action knows it, with its value and the value's place,
-- or a word that is no option, such as the action
pub data Part : Type 0 where
  given : (at : ℕ) (option : Option OptionName) (value : Option (ℕ × List ℕ)) → Part
  plain : (at : ℕ) (word : List ℕ) → Part

-- whether a word before `--` is an option: it begins with '-', and no digit follows
abbrev pub is_option_word : List ℕ → Bool
is_option_word word = slice_index word 0 == 45 && not (nat_le 48 (slice_index word 1) && nat_le (slice_index word 1) 57)

-- an option's word without its one or two dashes
abbrev pub option_body : List ℕ → List ℕ
option_body word = drop (if slice_index word 1 == 45 then 2 else 1) word

-- what stands before the first '=' of an option's word, without its dashes
abbrev pub option_name : List ℕ → List ℕ
option_name word = before_first (λ b. b == 61) (option_body word)

-- what stands after the first '=' of an option's word
abbrev pub option_value : List ℕ → Option (List ℕ)
option_value word = if nat_lt (position_or_len (λ b. b == 61) (option_body word)) (length (option_body word))
    then Some (after_first (λ b. b == 61) (option_body word)) else None

-- whether an option is known and takes a value
abbrev pub is_valued : Option OptionName → Bool
is_valued None = false
is_valued (Some option) = takes_value option

-- an option's own value, which stands at the option's place
abbrev pub own_value : ℕ → Option (List ℕ) → Option (ℕ × List ℕ)
own_value at None = None
own_value at (Some value) = Some (at, value)

-- the parts of words, the first of which has a place: `owed` is an option that takes the next word as its value,
-- and `ended` says that a `--` stands before; a value that is missing is empty and stands at the words' end
abbrev pub parts : Bool → Option (ℕ × Option OptionName) → Bool → ℕ → List (List ℕ) → List Part
parts in_session (Some owed) ended at [] = given owed.0 owed.1 (Some (at, [])) ∷ []
parts in_session (Some owed) ended at (word ∷ words) = given owed.0 owed.1 (Some (at, word)) ∷ parts in_session None ended (at + 1) words
parts in_session None ended at [] = []
parts in_session None ended at (word ∷ words) =
    if ended then plain at word ∷ parts in_session None true (at + 1) words
    else (if bytes_eq word (codes "--") then parts in_session None true (at + 1) words
    else (if not (is_option_word word) then plain at word ∷ parts in_session None false (at + 1) words
    else (if is_none (option_value word) && is_valued (option_named in_session (option_name word))
    then parts in_session (Some (at, option_named in_session (option_name word))) false (at + 1) words
    else given at (option_named in_session (option_name word)) (own_value at (option_value word))
    ∷ parts in_session None false (at + 1) words)))
