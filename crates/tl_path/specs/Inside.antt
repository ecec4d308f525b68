-- What is left of an iterator over components, the bytes between which a component may be none, and the kinds of words.
use Rattle.std.specs.Prelude.{ℕ, List, [], Bool, ◌==◌, ◌&&◌, ◌||◌}
use Rattle.std.specs.Option.{option_copied, option_map_or}
use Rattle.std.specs.List.{slice_split}
use Rattle.tl_path.specs.declared.platform.Parts.{Parts}
use Rattle.tl_path.specs.Bytes.{is_blank, is_letter_or_digit, is_of_name, is_of_tag, is_lower_or_digit, is_of_platform}
use Rattle.tl_path.specs.Names.{is_word}
use Rattle.tl_path.specs.declared.word.WordKind.{WordKind}
use Rattle.tl_path.specs.declared.word.WordKind.TheVariants.{Name, Tag, Platform}
use Rattle.tl_path.specs.declared.components.Components.{Components}
use Rattle.tl_path.specs.Components as parts

-- the components that an iterator has still to give
abbrev pub components_left : Components → List (List ℕ)
components_left it = option_map_or parts.components (option_copied it.rest) []

-- the parts between blanks that an iterator has still to give
abbrev pub parts_left : Parts → List (List ℕ)
parts_left it = option_map_or (slice_split is_blank) (option_copied it.rest) []

-- whether a component that is empty or begins with '.' may stand between two bytes of a text
abbrev pub is_doubtful : ℕ → ℕ → Bool
is_doubtful before b = before == 47 && (b == 47 || b == 46)

-- a byte that a word of the kind may begin with
abbrev pub first_byte : WordKind → ℕ → Bool
first_byte Name = is_letter_or_digit
first_byte Tag = is_letter_or_digit
first_byte Platform = is_lower_or_digit

-- a byte that a word of the kind may have
abbrev pub further_byte : WordKind → ℕ → Bool
further_byte Name = is_of_name
further_byte Tag = is_of_tag
further_byte Platform = is_of_platform

-- the most bytes that a word of the kind may have
abbrev pub longest : WordKind → ℕ
longest Name = 128
longest Tag = 64
longest Platform = 32

-- whether a text is a word of the kind
abbrev pub is_of_kind : WordKind → List ℕ → Bool
is_of_kind kind text = is_word (first_byte kind) (further_byte kind) (longest kind) text
