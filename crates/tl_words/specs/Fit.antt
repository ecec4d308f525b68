-- Operands that have no fault, and what that says of their words.
use Rattle.std.specs.Prelude.{◌≡◌, ℕ, true, List, [], ◌∷◌, Option, Some, None}
use Rattle.std.specs.List.{All}
use Rattle.tl_path.specs.Names.{is_name, is_tag}
use Rattle.tl_action.specs.declared.expected.Expected.{Expected}
use Rattle.tl_action.specs.declared.form.PinWord.{PinWord}
use Rattle.tl_action.specs.declared.form.PinWord.TheVariants.{Add, Remove}
use Rattle.tl_action.specs.Forms.{is_number_within}
use Rattle.tl_words.specs.Operands.{operands_fault}
use Rattle.tl_words.specs.Commands.{first_word}

-- some operands have no fault, whatever the number of words is
abbrev pub AreFit : Expected → List (ℕ × List ℕ) → Type 0
AreFit expected operands = (end : ℕ) × (operands_fault expected end operands ≡ None)

-- each of some words is a name
abbrev pub AreNames : List (List ℕ) → Type 0
AreNames words = All (λ word. is_name word ≡ true) words

-- the first of some words, if there is one, is a name
abbrev pub MayBeginWithName : List (List ℕ) → Type 0
MayBeginWithName [] = Unit {0}
MayBeginWithName (word ∷ words) = is_name word ≡ true

-- the first of some words, if there is one, is a revision
abbrev pub MayBeginWithRevision : List (List ℕ) → Type 0
MayBeginWithRevision [] = Unit {0}
MayBeginWithRevision (word ∷ words) = is_number_within 0 4294967295 word ≡ true

-- where globs of pins are added or removed, their tag comes first
abbrev pub TagFollows : Option PinWord → List (List ℕ) → Type 0
TagFollows (Some Add) words = is_tag (first_word words) ≡ true
TagFollows (Some Remove) words = is_tag (first_word words) ≡ true
TagFollows _ words = Unit {0}
