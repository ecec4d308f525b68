-- What is left of an iterator over the parts of words.
use Rattle.tl_action.specs.Texts.{texts}
use Rattle.std.specs.Prelude.{ℕ, List, drop, None, option_map}
use Rattle.tl_words.specs.declared.parts.PartsIter.{PartsIter}
use Rattle.tl_words.specs.declared.parts.Placed.{Placed}
use Rattle.tl_words.specs.declared.parts.PartRef.{PartRef}
use Rattle.tl_words.specs.declared.parts.PartRef.TheVariants.{Given, Plain}
use Rattle.tl_words.specs.declared.plains.PlainsIter.{PlainsIter}
use Rattle.tl_words.specs.Parts.{Part, given, plain, parts}
use Rattle.tl_words.specs.Faults.{plains}
use Rattle.tl_words.specs.Commands.{unplaced}

-- a word with its place
abbrev pub placed_of : Placed → ℕ × List ℕ
placed_of placed = (placed.at, placed.word.now)

-- the part that an item stands for
abbrev pub part_of : PartRef → Part
part_of (Given at option value) = given at option (option_map placed_of value)
part_of (Plain at word) = plain at word.now

-- the parts that an iterator has still to give
abbrev pub parts_left : PartsIter → List Part
parts_left it = parts it.in_session None it.ended it.at (drop it.at (texts it.words.now))

-- the words that are no options which an iterator has still to give, with their places
abbrev pub plains_left : PlainsIter → List (ℕ × List ℕ)
plains_left it = plains (parts_left it.parts)

-- those words without their places
abbrev pub words_left : PlainsIter → List (List ℕ)
words_left it = unplaced (plains_left it)
