use Rattle.std.proofs.Common.{sym, ◌∙◌}
use Rattle.tl_depend.proofs.WordLemmas.{no_word, word_and_more, word_alone, word_shorter}
use Rattle.tl_depend.proofs.words.split_word.Goals as goal

pub returns-in_default : goal.returns-in_default
returns-in_default c = record { words = no_word c.args.text.now (sym c.place_of_word.ensures ∙ c.in_default.is); shorter = tt }

pub returns-in-Some-place_of_blank-clause-words : goal.returns-in-Some-place_of_blank-clause-words
returns-in-Some-place_of_blank-clause-words c =
    let halves = c.split_at-in-Some-place_of_blank in
    rw (halves.ensures.front, halves.ensures.back)
    (word_and_more c.args.text.now c.split_at.result.1.now _ _ (sym c.place_of_word.ensures ∙ c.in-Some.is) c.split_at.ensures.back (sym c.place_of_blank.ensures ∙ c.in-Some-place_of_blank.is))

pub returns-in-Some-place_of_blank-clause-shorter : goal.returns-in-Some-place_of_blank-clause-shorter
returns-in-Some-place_of_blank-clause-shorter c =
    word_shorter c.args.text.now c.split_at.result.1.now _ _ _ (sym c.place_of_word.ensures ∙ c.in-Some.is) c.split_at.ensures.back (sym c.place_of_blank.ensures ∙ c.in-Some-place_of_blank.is)
    c.split_at-in-Some-place_of_blank.ensures.back

pub returns-in-None-clause-words : goal.returns-in-None-clause-words
returns-in-None-clause-words c =
    word_alone c.args.text.now _ _ (sym c.place_of_word.ensures ∙ c.in-Some.is) c.split_at.ensures.back (sym c.place_of_blank.ensures ∙ c.in-None.is)
