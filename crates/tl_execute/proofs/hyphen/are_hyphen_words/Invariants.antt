use Rattle.std.proofs.Common.{◌≡◌, drop}
use Rattle.std.specs.List.{list_all}
use Rattle.tl_execute.specs.Executes.{is_hyphen_word}
use Rattle.tl_execute.proofs.Finds.{texts}
use Rattle.tl_execute.proofs.hyphen.are_hyphen_words.Given as goal

abbrev pub invariant-loop-word : goal.invariant-loop-word
invariant-loop-word l = list_all is_hyphen_word (texts (drop l.word-index l.words)) ≡ list_all is_hyphen_word (texts l.words)
