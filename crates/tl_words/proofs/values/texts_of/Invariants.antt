use Rattle.std.proofs.Common.{◌≡◌, map, take}
use Rattle.tl_action.specs.Texts.{texts}
use Rattle.tl_words.proofs.values.texts_of.Given as goal

abbrev pub invariant-loop-word : goal.invariant-loop-word
invariant-loop-word l = texts l.copied.items ≡ map (λ word. word.now) (take l.word-index l.words)
