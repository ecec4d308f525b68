use Rattle.std.proofs.Common.{arith, refl, ◌∙◌, ap, sym, ◌<◌, length, drop, ◌+◌, ◌∷◌}
use Rattle.tl_action.specs.Texts.{texts}
use Rattle.tl_words.proofs.Drops.{drop_texts}
use Rattle.tl_words.proofs.parts.PartsIter.take_word.Goals as goal

pub returns-clause-word : goal.returns-clause-word
returns-clause-word c =
    let within : c.args.self.now.at < length c.args.self.now.words.now = omega (arith, c.args.self.now.within, c.if-self-words.false) in (
      refl,
      refl,
      drop_texts c.args.self.now.words.now c.args.self.now.at c.index-words-at.result within c.index-words-at.is
          ∙ ap (λ l. l ∷ drop (c.args.self.now.at + 1) (texts c.args.self.now.words.now)) (sym c.as_slice.ensures.value),
    )
