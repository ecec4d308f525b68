use Rattle.std.proofs.Common.{sym, ap, ◌∙◌}
use Rattle.tl_pin.proofs.GlobLemmas.{taken_refused}
use Rattle.tl_pin.proofs.globs.PinGlobs.parse.Goals as goal

pub returns-then-not-is_pin_glob : goal.returns-then-not-is_pin_glob
returns-then-not-is_pin_glob c =
    taken_refused c.args.texts.now c.loop-text.text-index _ c.deref.result.now c.loop-text-test.true (c.deref.ensures.value ∙ ap (λ text. text.items) c.text-item.is) (sym c.is_pin_glob.ensures ∙ c.if-not-is_pin_glob.true)
