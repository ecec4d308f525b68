use Rattle.std.proofs.Common.{sym, ◌∙◌}
use Rattle.tl_pin.specs.Form.{is_pin_glob}
use Rattle.tl_settings.proofs.RemoveLemmas.{one_removed, one_missing, all_removed, form_at}
use Rattle.tl_settings.proofs.pins.remove_globs.Goals as goal

pub loop-glob-preserved : goal.loop-glob-preserved
loop-glob-preserved c =
    one_removed c.args.tag.now c.args.globs.now c.loop-glob.glob-index _ _ _ _ c.loop-glob-test.true c.glob-item.is (sym c.remove.ensures.there ∙ c.if-not-remove.false) c.remove.ensures.left c.loop-glob.invariant
