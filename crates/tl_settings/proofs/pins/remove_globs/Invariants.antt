use Rattle.std.proofs.Common.{◌≡◌, drop}
use Rattle.tl_settings.specs.Pinning.{without_globs}
use Rattle.tl_settings.proofs.pins.remove_globs.Given as goal

abbrev pub invariant-loop-glob : goal.invariant-loop-glob
invariant-loop-glob l = without_globs l.tag (drop l.glob-index l.globs) l.pins ≡ without_globs l.tag l.globs l.fn.pins
