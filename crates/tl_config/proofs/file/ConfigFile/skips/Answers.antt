use Rattle.tl_config.specs.declared.file.ConfigFile.TheVariants.{Updmap, Fmtutil}
use Rattle.tl_config.proofs.Skips.{none_by-capital, none_by-small, none_by-addf, none_by-addh, updmap-no_formats, updmap-no_hyphens, others-no_maps, others-no_formats, fmtutil-no_maps, fmtutil-no_hyphens}
use Rattle.tl_config.proofs.file.ConfigFile.skips.Goals as goal

pub returns-in-Updmap : goal.returns-in-Updmap
returns-in-Updmap c = rw c.in-Updmap.is (none_by-capital Updmap updmap-no_formats updmap-no_hyphens c.args.text.now _ c.starts_with.ensures.value)

pub returns-then-starts_with : goal.returns-then-starts_with
returns-then-starts_with c = rw c.in-Fmtutil.is (none_by-small Fmtutil fmtutil-no_maps c.args.text.now _ c.starts_with-in-Fmtutil.ensures.value)

pub returns-else-starts_with : goal.returns-else-starts_with
returns-else-starts_with c = rw c.in-Fmtutil.is (none_by-addh Fmtutil fmtutil-no_hyphens c.args.text.now _ c.starts_with-else-starts_with.ensures.value)

pub returns-then-starts_with-2 : goal.returns-then-starts_with-2
returns-then-starts_with-2 c = none_by-small c.args.self (others-no_maps _ c.in_default.not-Updmap) c.args.text.now _ c.starts_with-in_default.ensures.value

pub returns-else-starts_with-2 : goal.returns-else-starts_with-2
returns-else-starts_with-2 c = none_by-addf c.args.self (others-no_formats _ c.in_default.not-Fmtutil) c.args.text.now _ c.starts_with-else-starts_with-2.ensures.value
