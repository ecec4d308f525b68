use Rattle.std.proofs.Common.{[], refl, arith}
use Rattle.tl_db.proofs.OptionLemmas.{text_from_plain}
use Rattle.tl_settings.proofs.pins.remove_all.Goals as goal

pub refuse_glob-requires : goal.refuse_glob-requires
refuse_glob-requires g c = text_from_plain [] refl (omega arith)
