use Rattle.std.proofs.Common.{refl, sym, ◌∙◌}
use Rattle.tl_auto.proofs.ReplaceLemmas.{part_behind, byte_first}
use Rattle.tl_auto.proofs.setting.part_of.Goals as goal

pub returns-then-begins_variable : goal.returns-then-begins_variable
returns-then-begins_variable c = part_behind c.args.text.now _ c.variable_of.result (sym c.begins_variable.ensures ∙ c.if-begins_variable.true) refl c.variable_of.ensures

pub returns-in-len1-up : goal.returns-in-len1-up
returns-in-len1-up c = byte_first c.args.text.now _ c.in-len1-up.len_at_least (sym c.begins_variable.ensures ∙ c.if-begins_variable.false) refl
