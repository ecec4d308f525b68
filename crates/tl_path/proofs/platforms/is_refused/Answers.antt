use Rattle.std.proofs.Common.{sym, ◌∙◌, arith}
use Rattle.tl_path.proofs.Listed.{decided, not_false}
use Rattle.tl_path.proofs.platforms.is_refused.Goals as goal
use Rattle.tl_path.proofs.platforms.is_refused.Goals.{then-names-ge-MOST, else-names-ge-MOST}

pub returns-else-not-is_platform : goal.returns-else-not-is_platform
returns-else-not-is_platform c = elim c.if-names-ge-MOST.branch [
  | then-names-ge-MOST w ↦ let many = w.if-names-ge-MOST.true in let no = sym w.value-is ∙ c.if-not-is_platform.false in absurd (grind (arith, many, no))
  | else-names-ge-MOST w ↦
      let no = sym w.value-is ∙ c.if-not-is_platform.false in
      decided c.args.names.now c.args.word.now c.has.result c.requires w.if-names-ge-MOST.false (sym w.is_platform.ensures ∙ not_false w.is_platform.result no) c.has.ensures
]
