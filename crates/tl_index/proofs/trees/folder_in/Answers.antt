use Rattle.std.proofs.Common.{ap, ◌∙◌, ◌+◌}
use Rattle.std.proofs.lemmas.List.{take_rest}
use Rattle.tl_index.specs.Trees.{folder_in}
use Rattle.tl_index.proofs.TreeLemmas.{behind_none, behind_more, behind_here, behind_all}
use Rattle.tl_index.proofs.trees.folder_in.Goals as goal

pub loop-at-init : goal.loop-at-init
loop-at-init c = behind_none c.bytes-bytes.result.now

pub loop-at-preserved : goal.loop-at-preserved
loop-at-preserved c = behind_more c.bytes-bytes.result.now c.loop-at.at c.loop-at-test.true c.if-byte-eq47.false c.loop-at.invariant

pub returns-then-byte-eq47 : goal.returns-then-byte-eq47
returns-then-byte-eq47 c = take_rest c.bytes-bytes.result.now (c.loop-at.at + 1) ∙ behind_here c.bytes-bytes.result.now c.loop-at.at c.loop-at-test.true c.if-byte-eq47.true c.loop-at.invariant
    ∙ ap folder_in c.bytes-bytes.ensures

pub returns : goal.returns
returns c = behind_all c.bytes-bytes.result.now c.loop-at.at c.loop-at-test.false c.loop-at.invariant ∙ ap folder_in c.bytes-bytes.ensures
