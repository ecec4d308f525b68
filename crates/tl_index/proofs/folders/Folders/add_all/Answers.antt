use Rattle.std.proofs.Common.{◌+◌, ◌∙◌}
use Rattle.tl_index.proofs.FolderLemmas.{added_byte, added_slash, passed_slash, added_moved, added_all, byte_at}
use Rattle.tl_index.proofs.folders.Folders.add_all.Goals as goal
use Rattle.tl_index.proofs.folders.Folders.add_all.Goals.{then-byte-eq47, then-at-from+in_ok-add, else-at-from, else-byte-eq47}

pub loop-at-preserved : goal.loop-at-preserved
loop-at-preserved c =
    let path = c.args.path.now in
    let at = c.loop-at.at in
    let byte = byte_at path at c.loop-at-test.true in
    elim c.if-byte-eq47.branch [
      | then-byte-eq47 w ↦ elim w.if-at-from.branch [
        | then-at-from+in_ok-add v ↦ added_moved path c.args.from (at + 1) c.if-byte-eq47.start (at + 1) c.args.self.now v.add.new.self c.if-byte-eq47.self w.start-is (w.self-is ∙ v.self-is)
            (added_slash path c.args.from c.loop-at.start at c.args.self.now c.loop-at.self v.add.new.self _ byte w.if-byte-eq47.true v.add.ensures.keeps v.in_ok-add.ensures.ok c.loop-at.invariant)
        | else-at-from v ↦ added_moved path c.args.from (at + 1) c.if-byte-eq47.start (at + 1) c.args.self.now c.loop-at.self c.if-byte-eq47.self w.start-is (w.self-is ∙ v.self-is)
            (passed_slash path c.args.from c.loop-at.start at c.args.self.now c.loop-at.self _ byte w.if-byte-eq47.true v.if-at-from.false c.loop-at.invariant)
      ]
      | else-byte-eq47 w ↦ added_moved path c.args.from c.loop-at.start c.if-byte-eq47.start (at + 1) c.args.self.now c.loop-at.self c.if-byte-eq47.self w.start-is w.self-is
          (added_byte path c.args.from c.loop-at.start at c.args.self.now c.loop-at.self _ byte w.if-byte-eq47.false c.loop-at.invariant)
    ]

pub returns-clause-ok : goal.returns-clause-ok
returns-clause-ok c = added_all c.args.path.now c.args.from c.loop-at.start c.loop-at.at c.args.self.now c.loop-at.self c.loop-at-test.false c.loop-at.invariant
