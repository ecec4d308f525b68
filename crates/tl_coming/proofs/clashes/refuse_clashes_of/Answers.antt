use Rattle.std.proofs.Common.{◌∙◌}
use Rattle.tl_entry.specs.FilePaths.{file_paths}
use Rattle.tl_coming.proofs.ClashLaws.{has_item}
use Rattle.tl_coming.proofs.clashes.refuse_clashes_of.Goals as goal

pub refuse_clash-requires : goal.refuse_clash-requires
refuse_clash-requires c =
    c.requires c.path-item.result (has_item (file_paths c.args.entry.now) c.deref-path-items.result.now c.loop-path.path-index c.path-item.result
    (c.deref-path-items.ensures.value ∙ c.in_ok-paths.ensures.paths) c.loop-path-test.true c.path-item.is)
