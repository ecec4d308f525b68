use Rattle.std.proofs.Common.{◌||◌, arith, sym, ap, ◌∙◌}
use Rattle.tl_model.specs.Volume.{Name}
use Rattle.tl_entry.specs.Rising.{has_key}
use Rattle.tl_tree.proofs.Owning.{key-bins_more, key-bins_at}
use Rattle.tl_tree.proofs.own.is_binary.Goals as goal

pub loop-bin-preserved : goal.loop-bin-preserved
loop-bin-preserved c =
    let bin = c.bin-item.result in let path = c.args.path.now in
    key-bins_more path c.args.bins.now c.loop-bin.bin-index bin (omega arith) c.bin-item.is
    ∙ ap (λ b. b || has_key (λ (p : Name). p) path bin.paths) c.loop-bin.invariant
    ∙ (ap (λ (n : Name). has_key (λ (p : Name). p) n bin.paths) (sym c.bytes.ensures.bytes) ∙ sym c.has.ensures ∙ c.if-has.false)

pub returns-then-has : goal.returns-then-has
returns-then-has c =
    let path = c.args.path.now in
    sym (key-bins_at path c.args.bins.now c.loop-bin.bin-index c.bin-item.result (omega arith) c.bin-item.is
    (ap (λ (n : Name). has_key (λ (p : Name). p) n c.bin-item.result.paths) (sym c.bytes.ensures.bytes) ∙ sym c.has.ensures ∙ c.if-has.true))
