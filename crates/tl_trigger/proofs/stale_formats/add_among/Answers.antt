use Rattle.std.proofs.Common.{ℕ, List, length, ap, ◌∙◌, arith}
use Rattle.std.specs.HashSet.{contains_text}
use Rattle.tl_text.specs.Texts.{length-text}
use Rattle.tl_execute.specs.Executes.{read_execute}
use Rattle.tl_trigger.specs.Stale.{with_formats, stale_read}
use Rattle.tl_trigger.proofs.OnceLemmas.{formats_more}
use Rattle.tl_trigger.proofs.stale_formats.add_among.Goals as goal

pub add_read-requires : goal.add_read-requires
add_read-requires c = omega (arith, length-text _ c.bytes.ensures.is_text, ap length c.bytes.ensures.bytes)

pub loop-execute-preserved : goal.loop-execute-preserved
loop-execute-preserved c =
    let gives : List ℕ → List (List ℕ) = λ text. stale_read (contains_text c.args.changed.now) c.args.own (read_execute text) in
    formats_more gives c.args.formats.now c.loop-execute.formats c.add_read.new.formats c.args.executes.now c.loop-execute.execute-index c.execute-item.result c.loop-execute-test.true c.execute-item.is
    (c.in_ok-add_read.ensures ∙ ap (λ (text : List ℕ). with_formats c.loop-execute.formats (gives text)) c.bytes.ensures.bytes)
    c.loop-execute.invariant
