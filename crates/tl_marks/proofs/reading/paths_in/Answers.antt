use Rattle.std.proofs.Common.{◌≡◌, true, sym, ap, ◌∙◌, is_ok, List}
use Rattle.tl_marks.specs.declared.marks.MarkedPath.{MarkedPath}
use Rattle.tl_marks.specs.Form.{path_in}
use Rattle.tl_marks.specs.Reading.{following}
use Rattle.tl_marks.proofs.ReadLemmas.{read_more}
use Rattle.tl_marks.proofs.reading.paths_in.Goals as goal

pub loop-before-preserved : goal.loop-before-preserved
loop-before-preserved c =
    let ok : is_ok c.push.result ≡ true = sym c.map_err.ensures.variant ∙ ap is_ok c.in_ok-map_err-in-Some.was in
    rw (c.push.ensures.items, ok)
    (read_more c.args.counter c.args.first c.args.text.now c.of-line.result.now c.args.spans.now c.loop-before.paths.items c.loop-before.before _ c.in-Some.marked c.loop-before-test.true c.of-line.ensures
    (ap (λ (ps : List MarkedPath). following ps (path_in c.args.counter c.of-line.result.now)) (sym c.deref.ensures.value) ∙ c.in_ok-marked.ensures ∙ c.in-Some.is) c.loop-before.invariant)
