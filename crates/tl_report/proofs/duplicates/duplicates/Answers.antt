use Rattle.std.proofs.Common.{◌+◌, ◌-◌, List, ℕ, Bor, length, take, drop, map, sym, ap, ◌∙◌, arith, length-drop}
use Rattle.std.proofs.lemmas.List.{take_all}
use Rattle.tl_entry.specs.Rising.{has_key}
use Rattle.tl_report.specs.Claims.{claim_by}
use Rattle.tl_report.proofs.ClashLemmas.{runs, runs-more, runs-done, runs-clashes}
use Rattle.tl_report.proofs.duplicates.duplicates.Goals as goal

pub loop-at-preserved : goal.loop-at-preserved
loop-at-preserved c =
    let all = c.deref.result.now in
    let at = c.loop-at.at in
    runs-more (λ file. claim_by file.1.now file.0) c.deref-file-items.result.now all (c.deref.ensures.value ∙ sym c.deref-file-items.ensures.value) at c.file-item.result c.loop-at-test.true c.file-item.is
    c.loop-at.lines c.add_clashes.new.lines _ (take (length all - (at + 1)) (drop (at + 1) all)) c.in_ok-add_clashes.ensures c.loop-at.invariant
    (take_all (length all - (at + 1)) (drop (at + 1) all) (omega (arith, length-drop (at + 1) all)))

pub returns : goal.returns
returns c = λ line.
    ap (has_key (λ (l : List ℕ). l) line) (runs-done (λ file. claim_by file.1.now file.0) c.deref-file-items.result.now c.loop-at.at c.loop-at.lines c.loop-at-test.false c.loop-at.invariant)
    ∙ ap (λ (files : List (List ℕ × Bor (List ℕ))). has_key (λ (l : List ℕ). l) line (runs (map (λ file. claim_by file.1.now file.0) files))) c.deref-file-items.ensures.value
    ∙ runs-clashes line (λ file. claim_by file.1.now file.0) c.args.files.items c.sort_unstable.new.self.items c.sort_unstable.ensures.permutation c.sort_unstable.ensures.sorted
