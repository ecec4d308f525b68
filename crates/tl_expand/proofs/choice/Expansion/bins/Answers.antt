use Rattle.std.proofs.Common.{◌≡◌, ◌<◌, ◌∙◌, ℕ, List, Err, subst, rules, arith}
use Rattle.tl_model.specs.Devices.{Verdicts}
use Rattle.tl_index.specs.declared.hit.Hit.{Hit}
use Rattle.tl_auto.specs.declared.error.AutoError.TheVariants.{NoMemory}
use Rattle.tl_auto.specs.declared.section.Section.TheVariants.{Bin}
use Rattle.tl_auto.proofs.VerdictLemmas.{regexps_on}
use Rattle.tl_expand.specs.Choices.{chosen_in, chosen_bins, bin_count}
use Rattle.tl_expand.proofs.ThenLemmas.{bins_more, bins_cut, bins_done, judges_no_memory}
use Rattle.tl_expand.proofs.choice.Expansion.bins.Goals as goal

pub returns-in_err-chosen : goal.returns-in_err-chosen
returns-in_err-chosen c =
    let e = c.args.self.now in
    let choose = λ (v : Verdicts) (i : ℕ). chosen_in v e.source.now e.platforms.now e.index.now (Bin i) in
    let is : c.from_residual.result ≡ Err c.in_err-chosen.field-0.0 = search rules in
    let lt : c.loop-number.number < bin_count e.source.now e.platforms.now = subst (λ n. c.loop-number.number < n) c.bin_count-number-end.ensures c.loop-number-test.true in
    rw is (bins_cut choose c.loop-number.number (bin_count e.source.now e.platforms.now) c.loop-number.bins.items (λ (h : List Hit). h) (λ (h : List (List Hit)). h) c.in_err-chosen.field-0.0
    c.args.regexps.now c.loop-number.regexps c.chosen.new.regexps lt c.loop-number.invariant c.in_err-chosen.ensures)

pub returns-in_err-push : goal.returns-in_err-push
returns-in_err-push c =
    let e = c.args.self.now in
    let choose = λ (v : Verdicts) (i : ℕ). chosen_in v e.source.now e.platforms.now e.index.now (Bin i) in
    let is : c.from_residual-in_err-push.result ≡ Err NoMemory = search rules in
    rw is (judges_no_memory (λ (h : List (List Hit)). h) (λ v. chosen_bins (choose v) (bin_count e.source.now e.platforms.now)) c.args.regexps.now c.chosen.new.regexps
    (regexps_on c.args.regexps.now c.loop-number.regexps c.chosen.new.regexps c.loop-number.invariant.regexps c.chosen.ensures.regexps))

pub loop-number-preserved : goal.loop-number-preserved
loop-number-preserved c =
    let e = c.args.self.now in
    let choose = λ (v : Verdicts) (i : ℕ). chosen_in v e.source.now e.platforms.now e.index.now (Bin i) in
    bins_more choose c.loop-number.number c.loop-number.bins.items _ (λ (h : List Hit). h) c.in_ok-chosen.chosen c.args.regexps.now c.loop-number.regexps c.chosen.new.regexps
    c.loop-number.invariant c.in_ok-chosen.ensures c.in_ok-push.ensures

pub returns : goal.returns
returns c =
    let e = c.args.self.now in
    let choose = λ (v : Verdicts) (i : ℕ). chosen_in v e.source.now e.platforms.now e.index.now (Bin i) in
    let same : c.loop-number.number ≡ c.bin_count-number-end.result = omega (arith, c.loop-number-test.false, c.loop-number.auto.number-end) in
    rw c.new.ensures (bins_done choose c.loop-number.number (bin_count e.source.now e.platforms.now) (λ (h : List (List Hit)). h) c.loop-number.bins.items c.args.regexps.now c.loop-number.regexps
    (same ∙ c.bin_count-number-end.ensures) c.loop-number.invariant)
