use Rattle.std.proofs.Common.{sym, ◌∙◌}
use Rattle.tl_written.proofs.BinLemmas.{bin-stands, bin_front, bin_spaced, bin_found, found_platform}
use Rattle.tl_written.proofs.bins.bin_behind.Goals as goal

pub returns-in_err-section-clause-finds : goal.returns-in_err-section-clause-finds
returns-in_err-section-clause-finds c = λ bin rest formed lacks same. absurd (c.in_err-section.ensures.none _ (bin_front c.args.text.now rest bin same))

pub returns-in_err-platform-clause-finds : goal.returns-in_err-platform-clause-finds
returns-in_err-platform-clause-finds c = λ bin rest formed lacks same.
    absurd (bin_spaced c.args.text.now c.in_ok-section.section.now rest bin formed same c.in_ok-section.ensures.stands c.in_err-platform.ensures.finds)

pub returns-then-not-is_platform-clause-finds : goal.returns-then-not-is_platform-clause-finds
returns-then-not-is_platform-clause-finds c = λ bin rest formed lacks same.
    let found = bin_found c.args.text.now c.in_ok-section.section.now c.in_ok-platform.platform.now _ rest bin formed same c.in_ok-section.ensures.stands c.in_ok-platform.ensures.finds in
    found_platform c.in_ok-platform.platform.now bin formed found.platform (sym c.is_platform.ensures ∙ c.if-not-is_platform.true)

pub returns-in_err-paths-clause-finds : goal.returns-in_err-paths-clause-finds
returns-in_err-paths-clause-finds c = λ bin rest formed lacks same.
    let found = bin_found c.args.text.now c.in_ok-section.section.now c.in_ok-platform.platform.now _ rest bin formed same c.in_ok-section.ensures.stands c.in_ok-platform.ensures.finds in
    absurd (c.in_err-paths.ensures.finds _ _ found.small found.same)

pub returns-in_err-rest-clause-finds : goal.returns-in_err-rest-clause-finds
returns-in_err-rest-clause-finds c = λ bin rest formed lacks same.
    let found = bin_found c.args.text.now c.in_ok-section.section.now c.in_ok-platform.platform.now _ rest bin formed same c.in_ok-section.ensures.stands c.in_ok-platform.ensures.finds in
    absurd (c.in_err-rest.ensures.finds bin.paths rest found.rising lacks (c.in_ok-paths.ensures.finds _ _ found.small found.same).1)

pub returns-clause-stands : goal.returns-clause-stands
returns-clause-stands c =
    bin-stands c.in_ok-platform.platform.now c.args.text.now c.in_ok-section.section.now c.in_ok-paths.paths.now c.in_ok-rest.rest.now c.in_ok-paths.field-0-0
    (sym c.is_platform.ensures ∙ c.if-not-is_platform.false) c.in_ok-paths.ensures.stands.1 c.in_ok-section.ensures.stands c.in_ok-paths.ensures.stands.0 c.in_ok-rest.ensures.stands

pub returns-clause-finds : goal.returns-clause-finds
returns-clause-finds c = λ bin rest formed lacks same.
    let found = bin_found c.args.text.now c.in_ok-section.section.now c.in_ok-platform.platform.now _ rest bin formed same c.in_ok-section.ensures.stands c.in_ok-platform.ensures.finds in
    (found.platform, c.in_ok-rest.ensures.finds bin.paths rest found.rising lacks (c.in_ok-paths.ensures.finds _ _ found.small found.same).1)
