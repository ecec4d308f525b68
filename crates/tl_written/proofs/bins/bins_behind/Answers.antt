use Rattle.std.proofs.Common.{[], ◌∷◌, sym, ◌∙◌}
use Rattle.std.specs.Prelude.{codes}
use Rattle.tl_entry.specs.declared.object.BinFiles.{BinFiles}
use Rattle.tl_object.specs.Formed.{IsFormedBin}
use Rattle.tl_object.specs.Writing.{bin_lines}
use Rattle.tl_written.proofs.StandLemmas.{front-start, front-next, front-whole}
use Rattle.tl_written.proofs.LeftLemmas.{rising_left-start, rising_left-next, rising_left-none, rising_left-fails}
use Rattle.tl_written.proofs.BinLemmas.{bin-shorter, platform_after, bin_begun, bins_lack}
use Rattle.tl_written.proofs.bins.bins_behind.Goals as goal

pub loop-platform-init : goal.loop-platform-init
loop-platform-init c = record {
  found = front-start (λ (bin : BinFiles). bin.platform) bin_lines IsFormedBin c.args.text.now [];
  kept = rising_left-start (λ (bin : BinFiles). bin.platform) bin_lines IsFormedBin ((32 ∷ []) ∷ codes "binfiles arch=" ∷ []) c.args.text.now platform_after;
}

pub loop-platform-smaller : goal.loop-platform-smaller
loop-platform-smaller c = bin-shorter c.in-Some.platform.now c.loop-platform.rest.now c.in-Some.behind.now c.in-Some.ensures.stands

pub loop-platform-preserved : goal.loop-platform-preserved
loop-platform-preserved c = record {
  found = front-next (λ (bin : BinFiles). bin.platform) bin_lines IsFormedBin c.args.text.now c.loop-platform.rest.now c.in-Some.behind.now c.loop-platform.last.now c.in-Some.platform.now
      c.loop-platform.invariant.found c.in-Some.ensures.stands (sym c.comes_before.ensures ∙ c.if-not-comes_before.false);
  kept = rising_left-next (λ (bin : BinFiles). bin.platform) bin_lines IsFormedBin ((32 ∷ []) ∷ codes "binfiles arch=" ∷ []) ((32 ∷ []) ∷ []) c.args.text.now c.loop-platform.rest.now
      c.in-Some.behind.now c.loop-platform.last.now c.in-Some.platform.now c.loop-platform.invariant.kept bins_lack
      (λ rest. bin_begun c.in-Some.platform.now c.loop-platform.rest.now c.in-Some.behind.now rest c.in-Some.ensures.stands) c.in-Some.ensures.finds;
}

pub returns-then-not-comes_before-clause-finds : goal.returns-then-not-comes_before-clause-finds
returns-then-not-comes_before-clause-finds c =
    rising_left-fails (λ (bin : BinFiles). bin.platform) bin_lines IsFormedBin ((32 ∷ []) ∷ codes "binfiles arch=" ∷ []) ((32 ∷ []) ∷ []) c.args.text.now c.loop-platform.rest.now
    c.in-Some.behind.now c.loop-platform.last.now c.in-Some.platform.now c.loop-platform.invariant.kept bins_lack
    (λ rest. bin_begun c.in-Some.platform.now c.loop-platform.rest.now c.in-Some.behind.now rest c.in-Some.ensures.stands) c.in-Some.ensures.finds
    (sym c.comes_before.ensures ∙ c.if-not-comes_before.true)

pub returns-clause-stands : goal.returns-clause-stands
returns-clause-stands c =
    front-whole (λ (bin : BinFiles). bin.platform) bin_lines IsFormedBin c.args.text.now c.loop-platform.rest.now c.loop-platform.last.now c.loop-platform.invariant.found

pub returns-clause-finds : goal.returns-clause-finds
returns-clause-finds c =
    rising_left-none (λ (bin : BinFiles). bin.platform) bin_lines IsFormedBin ((32 ∷ []) ∷ codes "binfiles arch=" ∷ []) ((32 ∷ []) ∷ []) c.args.text.now c.loop-platform.rest.now
    c.loop-platform.last.now c.loop-platform.invariant.kept bins_lack c.in_default.ensures.finds
