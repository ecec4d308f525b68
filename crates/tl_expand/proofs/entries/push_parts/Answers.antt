use Rattle.std.proofs.Common.{◌≡◌, ◌∙◌, None, Some, ap, sym, slice_get}
use Rattle.std.specs.Option.{option_copied}
use Rattle.tl_expand.proofs.PartLemmas.{parts_more, parts_stop, parts_end, parts_out}
use Rattle.tl_expand.proofs.entries.push_parts.Goals as goal

pub returns-in_default : goal.returns-in_default
returns-in_default c =
    let n = c.loop-number.number in
    let none : slice_get c.args.bins.now n ≡ None = sym c.chosen_at.ensures ∙ ap option_copied c.in_default.is in
    parts_stop c.loop-number.objects.items _ _ c.loop-number.invariant (parts_end c.args.source.now c.args.revision n c.args.platforms.now c.args.bins.now none)

pub returns-in_default-2 : goal.returns-in_default-2
returns-in_default-2 c =
    let n = c.loop-number.number in
    let none : slice_get c.args.platforms.now n ≡ None = sym c.in_ok-platform.ensures ∙ c.in_default-2.is in
    parts_stop c.loop-number.objects.items _ _ c.loop-number.invariant (parts_out c.args.source.now c.args.revision n c.args.platforms.now c.args.bins.now none)

pub loop-number-preserved : goal.loop-number-preserved
loop-number-preserved c =
    let n = c.loop-number.number in
    let chosen : slice_get c.args.bins.now n ≡ Some c.in-Some.chosen.now = sym c.chosen_at.ensures ∙ ap option_copied c.in-Some.is in
    parts_more c.args.source.now c.args.revision n c.args.platforms.now c.args.bins.now c.loop-number.objects.items c.push_part.new.objects.items _ _ c.in-Some.chosen.now
    c.in_ok-push_part.ensures c.loop-number.invariant (sym c.in_ok-platform.ensures ∙ c.in-Some-2.is) chosen
