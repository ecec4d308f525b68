use Rattle.std.proofs.Common.{sym, ◌∙◌, ap, ◌&&◌}
use Rattle.std.specs.Option.{is_none}
use Rattle.std.specs.Ordering.{nat_cmp, is_lt}
use Rattle.std.specs.Cmp.Lexicographic.{slice_cmp}
use Rattle.tl_frame.specs.Scan.{is_later_path}
use Rattle.tl_frame.proofs.fields.is_later_path.Goals as goal

pub returns-in-Ok : goal.returns-in-Ok
unfolding is_later_path
returns-in-Ok c =
    c.is_lt.ensures ∙ ap is_lt c.cmp.ensures
    ∙ sym (ap (λ o. is_none o && is_lt (slice_cmp nat_cmp c.args.last.now c.args.name.now)) c.in-Ok.ensures.path.1)
