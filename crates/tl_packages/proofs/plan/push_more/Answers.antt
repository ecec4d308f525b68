use Rattle.std.proofs.Common.{◌≡◌, ◌++◌, rules}
use Rattle.std.specs.Prelude.{codes, string_bytes}
use Rattle.tl_packages.proofs.PlanLaws.{more_said, more_line}
use Rattle.tl_packages.proofs.plan.push_more.Goals as goal

pub loop-part-preserved : goal.loop-part-preserved
loop-part-preserved c =
    let part = c.part-item.result in
    let before = string_bytes c.loop-part.text in
    let mid = string_bytes c.push_str.new.self in
    let comma : mid ≡ before ++ codes ", " = search rules in
    record {
      text = more_said (string_bytes c.args.text.now) before mid (string_bytes c.push_change.new.text) c.args.more.now c.loop-part.part-index part c.loop-part-test.true c.part-item.is
          c.loop-part.invariant.text comma c.in_ok-push_change.ensures.text;
      line = more_line before mid (string_bytes c.push_change.new.text) part c.loop-part.invariant.line c.in_ok-push_change.ensures.line comma c.in_ok-push_change.ensures.text;
    }
