use Rattle.std.proofs.Common.{◌≡◌, ◌++◌, rules}
use Rattle.std.specs.Prelude.{codes, string_bytes}
use Rattle.tl_install.proofs.LabelLemmas.{more_said, more_line}
use Rattle.tl_install.proofs.labels.push_more.Goals as goal

pub loop-part-preserved : goal.loop-part-preserved
loop-part-preserved c =
    let part = c.part-item.result in
    let before = string_bytes c.loop-part.text in
    let mid = string_bytes c.push_str.new.self in
    let after = string_bytes c.push_str-in-loop-part.new.self in
    let next = string_bytes c.in_ok-next.next in
    let comma : mid ≡ before ++ codes ", " = search rules in
    let is : after ≡ mid ++ next = search rules in
    record {
      text = more_said c.args.repos.now (string_bytes c.args.text.now) before mid after next c.args.more.now c.loop-part.part-index part c.loop-part-test.true c.part-item.is
          c.loop-part.invariant.text c.in_ok-next.ensures.text comma is;
      line = more_line before mid after next c.loop-part.invariant.line c.in_ok-next.ensures.line comma is;
    }
