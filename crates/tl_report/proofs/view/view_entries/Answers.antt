use Rattle.std.proofs.Common.{sym, ap, ◌∙◌}
use Rattle.std.specs.Prelude.{option_copied}
use Rattle.tl_pin.specs.Candidates.{view_entry}
use Rattle.tl_report.proofs.ViewLemmas.{found-more, found-none}
use Rattle.tl_report.proofs.view.view_entries.Goals as goal
use Rattle.tl_report.proofs.view.view_entries.Goals.{in-Some+in_ok-push, in_default}

pub loop-name-preserved : goal.loop-name-preserved
loop-name-preserved c =
    let found = view_entry c.args.pins.now c.args.repos.now c.args.installed.now in
    elim c.match-view_entry.branch [
      | in-Some+in_ok-push w ↦
          rw w.entries-is (found-more found c.deref-name-items.result.now c.loop-name.name-index c.name-item.result c.loop-name-test.true c.name-item.is
          w.in-Some.entry c.loop-name.entries.items w.push.new.self.items (sym c.view_entry.ensures ∙ ap option_copied w.in-Some.is) w.in_ok-push.ensures.items c.loop-name.invariant)
      | in_default w ↦
          rw w.entries-is (found-none found c.deref-name-items.result.now c.loop-name.name-index c.name-item.result c.loop-name-test.true c.name-item.is
          _ (sym c.view_entry.ensures ∙ ap option_copied w.in_default.is) c.loop-name.invariant)
    ]
