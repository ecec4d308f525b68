use Rattle.std.proofs.Common.{◌≡◌, ◌≤◌, ◌&&◌, Bool, map}
use Rattle.std.specs.List.{list_any}
use Rattle.tl_model.specs.Seen.{Told, Quiet}
use Rattle.tl_journal_text.specs.Stand.{tree_of}
use Rattle.tl_report.specs.Claims.{Claim, claim_by}
use Rattle.tl_report.specs.Missing.{is_gone}
use Rattle.tl_report.specs.Walk.{IsInTree}
use Rattle.tl_report.proofs.walk.unmet.Given as goal

abbrev pub invariant-loop-file : goal.invariant-loop-file
invariant-loop-file g l = record {
  gone : Told g.H.Host.tells ((test : Claim → Bool) → list_any (λ c. is_gone (tree_of l.initial.tree.seen.present.held) c && test c) (map (λ file. claim_by file.1.now file.0) l.unmet.items)
      ≡ list_any (λ c. is_gone (tree_of l.initial.tree.seen.present.held) c && test c) (map (λ file. claim_by file.1.now file.0) l.yielded));
  inside : Told g.H.Host.tells (IsInTree (tree_of l.initial.tree.seen.present.held) l.walk.last);
  same : Told g.H.Host.tells (Quiet l.initial.tree.seen l.tree.seen);
  db : l.tree.db ≡ l.initial.tree.db;
  later : l.initial.tree.seen.faults ≤ l.tree.seen.faults;
}
