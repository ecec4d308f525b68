use Rattle.std.proofs.Common.{◌≡◌, List, ℕ, refl, ap, subst}
use Rattle.std.specs.Prelude.{IfSome}
use Rattle.tl_model.specs.Volume.{Volume}
use Rattle.tl_backup.specs.Asked.{tree_in}
use Rattle.tl_command.specs.Endings.{no_devices}
use Rattle.tl_command.specs.Performs.{Performs}
use Rattle.tl_command.specs.Runs.{refused, saying}
use Rattle.tl_command.proofs.Databases.{same_tree}
use Rattle.tl_command.proofs.Joins.{performs_of}
use Rattle.tl_backups.specs.Faults.{refused_by}
use Rattle.tl_backups.proofs.Continuing.{behind}
use Rattle.tl_sources.specs.Expand.{expand_run, expanded_in, refusal_of, said_of}
use Rattle.tl_sources.proofs.Finding.{refused_self, said_refused, size_of_fault, size_of_run}
use Rattle.tl_sources.proofs.expanding.expand_tree.Goals as goal

pub returns-in-Ok : goal.returns-in-Ok
returns-in-Ok g c =
    let tells = g.H.Host.tells in
    let seen = g.H.Host.seen in
    let old = c.args.tree in
    let mid = c.expanded_in.new.tree in
    let name = c.args.name.now in
    let text = c.in-Ok.text.items in
    let ending = c.say.result.ending in
    let state = c.say.result.state in
    let found = c.in-Ok.ensures.text in
    let said : Performs tells seen (λ _. saying text) 0 mid.seen no_devices no_devices ending state
    = performs_of tells seen (λ _. saying text) c.of_tree.result mid.seen ending state c.of_tree.ensures
    (subst (λ (bytes : List ℕ). Performs tells seen (λ _. saying bytes) 0 c.of_tree.result no_devices no_devices ending state) c.deref.ensures.value c.say.ensures) in
    record {
      performs = λ later keeps. behind tells seen old mid found.asked c.stands.ensures.tree (λ t. expand_run name later t old.db) (λ _. saying text) ending state
          (λ told. ap (said_of name) (found.answered told later keeps)) said;
      regexps = found.regexps;
      size = size_of_run c.args.regexps.now.refusals c.expanded_in.new.regexps.refusals tells seen old.seen ending state (λ _. saying text) (λ _. tt)
          (behind tells seen old mid found.asked c.stands.ensures.tree (λ _. saying text) (λ _. saying text) ending state (λ told. refl) said);
    }

pub returns-in-Err : goal.returns-in-Err
returns-in-Err g c =
    let old = c.args.tree in
    let name = c.args.name.now in
    let fault = c.in-Err.fault in
    let found = c.in-Err.ensures.text in
    record {
      performs = λ later keeps. c.fault_ends.ensures (λ t. expand_run name later t old.db) old found.asked found.cause
          (λ told t stood. subst (λ (v : Volume). IfSome (refusal_of name fault) (λ refusal. expand_run name later v old.db ≡ refused refusal)) (same_tree old.seen t (c.stands.ensures.tree told) stood)
          (said_refused name fault (expanded_in name later (tree_in old)) (found.answered told later keeps)));
      regexps = found.regexps;
      size = size_of_run c.args.regexps.now.refusals c.expanded_in.new.regexps.refusals g.H.Host.tells g.H.Host.seen old.seen c.fault_ends.result.ending c.fault_ends.result.state (λ _. refused_by (refusal_of name fault))
          (λ _. size_of_fault c.args.regexps.now.refusals c.expanded_in.new.regexps.refusals name fault found.size)
          (c.fault_ends.ensures (λ _. refused_by (refusal_of name fault)) old found.asked found.cause (λ told t stood. refused_self (refusal_of name fault)));
    }
