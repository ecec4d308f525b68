use Rattle.std.proofs.Common.{ℕ, Option, refl, sym, ap, subst, arith}
use Rattle.std.specs.Option.{unwrap_or}
use Rattle.tl_model.specs.Seen.{Seen, Told}
use Rattle.tl_model.specs.Joins.{cut_longer}
use Rattle.tl_journal_text.specs.Stand.{stand}
use Rattle.tl_journal.specs.Faults.{IsFault}
use Rattle.tl_journal.specs.declared.resume.RecoverError.{RecoverError}
use Rattle.tl_journal.specs.declared.resume.RecoverError.TheVariants as recovery
use Rattle.tl_refusal.specs.declared.refusal.Refusal.{Refusal}
use Rattle.tl_refusal.specs.declared.refusal.Refusal.TheVariants.{BadJournal}
use Rattle.tl_command.specs.declared.ending.Ending.TheVariants.{HostFault}
use Rattle.tl_command.specs.Runs.{refused}
use Rattle.tl_command.specs.Whole.{Begins, OnlySays, journal_place}
use Rattle.tl_command.proofs.Joins.{caused_join}
use Rattle.tl_command.proofs.Pending.{nothing_pending}
use Rattle.tl_command.proofs.Says.{begins_resumed, cut_resumed}
use Rattle.tl_command.proofs.Wholes.{runs_made, only_unresumed, only_resumed, wordless_refusal}
use Rattle.tl_command.proofs.whole.begin.Goals as goal

pub returns-in-Ok-clause-begun : goal.returns-in-Ok-clause-begun
returns-in-Ok-clause-begun g c =
    let e = c.in-Ok.ensures in
    let first = g.H.Host.seen c.args.host in
    subst (λ (s : Seen). Begins g.H.Host.tells first s) (sym c.of_journal.ensures) (begins_resumed g.H.Host.tells first c.in-Ok.recovered.journal e.tree e.resumes e.cause.later)

pub returns-in-HostFault-clause-ended : goal.returns-in-HostFault-clause-ended
returns-in-HostFault-clause-ended g c =
    let e = c.in-Err.ensures in
    let first = g.H.Host.seen c.args.host in
    let last = g.H.Host.seen c.in-Err.field-0.host in record {
      run = λ t run tree stood.
          let synced = (e.resumes t).syncs in
          runs_made run HostFault first last tree stood (cut_longer stand first last tree _ run.events (cut_resumed first last tree (e.resumes t) stood)) (omega (arith, synced));
      without = λ t none. only_unresumed first last (nothing_pending first.present.held none) (e.resumes t) (refused (BadJournal (journal_place first.present.held)));
      uncarried = λ t tree stood. refl;
      cause = λ before after. e.cause.failed c.in-HostFault.is;
      words = λ none. none;
    }

pub returns-in-BadJournal-clause-ended : goal.returns-in-BadJournal-clause-ended
returns-in-BadJournal-clause-ended g c =
    let e = c.in-Err.ensures in
    let first = g.H.Host.seen c.args.host in
    let mid = g.H.Host.seen c.in-Err.field-0.host in
    let ending = c.refuse_at_once.result.0 in
    let last = g.H.Host.seen c.refuse_at_once.result.1 in
    let bad : Told g.H.Host.tells (IsFault first mid (recovery.BadJournal c.in-BadJournal.at)) = λ t. subst (λ (f : RecoverError). IsFault first mid f) c.in-BadJournal.is (e.bad t) in record {
      run = λ t run tree stood. let none = (bad t).0 in absurd (cc (none, stood));
      without = λ t none.
          let place = ap (λ (o : Option ℕ). BadJournal (unwrap_or o 0)) (bad t).1 in
          subst (λ (r : Refusal). OnlySays (refused r) ending first last) (sym place)
          (only_resumed first mid (nothing_pending first.present.held none) (e.resumes t) (refused (BadJournal c.in-BadJournal.at)) ending last (c.refuse_at_once.ensures.says t));
      uncarried = λ t tree stood. let none = (bad t).0 in absurd (cc (none, stood));
      cause = λ before after. caused_join ending first mid last before after e.cause.later (c.refuse_at_once.ensures.cause before after);
      words = wordless_refusal (BadJournal c.in-BadJournal.at) ending (λ none. none) c.refuse_at_once.ensures.ending;
    }
