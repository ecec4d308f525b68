use Rattle.std.proofs.Common.{◌≡◌, true, false, refl, sym, ◌∙◌, ap, subst, ◌++◌, List, ℕ, take, arith, rules}
use Rattle.std.proofs.lemmas.List.{append-nil}
use Rattle.tl_model.specs.Seen.{Says}
use Rattle.tl_model.specs.Joins.{trace_start, trace_text, cut_text}
use Rattle.tl_journal_text.specs.Stand.{stand}
use Rattle.tl_refusal.specs.Refusals.{refusal_line}
use Rattle.tl_command.specs.declared.ending.Ending.TheVariants.{Refused, HostFault, NoMemory}
use Rattle.tl_command.specs.Runs.{refused}
use Rattle.tl_command.proofs.Joins.{nothing_paused}
use Rattle.tl_command.proofs.Wholes.{runs_made, only_says, only_nothing, front_of}
use Rattle.tl_command.proofs.whole.refuse_at_once.Goals as goal

pub returns-in_default-clause-run : goal.returns-in_default-clause-run
returns-in_default-clause-run g c t tree stood =
    let first = g.H.Host.seen c.args.host in
    let run = refused c.args.refusal in
    runs_made run NoMemory first first tree stood (nothing_paused first first tree run.events (trace_start stand first tree stood)) (omega arith)

pub returns-in_default-clause-says : goal.returns-in_default-clause-says
returns-in_default-clause-says g c t = only_nothing (refused c.args.refusal) (g.H.Host.seen c.args.host)

pub returns-in-Ok-say-clause-run : goal.returns-in-Ok-say-clause-run
returns-in-Ok-say-clause-run g c t tree stood =
    let first = g.H.Host.seen c.args.host in
    let last = g.H.Host.seen c.say.new.self in
    let refusal = c.args.refusal in
    let says : Says true (refusal_line c.args.refusal) first last = subst (λ (l : List ℕ). Says true l first last) (search rules) (c.in-Ok-say.ensures.says t) in
    let unsynced : last.syncs ≡ first.syncs = says.syncs in
    runs_made (refused refusal) (Refused refusal) first last tree stood (refl, trace_text stand first last tree (refusal_line refusal) stood c.line_of.ensures.plain says) (omega (arith, unsynced))

pub returns-in-Ok-say-clause-says : goal.returns-in-Ok-say-clause-says
returns-in-Ok-say-clause-says g c t =
    let first = g.H.Host.seen c.args.host in
    let last = g.H.Host.seen c.say.new.self in
    let refusal = c.args.refusal in
    let line = refusal_line refusal in
    let says : Says true (refusal_line c.args.refusal) first last = subst (λ (l : List ℕ). Says true l first last) (search rules) (c.in-Ok-say.ensures.says t) in
    only_says (refused refusal) (Refused refusal) true line first last refl says (refl, says.whole refl ∙ ap (λ (l : List ℕ). first.present.said ++ l) (sym (append-nil line)))

pub returns-in-Err-clause-run : goal.returns-in-Err-clause-run
returns-in-Err-clause-run g c t tree stood =
    let first = g.H.Host.seen c.args.host in
    let last = g.H.Host.seen c.say.new.self in
    let refusal = c.args.refusal in
    let says : Says false (refusal_line c.args.refusal) first last = subst (λ (l : List ℕ). Says false l first last) (search rules) (c.in-Err.ensures.says t) in
    let unsynced : last.syncs ≡ first.syncs = says.syncs in
    runs_made (refused refusal) HostFault first last tree stood (cut_text stand false first last tree (refusal_line refusal) stood c.line_of.ensures.plain says) (omega (arith, unsynced))

pub returns-in-Err-clause-says : goal.returns-in-Err-clause-says
returns-in-Err-clause-says g c t =
    let first = g.H.Host.seen c.args.host in
    let last = g.H.Host.seen c.say.new.self in
    let refusal = c.args.refusal in
    let line = refusal_line refusal in
    let says : Says false (refusal_line c.args.refusal) first last = subst (λ (l : List ℕ). Says false l first last) (search rules) (c.in-Err.ensures.says t) in
    only_says (refused refusal) HostFault false line first last refl says (take says.count line, says.said, front_of says.count line)
