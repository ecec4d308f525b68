use Rattle.std.proofs.Common.{◌≡◌, ◌++◌, List, Vec, Global, Result, Ok, Err, sym, ap, subst, ◌∙◌}
use Rattle.std.specs.Prelude.{IfOk, IfErr}
use Rattle.std.specs.Bool.{IsTrue}
use Rattle.tl_model.specs.Volume.{Volume}
use Rattle.tl_entry.specs.declared.object.Object.{Object}
use Rattle.tl_tree.specs.declared.change.Part.{Part}
use Rattle.tl_backup.specs.Asked.{Answers, tree_in}
use Rattle.tl_tree.specs.Changes.{entries_after}
use Rattle.tl_backup.proofs.Changing.{added_entries}
use Rattle.tl_backup.specs.Autobackup.{autobackup}
use Rattle.tl_command.specs.Endings.{no_devices}
use Rattle.tl_command.specs.Labels.{step_label}
use Rattle.tl_command.specs.Loaded.{Steps}
use Rattle.tl_command.specs.Performs.{Performs}
use Rattle.tl_command.specs.Runs.{Run, stepping}
use Rattle.tl_command.proofs.Joins.{performs_of}
use Rattle.tl_backups.specs.Continuing.{Continues}
use Rattle.tl_backups.proofs.Continuing.{unanswered}
use Rattle.tl_packages.specs.Remove.{changes_text, left_in, parts_of, plan_step, step_adding}
use Rattle.tl_packages.proofs.Adding.{added_acted, added_continues, added_fault}
use Rattle.tl_packages.proofs.PlanLaws.{left-once}
use Rattle.tl_packages.proofs.plan.make.Goals as goal

ok_map : {X E : Type 0} (P Q : X → Type 0) → ((x : X) → P x → Q x) → (r : Result X E) → IfOk r P → IfOk r Q
ok_map P Q goes (Ok x) p = goes x p
ok_map P Q goes (Err e) p = tt

err_map : {X E : Type 0} (P Q : E → Type 0) → ((e : E) → P e → Q e) → (r : Result X E) → IfErr r P → IfErr r Q
err_map P Q goes (Ok x) p = tt
err_map P Q goes (Err e) p = goes e p

pub returns-in_default-clause-acted : goal.returns-in_default-clause-acted
returns-in_default-clause-acted g c = λ rest. performs_of _ _ _ _ _ _ _ c.of_tree.ensures (c.give_up.ensures _)

pub autobackup-requires : goal.autobackup-requires
autobackup-requires g c = left-once c.args.planned.now c.deref.result.now c.requires (c.deref.ensures.value ∙ c.in-Ok.ensures)

pub returns-in-Ok-autobackup-clause-made : goal.returns-in-Ok-autobackup-clause-made
returns-in-Ok-autobackup-clause-made g c =
    let tells = g.H.Host.tells in
    let seen = g.H.Host.seen in
    let old = c.args.tree in
    let mid = c.autobackup.new.tree in
    let planned = c.args.planned.now in
    let number = c.args.number in
    let count = c.args.count in
    let added = c.in-Ok-autobackup.added.items in
    let found : IsTrue tells → autobackup (left_in planned) old.db (tree_in old) ≡ Ok added =
    λ t. ap (λ (names : List _). autobackup names old.db (tree_in old)) (sym (c.deref.ensures.value ∙ c.in-Ok.ensures)) ∙ c.in-Ok-autobackup.ensures.parts t in
    ok_map (λ next. Steps tells (parts_of planned ++ added) (step_label number count (changes_text planned)) mid next) (λ next. Continues tells seen (plan_step count (number, planned)) old next)
    (λ next steps. added_continues tells seen count number planned old mid c.autobackup.ensures.asked c.stands.ensures.tree added found c.in-Ok-autobackup.ensures.form.each next steps)
    c.make_adding.result c.make_adding.ensures.made

pub returns-in-Ok-autobackup-clause-db : goal.returns-in-Ok-autobackup-clause-db
returns-in-Ok-autobackup-clause-db g c =
    let parts = parts_of c.args.planned.now in
    let added = c.in-Ok-autobackup.added.items in
    let old = c.args.tree in
    let mid = c.autobackup.new.tree in
    ok_map (λ next. Steps g.H.Host.tells (parts ++ added) (step_label c.args.number c.args.count (changes_text c.args.planned.now)) mid next) (λ next. next.db ≡ entries_after parts old.db)
    (λ next steps. steps.db ∙ added_entries parts added mid.db c.in-Ok-autobackup.ensures.form.each ∙ ap (entries_after parts) c.autobackup.ensures.asked.db)
    c.make_adding.result c.make_adding.ensures.made

pub returns-in-Ok-autobackup-clause-acted : goal.returns-in-Ok-autobackup-clause-acted
returns-in-Ok-autobackup-clause-acted g c =
    let tells = g.H.Host.tells in
    let seen = g.H.Host.seen in
    let old = c.args.tree in
    let mid = c.autobackup.new.tree in
    let planned = c.args.planned.now in
    let number = c.args.number in
    let count = c.args.count in
    let added = c.in-Ok-autobackup.added.items in
    let found : IsTrue tells → autobackup (left_in planned) old.db (tree_in old) ≡ Ok added =
    λ t. ap (λ (names : List _). autobackup names old.db (tree_in old)) (sym (c.deref.ensures.value ∙ c.in-Ok.ensures)) ∙ c.in-Ok-autobackup.ensures.parts t in
    err_map (λ acted. (rest : Volume → Run) → Performs tells seen (λ t. stepping mid.db (parts_of planned ++ added) (step_label number count (changes_text planned)) (rest t) t) 0 mid.seen no_devices no_devices acted.ending acted.state)
    (λ acted. (rest : List Object → Volume → Run) → Performs tells seen (λ t. plan_step count (number, planned) rest old.db t) 0 old.seen no_devices no_devices acted.ending acted.state)
    (λ acted near. added_acted tells seen count number planned old mid c.autobackup.ensures.asked c.stands.ensures.tree added found c.in-Ok-autobackup.ensures.form.each acted.ending acted.state near)
    c.make_adding.result c.make_adding.ensures.acted

pub returns-clause-acted : goal.returns-clause-acted
returns-clause-acted g c = λ rest.
    let tells = g.H.Host.tells in
    let seen = g.H.Host.seen in
    let old = c.args.tree in
    let mid = c.autobackup.new.tree in
    let planned = c.args.planned.now in
    let number = c.args.number in
    let count = c.args.count in
    let fault = c.in-Err.fault in
    c.fault_ends_step.ensures (λ t. step_adding (autobackup (left_in planned) old.db t) (parts_of planned) (step_label number count (changes_text planned)) rest old.db t) old c.autobackup.ensures.asked c.in-Err.ensures.cause
    (added_fault tells seen count number planned old mid c.autobackup.ensures.asked c.stands.ensures.tree fault rest
    (λ t. unanswered (λ (parts : Vec Part Global). parts.items) fault (autobackup (left_in planned) old.db (tree_in old))
    (subst (λ (names : List _). Answers (λ (parts : Vec Part Global). parts.items) (Err fault) (autobackup names old.db (tree_in old))) (c.deref.ensures.value ∙ c.in-Ok.ensures) (c.in-Err.ensures.parts t))))
