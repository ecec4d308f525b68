use Rattle.std.proofs.Common.{◌≡◌, ◌==◌, ◌++◌, ◌&&◌, ◌∙◌, true, false, List, [], Vec, Global, Result, Ok, Err, sym, ap, subst}
use Rattle.std.specs.Prelude.{IfOk, IfErr}
use Rattle.std.proofs.lemmas.List.Elements.{All-nil}
use Rattle.std.specs.Bool.{IsTrue}
use Rattle.tl_model.specs.Acks.{IsLabel}
use Rattle.tl_model.specs.Volume.{Name, Volume}
use Rattle.tl_entry.specs.declared.object.Object.{Object}
use Rattle.tl_tree.specs.Changes.{entries_after, has_entries}
use Rattle.tl_tree.specs.declared.change.Part.{Part}
use Rattle.tl_backup.specs.Asked.{Answers, tree_in}
use Rattle.tl_backups.proofs.Continuing.{unanswered}
use Rattle.tl_coming.specs.Made.{made_parts}
use Rattle.tl_coming.specs.declared.part.PlanPart.{PlanPart}
use Rattle.tl_command.specs.Labels.{step_label}
use Rattle.tl_command.specs.Performs.{Performs}
use Rattle.tl_command.specs.Endings.{no_devices}
use Rattle.tl_command.specs.Runs.{Run, changing_entries}
use Rattle.tl_command.proofs.Joins.{performs_of}
use Rattle.tl_fill.specs.Filling.{FillsStep, beside_shelf, filling}
use Rattle.tl_install.specs.Fetched.{wanted_in}
use Rattle.tl_install.specs.Labels.{coming_texts}
use Rattle.tl_install.specs.Left.{backups_in, left_in}
use Rattle.tl_install.specs.Steps.{CarriesOn, coming_step, step_with}
use Rattle.tl_install.proofs.LabelLemmas.{label-any}
use Rattle.tl_install.proofs.LeftLemmas.{left_once, left_speaks}
use Rattle.tl_install.proofs.StepsLemmas.{made_acted, made_continues, made_db, made_fault, performs_apart}
use Rattle.tl_install.proofs.making.make.Goals as goal

ok_map : {X E : Type 0} (P Q : X → Type 0) → ((x : X) → P x → Q x) → (r : Result X E) → IfOk r P → IfOk r Q
ok_map P Q goes (Ok x) p = goes x p
ok_map P Q goes (Err e) p = tt

err_map : {X E : Type 0} (P Q : E → Type 0) → ((e : E) → P e → Q e) → (r : Result X E) → IfErr r P → IfErr r Q
err_map P Q goes (Ok x) p = tt
err_map P Q goes (Err e) p = goes e p

pub returns-in_default-clause-acted : goal.returns-in_default-clause-acted
returns-in_default-clause-acted g c rest =
    let both = beside_shelf (g.S.Shelf.seen c.args.shelf.now).faults in
    performs_apart g.S.Shelf.tells g.H.Host.tells g.H.Host.seen c.args.tree.seen both both c.give_up.result.ending c.give_up.result.state _ (performs_of _ _ _ _ _ _ _ c.of_tree.ensures (c.give_up.ensures _))

-- the label of some step
some_label : IsLabel (step_label 1 1 [])
some_label = label-any 1 1 [] (All-nil (λ b. (b == 10) ≡ false))

pub backups_in-requires : goal.backups_in-requires
backups_in-requires g c =
    let step = c.args.step.now in
    let names : c.deref.result.now ≡ left_in c.args.repos.now step = c.deref.ensures.value ∙ c.in-Ok.ensures ∙ ap (left_in c.args.repos.now) (c.as_slice.ensures.value ∙ c.step.view_is) in
    left_once c.args.repos.now step c.deref.result.now (c.requires.change _ some_label).names names

pub returns-in-Ok-backups_in-clause-made : goal.returns-in-Ok-backups_in-clause-made
returns-in-Ok-backups_in-clause-made g c =
    let tells = g.H.Host.tells in
    let seen = g.H.Host.seen in
    let volumes = (g.S.Shelf.seen c.args.shelf.now).repositories in
    let repos = c.args.repos.now in
    let old = c.args.tree in
    let mid = c.backups_in.new.tree in
    let step = c.args.step.now in
    let number = c.args.number in
    let count = c.args.count in
    let added = c.in-Ok-backups_in.added.items in
    let names : c.deref.result.now ≡ left_in repos step = c.deref.ensures.value ∙ c.in-Ok.ensures ∙ ap (left_in repos) (c.as_slice.ensures.value ∙ c.step.view_is) in
    let found : IsTrue tells → backups_in (left_in repos step) old.db (tree_in old) ≡ Ok added =
    λ t. ap (λ (some : List Name). backups_in some old.db (tree_in old)) (sym names) ∙ c.in-Ok-backups_in.ensures.parts t in
    ok_map (λ next. FillsStep g.S.Shelf.tells tells volumes (wanted_in repos step) (made_parts repos step ++ added) (step_label number count (coming_texts repos step)) mid next)
    (λ next. CarriesOn (g.S.Shelf.tells && tells) seen (coming_step volumes repos number count step) old next)
    (λ next fills. made_continues g.S.Shelf.tells tells seen volumes repos number count step old mid c.backups_in.ensures.asked c.stands.ensures.tree added found c.in-Ok-backups_in.ensures.form.each next fills)
    c.make_adding.result c.make_adding.ensures.made

pub returns-in-Ok-backups_in-clause-db : goal.returns-in-Ok-backups_in-clause-db
returns-in-Ok-backups_in-clause-db g c =
    let tells = g.H.Host.tells in
    let volumes = (g.S.Shelf.seen c.args.shelf.now).repositories in
    let repos = c.args.repos.now in
    let old = c.args.tree in
    let mid = c.backups_in.new.tree in
    let step = c.args.step.now in
    let number = c.args.number in
    let count = c.args.count in
    let added = c.in-Ok-backups_in.added.items in
    let names : c.deref.result.now ≡ left_in repos step = c.deref.ensures.value ∙ c.in-Ok.ensures ∙ ap (left_in repos) (c.as_slice.ensures.value ∙ c.step.view_is) in
    let found : IsTrue tells → backups_in (left_in repos step) old.db (tree_in old) ≡ Ok added =
    λ t. ap (λ (some : List Name). backups_in some old.db (tree_in old)) (sym names) ∙ c.in-Ok-backups_in.ensures.parts t in
    ok_map (λ next. FillsStep g.S.Shelf.tells tells volumes (wanted_in repos step) (made_parts repos step ++ added) (step_label number count (coming_texts repos step)) mid next)
    (λ next. next.db ≡ entries_after (made_parts repos step) old.db)
    (λ next fills. made_db g.S.Shelf.tells tells g.H.Host.seen volumes repos number count step old mid c.backups_in.ensures.asked c.stands.ensures.tree added found c.in-Ok-backups_in.ensures.form.each next fills)
    c.make_adding.result c.make_adding.ensures.made

pub returns-in-Ok-backups_in-clause-acted : goal.returns-in-Ok-backups_in-clause-acted
returns-in-Ok-backups_in-clause-acted g c =
    let tells = g.H.Host.tells in
    let both = g.S.Shelf.tells && tells in
    let seen = g.H.Host.seen in
    let shelf = g.S.Shelf.seen c.args.shelf.now in
    let volumes = shelf.repositories in
    let before = beside_shelf shelf.faults in
    let after = beside_shelf (g.S.Shelf.seen c.make_adding.new.shelf).faults in
    let repos = c.args.repos.now in
    let old = c.args.tree in
    let mid = c.backups_in.new.tree in
    let step = c.args.step.now in
    let number = c.args.number in
    let count = c.args.count in
    let added = c.in-Ok-backups_in.added.items in
    let label = step_label number count (coming_texts repos step) in
    let names : c.deref.result.now ≡ left_in repos step = c.deref.ensures.value ∙ c.in-Ok.ensures ∙ ap (left_in repos) (c.as_slice.ensures.value ∙ c.step.view_is) in
    let found : IsTrue tells → backups_in (left_in repos step) old.db (tree_in old) ≡ Ok added =
    λ t. ap (λ (some : List Name). backups_in some old.db (tree_in old)) (sym names) ∙ c.in-Ok-backups_in.ensures.parts t in
    err_map (λ acted. (rest : Volume → Run) → Performs both seen (filling volumes (wanted_in repos step) mid.db (made_parts repos step ++ added) label rest) 0 mid.seen before after acted.ending acted.state)
    (λ acted. (rest : List Object → Volume → Run) → Performs both seen (λ t. coming_step volumes repos number count step rest old.db t) 0 old.seen before after acted.ending acted.state)
    (λ acted near. made_acted g.S.Shelf.tells tells seen volumes repos number count step old mid c.backups_in.ensures.asked c.stands.ensures.tree added found c.in-Ok-backups_in.ensures.form.each before after acted.ending acted.state near)
    c.make_adding.result c.make_adding.ensures.acted

pub fault_ends_step-requires : goal.fault_ends_step-requires
fault_ends_step-requires g c =
    let repos = c.args.repos.now in
    let step = c.args.step.now in
    let names : c.deref.result.now ≡ left_in repos step = c.deref.ensures.value ∙ c.in-Ok.ensures ∙ ap (left_in repos) (c.as_slice.ensures.value ∙ c.step.view_is) in
    subst (λ (s : List PlanPart). has_entries (made_parts repos s) ≡ true) (sym (c.as_slice-parts.ensures.value ∙ c.step.view_is))
    (left_speaks repos step (λ none. c.in-Err.ensures.some (names ∙ none)))

pub returns-clause-acted : goal.returns-clause-acted
returns-clause-acted g c rest =
    let tells = g.H.Host.tells in
    let seen = g.H.Host.seen in
    let shelf = g.S.Shelf.seen c.args.shelf.now in
    let volumes = shelf.repositories in
    let both = beside_shelf shelf.faults in
    let repos = c.args.repos.now in
    let old = c.args.tree in
    let mid = c.backups_in.new.tree in
    let step = c.args.step.now in
    let number = c.args.number in
    let count = c.args.count in
    let fault = c.in-Err.fault in
    let ending = c.fault_ends_step.result.ending in
    let state = c.fault_ends_step.result.state in
    let inner : Volume → Run = λ t. step_with volumes (wanted_in repos step) (backups_in (left_in repos step) old.db t) (made_parts repos step) (step_label number count (coming_texts repos step)) rest old.db t in
    let names : c.deref.result.now ≡ left_in repos step = c.deref.ensures.value ∙ c.in-Ok.ensures ∙ ap (left_in repos) (c.as_slice.ensures.value ∙ c.step.view_is) in
    performs_apart g.S.Shelf.tells tells seen old.seen both both ending state (λ t. coming_step volumes repos number count step rest old.db t)
    (subst (λ (s : List PlanPart). Performs tells seen (λ t. changing_entries old.db (made_parts repos s) (inner t)) 0 old.seen no_devices no_devices ending state) (c.as_slice-parts.ensures.value ∙ c.step.view_is)
    (c.fault_ends_step.ensures inner old c.backups_in.ensures.asked c.in-Err.ensures.cause
    (made_fault g.S.Shelf.tells tells seen volumes repos number count step old mid c.backups_in.ensures.asked c.stands.ensures.tree fault rest
    (λ t. unanswered (λ (parts : Vec Part Global). parts.items) fault (backups_in (left_in repos step) old.db (tree_in old))
    (subst (λ (some : List Name). Answers (λ (parts : Vec Part Global). parts.items) (Err fault) (backups_in some old.db (tree_in old))) names (c.in-Err.ensures.parts t))))))
