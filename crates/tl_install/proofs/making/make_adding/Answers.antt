use Rattle.std.proofs.Common.{◌++◌, ◌&&◌, ℕ, List, map, sym, subst}
use Rattle.std.specs.Prelude.{IfOk, IfErr}
use Rattle.tl_model.specs.Volume.{Volume}
use Rattle.tl_tree.specs.Conditions.{IsChange}
use Rattle.tl_tree.specs.declared.change.Part.{Part}
use Rattle.tl_coming.specs.Made.{made_parts}
use Rattle.tl_command.specs.Labels.{step_label}
use Rattle.tl_command.specs.Performs.{Performs}
use Rattle.tl_command.specs.Runs.{Run}
use Rattle.tl_command.proofs.Joins.{performs_of}
use Rattle.tl_fill.specs.Filling.{AreLater, FillsStep, beside_shelf, filling}
use Rattle.tl_fill.specs.Wanted.{Wanted, wanted_of}
use Rattle.tl_fill.specs.declared.fetch.Fetch.{Fetch}
use Rattle.tl_install.specs.Fetched.{wanted_in}
use Rattle.tl_install.specs.Labels.{coming_texts}
use Rattle.tl_install.proofs.StepsLemmas.{are_later-added, change-coming, performs_apart}
use Rattle.tl_install.proofs.WantedLemmas.{step_later}
use Rattle.tl_install.proofs.making.make_adding.Goals as goal

pub step_fetched-requires-clause-change : goal.step_fetched-requires-clause-change
step_fetched-requires-clause-change g c =
    let p = c.in-Ok.prepared in
    subst (λ (ps : List Part). IsChange c.args.tree.db ps p.change.label) (sym c.in-Ok.ensures.parts)
    (change-coming c.args.repos.now c.args.tree.db c.args.step.now c.args.added.items p.change.label (c.requires.change p.change.label c.in-Ok.ensures.label) c.requires.added)

pub step_fetched-requires-clause-later : goal.step_fetched-requires-clause-later
step_fetched-requires-clause-later g c =
    let p = c.in-Ok.prepared in
    let repos = c.args.repos.now in
    let step = c.args.step.now in
    let added = c.args.added.items in
    subst (λ (fs : List Fetch). AreLater p.change.parts (map wanted_of fs)) (sym c.as_slice.ensures.value)
    (subst (λ (ps : List Part). AreLater ps (map wanted_of p.fetches.items)) (sym c.in-Ok.ensures.parts)
    (subst (λ (ws : List Wanted). AreLater (made_parts repos step ++ added) ws) (sym c.in-Ok.ensures.fetches)
    (are_later-added (made_parts repos step) added (wanted_in repos step) c.requires.added.each
    (step_later repos c.args.tree.db step p.change.label (c.requires.change p.change.label c.in-Ok.ensures.label) c.requires.listed))))

pub returns-in_default-clause-acted : goal.returns-in_default-clause-acted
returns-in_default-clause-acted g c rest =
    let both = beside_shelf (g.S.Shelf.seen c.args.shelf.now).faults in
    performs_apart g.S.Shelf.tells g.H.Host.tells g.H.Host.seen c.args.tree.seen both both c.give_up.result.ending c.give_up.result.state _ (performs_of _ _ _ _ _ _ _ c.of_tree.ensures (c.give_up.ensures _))

pub returns-clause-made : goal.returns-clause-made
returns-clause-made g c =
    let p = c.in-Ok.prepared in
    let e = c.in-Ok.ensures in
    let volumes = (g.S.Shelf.seen c.args.shelf.now).repositories in
    let old = c.args.tree in
    let parts = made_parts c.args.repos.now c.args.step.now ++ c.args.added.items in
    let label = step_label c.args.number c.args.count (coming_texts c.args.repos.now c.args.step.now) in
    subst (λ (ws : List Wanted). IfOk c.step_fetched.result (FillsStep g.S.Shelf.tells g.H.Host.tells volumes ws parts label old)) e.fetches
    (subst (λ (ps : List Part). IfOk c.step_fetched.result (FillsStep g.S.Shelf.tells g.H.Host.tells volumes (map wanted_of p.fetches.items) ps label old)) e.parts
    (subst (λ (l : List ℕ). IfOk c.step_fetched.result (FillsStep g.S.Shelf.tells g.H.Host.tells volumes (map wanted_of p.fetches.items) p.change.parts l old)) e.text
    (subst (λ (fs : List Fetch). IfOk c.step_fetched.result (FillsStep g.S.Shelf.tells g.H.Host.tells volumes (map wanted_of fs) p.change.parts p.change.label old)) c.as_slice.ensures.value c.step_fetched.ensures.made)))

pub returns-clause-acted : goal.returns-clause-acted
returns-clause-acted g c =
    let p = c.in-Ok.prepared in
    let e = c.in-Ok.ensures in
    let shelf = g.S.Shelf.seen c.args.shelf.now in
    let old = c.args.tree in
    let before = beside_shelf shelf.faults in
    let after = beside_shelf (g.S.Shelf.seen c.step_fetched.new.shelf).faults in
    let tells = g.S.Shelf.tells && g.H.Host.tells in
    let seen = g.H.Host.seen in
    let parts = made_parts c.args.repos.now c.args.step.now ++ c.args.added.items in
    let label = step_label c.args.number c.args.count (coming_texts c.args.repos.now c.args.step.now) in
    subst (λ (ws : List Wanted). IfErr c.step_fetched.result (λ acted. (rest : Volume → Run) → Performs tells seen
    (filling shelf.repositories ws old.db parts label rest) 0 old.seen before after acted.ending acted.state)) e.fetches
    (subst (λ (ps : List Part). IfErr c.step_fetched.result (λ acted. (rest : Volume → Run) → Performs tells seen
    (filling shelf.repositories (map wanted_of p.fetches.items) old.db ps label rest) 0 old.seen before after acted.ending acted.state)) e.parts
    (subst (λ (l : List ℕ). IfErr c.step_fetched.result (λ acted. (rest : Volume → Run) → Performs tells seen
    (filling shelf.repositories (map wanted_of p.fetches.items) old.db p.change.parts l rest) 0 old.seen before after acted.ending acted.state)) e.text
    (subst (λ (fs : List Fetch). IfErr c.step_fetched.result (λ acted. (rest : Volume → Run) → Performs tells seen
    (filling shelf.repositories (map wanted_of fs) old.db p.change.parts p.change.label rest) 0 old.seen before after acted.ending acted.state)) c.as_slice.ensures.value c.step_fetched.ensures.acted)))
