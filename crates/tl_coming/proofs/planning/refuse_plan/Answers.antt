use Rattle.std.proofs.Common.{◌≡◌, List, ℕ, [], Option, None, ap, subst, ◌∙◌, map}
use Rattle.std.specs.Prelude.{IfErr, OnOk}
use Rattle.tl_plan.specs.Removal.{is_among}
use Rattle.tl_plan.proofs.SetLaws.{among_all}
use Rattle.tl_coming.specs.Asked.{IsFaultOf, tree_in}
use Rattle.tl_coming.specs.Parts.{part_name}
use Rattle.tl_coming.specs.Planning.{plan_entries}
use Rattle.tl_coming.specs.Refused.{coming_fault, entries_fault}
use Rattle.tl_coming.specs.declared.error.ComingError.{ComingError}
use Rattle.tl_coming.proofs.OnceLaws.{coming_alike, entries_alike}
use Rattle.tl_coming.proofs.planning.refuse_plan.Goals as goal

pub returns-clause-ok : goal.returns-clause-ok
returns-clause-ok g c t =
    let db = c.args.tree.now.db in
    let keys = c.in_ok-names.names.keys in
    let names = map part_name c.args.plan.now in
    let same : (name : List ℕ) → is_among name keys ≡ is_among name names = λ name. ap (is_among name) c.in_ok-names.ensures ∙ among_all name [] names in
    let found : map (λ e. e.now) c.deref.result.now ≡ plan_entries c.args.repos.now c.args.plan.now = ap (map (λ e. e.now)) c.deref.ensures.value ∙ c.in_ok-entries.ensures in
    subst (λ (w : Option ComingError). OnOk c.refuse_coming.result (w ≡ None))
    (ap (coming_fault db keys (tree_in c.args.tree.now)) found ∙ coming_alike db keys names same (tree_in c.args.tree.now) (plan_entries c.args.repos.now c.args.plan.now)) (c.refuse_coming.ensures.ok t)

pub returns-clause-fault : goal.returns-clause-fault
returns-clause-fault g c t =
    let db = c.args.tree.now.db in
    let keys = c.in_ok-names.names.keys in
    let names = map part_name c.args.plan.now in
    let same : (name : List ℕ) → is_among name keys ≡ is_among name names = λ name. ap (is_among name) c.in_ok-names.ensures ∙ among_all name [] names in
    let found : map (λ e. e.now) c.deref.result.now ≡ plan_entries c.args.repos.now c.args.plan.now = ap (map (λ e. e.now)) c.deref.ensures.value ∙ c.in_ok-entries.ensures in
    subst (λ (w : Option ComingError). IfErr c.refuse_coming.result (IsFaultOf w))
    (ap (coming_fault db keys (tree_in c.args.tree.now)) found ∙ coming_alike db keys names same (tree_in c.args.tree.now) (plan_entries c.args.repos.now c.args.plan.now)) (c.refuse_coming.ensures.fault t)

pub returns-clause-entries : goal.returns-clause-entries
returns-clause-entries g c =
    let db = c.args.tree.now.db in
    let keys = c.in_ok-names.names.keys in
    let names = map part_name c.args.plan.now in
    let same : (name : List ℕ) → is_among name keys ≡ is_among name names = λ name. ap (is_among name) c.in_ok-names.ensures ∙ among_all name [] names in
    let found : map (λ e. e.now) c.deref.result.now ≡ plan_entries c.args.repos.now c.args.plan.now = ap (map (λ e. e.now)) c.deref.ensures.value ∙ c.in_ok-entries.ensures in
    subst (λ (w : Option ComingError). OnOk c.refuse_coming.result (w ≡ None))
    (ap (entries_fault db keys) found ∙ entries_alike db keys names same (plan_entries c.args.repos.now c.args.plan.now)) c.refuse_coming.ensures.entries
