use Rattle.std.proofs.Common.{◌∙◌, ap, sym, subst, Some, Option, List, [], ◌∷◌, ◌++◌, ℕ, IsSome, refl}
use Rattle.std.specs.Option.{unwrap_or}
use Rattle.std.specs.Result.{is_ok}
use Rattle.std.proofs.lemmas.Result.{on_ok_weaker}
use Rattle.tl_model.specs.Volume.{Name}
use Rattle.tl_model.specs.Seen.{Changes}
use Rattle.tl_journal.specs.Touching.{only_start, only_change}
use Rattle.tl_journal.proofs.Live.{tree_start, tree_change}
use Rattle.tl_journal_text.proofs.Acts.{same_but_join}
use Rattle.tl_journal.proofs.Staged.{made_empty, appended}
use Rattle.tl_journal.proofs.Commits.{only_end}
use Rattle.tl_journal.proofs.gate.clear.Goals as goal

pub returns-in_err-create-clause-keeps : goal.returns-in_err-create-clause-keeps
returns-in_err-create-clause-keeps g c t =
    let s = g.H.Host.seen in
    let first = subst (λ (n : Name). Changes (is_ok c.create.result) n (s c.args.host.now) (s c.create.new.self)) c.body.ensures (c.create.ensures.change t) in
    tree_change _ _ _ _ c.args.slot (tree_start _ (c.requires.clean t).live) first (c.requires.free t)

pub returns-in_err-create-clause-others : goal.returns-in_err-create-clause-others
returns-in_err-create-clause-others g c t =
    let s = g.H.Host.seen in
    (subst (λ (n : Name). Changes (is_ok c.create.result) n (s c.args.host.now) (s c.create.new.self)) c.body.ensures (c.create.ensures.change t)).others

pub append-requires : goal.append-requires
append-requires g c t =
    subst (λ (o : Option (List ℕ)). IsSome o) (sym (made_empty _ _ c.body.result c.body-2.result (c.body.ensures ∙ sym c.body-2.ensures) (c.in_ok-create.ensures.created t))) refl

pub returns-clause-keeps : goal.returns-clause-keeps
returns-clause-keeps g c t =
    let s = g.H.Host.seen in
    let first = subst (λ (n : Name). Changes (is_ok c.create.result) n (s c.args.host.now) (s c.create.new.self)) c.body.ensures (c.create.ensures.change t) in
    let second = subst (λ (n : Name). Changes (is_ok c.append.result) n (s c.create.new.self) (s c.append.new.self)) c.body-2.ensures (c.append.ensures.change t) in
    tree_change _ _ _ _ c.args.slot (tree_change _ _ _ _ c.args.slot (tree_start _ (c.requires.clean t).live) first (c.requires.free t)) second (c.requires.free t)

pub returns-clause-others : goal.returns-clause-others
returns-clause-others g c t =
    let s = g.H.Host.seen in
    let first = subst (λ (n : Name). Changes (is_ok c.create.result) n (s c.args.host.now) (s c.create.new.self)) c.body.ensures (c.create.ensures.change t) in
    let second = subst (λ (n : Name). Changes (is_ok c.append.result) n (s c.create.new.self) (s c.append.new.self)) c.body-2.ensures (c.append.ensures.change t) in
    same_but_join _ _ _ _ first.others second.others

pub returns-clause-cleared : goal.returns-clause-cleared
returns-clause-cleared g c t =
    on_ok_weaker c.append.result (λ added. only_end _ (appended _ _ c.body-2.result _ (69 ∷ []) c.body-2.ensures added
    ∙ ap (λ (o : Option (List ℕ)). Some (unwrap_or o [] ++ 69 ∷ [])) (made_empty _ _ c.body.result _ c.body.ensures (c.in_ok-create.ensures.created t)))) (c.append.ensures.added t)

pub returns-in_err-create-clause-touches : goal.returns-in_err-create-clause-touches
returns-in_err-create-clause-touches g c t = only_change _ _ _ _ (is_ok c.create.result) c.body.result c.body.ensures (only_start _ _) (c.create.ensures.change t)

pub returns-clause-touches : goal.returns-clause-touches
returns-clause-touches g c t =
    only_change _ _ _ _ (is_ok c.append.result) c.body-2.result c.body-2.ensures
    (only_change _ _ _ _ (is_ok c.create.result) c.body.result c.body.ensures (only_start _ _) (c.create.ensures.change t))
    (c.append.ensures.change t)
