use Rattle.std.proofs.Common.{◌∙◌, ap, sym, subst, Some, Option, List, [], ◌∷◌, ◌++◌, ℕ, IsSome, refl}
use Rattle.std.specs.Option.{unwrap_or}
use Rattle.std.specs.Result.{is_ok}
use Rattle.tl_model.specs.Volume.{Name, Volume, at}
use Rattle.tl_model.specs.Seen.{Changes}
use Rattle.tl_journal_text.specs.Slots.{gate}
use Rattle.tl_journal.specs.Touching.{only_start, only_change, only_sync}
use Rattle.tl_journal.proofs.Gates.{between_change, between_sync, settles, on_sync}
use Rattle.tl_journal.proofs.Staged.{made_empty, appended}
use Rattle.tl_journal.proofs.gate.open.Goals as goal

pub returns-in_err-create-clause-between : goal.returns-in_err-create-clause-between
returns-in_err-create-clause-between g c t base rs old_rs far =
    let s = g.H.Host.seen in
    between_change base _ _ _ c.args.slot rs old_rs far (subst (λ (n : Name). Changes (is_ok c.create.result) n (s c.args.host.now) (s c.create.new.self)) c.gate.ensures (c.create.ensures.change t))

pub append-requires : goal.append-requires
append-requires g c t =
    subst (λ (o : Option (List ℕ)). IsSome o) (sym (made_empty _ _ c.gate.result c.gate-2.result (c.gate.ensures ∙ sym c.gate-2.ensures) (c.in_ok-create.ensures.created t))) refl

pub returns-in_err-append-clause-between : goal.returns-in_err-append-clause-between
returns-in_err-append-clause-between g c t base rs old_rs far =
    let s = g.H.Host.seen in
    let first = subst (λ (n : Name). Changes (is_ok c.create.result) n (s c.args.host.now) (s c.create.new.self)) c.gate.ensures (c.create.ensures.change t) in
    let second = subst (λ (n : Name). Changes (is_ok c.append.result) n (s c.create.new.self) (s c.append.new.self)) c.gate-2.ensures (c.append.ensures.change t) in
    between_change base _ _ _ c.args.slot rs old_rs (between_change base _ _ _ c.args.slot rs old_rs far first) second

pub returns-clause-between : goal.returns-clause-between
returns-clause-between g c t base rs old_rs far =
    let s = g.H.Host.seen in
    let first = subst (λ (n : Name). Changes (is_ok c.create.result) n (s c.args.host.now) (s c.create.new.self)) c.gate.ensures (c.create.ensures.change t) in
    let second = subst (λ (n : Name). Changes (is_ok c.append.result) n (s c.create.new.self) (s c.append.new.self)) c.gate-2.ensures (c.append.ensures.change t) in
    between_sync base _ _ (is_ok c.sync.result) c.args.slot rs old_rs (between_change base _ _ _ c.args.slot rs old_rs (between_change base _ _ _ c.args.slot rs old_rs far first) second) (c.sync.ensures.sync t)

pub returns-clause-byte : goal.returns-clause-byte
returns-clause-byte g c t =
    on_sync c.sync.result _ _ _ (λ sync.
    ap (λ (v : Volume). at v gate) sync.held
    ∙ appended _ _ c.gate-2.result gate _ c.gate-2.ensures (c.in_ok-append.ensures.added t)
    ∙ ap (λ (o : Option (List ℕ)). Some (unwrap_or o [] ++ c.byte.result ∷ [])) (made_empty _ _ c.gate.result gate c.gate.ensures (c.in_ok-create.ensures.created t))
    ∙ ap (λ (b : ℕ). Some (b ∷ [])) c.byte.ensures) (c.sync.ensures.sync t)

pub returns-clause-settled : goal.returns-clause-settled
returns-clause-settled g c t = on_sync c.sync.result _ _ _ (λ sync. settles _ _ sync) (c.sync.ensures.sync t)

pub returns-in_err-create-clause-touches : goal.returns-in_err-create-clause-touches
returns-in_err-create-clause-touches g c t = only_change _ _ _ _ (is_ok c.create.result) c.gate.result c.gate.ensures (only_start _ _) (c.create.ensures.change t)

pub returns-in_err-append-clause-touches : goal.returns-in_err-append-clause-touches
returns-in_err-append-clause-touches g c t =
    only_change _ _ _ _ (is_ok c.append.result) c.gate-2.result c.gate-2.ensures
    (only_change _ _ _ _ (is_ok c.create.result) c.gate.result c.gate.ensures (only_start _ _) (c.create.ensures.change t))
    (c.append.ensures.change t)

pub returns-clause-touches : goal.returns-clause-touches
returns-clause-touches g c t =
    only_sync _ _ _ _ (is_ok c.sync.result)
    (only_change _ _ _ _ (is_ok c.append.result) c.gate-2.result c.gate-2.ensures
    (only_change _ _ _ _ (is_ok c.create.result) c.gate.result c.gate.ensures (only_start _ _) (c.create.ensures.change t))
    (c.append.ensures.change t))
    (c.sync.ensures.sync t)
