use Rattle.std.proofs.Common.{ℕ, List, Bor, sym, ap, subst, ◌∙◌}
use Rattle.std.specs.Prelude.{option_copied}
use Rattle.std.proofs.lemmas.List.{take_all}
use Rattle.tl_pin.proofs.KnownLemmas.{names_at, next_names}
use Rattle.tl_pin.proofs.ViewLemmas.{IsViewOf, has_name, view_more, view_same, view_done}
use Rattle.tl_pin.proofs.views.view.Goals as goal
use Rattle.tl_pin.proofs.views.view.Goals.{in-Some+in_ok-put_copy, in_default}

pub loop-name-preserved : goal.loop-name-preserved
loop-name-preserved c =
    let grown = next_names c.deref-name-items.result.now c.loop-name.name-index c.name-item.result c.loop-name-test.true c.name-item.is in
    elim c.match-view_entry.branch [
      | in-Some+in_ok-put_copy w ↦
          rw w.view-is (subst (λ (names : List (List ℕ)). IsViewOf c.args.pins.now c.args.repos.now c.args.installed.now names w.put_copy.new.view) (sym grown)
          (view_more c.args.pins.now c.args.repos.now c.args.installed.now _ _ _ _ _ (sym c.view_entry.ensures ∙ ap option_copied w.in-Some.is) w.in_ok-put_copy.ensures c.loop-name.invariant))
      | in_default w ↦
          rw w.view-is (subst (λ (names : List (List ℕ)). IsViewOf c.args.pins.now c.args.repos.now c.args.installed.now names c.loop-name.view) (sym grown)
          (view_same c.args.pins.now c.args.repos.now c.args.installed.now _ _ _ (sym c.view_entry.ensures ∙ ap option_copied w.in_default.is) c.loop-name.invariant))
    ]

pub returns : goal.returns
returns c =
    view_done c.args.pins.now c.args.repos.now c.args.installed.now _ _
    (λ n. ap (λ (refs : List (Bor (List ℕ))). has_name n (names_at refs)) (take_all c.loop-name.name-index c.deref-name-items.result.now c.loop-name-test.false ∙ c.deref-name-items.ensures.value) ∙ c.in_ok-names.ensures n)
    c.loop-name.invariant
