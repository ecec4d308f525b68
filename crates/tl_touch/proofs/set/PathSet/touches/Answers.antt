use Rattle.std.proofs.Common.{ℕ, List, ◌||◌, ◌≡◌, ◌∙◌, sym, ap, subst}
use Rattle.std.specs.Prelude.{IfOk}
use Rattle.std.specs.List.{list_any}
use Rattle.tl_path.specs.Components.{is_below}
use Rattle.tl_entry.specs.Rising.{has_key}
use Rattle.tl_touch.proofs.Touching.{touching}
use Rattle.tl_touch.proofs.set.PathSet.touches.Goals as goal

pub returns-then-has : goal.returns-then-has
returns-then-has c =
    let path = c.args.path.now in
    let paths = c.args.self.now in
    sym (touching path paths ∙ ap (λ t. t || (list_any (λ (o : List ℕ). is_below path o) paths || list_any (λ (o : List ℕ). is_below o path) paths))
    (ap (λ (p : List ℕ). has_key (λ (q : List ℕ). q) p paths) (sym c.bytes.ensures.bytes) ∙ sym c.has.ensures ∙ c.if-has.true))

pub returns : goal.returns
returns c =
    let path = c.args.path.now in
    let paths = c.args.self.now in
    let is = touching path paths ∙ ap (λ t. t || (list_any (λ (o : List ℕ). is_below path o) paths || list_any (λ (o : List ℕ). is_below o path) paths))
    (ap (λ (p : List ℕ). has_key (λ (q : List ℕ). q) p paths) (sym c.bytes.ensures.bytes) ∙ sym c.has.ensures ∙ c.if-has.false) in
    subst (λ t. IfOk c.touches_beside.result (λ touches. touches ≡ t)) (sym is) c.touches_beside.ensures
