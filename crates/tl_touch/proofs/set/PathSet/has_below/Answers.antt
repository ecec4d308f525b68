use Rattle.std.proofs.Common.{ℕ, List, [], ◌∷◌, ◌++◌, ◌≡◌, true, ◌∙◌, sym, ap, subst}
use Rattle.tl_entry.specs.Rising.{has_key, is_rising, IsPlace}
use Rattle.tl_touch.proofs.Touching.{below_at, slashed_below}
use Rattle.tl_touch.proofs.set.PathSet.has_below.Goals as goal

pub returns-in-Some : goal.returns-in-Some
returns-in-Some c =
    let front : c.as_slice-2.result.now ≡ c.args.path.now ++ 47 ∷ [] =
    c.as_slice-2.ensures.value ∙ c.in_ok-push.ensures.items ∙ ap (λ (l : List ℕ). l ++ 47 ∷ []) (c.in_ok-front.ensures.items ∙ c.bytes.ensures.bytes) in
    let place : IsPlace (λ (p : List ℕ). p) (c.args.path.now ++ 47 ∷ []) c.args.self.now c.in-Some.place =
    subst (λ (f : List ℕ). IsPlace (λ (p : List ℕ). p) f c.args.self.now c.in-Some.place) front
    (subst (λ (ps : List (List ℕ)). IsPlace (λ (p : List ℕ). p) c.as_slice-2.result.now ps c.in-Some.place) (c.as_slice.ensures.value ∙ c.self.view_is) c.in-Some.ensures) in
    c.is_below_at.ensures ∙ below_at c.args.path.now c.args.self.now c.in-Some.place (subst (λ (ps : List (List ℕ)). is_rising (λ (p : List ℕ). p) ps ≡ true) c.self.view_is c.self.invariant) place

pub returns : goal.returns
returns c =
    let front : c.as_slice-2.result.now ≡ c.args.path.now ++ 47 ∷ [] =
    c.as_slice-2.ensures.value ∙ c.in_ok-push.ensures.items ∙ ap (λ (l : List ℕ). l ++ 47 ∷ []) (c.in_ok-front.ensures.items ∙ c.bytes.ensures.bytes) in
    sym (slashed_below c.args.path.now c.args.self.now (subst (λ (f : List ℕ). has_key (λ (p : List ℕ). p) f c.args.self.now ≡ true) front
    (subst (λ (ps : List (List ℕ)). has_key (λ (p : List ℕ). p) c.as_slice-2.result.now ps ≡ true) (c.as_slice.ensures.value ∙ c.self.view_is) c.in-None.ensures)))
