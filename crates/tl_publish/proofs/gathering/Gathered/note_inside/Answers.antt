use Rattle.std.proofs.Common.{◌≡◌, not, true, cond, ℕ, List, [], ◌∷◌, ◌++◌, sym, ap, subst, ◌∙◌, rules}
use Rattle.std.specs.Prelude.{bytes_eq}
use Rattle.std.proofs.lemmas.Bool.{and_from}
use Rattle.tl_path.specs.Components.{is_below}
use Rattle.tl_lsr.specs.Items.{folder}
use Rattle.tl_lsr.specs.Lists.{list_path}
use Rattle.tl_publish.specs.Listable.{is_inside}
use Rattle.tl_publish.specs.Walk.{Gathering}
use Rattle.tl_publish.proofs.gathering.Gathered.note_inside.Goals as goal

pub returns-in_ok-push-clause-inside : goal.returns-in_ok-push-clause-inside
returns-in_ok-push-clause-inside c =
    let path = c.args.path.now in
    let below : is_below path folder ≡ true = subst (λ (d : List ℕ). is_below path d ≡ true) c.self.invariant.0 (sym c.is_below.ensures ∙ c.if-is_below.true) in
    let other : not (bytes_eq path list_path) ≡ true = subst (λ (d : List ℕ). not (bytes_eq path d) ≡ true) c.self.invariant.1 (sym c.ne.ensures ∙ c.if-ne.true) in
    let is : is_inside path ≡ true = and_from (is_below path folder) (not (bytes_eq path list_path)) below other in
    let grown : c.push.new.self.items ≡ c.self.inside.inside.items ++ path ∷ [] = search rules in
    grown ∙ ap (λ (w : Gathering). w.inside ++ path ∷ []) c.self.view_is ∙ ap (λ b. c.args.self.now.inside ++ cond b (path ∷ []) []) (sym is)
