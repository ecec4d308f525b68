use Rattle.std.proofs.Common.{◌≡◌, ◌<◌, ◌∙◌, ap, sym, subst, refl, Option, Vec, List, ℕ, [], length, Err}
use Rattle.std.specs.Option.{unwrap_or, option_map}
use Rattle.std.specs.declared.alloc.Global.{Global}
use Rattle.tl_model.specs.Volume.{Name, at}
use Rattle.tl_tree.specs.Planted.{database}
use Rattle.tl_tree.specs.Names.{at-tree_of-outside}
use Rattle.tl_tree.proofs.load.read_text.Goals as goal

pub returns-in-Ok-Some-clause-text : goal.returns-in-Ok-Some-clause-text
returns-in-Ok-Some-clause-text g c t =
    let held = c.args.journal.now.present.held in
    let P = λ (n : Name). option_map (λ v. v.items) c.in-Ok-Some.field-0 ≡ at held n in
    let found : P database = subst P c.known-database.ensures (c.in-Ok-Some.ensures.bytes t) in
    ap (λ (o : Option (List ℕ)). unwrap_or o []) (sym (ap (λ (o : Option (Vec ℕ Global)). option_map (λ v. v.items) o) c.in-Ok-Some.field-0-is) ∙ found ∙ sym (at-tree_of-outside held database refl))

pub returns-in-Ok-None-clause-text : goal.returns-in-Ok-None-clause-text
returns-in-Ok-None-clause-text g c t =
    let held = c.args.journal.now.present.held in
    let P = λ (n : Name). option_map (λ v. v.items) c.in-Ok-None.field-0 ≡ at held n in
    let found : P database = subst P c.known-database.ensures (c.in-Ok-None.ensures.bytes t) in
    c.new.ensures.items
    ∙ ap (λ (o : Option (List ℕ)). unwrap_or o []) (sym (ap (λ (o : Option (Vec ℕ Global)). option_map (λ v. v.items) o) c.in-Ok-None.field-0-is) ∙ found ∙ sym (at-tree_of-outside held database refl))

pub returns-in-Err-TooLarge-clause-error : goal.returns-in-Err-TooLarge-clause-error
returns-in-Err-TooLarge-clause-error g c t =
    let held = c.args.journal.now.present.held in
    let here = subst (λ (n : Name). 268435456 < length (unwrap_or (at held n) [])) c.known-database.ensures (c.in-Err-TooLarge.ensures.large t (ap Err c.in-Err-TooLarge.field-0-is)) in
    (subst (λ (o : Option (List ℕ)). 268435456 < length (unwrap_or o [])) (sym (at-tree_of-outside held database refl)) here, refl)
