use Rattle.std.proofs.Common.{◌≡◌, ◌∙◌, ◌++◌, ◌∷◌, [], ap, refl, arith}
use Rattle.std.specs.Option.{option_to_list}
use Rattle.tl_pattern.proofs.FormLemmas.{taken}
use Rattle.tl_pattern.proofs.form.tree_form.Goals as goal

pub returns-in-Some : goal.returns-in-Some
returns-in-Some c =
    let ends : c.in_ok-words.words.items ≡ c.pop.new.self.items ++ c.in-Some.name ∷ [] =
    c.pop.ensures.items ∙ ap (λ o. c.pop.new.self.items ++ option_to_list o) c.in-Some.is in
    let tree = taken c.args.text.now c.in_ok-words.words.items c.pop.new.self.items c.in-Some.name c.in_ok-words.ensures.0 c.in_ok-words.ensures.1 (omega arith) ends in
    (refl, (tree.words_are, tree.name_is, tree.form))
