use Rattle.std.proofs.Common.{List, ℕ, ◌∙◌, Bor, ap, map, sym, subst}
use Rattle.tl_words.specs.Fit.{AreNames}
use Rattle.tl_words.specs.Inside.{words_left}
use Rattle.tl_words.proofs.Fit.{distinct-names, borrowed-names}
use Rattle.tl_words.proofs.values.read_names.Goals as goal

pub names_of-requires : goal.names_of-requires
names_of-requires c =
    borrowed-names c.deref.result.now
    (subst (λ (words : List (List ℕ)). AreNames words)
    (sym (ap (λ (words : List (Bor (List ℕ))). map (λ word. word.now) words) c.deref.ensures.value ∙ c.in_ok-words.ensures))
    (distinct-names (words_left c.args.operands) c.requires))
