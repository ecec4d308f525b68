use Rattle.std.proofs.Common.{ℕ, List, is_some, ap, ◌∙◌}
use Rattle.regex.specs.Patterns.{Re, find_str}
use Rattle.tl_regexp.specs.Finds.{finds}
use Rattle.tl_regexp.proofs.FindLemmas.{finds_as}
use Rattle.tl_regexp.proofs.matcher.ReMatcher.of.Goals as goal

pub invariant_of-result : goal.invariant_of-result
invariant_of-result c path bytes = ap (λ (re : Re). is_some (find_str re path 0)) c.in_ok-matcher.ensures.pattern
    ∙ finds_as _ c.regexp.inside.regex c.regexp.invariant path bytes ∙ ap (λ (text : List ℕ). finds text path) c.regexp.view_is
