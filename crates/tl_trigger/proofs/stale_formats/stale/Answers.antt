use Rattle.std.proofs.Common.{[], ℕ, List, Bool, ap, ◌∙◌}
use Rattle.std.specs.List.{flat_map}
use Rattle.tl_trigger.specs.Stale.{with_formats, stale_by}
use Rattle.tl_trigger.proofs.stale_formats.stale.Goals as goal

pub returns : goal.returns
returns c =
    c.into_vec.ensures ∙ c.in_ok-formats.ensures
    ∙ ap (λ (changed : List ℕ → Bool). with_formats [] (flat_map (stale_by changed) c.args.new.now)) (λ i text. c.in_ok-names.ensures text i)
