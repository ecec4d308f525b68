use Rattle.std.proofs.Common.{◌≡◌, ◌∷◌, ◌++◌, ◌+◌, ◌∙◌, List, ℕ, rules, refl, ap, take}
use Rattle.std.specs.Fmt.{HasWritten}
use Rattle.std.specs.List.{join_with_byte}
use Rattle.std.proofs.Output.{has_written_append, has_written_of_eq}
use Rattle.tl_path.proofs.Spelling.{join_first, join_more, join_all}
use Rattle.tl_path.proofs.platforms.PlatformsDisplay.fmt.Goals as goal

pub loop-name-init : goal.loop-name-init
loop-name-init g c =
    let names : c.as_slice.result.now ≡ c.args.self.now = c.as_slice.ensures.value ∙ c.self.view_is in
    λ plain. has_written_of_eq _ _ _ _ _ (c.text.ensures ∙ rw names at (join_first c.as_slice.result.now c.first-item.result c.in-len1-up.len_at_least c.first-item.is)) (c.in_ok-write_str.ensures.writes plain refl)

pub loop-name-preserved : goal.loop-name-preserved
loop-name-preserved g c =
    let names : c.as_slice.result.now ≡ c.args.self.now = c.as_slice.ensures.value ∙ c.self.view_is in
    λ plain.
    let so_far = c.loop-name.invariant plain in
    let one : HasWritten g.W.Write.write_str_gives c.loop-name.f (32 ∷ c.text-in-loop-name.result.now) c.write.new.self = search rules in
    has_written_of_eq _ _ _ _ _
    (ap (λ (t : List ℕ). join_with_byte 32 (take (c.loop-name.name-index + 1) c.args.self.now) ++ 32 ∷ t) c.text-in-loop-name.ensures ∙ rw names at (join_more c.as_slice.result.now c.loop-name.name-index c.name-item.result c.in-len1-up.len_at_least c.loop-name-test.true c.name-item.is))
    (has_written_append _ _ _ _ _ _ so_far one)

pub returns-after-loop-name-clause-writes : goal.returns-after-loop-name-clause-writes
returns-after-loop-name-clause-writes g c =
    let names : c.as_slice.result.now ≡ c.args.self.now = c.as_slice.ensures.value ∙ c.self.view_is in
    λ plain done. has_written_of_eq _ _ _ _ _ (rw names at (join_all c.as_slice.result.now c.loop-name.name-index c.in-len1-up.len_at_least c.loop-name-test.false)) (c.loop-name.invariant plain)
