use Rattle.std.proofs.Common.{rules, ◌≡◌, ◌+◌, ◌++◌, ◌≤◌, ℕ, List, length, drop, sym, ◌∙◌, ap, subst}
use Rattle.std.specs.Prelude.{if◌then◌else◌, Some, None}
use Rattle.tl_shell.specs.Feeds.{Feeding, TakesPart, PartPasses, IsCutAt, passed_limit}
use Rattle.tl_shell.proofs.FeedLemmas.{part_taken, part_passed}
use Rattle.tl_shell.proofs.feed.Feed.take_part.Goals as goal

pub returns-in_ok-extend_from_slice-in-None-clause-part : goal.returns-in_ok-extend_from_slice-in-None-clause-part
returns-in_ok-extend_from_slice-in-None-clause-part c =
    let bytes : List ℕ = c.self.inside.bytes.items in
    let front : List ℕ = c.front-ended.result.0.now in
    let before : List ℕ = c.args.line.now.items in
    let ended = c.front-ended.result.1 in
    let num_is : c.from-in-None.result ≡ (if ended then 1 else 0) = search rules in
    let after_is : c.extend_from_slice.new.self.items ≡ before ++ front = search rules in
    let first_is : c.from.result ≡ (if ended then 1 else 0) = search rules in
    let size = length before + length front in
    let passes : passed_limit c.self.inside.taken size (size + c.from.result) ≡ None = search rules in
    let within : passed_limit c.self.inside.taken size (size + c.from-in-None.result) ≡ None = ap (λ (n : ℕ). passed_limit c.self.inside.taken size (size + n)) (num_is ∙ sym first_is) ∙ passes in
    let there : c.left.result.now ≡ drop c.self.inside.at bytes = search rules in
    let cut : IsCutAt (drop c.self.inside.at bytes) front ended = subst (λ (text : List ℕ). IsCutAt text front ended) there c.front-ended.ensures in
    subst (λ (old : Feeding). TakesPart ended old (record { ahead = drop (c.self.inside.at + (length front + c.from-in-None.result)) bytes; taken = c.self.inside.taken }) before c.extend_from_slice.new.self.items) c.self.view_is
    (part_taken bytes front before c.extend_from_slice.new.self.items c.self.inside.at c.self.inside.taken c.from-in-None.result ended cut num_is after_is within)

pub returns-in-Some-clause-fault : goal.returns-in-Some-clause-fault
returns-in-Some-clause-fault c =
    let bytes : List ℕ = c.self.inside.bytes.items in
    let front : List ℕ = c.front-ended.result.0.now in
    let before : List ℕ = c.args.line.now.items in
    let ended = c.front-ended.result.1 in
    let num_is : c.from.result ≡ (if ended then 1 else 0) = search rules in
    let passed : passed_limit c.self.inside.taken (length before + length front) (length before + length front + c.from.result) ≡ Some c.in-Some.what = search rules in
    let there : c.left.result.now ≡ drop c.self.inside.at bytes = search rules in
    let cut : IsCutAt (drop c.self.inside.at bytes) front ended = subst (λ (text : List ℕ). IsCutAt text front ended) there c.front-ended.ensures in
    let start : c.self.inside.taken ≤ 17179869184 = search rules in (
      c.limit.ensures,
      subst (λ (old : Feeding). PartPasses old before c.in-Some.what) c.self.view_is
          (part_passed bytes front before c.self.inside.at c.self.inside.taken c.from.result ended c.in-Some.what start cut num_is passed),
    )
