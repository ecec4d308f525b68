use Rattle.std.proofs.Common.{◌≡◌, ◌++◌, [], ℕ, List, Vec, drop, ◌∙◌, sym, ap}
use Rattle.std.specs.declared.alloc.Global.{Global}
use Rattle.std.proofs.lemmas.List.{append-nil, drop_all}
use Rattle.tl_settings.proofs.Joined.{spaced, join-spaced}
use Rattle.tl_settings.proofs.setting.joined.Goals as goal

pub returns : goal.returns
returns c =
    let gone : drop c.loop-word.word-index c.args.others.now ≡ [] = drop_all c.loop-word.word-index c.args.others.now c.loop-word-test.false in
    sym (append-nil c.loop-word.value.items)
    ∙ ap (λ (words : List (Vec ℕ Global)). c.loop-word.value.items ++ spaced words) (sym gone)
    ∙ c.loop-word.invariant ∙ sym (join-spaced c.args.first.now c.args.others.now)
