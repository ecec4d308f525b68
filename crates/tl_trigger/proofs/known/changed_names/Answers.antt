use Rattle.std.proofs.Common.{◌&&◌, ℕ, List, ap, ◌∙◌, arith}
use Rattle.std.specs.Str.{bytes_eq}
use Rattle.std.specs.List.{list_any}
use Rattle.std.specs.HashSet.{contains_text}
use Rattle.std.proofs.lemmas.List.{take_all}
use Rattle.tl_trigger.specs.Stale.{is_changed}
use Rattle.tl_trigger.proofs.OnceLemmas.{known_more, known_all}
use Rattle.tl_trigger.proofs.known.changed_names.Goals as goal

pub loop-name-preserved : goal.loop-name-preserved
loop-name-preserved c = λ text.
    known_more (is_changed c.args.old.now c.args.new.now) (contains_text c.loop-name.names text) (contains_text c.add_changed.new.names text) c.args.changed.now c.loop-name.name-index c.name-item.result text
    c.loop-name-test.true c.name-item.is (c.in_ok-add_changed.ensures text) (c.loop-name.invariant text)

pub returns : goal.returns
returns c = λ text.
    let changed = is_changed c.args.old.now c.args.new.now in
    c.loop-name.invariant text ∙ ap (λ (names : List (List ℕ)). list_any (λ n. changed n && bytes_eq n text) names) (take_all c.loop-name.name-index c.args.changed.now (omega arith))
    ∙ known_all changed text c.args.changed.now (c.requires text)
