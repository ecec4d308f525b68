use Rattle.std.proofs.Common.{◌≡◌, ◌≤◌, ◌+◌, ℕ, List, [], ◌∷◌, ◌++◌, ◌∙◌, ap, sym, subst, length, take}
use Rattle.std.proofs.lemmas.List.{take_more, take_all}
use Rattle.std.specs.List.{count_by}
use Rattle.std.specs.Str.{bytes_eq}
use Rattle.tl_entry.specs.Rising.{has_key}
use Rattle.tl_touch.proofs.Repeats.{HasSeen, seen_one, seen_same}
use Rattle.tl_touch.proofs.repeated.Listed.of.Goals as goal

pub loop-path-preserved : goal.loop-path-preserved
loop-path-preserved c =
    let paths = c.args.paths.now in
    let at = c.loop-path.path-index in
    let path = c.path-item.result in
    let more : take (at + 1) paths ≡ take at paths ++ path ∷ [] =
    take_more paths at path c.loop-path-test.true ∙ ap (λ (p : List ℕ). take at paths ++ p ∷ []) (sym c.path-item.is) in
    subst (λ (done : List (List ℕ)). HasSeen done c.see.new.seen.keys c.see.new.again.items) (sym more)
    (seen_one (take at paths) c.loop-path.seen.keys c.loop-path.again.items c.see.new.seen.keys c.see.new.again.items path
    (record { keys = c.loop-path.invariant.keys; twice = c.loop-path.invariant.twice }) c.in_ok-see.ensures.seen c.in_ok-see.ensures.again)

pub returns : goal.returns
returns c =
    let paths = c.args.paths.now in
    let all : take c.loop-path.path-index paths ≡ paths = take_all c.loop-path.path-index paths c.loop-path-test.false in record {
      as_all = λ path. c.in_ok-set_of.ensures path
          ∙ seen_same (take c.loop-path.path-index paths) c.loop-path.seen.keys c.loop-path.again.items
          (record { keys = c.loop-path.invariant.keys; twice = c.loop-path.invariant.twice }) path
          ∙ ap (has_key (λ (p : List ℕ). p) path) all;
      as_repeated = λ path two. c.of.ensures path ∙ c.loop-path.invariant.twice path (subst (λ (l : List (List ℕ)). 2 ≤ count_by (bytes_eq path) l) (sym all) two);
    }
