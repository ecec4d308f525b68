use Rattle.std.proofs.Common.{◌≡◌, ◌++◌}
use Rattle.std.proofs.lemmas.Result.{on_ok_weaker}
use Rattle.tl_pin.specs.Changes.{has_tag}
use Rattle.tl_pin.proofs.ChangeLemmas.{first_at, with_globs-at, with_globs-none}
use Rattle.tl_pin.proofs.pins.Pins.add.Goals as goal

pub returns-in-Some-clause-ok : goal.returns-in-Some-clause-ok
returns-in-Some-clause-ok c =
    on_ok_weaker c.append.result (λ (h : c.append.new.self ≡ c.index_mut.result.now.globs ++ c.in_ok-globs.globs). rw (h, c.in_ok-globs.ensures, ← c.self.view_is)
    (with_globs-at c.args.tag.now c.args.globs.now c.self.inside.lines.items c.in-Some.at c.index_mut.result.now
    (first_at (has_tag c.args.tag.now) c.self.inside.lines.items _ _ (rw c.as_slice.ensures.value at c.in-Some.ensures) c.index_mut.ensures.value))) c.append.ensures.ok

pub returns-in_ok-push-in-None-clause-ok : goal.returns-in_ok-push-in-None-clause-ok
returns-in_ok-push-in-None-clause-ok c =
    rw (c.in_ok-push-in-None.ensures.items, ← c.self.view_is, c.in_ok-tag-in-None.ensures.cases, c.in_ok-globs.ensures)
    (with_globs-none c.args.tag.now c.args.globs.now c.self.inside.lines.items (rw c.as_slice.ensures.value at c.in-None.ensures))
