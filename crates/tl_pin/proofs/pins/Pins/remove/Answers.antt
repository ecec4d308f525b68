use Rattle.std.proofs.Common.{◌∙◌, sym, ap, length, List, ℕ}
use Rattle.tl_pin.specs.Changes.{has_glob}
use Rattle.tl_pin.proofs.ChangeLemmas.{first_at, none_first, some_first, without_glob-last, without_glob-more, without_glob-none, more_globs}
use Rattle.tl_pin.proofs.pins.Pins.remove.Goals as goal

pub returns-in_default-clause-left : goal.returns-in_default-clause-left
returns-in_default-clause-left c = rw (← c.self.view_is) (without_glob-none c.args.tag.now c.args.glob.now c.self.inside.lines.items (rw c.as_slice.ensures.value at c.in_default.ensures))

pub returns-in_default-clause-there : goal.returns-in_default-clause-there
returns-in_default-clause-there c = rw (← c.self.view_is) (sym (none_first (has_glob c.args.tag.now c.args.glob.now) c.self.inside.lines.items (rw c.as_slice.ensures.value at c.in_default.ensures)))

pub returns-then-as_slice-eq1-clause-left : goal.returns-then-as_slice-eq1-clause-left
returns-then-as_slice-eq1-clause-left c =
    rw (c.remove.ensures.items, ← c.self.view_is)
    (without_glob-last c.args.tag.now c.args.glob.now c.self.inside.lines.items c.in-Some.at c.index.result.now
    (first_at (has_glob c.args.tag.now c.args.glob.now) c.self.inside.lines.items _ _ (rw c.as_slice.ensures.value at c.in-Some.ensures) c.index.ensures)
    (ap (λ (gs : List (List ℕ)). length gs) (sym c.as_slice-2.ensures.items) ∙ c.if-as_slice-eq1.true))

pub returns-then-as_slice-eq1-clause-there : goal.returns-then-as_slice-eq1-clause-there
returns-then-as_slice-eq1-clause-there c =
    rw (← c.self.view_is)
    (sym (some_first (has_glob c.args.tag.now c.args.glob.now) c.self.inside.lines.items c.in-Some.at c.index.result.now
    (first_at (has_glob c.args.tag.now c.args.glob.now) c.self.inside.lines.items _ _ (rw c.as_slice.ensures.value at c.in-Some.ensures) c.index.ensures)))

pub returns-else-as_slice-eq1-clause-left : goal.returns-else-as_slice-eq1-clause-left
returns-else-as_slice-eq1-clause-left c =
    let here = first_at (has_glob c.args.tag.now c.args.glob.now) c.self.inside.lines.items _ _ (rw c.as_slice.ensures.value at c.in-Some.ensures) c.index_mut.ensures.value in
    rw (← c.self.view_is, c.remove_first.ensures)
    (without_glob-more c.args.tag.now c.args.glob.now c.self.inside.lines.items c.in-Some.at c.index_mut.result.now here
    (more_globs c.self.inside.lines.items _ _ _ _ here.within c.index_mut.ensures.value c.index.ensures c.as_slice-2.ensures.items c.as_slice-2.ensures.form.some c.if-as_slice-eq1.false))

pub returns-else-as_slice-eq1-clause-there : goal.returns-else-as_slice-eq1-clause-there
returns-else-as_slice-eq1-clause-there c =
    rw (← c.self.view_is)
    (sym (some_first (has_glob c.args.tag.now c.args.glob.now) c.self.inside.lines.items c.in-Some.at c.index.result.now
    (first_at (has_glob c.args.tag.now c.args.glob.now) c.self.inside.lines.items _ _ (rw c.as_slice.ensures.value at c.in-Some.ensures) c.index.ensures)))
