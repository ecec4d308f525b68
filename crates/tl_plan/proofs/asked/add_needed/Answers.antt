use Rattle.std.proofs.Common.{◌≡◌, ◌||◌, ℕ, List, map, sym, ◌∙◌}
use Rattle.std.specs.List.{flat_map}
use Rattle.std.specs.Str.{bytes_eq}
use Rattle.indexmap.specs.IndexSet.{insert_all}
use Rattle.tl_depend.specs.Names.{named_by}
use Rattle.tl_depend.specs.Needed.{needs_name}
use Rattle.tl_plan.specs.Removal.{is_among}
use Rattle.tl_plan.proofs.SetLaws.{on_ok_weaker}
use Rattle.tl_plan.proofs.WantedLaws.{needed_here}
use Rattle.tl_plan.proofs.asked.add_needed.Goals as goal

pub returns-then-not-contains : goal.returns-then-not-contains
returns-then-not-contains c =
    let platforms = map (λ platform. platform.items) c.args.platforms.now in
    let asked = c.args.asked.now.keys in
    let keys = c.args.names.now.keys in
    let after = c.add_depends.new.names.keys in
    let depends = c.as_slice.result.now in
    on_ok_weaker c.add_depends.result (after ≡ insert_all bytes_eq keys (flat_map (named_by platforms) depends))
    ((name : List ℕ) → is_among name after ≡ (is_among name keys || needs_name platforms name asked c.args.entry.now))
    (λ is name. needed_here platforms asked keys after depends c.args.entry.now name (sym c.is_meta.ensures ∙ c.if-is_meta.true)
    (sym c.contains.ensures ∙ c.if-not-contains.true) c.as_slice.ensures.items is) c.add_depends.ensures
