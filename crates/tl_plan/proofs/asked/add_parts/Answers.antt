use Rattle.std.proofs.Common.{◌≡◌, ℕ, List, sym, ◌∙◌, subst}
use Rattle.std.specs.Prelude.{OnOk}
use Rattle.std.specs.Str.{bytes_eq}
use Rattle.indexmap.specs.IndexSet.{insert_all}
use Rattle.tl_plan.proofs.WantedLaws.{parts_named}
use Rattle.tl_plan.proofs.asked.add_parts.Goals as goal

pub returns-then-branch : goal.returns-then-branch
returns-then-branch c =
    subst (λ (parts : List (List ℕ)). OnOk c.add_on_platforms.result (c.add_on_platforms.new.names.keys ≡ insert_all bytes_eq c.args.parts.now.keys parts))
    (parts_named c.args.platforms.now c.args.entry.now c.bytes.result.now c.bytes.ensures.bytes (sym c.in_ok-has_parts.ensures ∙ c.if-branch.true)) c.add_on_platforms.ensures
