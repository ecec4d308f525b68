use Rattle.std.proofs.Common.{◌≡◌, ℕ, List, subst}
use Rattle.std.specs.Prelude.{OnOk}
use Rattle.std.specs.Str.{bytes_eq}
use Rattle.indexmap.specs.IndexSet.{insert_all}
use Rattle.tl_depend.proofs.NeedLemmas.{named_on}
use Rattle.tl_depend.proofs.names.add_depend.Goals as goal

pub returns-in-Some : goal.returns-in-Some
returns-in-Some c =
    subst (λ (names : List (List ℕ)). OnOk c.add_on_platforms.result (c.add_on_platforms.new.names.keys ≡ insert_all bytes_eq c.args.names.now.keys names))
    (named_on c.args.platforms.now c.args.depend.now c.in-Some.front.now c.in-Some.ensures.cases.0 c.in-Some.ensures.cases.1) c.add_on_platforms.ensures
