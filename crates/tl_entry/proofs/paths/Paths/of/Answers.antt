use Rattle.std.proofs.Common.{◌≡◌, List, ℕ, get_or, sym, subst}
use Rattle.tl_entry.proofs.TableLemmas.{place_next}
use Rattle.tl_entry.proofs.paths.Paths.of.Goals as goal

pub push-requires : goal.push-requires
push-requires c =
    place_next c.args.paths.now c.loop-path.copy c.loop-path.path-index c.view.result c.requires c.loop-path-test.true
    (subst (λ (x : List ℕ). x ≡ get_or c.args.paths.now c.loop-path.path-index x) (sym c.view.ensures) c.path-item.is) c.loop-path.invariant
