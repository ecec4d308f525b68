-- The last of several paths.
use Rattle.std.proofs.Common.{◌≡◌, ℕ, ◌-◌, List, [], ◌∷◌, length, Option, Some, sym, ap, ◌∙◌, arith, suc}
use Rattle.std.specs.Prelude.{slice_get, unwrap_or}
use Rattle.tl_entry.specs.Rising.{comes_before}
use Rattle.tl_marks.specs.declared.marks.MarkedPath.{MarkedPath}
use Rattle.tl_marks.specs.Form.{may_follow}

-- a path may follow several where it is greater than the last one
pub last_follows : (path : List ℕ) (paths : List MarkedPath) (last : MarkedPath) → slice_get paths (length paths - 1) ≡ Some last → may_follow paths path ≡ comes_before last.path path
last_follows path [] last is = absurd (cc)
last_follows path (first ∷ []) last is = ap (λ (o : Option MarkedPath). comes_before (unwrap_or o first).path path) is
last_follows path (first ∷ next ∷ paths) last is =
    let at : length (first ∷ next ∷ paths) - 1 ≡ suc (length (next ∷ paths) - 1) = omega arith in
    last_follows path (next ∷ paths) last (ap (slice_get (first ∷ next ∷ paths)) (sym at) ∙ is)
