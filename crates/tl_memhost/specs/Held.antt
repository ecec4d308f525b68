-- What an ordered map of files holds, as a volume.
use Rattle.std.specs.Prelude.{◌≡◌, ℕ, false, List, [], ◌∷◌, Vec, Option, Some, None, IsSome}
use Rattle.std.specs.Borrow.{Bor}
use Rattle.std.specs.declared.ops.Bound.{Bound}
use Rattle.std.specs.declared.ops.Bound.TheVariants.{Included, Excluded, Unbounded}
use Rattle.std.specs.declared.alloc.Global.{Global}
use Rattle.std.specs.Ordering.{is_gt, nat_cmp}
use Rattle.std.specs.Cmp.Lexicographic.{slice_cmp}
use Rattle.std.specs.List.{AllByRecursion}
use Rattle.std.specs.FinMap as map
use Rattle.tl_model.specs.Volume.{Name, Volume, at, IsBefore}
use Rattle.tl_path.specs.Path.{IsPath}

-- the bytes of a name or of a file
abbrev pub Bytes : Type 0
Bytes = Vec ℕ Global

-- what these entries hold
abbrev pub volume_of : List (Bytes × Bytes) → Volume
volume_of [] = map.empty
volume_of (e ∷ es) = map.insert (volume_of es) e.0.items e.1.items

-- each name is a path
abbrev pub ArePaths : List (Bytes × Bytes) → Type 0
ArePaths es = AllByRecursion (λ (e : Bytes × Bytes). IsPath e.0.items) es

-- a name comes after an excluded bound, or doesn't come before an included one
abbrev pub IsFrom : Bound (Bor Bytes) → Name → Type 0
IsFrom (Included k) name = is_gt (slice_cmp nat_cmp k.now.items name) ≡ false
IsFrom (Excluded k) name = IsBefore k.now.items name
IsFrom Unbounded name = Unit {0}

-- the least name from a bound on
abbrev pub IsFirstFrom : Bound (Bor Bytes) → List (Bytes × Bytes) → Option Name → Type 0
IsFirstFrom start es None = (other : Name) → IsFrom start other → at (volume_of es) other ≡ None
IsFirstFrom start es (Some name) = IsSome (at (volume_of es) name) × IsFrom start name × ((other : Name) → IsFrom start other → IsBefore other name → at (volume_of es) other ≡ None)
