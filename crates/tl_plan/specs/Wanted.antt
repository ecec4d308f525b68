-- What leaves by the sets of names that a walk over the entries gathers.
use Rattle.std.specs.Prelude.{◌≡◌, ℕ, ◌&&◌, ◌||◌, not, Bool, List}
use Rattle.tl_entry.specs.declared.object.Object.{Object}
use Rattle.tl_depend.specs.Needed.{is_meta}
use Rattle.tl_plan.specs.Removal.{is_among, is_gathered, is_needed}
use Rattle.tl_plan.specs.declared.asked.Wanted.{Wanted}

-- whether an installed package leaves for itself: it is asked for; or it is gathered, neither collection nor scheme, and not needed
abbrev pub leaves_by : Wanted → Object → Bool
leaves_by wanted entry = is_among entry.name wanted.asked.keys
    || (not (is_meta entry.category) && (is_among entry.name wanted.gathered.keys && not (is_among entry.name wanted.needed.keys)))

-- these are the names that are asked for, that an asked collection names, and that a collection or scheme names which isn't asked for
pub record AreWanted (db : List Object) (names : List (List ℕ)) (wanted : Wanted) : Type 0 where
  pub as_asked : (name : List ℕ) → is_among name wanted.asked.keys ≡ is_among name names
  pub as_gathered : (name : List ℕ) → is_among name wanted.gathered.keys ≡ is_gathered db names name
  pub as_needed : (name : List ℕ) → is_among name wanted.needed.keys ≡ is_needed db names name
