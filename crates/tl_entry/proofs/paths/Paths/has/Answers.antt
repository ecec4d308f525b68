use Rattle.std.proofs.Common.{◌≡◌, ℕ, List, Bool, true, false, sym}
use Rattle.std.specs.Prelude.{Option, Some, None, MatchOption, not}
use Rattle.std.specs.Option.{is_some}
use Rattle.tl_entry.specs.Rising.{has_key, IsPlace}
use Rattle.tl_entry.proofs.RisingLemmas.{absent_at}
use Rattle.tl_entry.proofs.paths.Paths.has.Goals as goal

none_there : (place : Option ℕ) (result : Bool) (wanted : List ℕ) (paths : List (List ℕ)) → is_some place ≡ not result
    → MatchOption place (has_key (λ (p : List ℕ). p) wanted paths ≡ true) (λ at. IsPlace (λ (p : List ℕ). p) wanted paths at) → result ≡ has_key (λ (p : List ℕ). p) wanted paths
none_there None true wanted paths is there = sym there
none_there None false wanted paths is there = absurd (cc)
none_there (Some at) true wanted paths is place = absurd (cc)
none_there (Some at) false wanted paths is place = sym (absent_at (λ (p : List ℕ). p) wanted paths at place)

pub returns : goal.returns
returns c = none_there c.place_for.result c.is_none.result c.args.path.now c.args.self.now c.is_none.ensures c.place_for.ensures
