-- Paths in any order, by those that come more than once.
use Rattle.std.specs.Prelude.{◌≡◌, ◌≤◌, ℕ, true, List}
use Rattle.std.specs.List.{count_by}
use Rattle.std.specs.Str.{bytes_eq}
use Rattle.tl_entry.specs.Rising.{has_key}
use Rattle.tl_touch.specs.declared.repeated.Listed.{Listed}

-- these are some paths, and among those that come more than once is each that does
pub record AreListed (paths : List (List ℕ)) (listed : Listed) : Type 0 where
  pub as_all : (path : List ℕ) → has_key (λ p. p) path listed.all ≡ has_key (λ p. p) path paths
  pub as_repeated : (path : List ℕ) → 2 ≤ count_by (bytes_eq path) paths → has_key (λ p. p) path listed.repeated ≡ true
