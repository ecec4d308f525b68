-- The files of the entries of a database.
use Rattle.std.specs.Prelude.{ℕ, List, map}
use Rattle.std.specs.List.{flat_map}
use Rattle.tl_entry.specs.declared.object.Object.{Object}
use Rattle.tl_tree.specs.Changes.{own}

-- a file of an entry: its path, and the entry's name
pub record Claim : Type 0 where
  pub path : List ℕ
  pub owner : List ℕ

-- a path as a file of the entry with a name
abbrev pub claim_by : List ℕ → List ℕ → Claim
claim_by owner path = record { path = path; owner = owner }

-- the files of an entry
abbrev pub claims_by : Object → List Claim
claims_by o = map (claim_by o.name) (own o)

-- those of all entries
abbrev pub claims : List Object → List Claim
claims db = flat_map claims_by db
