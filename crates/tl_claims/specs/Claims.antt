-- What is claimed twice among entries.
use Rattle.std.specs.Prelude.{ℕ, ◌+◌, if◌then◌else◌, List, [], ◌∷◌, ◌++◌, map, Option, Some, None}
use Rattle.std.specs.Ordering.{nat_cmp, ordering_then}
use Rattle.std.specs.declared.cmp.Ordering.{Ordering}
use Rattle.std.specs.Cmp.Lexicographic.{slice_cmp}
use Rattle.std.specs.Str.{bytes_eq}
use Rattle.tl_model.specs.Volume.{Name}
use Rattle.tl_entry.specs.FilePaths.{listed_paths}
use Rattle.tl_entry.specs.declared.object.Object.{Object}
use Rattle.tl_backup.specs.Ordered.{in_order}
use Rattle.tl_claims.specs.declared.claim.Claim.{Claim}
use Rattle.tl_claims.specs.declared.claim.Clash.{Clash}

-- the first of some texts that its neighbour equals
abbrev pub first_twice : List (List ℕ) → Option (List ℕ)
first_twice [] = None
first_twice (a ∷ []) = None
first_twice (a ∷ b ∷ rest) = if bytes_eq a b then Some a else first_twice (b ∷ rest)

-- the least name that two entries have
abbrev pub twice_in : List Object → Option Name
twice_in objects = first_twice (in_order (slice_cmp nat_cmp) (map (λ (o : Object). o.name) objects))

-- the claim of a path by the entry of this number and name
abbrev pub claim : ℕ → List ℕ → Name → Claim
claim number by path = record { path = path; number = number; by = by }

-- the claims of entries, of which the first has this number: each path of each section, in the order run, doc, src, bin
abbrev pub claims_from : ℕ → List Object → List Claim
claims_from number [] = []
claims_from number (object ∷ objects) = map (claim number object.name) (listed_paths object) ++ claims_from (number + 1) objects

-- the order of claims: by path, then by the entry
abbrev pub claim_cmp : Claim → Claim → Ordering
claim_cmp a b = ordering_then (slice_cmp nat_cmp a.path b.path) (ordering_then (nat_cmp a.number b.number) (slice_cmp nat_cmp a.by b.by))

-- the clash of two claims of one path
abbrev pub clash_of : Claim → Claim → Clash
clash_of a b = record { path = a.path; first = a.by; second = b.by }

-- that of the first two neighbours of one path
abbrev pub first_clash : List Claim → Option Clash
first_clash [] = None
first_clash (a ∷ []) = None
first_clash (a ∷ b ∷ rest) = if bytes_eq a.path b.path then Some (clash_of a b) else first_clash (b ∷ rest)

-- the least path that two sections of entries have, with the first two entries that claim it
abbrev pub clash_in : List Object → Option Clash
clash_in objects = first_clash (in_order claim_cmp (claims_from 0 objects))
