-- The changes of a tree that the steps of a plan are.
use Rattle.std.specs.Prelude.{◌≡◌, ℕ, true, List, [], ◌∷◌, Option, Some, None, is_some}
use Rattle.std.specs.List.{flat_map, AllByRecursion}
use Rattle.tl_model.specs.Acks.{IsLabel}
use Rattle.tl_entry.specs.Copies.{less_containers}
use Rattle.tl_entry.specs.declared.object.Object.{Object}
use Rattle.tl_db.specs.declared.repo.Repo.{Repo}
use Rattle.tl_tree.specs.Changes.{own, listed, entries_after}
use Rattle.tl_tree.specs.Conditions.{IsChange}
use Rattle.tl_tree.specs.declared.change.Part.{Part}
use Rattle.tl_tree.specs.declared.change.Part.TheVariants as change
use Rattle.tl_coming.specs.Parts.{entry_at, part_entry}
use Rattle.tl_coming.specs.declared.part.PlanPart.{PlanPart}
use Rattle.tl_coming.specs.declared.part.PlanPart.TheVariants.{Install, Update, Remove}

-- the part of a change that brings an entry with files whose bytes come later; none where there is no entry
abbrev pub stream_of : Option Object → List Part
stream_of None = []
stream_of (Some entry) = change.Stream (less_containers entry) ∷ []

-- what a part of a plan does to the tree
abbrev pub made_by : List Repo → PlanPart → List Part
made_by repos (Install name repo) = stream_of (entry_at repos repo name)
made_by repos (Update name repo) = stream_of (entry_at repos repo name)
made_by repos (Remove name) = change.Remove name ∷ []

-- what a step of a plan does to the tree
abbrev pub made_parts : List Repo → List PlanPart → List Part
made_parts repos step = flat_map (made_by repos) step

-- the repository of a part by which a package comes has the package
abbrev pub IsGiven : List Repo → PlanPart → Type 0
IsGiven repos (Install name repo) = is_some (entry_at repos repo name) ≡ true
IsGiven repos (Update name repo) = is_some (entry_at repos repo name) ≡ true
IsGiven repos (Remove name) = Unit {0}

-- each path that an entry lists is a file of it: none is reserved
abbrev pub OwnsListed : Option Object → Type 0
OwnsListed None = Unit {0}
OwnsListed (Some entry) = own entry ≡ listed entry

-- no path that comes with a step is reserved
abbrev pub AreUnreserved : List Repo → List PlanPart → Type 0
AreUnreserved repos step = AllByRecursion (λ part. OwnsListed (part_entry repos part)) step

-- each step of a plan is a change of the entries that the steps before it leave, and no path that comes with it is reserved
abbrev pub AreChanges : List Repo → List Object → List (List PlanPart) → Type 0
AreChanges repos db [] = Unit {0}
AreChanges repos db (step ∷ steps) =
    ((line : List ℕ) → IsLabel line → IsChange db (made_parts repos step) line) × AreUnreserved repos step × AreChanges repos (entries_after (made_parts repos step) db) steps
