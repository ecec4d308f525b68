-- A file of a repository that is being read whole.
use Rattle.std.proofs.Common.{◌≡◌, ◌≤◌, ℕ, Bool, List, [], ◌++◌, length, take, drop, refl, ◌∙◌, ap, arith}
use Rattle.tl_model.specs.Devices.{ShelfSeen, SameShelf}
use Rattle.tl_model.specs.Seen.{Told}
use Rattle.tl_model.specs.Volume.{Name, Volume}
use Rattle.tl_host.specs.Reading.{front-more}
use Rattle.tl_repo.specs.Files.{held_by}

-- nothing has changed but counts, and these bytes are the first of the file
pub record HasRead (tells : Bool) (old new : ShelfSeen) (number : ℕ) (name : Name) (bytes : List ℕ) : Type 0 where
  pub same : SameShelf old new
  pub later : old.faults ≤ new.faults
  pub front : Told tells (bytes ≡ take (length bytes) (held_by old number name))

-- a shelf that one call and then another left the same
pub same_join : (old mid new : ShelfSeen) → SameShelf old mid → SameShelf mid new → SameShelf old new
same_join old mid new far near = record {
  repositories = near.repositories ∙ far.repositories;
  absences = omega (arith, far.absences, near.absences);
}

-- before the first piece
pub read_start : (tells : Bool) (s : ShelfSeen) (number : ℕ) (name : Name) → HasRead tells s s number name []
read_start tells s number name = record {
  same = record { repositories = refl; absences = omega arith };
  later = omega arith;
  front = λ _. refl;
}

-- one piece more
pub read_more : (tells : Bool) (old mid new : ShelfSeen) (number : ℕ) (name : Name) (bytes piece : List ℕ) (n : ℕ) → HasRead tells old mid number name bytes → SameShelf mid new → mid.faults ≤ new.faults
    → Told tells (piece ≡ take n (drop (length bytes) (held_by mid number name))) → HasRead tells old new number name (bytes ++ piece)
read_more tells old mid new number name bytes piece n far same later is = record {
  same = same_join old mid new far.same same;
  later = omega (arith, far.later, later);
  front = λ t. front-more (held_by old number name) bytes piece n (far.front t)
      (is t ∙ ap (λ (vs : List Volume). take n (drop (length bytes) (held_by (record mid { repositories = vs }) number name))) far.same.repositories);
}
