-- What takes files in pieces, as it is seen.
use Rattle.std.specs.Prelude.{◌≡◌, ◌-◌, ◌++◌, ℕ, true, List, [], ◌∷◌}
use Rattle.std.specs.FinSet as set
use Rattle.tl_model.specs.Volume.{Name, Names}
use Rattle.tl_entry.specs.Rising.{has_key}

-- a sink: the files that it was given, the last one as far as it has come; the paths that it still takes; how many bytes its last file
-- lacks; and its count of faults
pub record SinkSeen : Type 0 where
  pub given : List (Name × List ℕ)
  pub takes : Names
  pub lacks : ℕ
  pub faults : ℕ

-- a file with this path may begin: the last one lacks nothing, and the path is still taken
pub record IsAwaited (path : Name) (sink : SinkSeen) : Type 0 where
  pub whole : sink.lacks ≡ 0
  pub taken : set.contains sink.takes path ≡ true

-- a file of so many bytes has begun: its path is taken no more, all others are as before, and the bytes are still to come
pub record HasBegun (path : Name) (size : ℕ) (old new : SinkSeen) : Type 0 where
  pub takes : new.takes ≡ set.remove old.takes path
  pub lacks : new.lacks ≡ size

-- so many bytes of the last file have come
pub record HasBrought (count : ℕ) (old new : SinkSeen) : Type 0 where
  pub takes : new.takes ≡ old.takes
  pub lacks : new.lacks ≡ old.lacks - count

-- files with more bytes behind those of the last
abbrev pub behind_last : List ℕ → List (Name × List ℕ) → List (Name × List ℕ)
behind_last bytes [] = []
behind_last bytes (file ∷ []) = (file.0, file.1 ++ bytes) ∷ []
behind_last bytes (file ∷ more ∷ files) = file ∷ behind_last bytes (more ∷ files)

-- a sink can be given files with these paths: its last file lacks nothing, and all of them are still taken
pub record IsOpen (paths : List Name) (sink : SinkSeen) : Type 0 where
  pub whole : sink.lacks ≡ 0
  pub taken : (path : Name) → has_key (λ p. p) path paths ≡ true → set.contains sink.takes path ≡ true
