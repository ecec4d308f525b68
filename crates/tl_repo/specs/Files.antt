-- The files that a repository is read from.
use Rattle.std.specs.Prelude.{ℕ, ◌==◌, ◌||◌, nat_lt, if◌then◌else◌, Bool, true, List, [], ◌∷◌, length, take, drop, codes, slice_get, unwrap_or, Option, Some, None, Result, Ok, Err}
use Rattle.std.specs.Result.{result_ok}
use Rattle.std.specs.FinMap as map
use Rattle.hex.specs.Hex.{decode_sized}
use Rattle.tl_model.specs.Devices.{ShelfSeen, in_repository}
use Rattle.tl_model.specs.Volume.{Name, Volume}
use Rattle.tl_model.specs.Words.{is_blank}
use Rattle.tl_kind.specs.Quantities.{limit_of}
use Rattle.tl_kind.specs.declared.quantity.What.{What}
use Rattle.tl_repo.specs.Faults.{RepoFault, Absent, BadDigestLine, TooLarge}

-- the name of a repository's database
abbrev pub database_name : Name
database_name = codes "tlpkg/texlive.tlpdb"

-- the name of the file with its digest
abbrev pub digest_name : Name
digest_name = codes "tlpkg/texlive.tlpdb.sha512"

-- what the repository of a number holds; nothing where there is none
abbrev pub volume_of : List Volume → ℕ → Volume
volume_of volumes number = unwrap_or (slice_get volumes number) map.empty

-- what a name of a repository holds; no bytes where it is absent
abbrev pub held_by : ShelfSeen → ℕ → Name → List ℕ
held_by shelf number name = unwrap_or (in_repository shelf number name) []

-- the bytes of a file that is there and has no more of them than the quantity may have
abbrev pub bytes_within : What → Name → Option (List ℕ) → Result (List ℕ) RepoFault
bytes_within what name None = Err (Absent name)
bytes_within what name (Some bytes) = if nat_lt (limit_of what) (length bytes) then Err (TooLarge what (limit_of what)) else Ok bytes

-- whether a text is empty or begins with a blank or a line end
abbrev pub is_ended : List ℕ → Bool
is_ended [] = true
is_ended (b ∷ text) = is_blank b || b == 10

-- the digest that a file states: 128 hexadecimal digits, with a blank, a line end or nothing behind them
abbrev pub digest_in : List ℕ → Option (List ℕ)
digest_in file = if is_ended (drop 128 file) then result_ok (decode_sized (take 128 file) 64) else None

-- a digest that is stated
abbrev pub digest_or_fault : Option (List ℕ) → Result (List ℕ) RepoFault
digest_or_fault (Some digest) = Ok digest
digest_or_fault None = Err BadDigestLine

-- the digest that the file beside the database states
abbrev pub digest_stated : Option (List ℕ) → Result (List ℕ) RepoFault
digest_stated (Some file) = digest_or_fault (digest_in file)
digest_stated None = Err (Absent digest_name)
