-- What a repository reads as.
use Rattle.std.specs.Prelude.{ℕ, nat_lt, if◌then◌else◌, List, length, Result, Ok, Err}
use Rattle.std.specs.Str.{bytes_eq}
use Rattle.sha2.specs.Sha512.{sha512}
use Rattle.tl_model.specs.Volume.{Volume, at}
use Rattle.tl_kind.specs.Quantities.{limit_of}
use Rattle.tl_kind.specs.declared.quantity.What.TheVariants.{Database, Packages}
use Rattle.tl_entry.specs.declared.object.Object.{Object}
use Rattle.tl_db.specs.Reading.{Fault, db_of}
use Rattle.tl_db.specs.declared.repo.Repo.{Repo}
use Rattle.tl_repo.specs.Faults.{RepoFault, RepoDigest, RepoDatabase, TooLarge, behind}
use Rattle.tl_repo.specs.Files.{database_name, digest_name, bytes_within, digest_stated}

-- entries that are no more than a database may have
abbrev pub entries_within : Result (List Object) Fault → Result (List Object) RepoFault
entries_within (Ok entries) = if nat_lt (limit_of Packages) (length entries) then Err (TooLarge Packages (limit_of Packages)) else Ok entries
entries_within (Err fault) = Err (RepoDatabase fault.0 fault.1)

-- the entries of a text that has this digest
abbrev pub entries_under : List ℕ → List ℕ → Result (List Object) RepoFault
entries_under want text = if bytes_eq (sha512 text) want then entries_within (db_of text) else Err (RepoDigest want (sha512 text))

-- the repository of a number and a tag that holds this, or its first fault: the database and its limit, the digest that is stated, the
-- digest of the database, its entries and their limit
abbrev pub repo_of : ℕ → List ℕ → Volume → Result Repo RepoFault
repo_of number tag volume =
    behind (bytes_within Database database_name (at volume database_name)) (λ text.
    behind (digest_stated (at volume digest_name)) (λ want.
    behind (entries_under want text) (λ entries. Ok (record { number = number; tag = tag; db = entries }))))
