-- What a copy has seen: rounds, the last of which has come so far.
use Rattle.std.specs.Prelude.{◌≡◌, ◌⊎◌, ℕ, true, ◌++◌, List, [], ◌∷◌, take, Some, None, Result, Ok, slice_get}
use Rattle.sha2.specs.Sha512.{sha512}
use Rattle.tl_repo.specs.Files.{digest_in}
use Rattle.tl_copying.specs.Copies.{meets, new_copy, having_taken, want_of}
use Rattle.tl_copying.specs.Demands.{onward, containers_in}
use Rattle.tl_copying.specs.declared.copying.Copying.{Copying}
use Rattle.tl_copying.specs.declared.copying.Seen.{Seen}
use Rattle.tl_copying.specs.declared.copying.Seen.TheVariants as saw
use Rattle.tl_copying.specs.declared.copying.Want.TheVariants as wants
use Rattle.tl_copying.specs.declared.demand.Demand.{Demand}
use Rattle.tl_copying.specs.declared.error.CopyError.{CopyError}
use Rattle.tl_copying.specs.declared.stage.Manifest.{Manifest}
use Rattle.tl_copying.specs.declared.stage.Stage.{Stage}
use Rattle.tl_copying.specs.declared.stage.Stage.TheVariants.{Database, Digest, Containers, Spent}

-- a copy that took what was seen, one after the other; or why the database isn't copied
abbrev pub reads : Copying → List Seen → Result Copying CopyError
reads copying [] = Ok copying
reads copying (seen ∷ more) = onward (having_taken copying seen) (λ next. reads next more)

-- database and digest file agree, and the containers are those that the database names
pub record Agrees (manifest : Manifest) : Type 0 where
  pub stated : digest_in manifest.digest ≡ Some (sha512 manifest.database)
  pub named : containers_in manifest.database ≡ Ok (record { first = manifest.containers; again = manifest.again })

-- what was seen are containers, each with the size and digest of one that is named
abbrev pub AreMet : Manifest → List Demand → List Seen → Type 0
AreMet manifest [] [] = Unit {0}
AreMet manifest [] (seen ∷ boxes) = ⊥
AreMet manifest (demand ∷ demands) [] = ⊥
AreMet manifest (demand ∷ demands) (seen ∷ boxes) = (meets manifest demand seen ≡ true) × AreMet manifest demands boxes

-- what was seen is a database, its digest file and the containers in front of a place; once all have come, more may have been seen in vain
pub record IsCopied (manifest : Manifest) (place : ℕ) (round : List Seen) : Type 0 where
  pub agrees : Agrees manifest
  pub boxes : List Seen
  pub idle : List Seen
  pub seen : round ≡ saw.Text manifest.database ∷ saw.Text manifest.digest ∷ boxes ++ idle
  pub met : AreMet manifest (take place manifest.containers) boxes
  pub vain : (idle ≡ []) ⊎ (slice_get manifest.containers place ≡ None)

-- a round has come so far by what it saw
abbrev pub IsRound : Stage → List Seen → Type 0
IsRound Database round = round ≡ []
IsRound (Digest database) round = round ≡ saw.Text database ∷ []
IsRound (Containers manifest place) round = IsCopied manifest place round
IsRound (Spent name) round = Unit {0}

-- what was seen ends with a round that has come so far
pub record HasRound (stage : Stage) (seens : List Seen) : Type 0 where
  pub before : List Seen
  pub round : List Seen
  pub seen : seens ≡ before ++ round
  pub is : IsRound stage round

-- where nothing more is wanted of a repository, what was seen last is a database, the digest file that agrees with it, and each container
-- that the database names, with the size and digest that each entry which names it states; and all that is so in what is to be copied
pub record IsWholeCopy (copying : Copying) (seens : List Seen) : Type 0 where
  pub manifest : Manifest
  pub place : ℕ
  pub is : copying.stage ≡ Containers manifest place
  pub agrees : Agrees manifest
  pub before : List Seen
  pub boxes : List Seen
  pub idle : List Seen
  pub seen : seens ≡ before ++ (saw.Text manifest.database ∷ saw.Text manifest.digest ∷ boxes ++ idle)
  pub met : AreMet manifest manifest.containers boxes

-- agreement: whatever was seen, a copy that is whole is one of a database, its digest file and its containers
abbrev pub Agreement : Type 0
Agreement = (seens : List Seen) (copying : Copying) → reads new_copy seens ≡ Ok copying → want_of copying ≡ wants.Whole → IsWholeCopy copying seens
