-- The parts of an entry, as contracts see them.
use Rattle.std.specs.Prelude.{ℕ, List, Option}

-- a documentation file, or a file of another section, which has neither details nor language
pub record FileEntry : Type 0 where
  pub path : List ℕ
  pub details : Option (List ℕ)
  pub language : Option (List ℕ)

-- what the catalogue says of a package under a key
pub record FactEntry : Type 0 where
  pub key : List ℕ
  pub value : List ℕ
