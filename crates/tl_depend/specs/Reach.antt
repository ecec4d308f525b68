-- The names that are reached from others.
use Rattle.std.specs.Prelude.{ℕ, List, Contains}
use Rattle.tl_entry.specs.declared.object.Object.{Object}
use Rattle.tl_depend.specs.Names.{named_in}

-- a list of depends joins a name to another: it is the same, or a depend of its entry stands for a name that joins the other
pub data Joins (db : List Object) (platforms : List (List ℕ)) : List ℕ → List ℕ → Type 0 where
  itself : (name : List ℕ) → Joins db platforms name name
  by_depend : (name next last : List ℕ) → Contains (named_in db platforms name) next → Joins db platforms next last → Joins db platforms name last

-- some root joins a name
pub record IsReached (db : List Object) (platforms roots : List (List ℕ)) (name : List ℕ) : Type 0 where
  pub root : List ℕ
  pub given : Contains roots root
  pub joined : Joins db platforms root name
