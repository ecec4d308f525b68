-- What an installed tree is seen as.
use Rattle.std.specs.Prelude.{ℕ, List, [], Result, unwrap_or, codes, refl}
use Rattle.std.specs.Coded.{Coded, code_by, coded×, coded_list}
use Rattle.tl_model.specs.Volume.{Name, Volume, at}
use Rattle.tl_model.specs.Left.{left}
use Rattle.tl_model.specs.Seen.{Seen, seen_code}
use Rattle.tl_journal.specs.declared.lost.Lost.{Lost}
use Rattle.tl_entry.specs.declared.object.Object.{Object}

-- the host of a tree, and the entries of its database
pub record Planted : Type 0 where
  pub seen : Seen
  pub db : List Object

-- a tree of this host with these entries
abbrev pub planted : Seen → List Object → Planted
planted seen db = record { seen = seen; db = db }

-- the host that a call over a tree leaves: that of the next tree, or the one that its error hands back
abbrev pub left_tree : {H E : Type 0} → (H → Seen) → Result Planted (Lost H E) → Seen
left_tree {H} {E} seen result = left (λ (tree : Planted). tree.seen) (λ (lost : Lost H E). seen lost.host) result

-- by which a tree can be the value of a type, where an entry can
abbrev pub planted_code : Coded Object → Coded Planted
planted_code object_code = code_by (Seen × List Object) (coded× seen_code (coded_list object_code)) (λ p. (p.seen, p.db)) (λ p. record { seen = p.0; db = p.1 }) (λ _. refl)

-- the database of a tree
abbrev pub database : Name
database = codes "tlpkg/texlive.tlpdb"

-- the text of the database of a tree; no bytes where it is absent
abbrev pub database_text : Volume → List ℕ
database_text tree = unwrap_or (at tree database) []
