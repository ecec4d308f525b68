-- Which parts of a plan have files that touch a path, by what is noted of them.
use Rattle.std.specs.Prelude.{◌≡◌, nat_eq, slice_index_or, take, ℕ, ◌+◌, ◌&&◌, nat_lt, Bool, List, [], ◌∷◌, drop, map, unwrap_or, Vec}
use Rattle.std.specs.List.{list_any, flat_map}
use Rattle.std.specs.Str.{bytes_eq}
use Rattle.std.specs.declared.alloc.Global.{Global}
use Rattle.indexmap.specs.IndexMap.{IndexMap, get_by}
use Rattle.tl_path.specs.Components.{is_below}
use Rattle.tl_entry.specs.declared.object.Object.{Object}
use Rattle.tl_tree.specs.Changes.{own}
use Rattle.tl_coming.specs.Parts.{part_name, files_with}
use Rattle.tl_coming.specs.declared.part.PlanPart.{PlanPart}
use Rattle.tl_coming.specs.declared.lasts.Lasts.{Lasts}

-- the number of a part, from one on, and its name or a file
abbrev pub Noted : Type 0
Noted = ℕ × List ℕ

-- the number that is kept at a text, 0 where none is
abbrev pub number_at : {S : Type 0} → IndexMap (Vec ℕ Global) ℕ S → List ℕ → ℕ
number_at numbers text = unwrap_or (get_by (λ (key : Vec ℕ Global). bytes_eq text key.items) numbers) 0

-- whether a part with a greater number than this has a file that passes a test
abbrev pub is_noted : ℕ → (List ℕ → Bool) → List Noted → Bool
is_noted least test noted = list_any (λ (n : Noted). nat_lt least n.0 && test n.1) noted

-- whether a folder is the front of a path before a '/' at a place
abbrev pub ends_at : List ℕ → ℕ → List ℕ → Bool
ends_at path end folder = nat_eq (slice_index_or path end 0) 47 && bytes_eq folder (take end path)

-- the names of the packages that the parts of a plan speak of, the first part having this number
abbrev pub names_from : ℕ → List PlanPart → List Noted
names_from number [] = []
names_from number (part ∷ plan) = (number, part_name part) ∷ names_from (number + 1) plan

-- the files of entries, each with a number for the entry's name
abbrev pub files_noted : (List ℕ → ℕ) → List Object → List Noted
files_noted number db = flat_map (λ (o : Object). map (λ (f : List ℕ). (number o.name, f)) (own o)) db

-- the numbers that are kept at names are those of the last parts of a plan that speak of them
abbrev pub AreNumbered : {S : Type 0} → List PlanPart → IndexMap (Vec ℕ Global) ℕ S → Type 0
AreNumbered plan numbers = (least : ℕ) (name : List ℕ) → nat_lt least (number_at numbers name) ≡ is_noted least (bytes_eq name) (names_from 1 plan)

-- the numbers that are kept at paths and at folders are the greatest that are noted of files there and below
pub record AreNoted (noted : List Noted) (lasts : Lasts) : Type 0 where
  pub files : (least : ℕ) (path : List ℕ) → nat_lt least (number_at lasts.files path) ≡ is_noted least (bytes_eq path) noted
  pub folders : (least : ℕ) (folder : List ℕ) → nat_lt least (number_at lasts.folders folder) ≡ is_noted least (λ file. is_below file folder) noted

-- what is kept tells which part of a plan is the last with a file that touches a path
pub record AreLast (db : List Object) (plan : List PlanPart) (lasts : Lasts) : Type 0 where
  pub noted : List Noted
  pub kept : AreNoted noted lasts
  pub behind : (least : ℕ) (test : List ℕ → Bool) → is_noted least test noted ≡ list_any test (flat_map (files_with db) (drop least plan))
