-- What files hold under a name.
use Rattle.std.proofs.Common.{◌≡◌, ℕ, true, false, cond, ◌||◌, List, [], ◌∷◌, ◌++◌, Option, Some, None, refl, sym, ◌∙◌, ap, inl, inr}
use Rattle.std.specs.Prelude.{find}
use Rattle.std.specs.Option.{option_map, option_or}
use Rattle.std.proofs.lemmas.Bool.{cases_Bool, or_parts}
use Rattle.std.proofs.lemmas.List.Folds.{find-append}
use Rattle.tl_model.specs.Volume.{Name, same_name}
use Rattle.tl_tree.specs.Staged.{has_name, has_file}
use Rattle.tl_tree.specs.Changes.{names_of}
use Rattle.tl_tree.specs.Filled.{bytes_under}

abbrev pub File : Type 0
File = Name × List ℕ

-- a name among those of files
pub has_name-names_of : (name : Name) (files : List File) → has_name name (names_of files) ≡ has_file name files
has_name-names_of name [] = refl
has_name-names_of name (file ∷ files) = ap (λ b. same_name name file.0 || b) (has_name-names_of name files)

pub under-here : (file : File) (files : List File) (name : Name) → same_name name file.0 ≡ true → bytes_under name (file ∷ files) ≡ Some file.1
under-here file files name e = ap (λ b. option_map (λ (f : File). f.1) (cond b (Some file) (find (λ (f : File). same_name name f.0) files))) e

pub under-next : (file : File) (files : List File) (name : Name) → same_name name file.0 ≡ false → bytes_under name (file ∷ files) ≡ bytes_under name files
under-next file files name e = ap (λ b. option_map (λ (f : File). f.1) (cond b (Some file) (find (λ (f : File). same_name name f.0) files))) e

-- a name that none has
pub under-none : (files : List File) (name : Name) → has_name name (names_of files) ≡ false → bytes_under name files ≡ None
under-none [] name none = refl
under-none (file ∷ files) name none =
    let both = or_parts (same_name name file.0) (has_name name (names_of files)) none in
    under-next file files name both.0 ∙ under-none files name both.1

-- a name that one has
pub under-some : (files : List File) (name : Name) → has_name name (names_of files) ≡ true → (bytes : List ℕ) × (bytes_under name files ≡ Some bytes)
under-some [] name here = absurd (cc)
under-some (file ∷ files) name here = elim (cases_Bool (same_name name file.0)) [
  | inl e ↦ (file.1, under-here file files name e)
  | inr e ↦
      let rest = under-some files name (sym (ap (λ b. b || has_name name (names_of files)) e) ∙ here) in (rest.0, under-next file files name e ∙ rest.1)
]

option_map-or : (a b : Option File) → option_map (λ (f : File). f.1) (option_or a b) ≡ option_or (option_map (λ (f : File). f.1) a) (option_map (λ (f : File). f.1) b)
option_map-or None b = refl
option_map-or (Some f) b = refl

pub under-append : (xs ys : List File) (name : Name) → bytes_under name (xs ++ ys) ≡ option_or (bytes_under name xs) (bytes_under name ys)
under-append xs ys name =
    ap (λ (o : Option File). option_map (λ (f : File). f.1) o) (find-append (λ (f : File). same_name name f.0) xs ys)
    ∙ option_map-or (find (λ (f : File). same_name name f.0) xs) (find (λ (f : File). same_name name f.0) ys)

-- a name that no file of the first list has, or none of the second
pub under-right : (xs ys : List File) (name : Name) → has_name name (names_of xs) ≡ false → bytes_under name (xs ++ ys) ≡ bytes_under name ys
under-right xs ys name none = under-append xs ys name ∙ ap (λ (o : Option (List ℕ)). option_or o (bytes_under name ys)) (under-none xs name none)

or_none : (o : Option (List ℕ)) → option_or o None ≡ o
or_none None = refl
or_none (Some bytes) = refl

pub under-left : (xs ys : List File) (name : Name) → has_name name (names_of ys) ≡ false → bytes_under name (xs ++ ys) ≡ bytes_under name xs
under-left xs ys name none = under-append xs ys name ∙ ap (λ (o : Option (List ℕ)). option_or (bytes_under name xs) o) (under-none ys name none) ∙ or_none (bytes_under name xs)

-- a name that a file of the first list has
pub under-first : (xs ys : List File) (name : Name) (bytes : List ℕ) → bytes_under name xs ≡ Some bytes → bytes_under name (xs ++ ys) ≡ Some bytes
under-first xs ys name bytes is = under-append xs ys name ∙ ap (λ (o : Option (List ℕ)). option_or o (bytes_under name ys)) is
