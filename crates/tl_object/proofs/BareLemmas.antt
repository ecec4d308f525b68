-- Paths, and the files of these paths alone.
use Rattle.std.proofs.Common.{◌≡◌, ℕ, Bool, true, false, cond, ◌||◌, List, [], ◌∷◌, map, Option, Some, None, Ok, Err, refl, sym, ◌∙◌, ap}
use Rattle.std.specs.Prelude.{is_some, MatchBool}
use Rattle.tl_entry.specs.Parts.{FileEntry}
use Rattle.tl_model.specs.Volume.{same_name}
use Rattle.tl_entry.specs.Rising.{comes_before, insert_by, has_key}
use Rattle.tl_entry.specs.Sections.{paths_of}
use Rattle.tl_object.specs.Reading.{Plain, placed}
use Rattle.tl_object.specs.Steps.{bare}
use Rattle.tl_object.specs.declared.fault.LineKind.TheVariants as kinds

pub paths-bare : (paths : List (List ℕ)) → paths_of (map bare paths) ≡ paths
paths-bare [] = refl
paths-bare (path ∷ paths) = ap (λ (ps : List (List ℕ)). path ∷ ps) (paths-bare paths)

has-bare : (wanted : List ℕ) (paths : List (List ℕ)) → has_key (λ (f : FileEntry). f.path) wanted (map bare paths) ≡ has_key (λ (path : List ℕ). path) wanted paths
has-bare wanted [] = refl
has-bare wanted (path ∷ paths) = ap (λ t. same_name path wanted || t) (has-bare wanted paths)

insert-bare : (path : List ℕ) (paths : List (List ℕ)) → insert_by (λ (f : FileEntry). f.path) (bare path) (map bare paths) ≡ map bare (insert_by (λ (p : List ℕ). p) path paths)
insert-bare path [] = refl
insert-bare path (other ∷ paths) = by_order (comes_before path other) (insert-bare path paths)
  where
    by_order : (t : Bool) → insert_by (λ (f : FileEntry). f.path) (bare path) (map bare paths) ≡ map bare (insert_by (λ (p : List ℕ). p) path paths)
        → cond t (bare path ∷ bare other ∷ map bare paths) (bare other ∷ insert_by (λ (f : FileEntry). f.path) (bare path) (map bare paths))
        ≡ map bare (cond t (path ∷ other ∷ paths) (other ∷ insert_by (λ (p : List ℕ). p) path paths))
    by_order true rest = refl
    by_order false rest = ap (λ (fs : List FileEntry). bare other ∷ fs) rest

none : {A : Type 0} (x : Option A) → is_some x ≡ false → x ≡ None
none None e = refl
none (Some x) e = absurd (cc)

bare-file : (file : FileEntry) → is_some file.details ≡ false → is_some file.language ≡ false → bare file.path ≡ file
bare-file file no_details no_language =
    ap (λ (d : Option (List ℕ)). record (bare file.path) { details = d }) (sym (none file.details no_details))
    ∙ ap (λ (l : Option (List ℕ)). record (bare file.path) { details = file.details; language = l }) (sym (none file.language no_language))

placed-bare : (paths : List (List ℕ)) (path : List ℕ) → placed Plain (map bare paths) (bare path)
    ≡ cond (has_key (λ (p : List ℕ). p) path paths) (Err kinds.Repeated) (Ok (map bare (insert_by (λ (p : List ℕ). p) path paths)))
placed-bare paths path =
    ap (λ t. cond t (Err kinds.Repeated) (Ok (insert_by (λ (f : FileEntry). f.path) (bare path) (map bare paths)))) (has-bare path paths)
    ∙ ap (λ (fs : List FileEntry). cond (has_key (λ (p : List ℕ). p) path paths) (Err kinds.Repeated) (Ok fs)) (insert-bare path paths)

-- what a list of paths answered on the path of a file
abbrev pub Answers : List (List ℕ) → List (List ℕ) → List ℕ → Bool → Type 0
Answers paths more path added =
    MatchBool added ((has_key (λ (p : List ℕ). p) path paths ≡ false) × (more ≡ insert_by (λ (p : List ℕ). p) path paths)) ((has_key (λ (p : List ℕ). p) path paths ≡ true) × (more ≡ paths))

-- a path that wasn't there yet
pub placed-new : (paths more : List (List ℕ)) (file : FileEntry) (added : Bool) → is_some file.details ≡ false → is_some file.language ≡ false
    → added ≡ true → Answers paths more file.path added → placed Plain (map bare paths) file ≡ Ok (map bare more)
placed-new paths more file true no_details no_language is answer =
    ap (placed Plain (map bare paths)) (sym (bare-file file no_details no_language)) ∙ placed-bare paths file.path
    ∙ ap (λ t. cond t (Err kinds.Repeated) (Ok (map bare (insert_by (λ (p : List ℕ). p) file.path paths)))) answer.0 ∙ ap (λ (ps : List (List ℕ)). Ok (map bare ps)) (sym answer.1)
placed-new paths more file false no_details no_language is answer = absurd (cc)

-- a path that was there
pub placed-again : (paths more : List (List ℕ)) (file : FileEntry) (added : Bool) → is_some file.details ≡ false → is_some file.language ≡ false
    → added ≡ false → Answers paths more file.path added → placed Plain (map bare paths) file ≡ Err kinds.Repeated
placed-again paths more file true no_details no_language is answer = absurd (cc)
placed-again paths more file false no_details no_language is answer =
    ap (placed Plain (map bare paths)) (sym (bare-file file no_details no_language)) ∙ placed-bare paths file.path
    ∙ ap (λ t. cond t (Err kinds.Repeated) (Ok (map bare (insert_by (λ (p : List ℕ). p) file.path paths)))) answer.0
