-- The paths of the files that a container gives, and what a sink takes behind them.
use Rattle.std.proofs.Common.{◌≡◌, ℕ, Bool, true, false, cond, ◌&&◌, ◌||◌, List, [], ◌∷◌, ◌++◌, Option, Result, Ok, Err, refl, sym, ◌∙◌, ap}
use Rattle.std.specs.Prelude.{not, fold, map, bytes_eq}
use Rattle.std.specs.FinSet as set
use Rattle.std.specs.FinMap.{slice_cmp-IsAntisymmetric, nat_cmp-IsAntisymmetric}
use Rattle.std.specs.Cmp.Lexicographic.{nat_list_cmp_total}
use Rattle.std.proofs.lemmas.Bool.{and_parts}
use Rattle.std.proofs.lemmas.Slice.Eq.{bytes_eq-Decides}
use Rattle.tl_model.specs.Volume.{Name, Names, same_name}
use Rattle.tl_file.specs.declared.file.FileBytes.{FileBytes}
use Rattle.tl_entry.specs.Copies.{less_containers}
use Rattle.tl_entry.specs.Rising.{has_key}
use Rattle.tl_entry.specs.declared.object.Object.{Object}
use Rattle.tl_frame.specs.Scan.{frame_fault}
use Rattle.tl_tree.specs.Staged.{has_name}
use Rattle.tl_tree.proofs.Sets.{contains-set_of, same_name-sym}
use Rattle.tl_fetch.specs.Containers.{container_name, part_paths}
use Rattle.tl_fetch.specs.Fetching.{are_same, container_files, digested, files_of_part, files_stated, files_under, following, of_size, path_and_bytes, stated_of, there, unframed_by}
use Rattle.tl_fetch.specs.Unpacked.{paths_in, reads_as}
use Rattle.tl_fetch.specs.declared.container.ContainerPart.{ContainerPart}
use Rattle.tl_fetch.specs.declared.fetch_error.FetchError.{FetchError}
use Rattle.tl_fetch.specs.declared.fetch_error.FetchError.TheVariants.{FrameEntry}

-- ---- the files of a container

abbrev Gives : Type 0
Gives = Result (List (Name × List ℕ)) FetchError

-- what came behind a value
followed_ok : {X : Type 0} {G : Type 0} (r : Result X FetchError) (next : X → Gives) (files : List (Name × List ℕ)) → ((x : X) → next x ≡ Ok files → G) → following r next ≡ Ok files → G
followed_ok (Ok x) next files goes is = goes x is
followed_ok (Err error) next files goes is = absurd (cc)

same_texts : (xs ys : List (List ℕ)) → are_same xs ys ≡ true → xs ≡ ys
same_texts [] [] is = refl
same_texts [] (y ∷ ys) is = absurd (cc)
same_texts (x ∷ xs) [] is = absurd (cc)
same_texts (x ∷ xs) (y ∷ ys) is =
    let both = and_parts (bytes_eq x y) (are_same xs ys) is in
    ap (λ (l : List ℕ). l ∷ xs) ((bytes_eq-Decides x y).0 both.0) ∙ ap (λ (l : List (List ℕ)). y ∷ l) (same_texts xs ys both.1)

paths_of_files : (files : List FileBytes) → paths_in (map path_and_bytes files) ≡ map (λ (file : FileBytes). file.path) files
paths_of_files [] = refl
paths_of_files (file ∷ files) = ap (λ (l : List Name). file.path ∷ l) (paths_of_files files)

part_given : (entry : Object) (part : ContainerPart) (frame : List ℕ × List FileBytes) (files : List (Name × List ℕ)) → files_of_part entry part frame ≡ Ok files → paths_in files ≡ part_paths entry part
part_given entry part frame files is = by (reads_as frame.0 (less_containers entry) && are_same (map (λ (file : FileBytes). file.path) frame.1) (part_paths entry part)) refl is
  where
    by : (b : Bool) → (reads_as frame.0 (less_containers entry) && are_same (map (λ (file : FileBytes). file.path) frame.1) (part_paths entry part)) ≡ b
        → cond b (Ok (map path_and_bytes frame.1)) (Err (FrameEntry entry.name)) ≡ Ok files → paths_in files ≡ part_paths entry part
    by true test given =
        let same : map path_and_bytes frame.1 ≡ files = cc in
        ap paths_in (sym same) ∙ paths_of_files frame.1
        ∙ same_texts (map (λ (file : FileBytes). file.path) frame.1) (part_paths entry part) (and_parts (reads_as frame.0 (less_containers entry)) (are_same (map (λ (file : FileBytes). file.path) frame.1) (part_paths entry part)) test).1
    by false test given = absurd (cc)

-- the files that a container gives have the paths of its part
pub given_paths : (db : List Object) (entry : Object) (part : ContainerPart) (held : Option (List ℕ)) (files : List (Name × List ℕ)) → container_files db entry part held ≡ Ok files → paths_in files ≡ part_paths entry part
given_paths db entry part held files is =
    let name = container_name db entry part in
    followed_ok (stated_of db entry part) (λ stated. files_stated name stated entry part held) files (λ stated at_stated.
    followed_ok (there name held) (λ bytes. following (of_size name stated.size bytes) (files_under name stated.digest entry part)) files (λ bytes at_there.
    followed_ok (of_size name stated.size bytes) (files_under name stated.digest entry part) files (λ sized at_sized.
    followed_ok (digested name stated.digest sized) (λ bytes. following (unframed_by (frame_fault bytes) bytes) (files_of_part entry part)) files (λ digest at_digest.
    followed_ok (unframed_by (frame_fault digest) digest) (files_of_part entry part) files (λ frame at_frame. part_given entry part frame files at_frame)
    at_digest) at_sized) at_there) at_stated) is

-- ---- what a sink takes

pub paths_in-append : (xs ys : List (Name × List ℕ)) → paths_in (xs ++ ys) ≡ paths_in xs ++ paths_in ys
paths_in-append [] ys = refl
paths_in-append (x ∷ xs) ys = ap (λ (l : List Name). x.0 ∷ l) (paths_in-append xs ys)

-- paths without some
abbrev pub less_names : Names → List Name → Names
less_names takes names = fold set.remove takes names

pub contains-less : (takes : Names) (names : List Name) (path : Name) → set.contains (fold set.remove takes names) path ≡ (not (has_name path names) && set.contains takes path)
contains-less takes [] path = refl
contains-less takes (name ∷ names) path =
    contains-less (set.remove takes name) names path ∙ ap (λ (b : Bool). not (has_name path names) && b) (set.contains-remove nat_list_cmp_total takes name path)
    ∙ by (has_name path names) (same_name path name) (set.contains takes path)
  where
    by : (a b c : Bool) → (not a && (not b && c)) ≡ (not (b || a) && c)
    by true true c = refl
    by true false c = refl
    by false true c = refl
    by false false c = refl

-- a path by its own text
pub has_path : (path : Name) (paths : List Name) → has_key (λ p. p) path paths ≡ has_name path paths
has_path path [] = refl
has_path path (p ∷ paths) = ap (λ (b : Bool). b || has_key (λ q. q) path paths) (same_name-sym p path) ∙ ap (λ (b : Bool). same_name path p || b) (has_path path paths)

-- all paths of a set without those that it has
pub none_left : (takes : Names) (all names : List Name) → takes ≡ set.from_list all → ((path : Name) → has_name path names ≡ has_name path all) → less_names takes names ≡ set.empty
none_left takes all names is same =
    set.same_set nat_list_cmp_total (slice_cmp-IsAntisymmetric nat_cmp-IsAntisymmetric) (less_names takes names) set.empty (λ path.
    contains-less takes names path ∙ ap (λ (b : Bool). not (has_name path names) && b) (ap (λ (s : Names). set.contains s path) is ∙ contains-set_of all path ∙ sym (same path))
    ∙ neither (has_name path names) ∙ sym (set.contains-empty _ path))
  where
    neither : (b : Bool) → (not b && b) ≡ false
    neither true = refl
    neither false = refl
