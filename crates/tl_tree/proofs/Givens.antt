-- The files that were given for a step, as they are staged.
use Rattle.std.proofs.Common.{◌≡◌, ◌-◌, ℕ, Bool, true, false, cond, ◌||◌, List, [], ◌∷◌, ◌++◌, length, refl, sym, ◌∙◌, ap, arith, append_assoc, length-append}
use Rattle.std.specs.List.{AllByRecursion}
use Rattle.std.proofs.lemmas.Bool.{or_right}
use Rattle.std.proofs.lemmas.List.{append-nil, take_at}
use Rattle.tl_model.specs.Volume.{Name, same_name, same_name-refl}
use Rattle.tl_journal_text.specs.Records.{Record, Remove, Write}
use Rattle.tl_tree.specs.Staged.{has_name, has_file, removes_of, writes_of, records_for}
use Rattle.tl_tree.specs.Changes.{names_of}
use Rattle.tl_tree.specs.Opened.{with_bytes, less_bytes, files_at}
use Rattle.tl_tree.proofs.Lookups.{File}

-- ---- bytes at the end of the last file

pub with-nil : (files : List File) → with_bytes [] files ≡ files
with-nil [] = refl
with-nil (file ∷ []) = ap (λ (l : List ℕ). (file.0, l) ∷ []) (append-nil file.1)
with-nil (file ∷ more ∷ files) = ap (λ (l : List File). file ∷ l) (with-nil (more ∷ files))

-- what stands in front of others stays
with-front : (bytes : List ℕ) (file other : File) (files : List File) → with_bytes bytes (file ∷ with_bytes [] (other ∷ files)) ≡ file ∷ with_bytes bytes (with_bytes [] (other ∷ files))
with-front bytes file other [] = refl
with-front bytes file other (next ∷ files) = refl

with-cons : (a b : List ℕ) (file other : File) (files : List File) → with_bytes b (file ∷ with_bytes a (other ∷ files)) ≡ file ∷ with_bytes b (with_bytes a (other ∷ files))
with-cons a b file other [] = refl
with-cons a b file other (next ∷ files) = refl

less-cons : (a : List ℕ) (count : ℕ) (file other : File) (files : List File) → less_bytes count (file ∷ with_bytes a (other ∷ files)) ≡ file ∷ less_bytes count (with_bytes a (other ∷ files))
less-cons a count file other [] = refl
less-cons a count file other (next ∷ files) = refl

pub with-with : (a b : List ℕ) (files : List File) → with_bytes b (with_bytes a files) ≡ with_bytes (a ++ b) files
with-with a b [] = refl
with-with a b (file ∷ []) = ap (λ (l : List ℕ). (file.0, l) ∷ []) (append_assoc file.1 a b)
with-with a b (file ∷ more ∷ files) = with-cons a b file more files ∙ ap (λ (l : List File). file ∷ l) (with-with a b (more ∷ files))

pub less-with : (bytes : List ℕ) (files : List File) → less_bytes (length bytes) (with_bytes bytes files) ≡ files
less-with bytes [] = refl
less-with bytes (file ∷ []) =
    let count : length (file.1 ++ bytes) - length bytes ≡ length file.1 = omega (arith, length-append file.1 bytes) in
    ap (λ (l : List ℕ). (file.0, l) ∷ []) (take_at file.1 bytes (length (file.1 ++ bytes) - length bytes) (sym count))
less-with bytes (file ∷ more ∷ files) = less-cons bytes (length bytes) file more files ∙ ap (λ (l : List File). file ∷ l) (less-with bytes (more ∷ files))

pub with-last : (bytes : List ℕ) (files : List File) (file : File) → with_bytes bytes (files ++ file ∷ []) ≡ files ++ (file.0, file.1 ++ bytes) ∷ []
with-last bytes [] file = refl
with-last bytes (first ∷ []) file = refl
with-last bytes (first ∷ more ∷ files) file = ap (λ (l : List File). first ∷ l) (with-last bytes (more ∷ files) file)

pub names-with : (bytes : List ℕ) (files : List File) → names_of (with_bytes bytes files) ≡ names_of files
names-with bytes [] = refl
names-with bytes (file ∷ []) = refl
names-with bytes (file ∷ more ∷ files) = ap (λ (l : List Name). file.0 ∷ l) (names-with bytes (more ∷ files))

-- ---- the files among records

files_at-append : (names : List Name) (rs ss : List Record) → files_at names (rs ++ ss) ≡ files_at names rs ++ files_at names ss
files_at-append names [] ss = refl
files_at-append names (Remove name ∷ rs) ss = files_at-append names rs ss
files_at-append names (Write name bytes ∷ rs) ss = by (has_name name names) (files_at-append names rs ss)
  where
    by : (b : Bool) → files_at names (rs ++ ss) ≡ files_at names rs ++ files_at names ss
        → cond b ((name, bytes) ∷ files_at names (rs ++ ss)) (files_at names (rs ++ ss)) ≡ cond b ((name, bytes) ∷ files_at names rs) (files_at names rs) ++ files_at names ss
    by true again = ap (λ (l : List File). (name, bytes) ∷ l) again
    by false again = again

files_at-removes : (names gone : List Name) → files_at names (removes_of gone) ≡ []
files_at-removes names [] = refl
files_at-removes names (name ∷ gone) = files_at-removes names gone

files_at-others : (names : List Name) (files : List File) → AllByRecursion (λ (file : File). has_name file.0 names ≡ false) files → files_at names (writes_of files) ≡ []
files_at-others names [] all = refl
files_at-others names (file ∷ files) all =
    ap (λ b. cond b ((file.0, file.1) ∷ files_at names (writes_of files)) (files_at names (writes_of files))) all.0 ∙ files_at-others names files all.1

files_at-these : (names : List Name) (files : List File) → AllByRecursion (λ (file : File). has_name file.0 names ≡ true) files → files_at names (writes_of files) ≡ files
files_at-these names [] all = refl
files_at-these names (file ∷ files) all =
    ap (λ b. cond b ((file.0, file.1) ∷ files_at names (writes_of files)) (files_at names (writes_of files))) all.0 ∙ ap (λ (l : List File). (file.0, file.1) ∷ l) (files_at-these names files all.1)

-- what holds of each name of files holds of each file
each_file : (P : Name → Type 0) (files : List File) → ((name : Name) → has_file name files ≡ true → P name) → AllByRecursion (λ (file : File). P file.0) files
each_file P [] each = tt
each_file P (file ∷ files) each = (each file.0 (ap (λ b. b || has_file file.0 files) (same_name-refl file.0)), each_file P files (λ name here. each name (or_right (same_name name file.0) (has_file name files) here)))

-- the files behind the records of a change, whose names are others
pub behind-records : (names removes : List Name) (writes files : List File) → ((name : Name) → has_file name writes ≡ true → has_name name names ≡ false) → ((name : Name) → has_file name files ≡ true → has_name name names ≡ true)
    → files_at names (records_for removes writes ++ writes_of files) ≡ files
behind-records names removes writes files others these =
    files_at-append names (records_for removes writes) (writes_of files)
    ∙ ap (λ (l : List File). l ++ files_at names (writes_of files))
    (files_at-append names (removes_of removes) (writes_of writes)
    ∙ ap (λ (l : List File). l ++ files_at names (writes_of writes)) (files_at-removes names removes)
    ∙ files_at-others names writes (each_file (λ name. has_name name names ≡ false) writes others))
    ∙ files_at-these names files (each_file (λ name. has_name name names ≡ true) files these)
