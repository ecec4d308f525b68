-- The paths of the files that are there rise.
use Rattle.std.proofs.Common.{◌≡◌, ℕ, ◌&&◌, true, List, [], ◌∷◌, map, refl, ◌∙◌, ap}
use Rattle.tl_entry.specs.Rising.{is_rising, is_rising_after, comes_before}
use Rattle.tl_entry.specs.Parts.{FileEntry}
use Rattle.tl_index.specs.declared.hit.Hit.{Hit}
use Rattle.tl_index.specs.Entries.{path_of}
use Rattle.tl_index.proofs.EntryLemmas.{rising_filter}
use Rattle.tl_expand.specs.Choices.{living}
use Rattle.tl_expand.specs.Objects.{living_paths, plain_file}

after_paths : (x : Hit) (xs : List Hit) → is_rising_after (λ (p : List ℕ). p) x.path (map path_of xs) ≡ is_rising_after path_of x xs
after_paths x [] = refl
after_paths x (y ∷ ys) = ap (λ t. comes_before x.path y.path && t) (after_paths y ys)

rising_paths : (xs : List Hit) → is_rising (λ (p : List ℕ). p) (map path_of xs) ≡ is_rising path_of xs
rising_paths [] = refl
rising_paths (x ∷ xs) = after_paths x xs

pub rising_living : (xs : List Hit) → is_rising path_of xs ≡ true → is_rising (λ (p : List ℕ). p) (living_paths xs) ≡ true
rising_living xs up = rising_paths (living xs) ∙ rising_filter (λ (h : Hit). h.leaf.lives) xs up

after_files : (x : List ℕ) (xs : List (List ℕ)) → is_rising_after (λ (f : FileEntry). f.path) (plain_file x) (map plain_file xs) ≡ is_rising_after (λ (p : List ℕ). p) x xs
after_files x [] = refl
after_files x (y ∷ ys) = ap (λ t. comes_before x y && t) (after_files y ys)

same_files : (xs : List (List ℕ)) → is_rising (λ (f : FileEntry). f.path) (map plain_file xs) ≡ is_rising (λ (p : List ℕ). p) xs
same_files [] = refl
same_files (x ∷ xs) = after_files x xs

pub rising_files : (hits : List Hit) (paths : List (List ℕ)) (files : List FileEntry) → paths ≡ living_paths hits → files ≡ map plain_file paths → is_rising path_of hits ≡ true
    → is_rising (λ (f : FileEntry). f.path) files ≡ true
rising_files hits paths files is of up = ap (is_rising (λ (f : FileEntry). f.path)) (of ∙ ap (map plain_file) is) ∙ same_files (living_paths hits) ∙ rising_living hits up

pub rising_given : (chosen hits : List Hit) (items paths : List (List ℕ)) → hits ≡ chosen → items ≡ living_paths hits → paths ≡ items → is_rising path_of chosen ≡ true
    → is_rising (λ (p : List ℕ). p) paths ≡ true
rising_given chosen hits items paths same is given up = ap (is_rising (λ (p : List ℕ). p)) (given ∙ is ∙ ap living_paths same) ∙ rising_living chosen up

pub rising_listed : (chosen hits : List Hit) (paths : List (List ℕ)) (files : List FileEntry) → hits ≡ chosen → paths ≡ living_paths hits → files ≡ map plain_file paths → is_rising path_of chosen ≡ true
    → is_rising (λ (f : FileEntry). f.path) files ≡ true
rising_listed chosen hits paths files same is of up = rising_files chosen paths files (is ∙ ap living_paths same) of up
