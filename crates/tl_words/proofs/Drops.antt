-- The words from a place on.
use Rattle.std.proofs.Common.{◌≡◌, ℕ, ◌+◌, ◌<◌, List, [], ◌∷◌, length, drop, get_or, map, Vec, suc, zero, ap, sym, refl, arith, add-one, Bool, ◌||◌}
use Rattle.std.specs.List.{list_any}
use Rattle.tl_words.specs.Faults.{size_fault}
use Rattle.std.specs.declared.alloc.Global.{Global}
use Rattle.tl_action.specs.Texts.{texts}

item_from : {A : Type 0} (xs : List A) (i : ℕ) (v : A) → i < length xs → v ≡ get_or xs i v → drop i xs ≡ v ∷ drop (suc i) xs
item_from [] i v h is = absurd (omega arith)
item_from (x ∷ xs) zero v h is = ap (λ y. y ∷ xs) (sym is)
item_from (x ∷ xs) (suc i) v h is = item_from xs i v (omega arith) is

-- the list from a place on
pub drop_item : {A : Type 0} (xs : List A) (i : ℕ) (v : A) → i < length xs → v ≡ get_or xs i v → drop i xs ≡ v ∷ drop (i + 1) xs
drop_item xs i v h is = rw add-one (item_from xs i v h is)

from_place : (words : List (Vec ℕ Global)) (i : ℕ) (v : Vec ℕ Global) → i < length words → v ≡ get_or words i v → drop i (texts words) ≡ v.items ∷ drop (suc i) (texts words)
from_place [] i v h is = absurd (omega arith)
from_place (w ∷ ws) zero v h is = ap (λ (x : Vec ℕ Global). x.items ∷ texts ws) (sym is)
from_place (w ∷ ws) (suc i) v h is = from_place ws i v (omega arith) is

pub drop_texts : (words : List (Vec ℕ Global)) (i : ℕ) (v : Vec ℕ Global) → i < length words → v ≡ get_or words i v → drop i (texts words) ≡ v.items ∷ drop (i + 1) (texts words)
drop_texts words i v h is = rw add-one (from_place words i v h is)

-- what is looked at at a place of the words
pub size_step : (words : List (Vec ℕ Global)) (i : ℕ) (v : Vec ℕ Global) → i < length words → v ≡ get_or words i v
    → size_fault i (drop i (texts words)) ≡ size_fault i (v.items ∷ drop (i + 1) (texts words))
size_step words i v h is = ap (size_fault i) (drop_texts words i v h is)

pub list_any_map : {A B : Type 0} (p : B → Bool) (f : A → B) (xs : List A) → list_any p (map f xs) ≡ list_any (λ x. p (f x)) xs
list_any_map p f [] = refl
list_any_map p f (x ∷ xs) = ap (λ b. p (f x) || b) (list_any_map p f xs)

pub length_texts : (words : List (Vec ℕ Global)) → length (texts words) ≡ length words
length_texts [] = refl
length_texts (word ∷ words) = ap suc (length_texts words)
