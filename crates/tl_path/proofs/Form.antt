-- What a text that is UTF-8 lacks to be a path.
use Rattle.std.proofs.Common.{◌≡◌, ℕ, zero, suc, Bool, List, Option, Some, None, length, take, refl, subst, arith, cond, nat_lt, nat_eq, false, true, ap, ◌∙◌, ◌<◌, ◌≤◌}
use Rattle.std.specs.Str.{IsUtf8, IsValidUpTo, is_utf8}
use Rattle.std.specs.Str.Lossy.{utf8_valid_len, valid_len_up_to}
use Rattle.std.proofs.lemmas.Str.{IsUtf8-nil, IsUtf8-from_is_utf8, utf8_valid_len-IsUtf8, utf8_valid_len-IsValidUpTo}
use Rattle.std.proofs.lemmas.List.{take_all}
use Rattle.std.proofs.lemmas.Bool.Decides.{nat_tests}
use Rattle.tl_path.specs.Path.{path_fault, form_fault, size_fault, place_fault, utf8_fault, fault, earlier, or_else}
use Rattle.tl_path.specs.declared.fault.PathKind.TheVariants.{Empty, Long, Utf8}
use Rattle.tl_path.specs.declared.fault.PathFault.{PathFault}

below : (n m : ℕ) → n < m → nat_lt n m ≡ true
below n m is = grind (arith, nat_tests)

not_below : (n m : ℕ) → n ≡ m → nat_lt n m ≡ false
not_below n m is = grind (arith, nat_tests)

pub path_fault-IsUtf8 : (text : List ℕ) → IsUtf8 text → path_fault text ≡ form_fault text
path_fault-IsUtf8 text is = rw (not_below (utf8_valid_len text) (length text) (utf8_valid_len-IsUtf8 text is))

-- a text of 1 to 1,024 bytes that is UTF-8
pub path_fault-text : (text : List ℕ) → size_fault text ≡ None → IsUtf8 text → path_fault text ≡ place_fault text
path_fault-text text size is = path_fault-IsUtf8 text is ∙ ap (λ f. or_else f (place_fault text)) size

-- one that isn't
pub path_fault-bytes : (text : List ℕ) (n : ℕ) → size_fault text ≡ None → IsValidUpTo text n → path_fault text ≡ earlier (Some (fault Utf8 n)) (place_fault text)
path_fault-bytes text n size up =
    let is : utf8_valid_len text ≡ n = utf8_valid_len-IsValidUpTo text n up in
    let short = up.short in
    let here : utf8_fault text ≡ Some (fault Utf8 n) = rw is (rw (below n (length text) short)) in
    ap (λ f. or_else f (earlier (utf8_fault text) (place_fault text))) size ∙ ap (λ f. earlier f (place_fault text)) here

pub size-small : (text : List ℕ) → size_fault text ≡ None → length text ≤ 1024
size-small text is = small (length text) is
  where
    small : (n : ℕ) → cond (nat_eq n 0) (Some (fault Empty 0)) (cond (nat_lt 1024 n) (Some (fault Long 1024)) None) ≡ None → n ≤ 1024
    small n is = grind (arith, nat_tests)

-- where no fault is told, none is of the encoding
no_utf8_fault : (size utf8 place : Option PathFault) → or_else size (earlier utf8 place) ≡ None → utf8 ≡ None
no_utf8_fault None None place is = refl
no_utf8_fault None (Some a) None is = absurd (cc)
no_utf8_fault None (Some a) (Some b) is = absurd (cc)
no_utf8_fault (Some a) utf8 place is = absurd (cc)

full_length : (n m : ℕ) → cond (nat_lt n m) (Some (fault Utf8 n)) None ≡ None → m ≤ n
full_length n m is = grind (arith, nat_tests)

passed : (b : Bool) (n k : ℕ) → k ≤ n → suc n ≤ cond b (suc n) k → b ≡ true
passed true n k least most = refl
passed false n k least most = absurd (omega arith)

up_to_within : (text : List ℕ) (n : ℕ) → valid_len_up_to text n ≤ n
up_to_within text zero = omega arith
up_to_within text (suc n) = let least = up_to_within text n in bounded (is_utf8 (take (suc n) text)) n (valid_len_up_to text n) least
  where
    bounded : (b : Bool) (n k : ℕ) → k ≤ n → cond b (suc n) k ≤ suc n
    bounded true n k least = omega arith
    bounded false n k least = omega arith

front_IsUtf8 : (text : List ℕ) (n : ℕ) → n ≤ valid_len_up_to text n → IsUtf8 (take n text)
front_IsUtf8 text zero most = IsUtf8-nil
front_IsUtf8 text (suc n) most = IsUtf8-from_is_utf8 _ (passed _ n _ (up_to_within text n) most)

whole : (text : List ℕ) → IsUtf8 (take (length text) text) → IsUtf8 text
whole text front = subst IsUtf8 (take_all (length text) text (omega arith)) front

pub IsPath-IsUtf8 : (text : List ℕ) → path_fault text ≡ None → IsUtf8 text
unfolding utf8_valid_len
IsPath-IsUtf8 text is = whole text (front_IsUtf8 text (length text) (full_length _ _ (no_utf8_fault _ _ _ is)))
