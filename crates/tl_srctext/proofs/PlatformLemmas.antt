-- Platforms that commas part, one by one.
use Rattle.std.proofs.Common.{◌≡◌, ℕ, ◌+◌, ◌<◌, ◌≤◌, ◌&&◌, true, false, cond, List, [], ◌∷◌, ◌++◌, Bor, length, drop, get_or, map, refl, sym, ◌∙◌, ap, append_assoc}
use Rattle.std.specs.Prelude.{Some, None}
use Rattle.std.specs.List.{list_all}
use Rattle.std.proofs.lemmas.List.{drop_more, drop_all, append-nil}
use Rattle.std.proofs.lemmas.List.Folds.{list_all-append}
use Rattle.tl_path.specs.Names.{is_platform}
use Rattle.tl_srctext.specs.Patterns.{platforms_of}

-- the texts that parts stand for
abbrev pub texts : List (Bor (List ℕ)) → List (List ℕ)
texts parts = map (λ part. part.now) parts

-- the platforms so far, and the parts that are left
pub record PlatformsSoFar (parts : List (Bor (List ℕ))) (read : List (List ℕ)) (place : ℕ) : Type 0 where
  pub left : read ++ texts (drop place parts) ≡ texts parts
  pub each : list_all is_platform read ≡ true

pub platforms_start : (parts : List (Bor (List ℕ))) → PlatformsSoFar parts [] 0
platforms_start parts = record { left = refl; each = refl }

next : (parts : List (Bor (List ℕ))) (read : List (List ℕ)) (i : ℕ) (d : Bor (List ℕ)) → i < length parts → PlatformsSoFar parts read i
    → (read ++ (get_or parts i d).now ∷ []) ++ texts (drop (i + 1) parts) ≡ texts parts
next parts read i d within here =
    append_assoc read ((get_or parts i d).now ∷ []) (texts (drop (i + 1) parts))
    ∙ ap (λ (ps : List (List ℕ)). read ++ ps) (sym (ap texts (drop_more parts i d within)))
    ∙ here.left

pub platforms_push : (parts : List (Bor (List ℕ))) (read : List (List ℕ)) (i : ℕ) (d : Bor (List ℕ)) → i < length parts
    → is_platform (get_or parts i d).now ≡ true → PlatformsSoFar parts read i → PlatformsSoFar parts (read ++ (get_or parts i d).now ∷ []) (i + 1)
platforms_push parts read i d within is here = record {
  left = next parts read i d within here;
  each = list_all-append is_platform read ((get_or parts i d).now ∷ []) ∙ rw (here.each, is) refl;
}

pub platforms_done : (parts : List (Bor (List ℕ))) (read : List (List ℕ)) (i : ℕ) → length parts ≤ i → PlatformsSoFar parts read i → platforms_of (texts parts) ≡ Some read
platforms_done parts read i past here =
    let whole : read ≡ texts parts = sym (append-nil read) ∙ ap (λ (ps : List (Bor (List ℕ))). read ++ texts ps) (sym (drop_all i parts past)) ∙ here.left in
    ap platforms_of (sym whole) ∙ ap (λ t. cond t (Some read) None) here.each

pub platforms_fault : (parts : List (Bor (List ℕ))) (read : List (List ℕ)) (i : ℕ) (d : Bor (List ℕ)) → i < length parts
    → is_platform (get_or parts i d).now ≡ false → PlatformsSoFar parts read i → platforms_of (texts parts) ≡ None
platforms_fault parts read i d within none here =
    let word : List ℕ = (get_or parts i d).now in
    let rest : List (List ℕ) = texts (drop (i + 1) parts) in
    let front : list_all is_platform (read ++ word ∷ []) ≡ false = list_all-append is_platform read (word ∷ []) ∙ rw (here.each, none) refl in
    let all : list_all is_platform ((read ++ word ∷ []) ++ rest) ≡ false = list_all-append is_platform (read ++ word ∷ []) rest ∙ ap (λ t. t && list_all is_platform rest) front in
    ap platforms_of (sym (next parts read i d within here)) ∙ ap (λ t. cond t (Some ((read ++ word ∷ []) ++ rest)) None) all
