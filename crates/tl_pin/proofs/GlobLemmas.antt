-- The globs of a pin, read one after the other.
use Rattle.std.proofs.Common.{◌≡◌, ℕ, ◌+◌, ◌<◌, ◌≤◌, ◌==◌, true, false, cond, List, [], ◌∷◌, ◌++◌, length, get_or, take, map, refl, sym, ap, subst, ◌∙◌, arith, Bor, Vec, Some, None}
use Rattle.std.specs.declared.alloc.Global.{Global}
use Rattle.std.specs.List.{list_all, slice_split}
use Rattle.std.proofs.lemmas.Bool.{and_from}
use Rattle.std.proofs.lemmas.List.{take_all, length-map, get_or-map, map_more}
use Rattle.std.proofs.lemmas.List.Folds.{list_all-append, list_all_at}
use Rattle.std.proofs.lemmas.List.Splits.{length-slice_split}
use Rattle.tl_pin.specs.Form.{is_pin_glob, ArePinGlobs, trimmed, globs_of, pin_globs}

-- a part of a text, without the blanks round it
abbrev pub word_of : Bor (List ℕ) → List ℕ
word_of part = trimmed part.now

-- the globs so far: those of the first parts
pub record GlobsSoFar (parts : List (Bor (List ℕ))) (globs : List (List ℕ)) (i : ℕ) : Type 0 where
  pub read : globs ≡ map word_of (take i parts)
  pub form : list_all is_pin_glob globs ≡ true

pub no_globs : (parts : List (Bor (List ℕ))) → GlobsSoFar parts [] 0
no_globs parts = record { read = refl; form = refl }

pub globs_more : (parts : List (Bor (List ℕ))) (globs : List (List ℕ)) (i : ℕ) (d : Bor (List ℕ)) (glob : List ℕ) → i < length parts → glob ≡ word_of (get_or parts i d)
    → is_pin_glob glob ≡ true → GlobsSoFar parts globs i → GlobsSoFar parts (globs ++ glob ∷ []) (i + 1)
globs_more parts globs i d glob lt is good so_far = record {
  read = ap (λ (gs : List (List ℕ)). gs ++ glob ∷ []) so_far.read ∙ ap (λ (g : List ℕ). map word_of (take i parts) ++ g ∷ []) is ∙ sym (map_more word_of parts i d lt);
  form = list_all-append is_pin_glob globs (glob ∷ []) ∙ and_from _ _ so_far.form (and_from _ _ good refl);
}

words_of : (parts : List (Bor (List ℕ))) → map trimmed (map (λ (p : Bor (List ℕ)). p.now) parts) ≡ map word_of parts
words_of [] = refl
words_of (part ∷ parts) = ap (λ (ws : List (List ℕ)). word_of part ∷ ws) (words_of parts)

-- a part that is no glob
pub globs_refused : (parts : List (Bor (List ℕ))) (texts : List (List ℕ)) (i : ℕ) (d : Bor (List ℕ)) (word : List ℕ) → map (λ (p : Bor (List ℕ)). p.now) parts ≡ texts
    → i < length parts → word ≡ word_of (get_or parts i d) → is_pin_glob word ≡ false → globs_of (map trimmed texts) ≡ None
globs_refused parts texts i d word are lt is bad =
    let same : map trimmed texts ≡ map word_of parts = ap (map trimmed) (sym are) ∙ words_of parts in
    let here : is_pin_glob (get_or (map word_of parts) i []) ≡ false = ap is_pin_glob (get_or-map word_of parts i d [] lt ∙ sym is) ∙ bad in
    let none : list_all is_pin_glob (map trimmed texts) ≡ false =
    ap (list_all is_pin_glob) same ∙ list_all_at is_pin_glob (map word_of parts) i [] (subst (λ n. i < n) (sym (length-map parts word_of)) lt) here in
    ap (λ t. cond t (Some (map trimmed texts)) None) none

pub record AreRead (text : List ℕ) (globs : List (List ℕ)) : Type 0 where
  pub form : ArePinGlobs globs
  pub read : globs_of (map trimmed (slice_split (λ b. b == 44) text)) ≡ Some globs

-- all parts are globs
pub globs_done : (parts : List (Bor (List ℕ))) (text : List ℕ) (globs : List (List ℕ)) (i : ℕ) → map (λ (p : Bor (List ℕ)). p.now) parts ≡ slice_split (λ b. b == 44) text
    → length parts ≤ i → GlobsSoFar parts globs i → AreRead text globs
globs_done parts text globs i are all so_far =
    let same : map trimmed (slice_split (λ b. b == 44) text) ≡ globs =
    ap (map trimmed) (sym are) ∙ words_of parts ∙ ap (map word_of) (sym (take_all i parts all)) ∙ sym so_far.read in
    let some : 0 < length globs = omega (arith, ap length same, length-map (slice_split (λ b. b == 44) text) trimmed, length-slice_split (λ b. b == 44) text) in
    record {
      form = record { some = some; form = so_far.form };
      read = ap globs_of same ∙ ap (λ t. cond t (Some globs) None) so_far.form;
    }

abbrev Word : Type 0
Word = Vec ℕ Global

abbrev bytes_of : Word → List ℕ
bytes_of word = word.items

-- the globs so far: those of the first texts
pub record TakenSoFar (texts : List Word) (globs : List (List ℕ)) (i : ℕ) : Type 0 where
  pub taken : globs ≡ map bytes_of (take i texts)
  pub form : list_all is_pin_glob globs ≡ true

pub none_taken : (texts : List Word) → TakenSoFar texts [] 0
none_taken texts = record { taken = refl; form = refl }

pub taken_more : (texts : List Word) (globs : List (List ℕ)) (i : ℕ) (d : Word) (glob : List ℕ) → i < length texts → glob ≡ bytes_of (get_or texts i d)
    → is_pin_glob glob ≡ true → TakenSoFar texts globs i → TakenSoFar texts (globs ++ glob ∷ []) (i + 1)
taken_more texts globs i d glob lt is good so_far = record {
  taken = ap (λ (gs : List (List ℕ)). gs ++ glob ∷ []) so_far.taken ∙ ap (λ (g : List ℕ). map bytes_of (take i texts) ++ g ∷ []) is ∙ sym (map_more bytes_of texts i d lt);
  form = list_all-append is_pin_glob globs (glob ∷ []) ∙ and_from _ _ so_far.form (and_from _ _ good refl);
}

refused : (globs : List (List ℕ)) → list_all is_pin_glob globs ≡ false → pin_globs globs ≡ None
refused [] none = refl
refused (glob ∷ globs) none = ap (λ t. cond t (Some (glob ∷ globs)) None) none

-- a text that is no glob
pub taken_refused : (texts : List Word) (i : ℕ) (d : Word) (word : List ℕ) → i < length texts → word ≡ bytes_of (get_or texts i d) → is_pin_glob word ≡ false → pin_globs (map bytes_of texts) ≡ None
taken_refused texts i d word lt is bad =
    let here : is_pin_glob (get_or (map bytes_of texts) i []) ≡ false = ap is_pin_glob (get_or-map bytes_of texts i d [] lt ∙ sym is) ∙ bad in
    refused (map bytes_of texts) (list_all_at is_pin_glob (map bytes_of texts) i [] (subst (λ n. i < n) (sym (length-map texts bytes_of)) lt) here)

taken_all : (texts : List Word) (globs : List (List ℕ)) (i : ℕ) → length texts ≤ i → TakenSoFar texts globs i → globs ≡ map bytes_of texts
taken_all texts globs i all so_far = so_far.taken ∙ ap (map bytes_of) (take_all i texts all)

-- no text
pub none_given : (texts : List Word) (globs : List (List ℕ)) (i : ℕ) → length texts ≤ i → TakenSoFar texts globs i → length globs ≡ 0 → pin_globs (map bytes_of texts) ≡ None
none_given texts globs i all so_far none = ap pin_globs (sym (taken_all texts globs i all so_far)) ∙ by globs none
  where
    by : (globs : List (List ℕ)) → length globs ≡ 0 → pin_globs globs ≡ None
    by [] none = refl
    by (glob ∷ globs) none = absurd (omega (arith, none))

-- all texts are globs
pub taken_done : (texts : List Word) (globs : List (List ℕ)) (i : ℕ) → length texts ≤ i → TakenSoFar texts globs i → 0 < length globs → pin_globs (map bytes_of texts) ≡ Some globs
taken_done texts globs i all so_far some = ap pin_globs (sym (taken_all texts globs i all so_far)) ∙ by globs some so_far.form
  where
    by : (globs : List (List ℕ)) → 0 < length globs → list_all is_pin_glob globs ≡ true → pin_globs globs ≡ Some globs
    by [] some form = absurd (omega (arith, some))
    by (glob ∷ globs) some form = ap (λ t. cond t (Some (glob ∷ globs)) None) form
