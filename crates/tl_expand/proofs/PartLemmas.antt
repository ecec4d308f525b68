-- The parts for platforms, and their texts.
use Rattle.std.proofs.Common.{◌≡◌, ℕ, zero, suc, ◌+◌, ◌<◌, ◌≤◌, ◌==◌, ◌&&◌, Bool, true, false, not, ltb, List, [], ◌∷◌, ◌++◌, length, drop, None, Some, slice_get, codes, refl, ◌∙◌, ap, sym, subst, add-one, length-append, append_assoc, append-nil, arith, inl, inr}
use Rattle.std.specs.List.{All, list_all}
use Rattle.std.proofs.lemmas.Option.{slice_get_within, get_or_from_slice_get}
use Rattle.std.proofs.lemmas.List.Elements.{All-get_or}
use Rattle.std.specs.Str.{IsUtf8, IsAscii}
use Rattle.std.proofs.lemmas.Bool.{cases_Bool, true≢false, eqb-true, ltb-true}
use Rattle.std.proofs.lemmas.List.Folds.{list_all-append}
use Rattle.std.proofs.lemmas.Str.{IsUtf8-append, IsUtf8-from_ascii}
use Rattle.tl_text.specs.Texts.{is_text, IsText-from}
use Rattle.tl_path.specs.Bytes.{is_letter_or_digit, is_of_name, is_lower_or_digit, is_of_platform}
use Rattle.tl_path.specs.Names.{is_name, is_platform}
use Rattle.tl_path.proofs.Words.{word_all, word_short, name_utf8}
use Rattle.tl_path.proofs.Parts.{platform_utf8}
use Rattle.tl_entry.specs.declared.object.Object.{Object}
use Rattle.tl_index.specs.declared.hit.Hit.{Hit}
use Rattle.tl_srctext.specs.declared.fields.SourceFields.{SourceFields}
use Rattle.tl_expand.specs.Objects.{arch_depend, part_if_named, parts_of}

step : (s : SourceFields) (r n : ℕ) (platforms : List (List ℕ)) (bins : List (List Hit)) (p : List ℕ) (h : List Hit) → slice_get platforms n ≡ Some p → slice_get bins n ≡ Some h
    → parts_of s r (drop n platforms) (drop n bins) ≡ part_if_named s r p h ++ parts_of s r (drop (suc n) platforms) (drop (suc n) bins)
step s r zero [] bins p h ps hs = cc
step s r (suc n) [] bins p h ps hs = cc
step s r zero (q ∷ platforms) [] p h ps hs = cc
step s r (suc n) (q ∷ platforms) [] p h ps hs = cc
step s r zero (q ∷ platforms) (g ∷ bins) p h ps hs =
    let a : q ≡ p = cc in
    let b : g ≡ h = cc in
    ap (λ x. part_if_named s r x g ++ parts_of s r platforms bins) a ∙ ap (λ y. part_if_named s r p y ++ parts_of s r platforms bins) b
step s r (suc n) (q ∷ platforms) (g ∷ bins) p h ps hs = step s r n platforms bins p h ps hs

pub parts_step : (s : SourceFields) (r n : ℕ) (platforms : List (List ℕ)) (bins : List (List Hit)) (p : List ℕ) (h : List Hit) → slice_get platforms n ≡ Some p → slice_get bins n ≡ Some h
    → parts_of s r (drop n platforms) (drop n bins) ≡ part_if_named s r p h ++ parts_of s r (drop (n + 1) platforms) (drop (n + 1) bins)
parts_step s r n platforms bins p h ps hs = step s r n platforms bins p h ps hs ∙ ap (λ m. part_if_named s r p h ++ parts_of s r (drop m platforms) (drop m bins)) (sym (add-one n))

parts_nothing : (s : SourceFields) (r : ℕ) (platforms : List (List ℕ)) → parts_of s r platforms [] ≡ []
parts_nothing s r [] = refl
parts_nothing s r (p ∷ platforms) = refl

pub parts_end : (s : SourceFields) (r n : ℕ) (platforms : List (List ℕ)) (bins : List (List Hit)) → slice_get bins n ≡ None → parts_of s r (drop n platforms) (drop n bins) ≡ []
parts_end s r zero platforms [] is = parts_nothing s r platforms
parts_end s r zero platforms (g ∷ bins) is = cc
parts_end s r (suc n) platforms [] is = parts_nothing s r (drop (suc n) platforms)
parts_end s r (suc n) [] (g ∷ bins) is = refl
parts_end s r (suc n) (p ∷ platforms) (g ∷ bins) is = parts_end s r n platforms bins is

pub parts_out : (s : SourceFields) (r n : ℕ) (platforms : List (List ℕ)) (bins : List (List Hit)) → slice_get platforms n ≡ None → parts_of s r (drop n platforms) (drop n bins) ≡ []
parts_out s r zero [] bins is = refl
parts_out s r zero (p ∷ platforms) bins is = cc
parts_out s r (suc n) [] bins is = refl
parts_out s r (suc n) (p ∷ platforms) [] is = parts_nothing s r (drop n platforms)
parts_out s r (suc n) (p ∷ platforms) (g ∷ bins) is = parts_out s r n platforms bins is

-- the parts of one platform more
pub parts_more : (s : SourceFields) (r n : ℕ) (platforms : List (List ℕ)) (bins : List (List Hit)) (old new total : List Object) (p : List ℕ) (h : List Hit)
    → new ≡ old ++ part_if_named s r p h → old ++ parts_of s r (drop n platforms) (drop n bins) ≡ total → slice_get platforms n ≡ Some p → slice_get bins n ≡ Some h
    → new ++ parts_of s r (drop (n + 1) platforms) (drop (n + 1) bins) ≡ total
parts_more s r n platforms bins old new total p h is so ps hs =
    let rest = parts_of s r (drop (n + 1) platforms) (drop (n + 1) bins) in
    ap (λ (o : List Object). o ++ rest) is ∙ append_assoc old (part_if_named s r p h) rest ∙ ap (λ (x : List Object). old ++ x) (sym (parts_step s r n platforms bins p h ps hs)) ∙ so

-- no parts are left
pub parts_stop : (old rest total : List Object) → old ++ rest ≡ total → rest ≡ [] → old ≡ total
parts_stop old rest total so none = sym (append-nil old) ∙ ap (λ (x : List Object). old ++ x) (sym none) ∙ so

-- ---- texts

both_true : (a b : Bool) → a ≡ true → b ≡ true → (a && b) ≡ true
both_true a b is more = rw (is, more) refl

from_both : (a b : Bool) → (a && b) ≡ true → (a ≡ true) × (b ≡ true)
from_both true b is = (refl, is)
from_both false b is = absurd (true≢false (sym is))

-- bytes without a line end, by a test which the line end doesn't pass
has_no_end : (p : ℕ → Bool) → p 10 ≡ false → (bytes : List ℕ) → list_all p bytes ≡ true → list_all (λ b. not (b == 10)) bytes ≡ true
has_no_end p never [] is = refl
has_no_end p never (b ∷ bytes) is =
    let parts = from_both (p b) (list_all p bytes) is in
    both_true _ _ (other b parts.0) (has_no_end p never bytes parts.1)
  where
    other : (b : ℕ) → p b ≡ true → not (b == 10) ≡ true
    other b passes = elim (cases_Bool (b == 10)) [
      | inl same ↦ absurd (true≢false (sym passes ∙ ap p (eqb-true b 10 same) ∙ never))
      | inr apart ↦ ap not apart
    ]

is_ascii : (text : List ℕ) → list_all (λ b. ltb b 128) text ≡ true → IsAscii text
is_ascii [] h i = omega arith
is_ascii (b ∷ text) h zero = ltb-true b 128 (from_both _ _ h).0
is_ascii (b ∷ text) h (suc i) = is_ascii text (from_both _ _ h).1 i

ascii_utf8 : (text : List ℕ) → list_all (λ b. ltb b 128) text ≡ true → IsUtf8 text
ascii_utf8 text h = IsUtf8-from_ascii text (is_ascii text h)

joined_text : (a b : List ℕ) → IsUtf8 a → IsUtf8 b → list_all (λ c. not (c == 10)) a ≡ true → list_all (λ c. not (c == 10)) b ≡ true → length a + length b ≤ 65536 → is_text (a ++ b) ≡ true
joined_text a b ua ub la lb short = IsText-from (a ++ b) (IsUtf8-append a b ua ub) (list_all-append (λ c. not (c == 10)) a b ∙ both_true _ _ la lb) (simp length-append (omega arith))

name_line : (name : List ℕ) → is_name name ≡ true → list_all (λ c. not (c == 10)) name ≡ true
name_line name is = has_no_end is_of_name refl name (word_all is_letter_or_digit is_of_name 128 name is)

platform_line : (platform : List ℕ) → is_platform platform ≡ true → list_all (λ c. not (c == 10)) platform ≡ true
platform_line platform is = has_no_end is_of_platform refl platform (word_all is_lower_or_digit is_of_platform 32 platform is)

pub depend_text : (name : List ℕ) → is_name name ≡ true → is_text (arch_depend name) ≡ true
depend_text name is =
    let short : length name ≤ 128 = word_short is_letter_or_digit is_of_name 128 name is in
    let few : length (codes ".ARCH") ≡ 5 = refl in
    joined_text name (codes ".ARCH") (name_utf8 name is) (ascii_utf8 (codes ".ARCH") refl) (name_line name is) refl (omega arith)

pub shortdesc_text : (platform name : List ℕ) → is_platform platform ≡ true → is_name name ≡ true → is_text (platform ++ codes " files of " ++ name) ≡ true
shortdesc_text platform name of is =
    let short : length name ≤ 128 = word_short is_letter_or_digit is_of_name 128 name is in
    let few : length platform ≤ 32 = word_short is_lower_or_digit is_of_platform 32 platform of in
    let between : length (platform ++ codes " files of ") ≡ length platform + 10 = length-append platform (codes " files of ") in
    joined_text (platform ++ codes " files of ") name (IsUtf8-append platform (codes " files of ") (platform_utf8 platform of) (ascii_utf8 (codes " files of ") refl)) (name_utf8 name is)
    (list_all-append (λ c. not (c == 10)) platform (codes " files of ") ∙ both_true _ _ (platform_line platform of) refl) (name_line name is) (omega arith)

pub depend_given : (name bytes : List ℕ) → bytes ≡ name → is_name name ≡ true → is_text (bytes ++ codes ".ARCH") ≡ true
depend_given name bytes same is = ap (λ b. is_text (b ++ codes ".ARCH")) same ∙ depend_text name is

pub shortdesc_given : (platform name p n front given : List ℕ) → p ≡ platform → is_platform platform ≡ true → n ≡ name → is_name name ≡ true
    → front ≡ p ++ codes " files of " → given ≡ front → is_text (given ++ n) ≡ true
shortdesc_given platform name p n front given ps of ns is fs gs =
    ap (λ g. is_text (g ++ n)) (gs ∙ fs ∙ ap (λ q. q ++ codes " files of ") ps) ∙ ap (λ m. is_text ((platform ++ codes " files of ") ++ m)) ns ∙ shortdesc_text platform name of is

-- a platform among platforms
pub platform_among : (names : List (List ℕ)) (i : ℕ) (platform : List ℕ) → Some platform ≡ slice_get names i → All (λ name. is_platform name ≡ true) names → is_platform platform ≡ true
platform_among names i platform is all =
    let within : i < length names = slice_get_within names i platform (sym is) in
    subst (λ (p : List ℕ). is_platform p ≡ true) (get_or_from_slice_get names i platform [] (sym is)) (All-get_or (λ (p : List ℕ). is_platform p ≡ true) names i [] within all)
