-- The first lines of an entry.
use Rattle.std.proofs.Common.{◌≡◌, ℕ, ◌<◌, ◌≤◌, ◌^◌, ◌==◌, Bool, true, false, List, [], ◌∷◌, ◌++◌, Some, None, refl, sym, subst, ◌∙◌, ap, arith, append_assoc}
use Rattle.std.specs.Prelude.{codes, ⊤}
use Rattle.std.proofs.lemmas.Bool.{true≢false, eqb-true, false_from_ne_true}
use Rattle.std.proofs.lemmas.List.Elements.{All-weaker}
use Rattle.std.proofs.lemmas.List.Sums.{AllPass-from_list_all}
use Rattle.tl_model.specs.Decimal.{decimal_text}
use Rattle.tl_model.specs.Lines.{IsLine}
use Rattle.tl_model.specs.Acks.{plain-nil}
use Rattle.tl_path.specs.Bytes.{is_letter_or_digit, is_of_name}
use Rattle.tl_path.specs.Names.{is_name}
use Rattle.tl_path.proofs.Words.{word_all}
use Rattle.tl_entry.specs.declared.object.Object.{Object}
use Rattle.tl_object.specs.Formed.{IsFormedText}
use Rattle.tl_object.specs.Writing.{key_line, number_line, text_line, category_word, relocated_line, first_lines}
use Rattle.tl_object.proofs.PlainLemmas.{plain_key_line, plain_relocated_line, line_of_number}
use Rattle.tl_written.specs.Stands.{Stands}
use Rattle.tl_written.specs.Found.{Lacks, LacksEach}
use Rattle.tl_written.specs.Pieces.{IsCategory, FirstStand, blank, first_words}
use Rattle.tl_written.proofs.FindLemmas.{append-cancel, skip}
use Rattle.tl_written.proofs.BeginLemmas.{text_line-begins, relocated_line-begins}
use Rattle.tl_written.proofs.TextLemmas.{Front, front-both, front-of, front-key}

-- the line of a category
pub category-stands : (word text rest : List ℕ) → IsCategory word → IsLine word → text ≡ key_line (codes "category") word ++ rest
    → Stands (λ c. key_line (codes "category") (category_word c)) (λ _. ⊤) text rest
category-stands word text rest is line same = record {
  value = is.0;
  same = same ∙ ap (λ (w : List ℕ). key_line (codes "category") w ++ rest) (sym is.1);
  plain = plain_key_line (codes "category") (category_word is.0) refl (subst IsLine (sym is.1) line);
  is = tt;
}

-- the line of a revision
pub revision-stands : (n : ℕ) (digits text rest : List ℕ) → digits ≡ decimal_text n → n < 2 ^ 64 → n < 2 ^ 32 → text ≡ key_line (codes "revision") digits ++ rest
    → Stands (number_line (codes "revision")) (λ n. n < 2 ^ 32) text rest
revision-stands n digits text rest is fits small same = record {
  value = n;
  same = same ∙ ap (λ (d : List ℕ). key_line (codes "revision") d ++ rest) is;
  plain = plain_key_line (codes "revision") (decimal_text n) refl (line_of_number n fits);
  is = small;
}

-- the line of a relocated entry
pub relocated-stands : (text rest : List ℕ) → text ≡ codes "relocated 1\n" ++ rest → Stands relocated_line (λ _. ⊤) text rest
unfolding relocated_line
relocated-stands text rest same = record { value = true; same = same; plain = plain_relocated_line; is = tt }

-- no line of another entry
pub not_relocated-stands : (text : List ℕ) → Stands relocated_line (λ _. ⊤) text text
unfolding relocated_line
not_relocated-stands text = record { value = false; same = refl; plain = plain-nil; is = tt }

-- the first lines, one behind the other
pub first-stands : (name text a b c d e rest : List ℕ) → is_name name ≡ true → IsLine name → text ≡ key_line (codes "name") name ++ a
    → Stands (λ c. key_line (codes "category") (category_word c)) (λ _. ⊤) a b
    → Stands (number_line (codes "revision")) (λ n. n < 2 ^ 32) b c
    → Stands (text_line (codes "catalogue")) IsFormedText c d
    → Stands (text_line (codes "shortdesc")) IsFormedText d e
    → Stands relocated_line (λ _. ⊤) e rest
    → FirstStand name text rest
unfolding first_lines
first-stands name text a b c d e rest is line same category revision catalogue shortdesc relocated =
    let one : Front (key_line (codes "name") name) text a = front-key (codes "name") name text a refl line same in
    let two = front-both (key_line (codes "name") name) (key_line (codes "category") (category_word category.value)) text a b one (front-of _ _ a b category) in
    let three = front-both _ (number_line (codes "revision") revision.value) text b c two (front-of _ _ b c revision) in
    let four = front-both _ (text_line (codes "catalogue") catalogue.value) text c d three (front-of _ _ c d catalogue) in
    let five = front-both _ (text_line (codes "shortdesc") shortdesc.value) text d e four (front-of _ _ d e shortdesc) in
    let six = front-both _ (relocated_line relocated.value) text e rest five (front-of _ _ e rest relocated) in
    record {
      value = record blank {
        name = name;
        category = category.value;
        revision = revision.value;
        catalogue = catalogue.value;
        shortdesc = shortdesc.value;
        relocated = relocated.value;
      };
      same = six.same;
      plain = six.plain;
      is = (record { name = is; revision = revision.is; catalogue = catalogue.is; shortdesc = shortdesc.is }, refl);
    }

-- ---- what is written is found

-- a byte of a name ends no line
not_end : (b : ℕ) → is_of_name b ≡ true → (b == 10) ≡ false
not_end b is = false_from_ne_true (b == 10) (λ same. true≢false (sym is ∙ ap (λ (c : ℕ). is_of_name c) (eqb-true b 10 same)))

pub line_of_name : (name : List ℕ) → is_name name ≡ true → IsLine name
line_of_name name is =
    All-weaker (λ b. is_of_name b ≡ true) (λ b. (b == 10) ≡ false) not_end name (AllPass-from_list_all is_of_name name (word_all is_letter_or_digit is_of_name 128 name is))

-- what is no name isn't an entry's
pub no_name : (found name : List ℕ) → found ≡ name → is_name name ≡ true → is_name found ≡ false → ⊥
no_name found name same is fails = true≢false (sym is ∙ ap (λ (n : List ℕ). is_name n) (sym same) ∙ fails)

-- a revision's digits are a line
pub line_of_revision : (n : ℕ) → n < 2 ^ 32 → IsLine (decimal_text n)
line_of_revision n small = line_of_number n (omega (arith, small))

pub revision_fits : (n : ℕ) → n < 2 ^ 32 → n < 2 ^ 64
revision_fits n small = omega (arith, small)

-- digits that are no number aren't a revision's
pub no_revision : (n : ℕ) → None ≡ Some n → ⊥
no_revision n same = cc

-- nor are those of a number past the limit of revisions
pub past_revision : (read n : ℕ) → Some read ≡ Some n → n < 2 ^ 32 → 2 ^ 32 ≤ read → ⊥
past_revision read n same small past = let number : read ≡ n = cc in omega (arith, number, small, past)

-- the line of a relocated entry is found
pub relocated_found : (is_relocated : Bool) (text behind rest : List ℕ) → text ≡ codes "relocated 1\n" ++ behind → Lacks rest (codes "relocated 1\n") → text ≡ relocated_line is_relocated ++ rest → behind ≡ rest
unfolding relocated_line
relocated_found false text behind rest one lacks same = absurd (lacks behind (sym same ∙ one))
relocated_found true text behind rest one lacks same = append-cancel (codes "relocated 1\n") behind rest (sym one ∙ same)

-- an entry without that line isn't relocated
pub not_relocated_found : (is_relocated : Bool) (text rest : List ℕ) → Lacks text (codes "relocated 1\n") → text ≡ relocated_line is_relocated ++ rest → text ≡ rest
unfolding relocated_line
not_relocated_found false text rest lacks same = same
not_relocated_found true text rest lacks same = absurd (lacks rest same)

-- what stands in front of a rest, from each of the first lines on
abbrev pub from_relocated : Object → List ℕ → List ℕ
from_relocated o rest = relocated_line o.relocated ++ rest

abbrev pub from_shortdesc : Object → List ℕ → List ℕ
from_shortdesc o rest = text_line (codes "shortdesc") o.shortdesc ++ from_relocated o rest

abbrev pub from_catalogue : Object → List ℕ → List ℕ
from_catalogue o rest = text_line (codes "catalogue") o.catalogue ++ from_shortdesc o rest

abbrev pub from_revision : Object → List ℕ → List ℕ
from_revision o rest = number_line (codes "revision") o.revision ++ from_catalogue o rest

abbrev pub from_category : Object → List ℕ → List ℕ
from_category o rest = key_line (codes "category") (category_word o.category) ++ from_revision o rest

six_pieces : (a b c d e f rest : List ℕ) → (a ++ b ++ c ++ d ++ e ++ f) ++ rest ≡ a ++ (b ++ (c ++ (d ++ (e ++ (f ++ rest)))))
six_pieces a b c d e f rest =
    append_assoc (a ++ b ++ c ++ d ++ e) f rest ∙ append_assoc (a ++ b ++ c ++ d) e (f ++ rest) ∙ append_assoc (a ++ b ++ c) d (e ++ (f ++ rest))
    ∙ append_assoc (a ++ b) c (d ++ (e ++ (f ++ rest))) ∙ append_assoc a b (c ++ (d ++ (e ++ (f ++ rest))))

-- the first lines, cut behind the name
pub first-cut : (o : Object) (text rest : List ℕ) → text ≡ first_lines o ++ rest → text ≡ key_line (codes "name") o.name ++ from_category o rest
unfolding first_lines
first-cut o text rest same =
    same
    ∙ six_pieces (key_line (codes "name") o.name) (key_line (codes "category") (category_word o.category)) (number_line (codes "revision") o.revision)
    (text_line (codes "catalogue") o.catalogue) (text_line (codes "shortdesc") o.shortdesc) (relocated_line o.relocated) rest

-- what the lines behind the catalogue's don't begin with
pub behind_catalogue : (o : Object) (rest : List ℕ) → LacksEach rest first_words → LacksEach (from_shortdesc o rest) (codes "catalogue " ∷ [])
behind_catalogue o rest lacks =
    skip (codes "shortdesc ") (text_line (codes "shortdesc") o.shortdesc) (from_relocated o rest) (codes "catalogue " ∷ []) (text_line-begins (codes "shortdesc") o.shortdesc) refl
    (skip (codes "relocated 1\n") (relocated_line o.relocated) rest (codes "catalogue " ∷ []) (relocated_line-begins o.relocated) refl (lacks.0, tt))

-- and those behind the short description's
pub behind_shortdesc : (o : Object) (rest : List ℕ) → LacksEach rest first_words → LacksEach (from_relocated o rest) (codes "shortdesc " ∷ [])
behind_shortdesc o rest lacks =
    skip (codes "relocated 1\n") (relocated_line o.relocated) rest (codes "shortdesc " ∷ []) (relocated_line-begins o.relocated) refl (lacks.1.0, tt)

-- and those behind the first lines
pub behind_first : (rest : List ℕ) → LacksEach rest first_words → Lacks rest (codes "relocated 1\n")
behind_first rest lacks = lacks.1.1.0
