-- The path of a backup, and the backup that it is the name of.
use Rattle.std.proofs.Common.{◌≡◌, ◌<◌, ◌≤◌, ◌+◌, ◌-◌, ◌^◌, ◌==◌, ℕ, zero, suc, Bool, true, false, cond, ◌&&◌, ◌||◌, not, nat_le, List, [], ◌∷◌, ◌++◌, length, take, drop, get_or, Option, Some, None, refl, sym, ap, ◌∙◌, arith, append_assoc}
use Rattle.std.specs.Prelude.{codes, nat_eq}
use Rattle.std.specs.Char.{is_ascii_digit}
use Rattle.std.specs.List.{list_all, starts_with, ends_with, suffix_len}
use Rattle.std.specs.Option.{option_and_then}
use Rattle.std.proofs.lemmas.Bool.{and_from, and_parts, true≢false, eqb-true, eq-eqb, le-leb, leb-true}
use Rattle.std.proofs.lemmas.Bool.Decides.{Decides-eqb}
use Rattle.std.proofs.lemmas.Fmt.{decimal_digit, first_decimal}
use Rattle.std.proofs.lemmas.List.{length-append, take_at, drop_at, take-append-drop, get_or_at, get_or-append_right}
use Rattle.std.proofs.lemmas.List.Recursion.{and_at}
use Rattle.std.proofs.lemmas.List.Sums.{suffix_len_is}
use Rattle.std.proofs.lemmas.Slice.Eq.{starts_is, ends_is}
use Rattle.tl_model.specs.Decimal.{is_decimal, decimal_value, decimal_text, decimal_parts, IsDecimal-decimal_text, decimal_value-decimal_text, decimal_text-decimal_value}
use Rattle.tl_path.specs.Names.{is_name}
use Rattle.tl_backup.specs.Files.{behind_front, before_back, is_plain_decimal, revision_of, backup_with, backup_of, backup_at, backup_path}
use Rattle.tl_backup.specs.declared.names.Backup.{Backup}

-- ---- a text before a back

pub before-append : (back text : List ℕ) → before_back back (text ++ back) ≡ Some text
before-append back text =
    ap (λ b. cond b (Some (take (length (text ++ back) - length back) (text ++ back))) None) ((ends_is Decides-eqb (text ++ back) back (ends_with nat_eq (text ++ back) back) refl).1 text refl)
    ∙ ap Some (take_at text back (length (text ++ back) - length back) (omega (arith, length-append text back)))

-- what stands before a back, and then the back
pub append-before : (back text front : List ℕ) → before_back back text ≡ Some front → text ≡ front ++ back
append-before back text front is = by (ends_with nat_eq text back) refl is
  where
    by : (b : Bool) → ends_with nat_eq text back ≡ b → cond b (Some (take (length text - length back) text)) None ≡ Some front → text ≡ front ++ back
    by true ends same =
        let cut : take (length text - length back) text ≡ front = cc in
        (ends_is Decides-eqb text back (ends_with nat_eq text back) refl).0 ends ∙ ap (λ (l : List ℕ). l ++ back) cut
    by false ends same = absurd (cc)

pub append-behind : (front text back : List ℕ) → behind_front front text ≡ Some back → text ≡ front ++ back
append-behind front text back is = by (starts_with nat_eq text front) refl is
  where
    by : (b : Bool) → starts_with nat_eq text front ≡ b → cond b (Some (drop (length front) text)) None ≡ Some back → text ≡ front ++ back
    by true starts same =
        let cut : drop (length front) text ≡ back = cc in
        (starts_is Decides-eqb text front (starts_with nat_eq text front) refl).0 starts ∙ ap (λ (l : List ℕ). front ++ l) cut
    by false starts same = absurd (cc)

-- ---- the digits at the end

digit_at : (digits : List ℕ) (i : ℕ) (d : ℕ) → i < length digits → list_all is_ascii_digit digits ≡ true → is_ascii_digit (get_or digits i d) ≡ true
digit_at digits i d lt are = and_at (list_all is_ascii_digit) is_ascii_digit refl (λ x xs. refl) digits i d lt are

-- digits behind a text whose last byte is none
pub digits-end : (front digits : List ℕ) (last : ℕ) → is_ascii_digit last ≡ false → list_all is_ascii_digit digits ≡ true
    → suffix_len is_ascii_digit ((front ++ last ∷ []) ++ digits) ≡ length digits
digits-end front digits last none are =
    let text = (front ++ last ∷ []) ++ digits in
    let size = length-append (front ++ last ∷ []) digits in
    let head = length-append front (last ∷ []) in
    suffix_len_is is_ascii_digit text (length front + 1) 0 (omega (arith, size, head))
    (λ k le lt.
    ap is_ascii_digit (get_or-append_right (front ++ last ∷ []) digits (length front + 1) k 0 (omega (arith, head)) le)
    ∙ digit_at digits (k - (length front + 1)) 0 (omega (arith, le, lt, size, head)) are)
    (λ some. ap is_ascii_digit (ap (λ (l : List ℕ). get_or l (length front + 1 - 1) 0) (append_assoc front (last ∷ []) digits) ∙ get_or_at front last digits 0 (length front + 1 - 1) (omega arith)) ∙ none)
    ∙ omega (arith, size, head)

-- ---- revisions

plain_or : (one nought : Bool) → ((nought ≡ true) → one ≡ true) → (one || not nought) ≡ true
plain_or true nought goes = refl
plain_or false true goes = absurd (true≢false (sym (goes refl)))
plain_or false false goes = refl

-- the printed text of a number has no leading zero
plain-decimal_text : (n : ℕ) → n < 2 ^ 64 → is_plain_decimal (decimal_text n) ≡ true
plain-decimal_text zero small = ap is_plain_decimal (decimal_digit 0 (omega arith))
plain-decimal_text (suc n) small = plain_or (length (decimal_text (suc n)) == 1) (get_or (decimal_text (suc n)) 0 0 == 48)
    (λ nought. absurd (let first = first_decimal (suc n) (omega arith) small in let is = eqb-true _ _ nought in omega (arith, first, is)))

pub revision-text : (n : ℕ) → n < 2 ^ 32 → revision_of (decimal_text n) ≡ Some n
revision-text n small =
    let fits : n < 2 ^ 64 = omega (arith, small) in
    let value = decimal_value-decimal_text n fits in
    let within : nat_le (decimal_value (decimal_text n)) 4294967295 ≡ true = le-leb _ _ (omega (arith, value, small)) in
    ap (λ b. cond b (Some (decimal_value (decimal_text n))) None)
    (and_from _ _ (IsDecimal-decimal_text n fits) (and_from _ _ within (plain-decimal_text n fits)))
    ∙ ap Some value

zero_one : (one nought : Bool) → (one || not nought) ≡ true → nought ≡ true → one ≡ true
zero_one true nought plain is = refl
zero_one false true plain is = absurd (true≢false (sym plain))
zero_one false false plain is = absurd (true≢false (sym is))

pub text-revision : (digits : List ℕ) (n : ℕ) → revision_of digits ≡ Some n → digits ≡ decimal_text n
text-revision digits n is = by (is_decimal digits && (nat_le (decimal_value digits) 4294967295 && is_plain_decimal digits)) refl is
  where
    by : (b : Bool) → (is_decimal digits && (nat_le (decimal_value digits) 4294967295 && is_plain_decimal digits)) ≡ b → cond b (Some (decimal_value digits)) None ≡ Some n → digits ≡ decimal_text n
    by true form same =
        let value : decimal_value digits ≡ n = cc in
        let parts = and_parts (is_decimal digits) (nat_le (decimal_value digits) 4294967295 && is_plain_decimal digits) form in
        let rest = and_parts (nat_le (decimal_value digits) 4294967295) (is_plain_decimal digits) parts.1 in
        let small : decimal_value digits ≤ 4294967295 = leb-true _ _ rest.0 in
        sym (decimal_text-decimal_value digits parts.0
        (λ first. eqb-true _ _ (zero_one (length digits == 1) (get_or digits 0 0 == 48) rest.1 (eq-eqb _ _ first)))
        (omega (arith, small))) ∙ ap decimal_text value
    by false form same = absurd (cc)

-- ---- backups

named-with : (name : List ℕ) (revision : ℕ) → is_name name ≡ true → backup_with name (Some revision) ≡ Some (record { name = name; revision = revision })
named-with name revision is = ap (λ b. cond b (Some (record { name = name; revision = revision })) None) is

pub of-text : (name : List ℕ) (revision : ℕ) → is_name name ≡ true → revision < 2 ^ 32 → backup_of ((name ++ codes ".r") ++ decimal_text revision) ≡ Some (record { name = name; revision = revision })
of-text name revision is small =
    let digits = decimal_text revision in
    let front = name ++ codes ".r" in
    let text = front ++ digits in
    let are = (decimal_parts digits (IsDecimal-decimal_text revision (omega (arith, small)))).1 in
    let ends : suffix_len is_ascii_digit text ≡ length digits =
    ap (λ (l : List ℕ). suffix_len is_ascii_digit (l ++ digits)) (sym (append_assoc name (46 ∷ []) (114 ∷ []))) ∙ digits-end (name ++ 46 ∷ []) digits 114 refl are in
    let size : length text - suffix_len is_ascii_digit text ≡ length front = omega (arith, ends, length-append front digits) in
    ap (λ n. option_and_then (λ name. backup_with name (revision_of (drop n text))) (before_back (codes ".r") (take n text))) size
    ∙ ap (λ (l : List ℕ). option_and_then (λ name. backup_with name (revision_of (drop (length front) text))) (before_back (codes ".r") l)) (take_at front digits (length front) refl)
    ∙ ap (λ (o : Option (List ℕ)). option_and_then (λ name. backup_with name (revision_of (drop (length front) text))) o) (before-append (codes ".r") name)
    ∙ ap (λ (l : List ℕ). backup_with name (revision_of l)) (drop_at front digits (length front) refl)
    ∙ ap (λ (o : Option ℕ). backup_with name o) (revision-text revision small) ∙ named-with name revision is

-- the path of a backup is its name
pub at-path : (name : List ℕ) (revision : ℕ) → is_name name ≡ true → revision < 2 ^ 32 → backup_at (backup_path name revision) ≡ Some (record { name = name; revision = revision })
at-path name revision is small =
    let text = (name ++ codes ".r") ++ decimal_text revision in
    let joined : name ++ (codes ".r" ++ (decimal_text revision ++ codes ".tlc")) ≡ text ++ codes ".tlc" =
    sym (append_assoc name (codes ".r") (decimal_text revision ++ codes ".tlc")) ∙ sym (append_assoc (name ++ codes ".r") (decimal_text revision) (codes ".tlc")) in
    ap (λ (l : List ℕ). option_and_then backup_of (before_back (codes ".tlc") l)) joined
    ∙ ap (λ (o : Option (List ℕ)). option_and_then backup_of o) (before-append (codes ".tlc") text) ∙ of-text name revision is small

then_some : {A B : Type 0} (f : A → Option B) (o : Option A) (b : B) → option_and_then f o ≡ Some b → (a : A) × (o ≡ Some a) × (f a ≡ Some b)
then_some f None b is = absurd (cc)
then_some f (Some a) b is = (a, refl, is)

with_some : (name : List ℕ) (revision : Option ℕ) (backup : Backup) → backup_with name revision ≡ Some backup → (n : ℕ) × (revision ≡ Some n) × (record { name = name; revision = n } ≡ backup)
with_some name None backup is = absurd (cc)
with_some name (Some n) backup is = by (is_name name) is
  where
    by : (b : Bool) → cond b (Some (record { name = name; revision = n })) None ≡ Some backup → (m : ℕ) × (Some n ≡ Some m) × (record { name = name; revision = m } ≡ backup)
    by true same = (n, refl, cc)
    by false same = absurd (cc)

pub text-of : (text : List ℕ) (backup : Backup) → backup_of text ≡ Some backup → text ≡ backup.name ++ (codes ".r" ++ decimal_text backup.revision)
text-of text backup is =
    let size = length text - suffix_len is_ascii_digit text in
    let named = then_some (λ name. backup_with name (revision_of (drop size text))) (before_back (codes ".r") (take size text)) backup is in
    let with = with_some named.0 (revision_of (drop size text)) backup named.2 in
    let front : take size text ≡ named.0 ++ codes ".r" = append-before (codes ".r") (take size text) named.0 named.1 in
    let digits : drop size text ≡ decimal_text with.0 = text-revision (drop size text) with.0 with.1 in
    sym (take-append-drop size text)
    ∙ ap (λ (l : List ℕ). l ++ drop size text) front ∙ ap (λ (l : List ℕ). (named.0 ++ codes ".r") ++ l) digits
    ∙ append_assoc named.0 (codes ".r") (decimal_text with.0)
    ∙ ap (λ (b : Backup). b.name ++ (codes ".r" ++ decimal_text b.revision)) with.2

-- a path that is the name of a backup is its path
pub path-at : (path : List ℕ) (backup : Backup) → backup_at path ≡ Some backup → path ≡ backup_path backup.name backup.revision
path-at path backup is =
    let file = then_some backup_of (option_and_then (before_back (codes ".tlc")) (behind_front (codes "tlpkg/backups/") path)) backup is in
    let behind = then_some (before_back (codes ".tlc")) (behind_front (codes "tlpkg/backups/") path) file.0 file.1 in
    append-behind (codes "tlpkg/backups/") path behind.0 behind.1
    ∙ ap (λ (l : List ℕ). codes "tlpkg/backups/" ++ l)
    (append-before (codes ".tlc") behind.0 file.0 behind.2 ∙ ap (λ (l : List ℕ). l ++ codes ".tlc") (text-of file.0 backup file.2)
    ∙ append_assoc backup.name (codes ".r" ++ decimal_text backup.revision) (codes ".tlc")
    ∙ ap (λ (l : List ℕ). backup.name ++ l) (append_assoc (codes ".r") (decimal_text backup.revision) (codes ".tlc")))

-- so a path is the name of one backup, and a backup has one path
pub apart_paths : (a b : List ℕ) (x y : Backup) → backup_at a ≡ Some x → backup_at b ≡ Some y → (x ≡ y → ⊥) → a ≡ b → ⊥
apart_paths a b x y is other apart same =
    let one : Some x ≡ Some y = sym is ∙ ap backup_at same ∙ other in
    apart (cc)
