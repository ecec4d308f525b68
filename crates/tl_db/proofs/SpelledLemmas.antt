-- A spelled value is its own spelling.
use Rattle.std.proofs.Common.{◌≡◌, ◌⊎◌, ℕ, ◌^◌, ◌<◌, ◌≤◌, true, false, cond, ◌&&◌, not, List, [], ◌∷◌, length, filter, Some, None, refl, sym, ap, subst, ◌∙◌, inl, inr, nat_le, arith}
use Rattle.std.specs.Prelude.{All, codes}
use Rattle.std.specs.Str.{bytes_eq}
use Rattle.std.specs.List.{list_all, join_with_byte}
use Rattle.std.proofs.lemmas.Bool.{cases_Bool, true≢false, le-leb, leb-true}
use Rattle.std.proofs.lemmas.Bool.Decides.{nat_tests}
use Rattle.std.proofs.lemmas.Slice.Eq.{bytes_eq-Decides}
use Rattle.std.proofs.lemmas.List.Elements.{All-weaker}
use Rattle.std.proofs.lemmas.List.Splits.{slice_split_at, slice_split_none}
use Rattle.std.proofs.lemmas.List.Sums.{AllPass-from_list_all}
use Rattle.tl_model.specs.Decimal.{is_decimal, decimal_value, decimal_text, IsDecimal-decimal_text, decimal_value-decimal_text}
use Rattle.tl_model.specs.Words.{is_blank, is_full, fields}
use Rattle.tl_path.specs.Bytes.{is_of_platform}
use Rattle.tl_path.specs.Names.{is_platform}
use Rattle.tl_path.proofs.Words.{platform_bytes}
use Rattle.tl_entry.specs.Rising.{is_rising, is_rising_after}
use Rattle.tl_entry.specs.FilePaths.{rising_of}
use Rattle.tl_entry.proofs.SetLemmas.{rising_of_is, rising-rising_of, none_again}
use Rattle.tl_db.specs.declared.options.TreeOption.{TreeOption}
use Rattle.tl_db.specs.declared.options.TreeOption.TheVariants.{Autobackup, Platforms}
use Rattle.tl_db.specs.Options.{are_distinct, are_platforms, spelled_number, spelled_platforms, spelled}
use Rattle.tl_db.proofs.OptionLemmas.{from_if, left, right, both, all-rising_of, length-rising_of}

blank_apart : (b : ℕ) → is_of_platform b ≡ true → is_blank b ≡ false
blank_apart b is = grind (arith, nat_tests, is)

no_blank : (word : List ℕ) → is_platform word ≡ true → All (λ b. is_blank b ≡ false) word
no_blank word is =
    All-weaker (λ b. is_of_platform b ≡ true) (λ b. is_blank b ≡ false) blank_apart word (AllPass-from_list_all is_of_platform word (platform_bytes word is))

full_word : (word : List ℕ) → is_platform word ≡ true → is_full word ≡ true
full_word [] is = absurd (true≢false (sym is))
full_word (b ∷ word) is = refl

-- platforms that one space joins are the words of their text
fields_joined : (words : List (List ℕ)) → list_all is_platform words ≡ true → fields (join_with_byte 32 words) ≡ words
fields_joined [] all = refl
fields_joined (word ∷ []) all =
    let is = left (is_platform word) true all in
    ap (filter is_full) (slice_split_none is_blank word (no_blank word is)) ∙ ap (λ t. cond t (word ∷ []) []) (full_word word is)
fields_joined (word ∷ next ∷ words) all =
    let is = left (is_platform word) (list_all is_platform (next ∷ words)) all in
    let rest = join_with_byte 32 (next ∷ words) in
    ap (filter is_full) (slice_split_at is_blank word 32 rest (no_blank word is) refl)
    ∙ ap (λ t. cond t (word ∷ fields rest) (fields rest)) (full_word word is)
    ∙ ap (λ (more : List (List ℕ)). word ∷ more) (fields_joined (next ∷ words) (right (is_platform word) (list_all is_platform (next ∷ words)) all))

rising_distinct : (words : List (List ℕ)) → is_rising (λ w. w) words ≡ true → are_distinct words ≡ true
rising_distinct [] up = refl
rising_distinct (word ∷ words) up = both _ _ (ap not (none_again word words up)) (rising_distinct words (tail words up))
  where
    tail : (words : List (List ℕ)) → is_rising_after (λ w. w) word words ≡ true → is_rising (λ w. w) words ≡ true
    tail [] up = refl
    tail (next ∷ words) up = right _ (is_rising_after (λ w. w) next words) up

number_again : (value v : List ℕ) → spelled_number value ≡ Some v → spelled_number v ≡ Some v
number_again value v is =
    let n = decimal_value value in
    let from = from_if (is_decimal value && nat_le n 1000) (decimal_text n) v is in
    let small : n ≤ 1000 = leb-true n 1000 (right (is_decimal value) (nat_le n 1000) from.0) in
    let fits : n < 2 ^ 64 = omega arith in
    let again : decimal_value (decimal_text n) ≡ n = decimal_value-decimal_text n fits in
    let tested : (is_decimal (decimal_text n) && nat_le (decimal_value (decimal_text n)) 1000) ≡ true =
    both _ _ (IsDecimal-decimal_text n fits) (ap (λ m. nat_le m 1000) again ∙ le-leb n 1000 small) in
    subst (λ (t : List ℕ). spelled_number t ≡ Some t) from.1
    (ap (λ t. cond t (Some (decimal_text (decimal_value (decimal_text n)))) None) tested ∙ ap (λ m. Some (decimal_text m)) again)

platforms_again : (value v : List ℕ) → spelled_platforms value ≡ Some v → spelled_platforms v ≡ Some v
platforms_again value v is =
    let words = fields value in let names = rising_of words in
    let from = from_if (are_platforms words) (join_with_byte 32 names) v is in
    let few : length words ≤ 32 = leb-true (length words) 32 (left (nat_le (length words) 32) (list_all is_platform words && are_distinct words) from.0) in
    let each : list_all is_platform words ≡ true =
    left (list_all is_platform words) (are_distinct words) (right (nat_le (length words) 32) (list_all is_platform words && are_distinct words) from.0) in
    let up : is_rising (λ w. w) names ≡ true = rising-rising_of words in
    let all : list_all is_platform names ≡ true = all-rising_of is_platform words each in
    let tested : are_platforms names ≡ true =
    both _ _ (le-leb (length names) 32 (omega (arith, few, length-rising_of words))) (both _ _ all (rising_distinct names up)) in
    let same : fields (join_with_byte 32 names) ≡ names = fields_joined names all in
    let in_order : names ≡ rising_of names = rising_of_is names names up (λ w. refl) in
    subst (λ (t : List ℕ). spelled_platforms t ≡ Some t) from.1
    (ap (λ (ws : List (List ℕ)). cond (are_platforms ws) (Some (join_with_byte 32 (rising_of ws))) None) same
    ∙ ap (λ t. cond t (Some (join_with_byte 32 (rising_of names))) None) tested
    ∙ ap (λ (ws : List (List ℕ)). Some (join_with_byte 32 ws)) (sym in_order))

-- a spelled value is its own spelling
pub spelled_again : (option : TreeOption) (value v : List ℕ) → spelled option value ≡ Some v → spelled option v ≡ Some v
spelled_again Autobackup value v is =
    elim (cases_Bool (bytes_eq v (codes "-1"))) [
      | inl all ↦ ap (λ t. cond t (Some (codes "-1")) (spelled_number v)) all ∙ ap (λ (t : List ℕ). Some t) (sym ((bytes_eq-Decides v (codes "-1")).0 all))
      | inr other ↦ ap (λ t. cond t (Some (codes "-1")) (spelled_number v)) other ∙ by_number other (cases_Bool (bytes_eq value (codes "-1")))
    ]
  where
    by_number : bytes_eq v (codes "-1") ≡ false → (bytes_eq value (codes "-1") ≡ true) ⊎ (bytes_eq value (codes "-1") ≡ false) → spelled_number v ≡ Some v
    by_number other (inl all) =
        let same : codes "-1" ≡ v = (from_if true (codes "-1") v (ap (λ t. cond t (Some (codes "-1")) (spelled_number value)) (sym all) ∙ is)).1 in
        absurd (true≢false (sym ((bytes_eq-Decides v (codes "-1")).1 (sym same)) ∙ other))
    by_number other (inr apart) = number_again value v (ap (λ t. cond t (Some (codes "-1")) (spelled_number value)) (sym apart) ∙ is)
spelled_again Platforms value v is = platforms_again value v is
