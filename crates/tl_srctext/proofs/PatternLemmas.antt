-- Patterns as they are written, and that they read again.
use Rattle.std.proofs.Common.{◌≡◌, ℕ, ◌<◌, ◌≤◌, ◌==◌, Bool, true, false, cond, List, [], ◌∷◌, ◌++◌, length, drop, Option, Some, None, Ok, refl, ap, ◌∙◌, arith}
use Rattle.std.specs.Prelude.{All, option_map}
use Rattle.std.specs.List.{list_all, slice_split, join_with_byte}
use Rattle.std.proofs.lemmas.Bool.{and_parts, and_from}
use Rattle.std.proofs.lemmas.Bool.Decides.{nat_tests}
use Rattle.std.proofs.lemmas.List.Elements.{All-weaker}
use Rattle.std.proofs.lemmas.List.Folds.{list_all-append}
use Rattle.std.proofs.lemmas.List.Splits.{slice_split_none, slice_split_at}
use Rattle.std.proofs.lemmas.List.Sums.{AllPass-from_list_all}
use Rattle.tl_path.specs.Bytes.{is_of_platform}
use Rattle.tl_path.specs.Names.{is_platform}
use Rattle.tl_path.proofs.Words.{platform_bytes}
use Rattle.tl_srctext.specs.Content.{before_blank, behind_blank}
use Rattle.tl_srctext.specs.Patterns.{begins_with, platforms_of, pattern_limit, pattern_with_text, pattern_with, pattern_of}
use Rattle.tl_srctext.specs.Writing.{sign, letter, limit_text, pattern_value}
use Rattle.tl_srctext.specs.Formed.{IsFullValue, IsLimit, IsPattern}
use Rattle.tl_srctext.specs.declared.key.Section.{Section}
use Rattle.tl_srctext.specs.declared.key.Section.TheVariants.{Run, Src, Doc, Bin}
use Rattle.tl_pattern.specs.declared.kind.PatternKind.{PatternKind}
use Rattle.tl_pattern.specs.declared.kind.PatternKind.TheVariants.{F, D, T, R}
use Rattle.tl_srctext.specs.declared.pattern.Limit.{Limit}
use Rattle.tl_srctext.specs.declared.pattern.Limit.TheVariants.{All as Everywhere, Only, Except}
use Rattle.tl_srctext.specs.declared.pattern.SourcePattern.{SourcePattern}
use Rattle.tl_srctext.proofs.TextLemmas.{none_before, before-word, behind-word}
use Rattle.tl_srctext.proofs.ValueLemmas.{is_ink, ink_word, all_of, pair-value}

-- ---- platforms

platform_byte : (b : ℕ) → is_of_platform b ≡ true → (is_ink b ≡ true) × ((b == 44) ≡ false) × ((b == 33) ≡ false)
platform_byte b is = (grind (arith, nat_tests), grind (arith, nat_tests), grind (arith, nat_tests))

joined_ink : (platforms : List (List ℕ)) → list_all is_platform platforms ≡ true → list_all is_ink (join_with_byte 44 platforms) ≡ true
joined_ink [] all = refl
joined_ink (p ∷ []) all = all_of is_of_platform is_ink (λ b is. (platform_byte b is).0) p (platform_bytes p (and_parts (is_platform p) true all).0)
joined_ink (p ∷ next ∷ platforms) all =
    let parts = and_parts (is_platform p) (list_all is_platform (next ∷ platforms)) all in
    list_all-append is_ink p (44 ∷ join_with_byte 44 (next ∷ platforms))
    ∙ and_from _ _ (all_of is_of_platform is_ink (λ b is. (platform_byte b is).0) p (platform_bytes p parts.0)) (joined_ink (next ∷ platforms) parts.1)

no_comma : (p : List ℕ) → is_platform p ≡ true → All (λ b. (b == 44) ≡ false) p
no_comma p is = All-weaker (λ b. is_of_platform b ≡ true) (λ b. (b == 44) ≡ false) (λ b is. (platform_byte b is).1) p (AllPass-from_list_all is_of_platform p (platform_bytes p is))

joined_parted : (platforms : List (List ℕ)) → 0 < length platforms → list_all is_platform platforms ≡ true → slice_split (λ b. b == 44) (join_with_byte 44 platforms) ≡ platforms
joined_parted [] some all = absurd (omega arith)
joined_parted (p ∷ []) some all = slice_split_none (λ b. b == 44) p (no_comma p (and_parts (is_platform p) true all).0)
joined_parted (p ∷ next ∷ platforms) some all =
    let parts = and_parts (is_platform p) (list_all is_platform (next ∷ platforms)) all in
    slice_split_at (λ b. b == 44) p 44 (join_with_byte 44 (next ∷ platforms)) (no_comma p parts.0) refl
    ∙ ap (λ (ps : List (List ℕ)). p ∷ ps) (joined_parted (next ∷ platforms) (omega arith) parts.1)

platforms_again : (platforms : List (List ℕ)) → 0 < length platforms → list_all is_platform platforms ≡ true → platforms_of (slice_split (λ b. b == 44) (join_with_byte 44 platforms)) ≡ Some platforms
platforms_again platforms some all = ap platforms_of (joined_parted platforms some all) ∙ ap (λ t. cond t (Some platforms) None) all

-- platforms that commas part don't begin with a `!`
no_sign : (platforms : List (List ℕ)) → list_all is_platform platforms ≡ true → begins_with 33 (join_with_byte 44 platforms) ≡ false
no_sign [] all = refl
no_sign ([] ∷ platforms) all = absurd (cc)
no_sign ((b ∷ p) ∷ []) all = (platform_byte b (and_parts (is_of_platform b) _ (platform_bytes (b ∷ p) (and_parts (is_platform (b ∷ p)) true all).0)).0).2
no_sign ((b ∷ p) ∷ next ∷ platforms) all = (platform_byte b (and_parts (is_of_platform b) _ (platform_bytes (b ∷ p) (and_parts (is_platform (b ∷ p)) (list_all is_platform (next ∷ platforms)) all).0)).0).2

-- ---- limits

limit_ink : (section : Section) (limit : Limit) → IsLimit section limit → list_all is_ink (limit_text limit) ≡ true
limit_ink section Everywhere is = refl
limit_ink Bin (Only platforms) is = joined_ink platforms is.1
limit_ink Bin (Except platforms) is = joined_ink platforms is.1
limit_ink Run (Only platforms) is = absurd is
limit_ink Run (Except platforms) is = absurd is
limit_ink Src (Only platforms) is = absurd is
limit_ink Src (Except platforms) is = absurd is
limit_ink Doc (Only platforms) is = absurd is
limit_ink Doc (Except platforms) is = absurd is

limit_again : (section : Section) (limit : Limit) → IsLimit section limit → pattern_limit section (limit_text limit) ≡ Some limit
limit_again Run Everywhere is = refl
limit_again Src Everywhere is = refl
limit_again Doc Everywhere is = refl
limit_again Bin Everywhere is = refl
limit_again Bin (Only platforms) is =
    ap (λ t. cond t (option_map Except (platforms_of (slice_split (λ b. b == 44) (drop 1 (join_with_byte 44 platforms))))) (option_map Only (platforms_of (slice_split (λ b. b == 44) (join_with_byte 44 platforms)))))
    (no_sign platforms is.1)
    ∙ ap (option_map Only) (platforms_again platforms is.0 is.1)
limit_again Bin (Except platforms) is = ap (option_map Except) (platforms_again platforms is.0 is.1)
limit_again Run (Only platforms) is = absurd is
limit_again Run (Except platforms) is = absurd is
limit_again Src (Only platforms) is = absurd is
limit_again Src (Except platforms) is = absurd is
limit_again Doc (Only platforms) is = absurd is
limit_again Doc (Except platforms) is = absurd is

-- ---- patterns

-- what stands before a pattern's text
abbrev front_of : SourcePattern → List ℕ
front_of p = sign p.adds 43 ++ sign p.takes_out 33 ++ letter p.kind ∷ limit_text p.limit

letter_ink : (kind : PatternKind) → is_ink (letter kind) ≡ true
letter_ink F = refl
letter_ink D = refl
letter_ink T = refl
letter_ink R = refl

-- a pattern with the number of its line
abbrev pub on_line : ℕ → SourcePattern → SourcePattern
on_line line p = record p { line = line }

signs_read : (section : Section) (line : ℕ) (adds takes_out : Bool) (kind : PatternKind) (rest : List ℕ)
    → pattern_of section line (sign adds 43 ++ sign takes_out 33 ++ letter kind ∷ rest) ≡ pattern_with line adds takes_out (Some kind) (pattern_limit section (before_blank rest)) (behind_blank rest)
signs_read section line true true F rest = refl
signs_read section line true true D rest = refl
signs_read section line true true T rest = refl
signs_read section line true true R rest = refl
signs_read section line true false F rest = refl
signs_read section line true false D rest = refl
signs_read section line true false T rest = refl
signs_read section line true false R rest = refl
signs_read section line false true F rest = refl
signs_read section line false true D rest = refl
signs_read section line false true T rest = refl
signs_read section line false true R rest = refl
signs_read section line false false F rest = refl
signs_read section line false false D rest = refl
signs_read section line false false T rest = refl
signs_read section line false false R rest = refl

-- a pattern that is written reads as it is, but for the number of its line
pub pattern-again : (section : Section) (line : ℕ) (p : SourcePattern) → IsPattern section p → pattern_of section line (pattern_value p) ≡ Ok (on_line line p)
pattern-again section line p is =
    let limit = limit_ink section p.limit is.limit in
    signs_read section line p.adds p.takes_out p.kind (limit_text p.limit ++ 32 ∷ p.text)
    ∙ ap (λ (l : List ℕ). pattern_with line p.adds p.takes_out (Some p.kind) (pattern_limit section l) (behind_blank (limit_text p.limit ++ 32 ∷ p.text)))
    (before-word (limit_text p.limit) p.text (ink_word (limit_text p.limit) limit))
    ∙ ap (λ (o : Option Limit). pattern_with line p.adds p.takes_out (Some p.kind) o (behind_blank (limit_text p.limit ++ 32 ∷ p.text))) (limit_again section p.limit is.limit)
    ∙ ap (pattern_with line p.adds p.takes_out (Some p.kind) (Some p.limit))
    (behind-word (limit_text p.limit) p.text (ink_word (limit_text p.limit) limit) (none_before p.text is.text.value.begins))
    ∙ ap (pattern_with_text (λ (text : List ℕ). record p { line = line; text = text })) (ap (λ t. cond t (Some p.text) None) (and_from _ _ is.form is.text.value.text))

-- a pattern that is written is a value
pub pattern-full : (section : Section) (p : SourcePattern) → IsPattern section p → IsFullValue (pattern_value p)
pattern-full section p is = by p.adds p.takes_out is.short
  where
    limit : list_all is_ink (letter p.kind ∷ limit_text p.limit) ≡ true
    limit = and_from _ _ (letter_ink p.kind) (limit_ink section p.limit is.limit)

    by : (adds takes_out : Bool) → length (sign adds 43 ++ sign takes_out 33 ++ letter p.kind ∷ (limit_text p.limit ++ 32 ∷ p.text)) ≤ 65536
        → IsFullValue (sign adds 43 ++ sign takes_out 33 ++ letter p.kind ∷ (limit_text p.limit ++ 32 ∷ p.text))
    by true true short = pair-value 43 (33 ∷ letter p.kind ∷ limit_text p.limit) p.text limit is.text short
    by true false short = pair-value 43 (letter p.kind ∷ limit_text p.limit) p.text limit is.text short
    by false true short = pair-value 33 (letter p.kind ∷ limit_text p.limit) p.text limit is.text short
    by false false short = pair-value (letter p.kind) (limit_text p.limit) p.text limit is.text short
