-- Words that are no platforms.
use Rattle.std.proofs.Common.{◌≡◌, ℕ, true, List, [], ◌∷◌, ◌++◌, length, refl, sym, subst, ◌∙◌, arith, append_assoc, Some}
use Rattle.std.specs.Prelude.{All}
use Rattle.std.proofs.lemmas.List.{take_at, length-append, get_or_append_left}
use Rattle.std.proofs.lemmas.List.Elements.{All-take}
use Rattle.tl_path.specs.declared.error.PlatformsError.{PlatformsError}
use Rattle.tl_path.specs.declared.error.PlatformsError.TheVariants.{BadPlatforms}
use Rattle.tl_path.specs.Errors.{IsPlatformsErrorOf}
use Rattle.tl_path.specs.Names.{is_platform}
use Rattle.tl_path.specs.Platforms.{ArePlatforms, IsFirstBadWord}
use Rattle.tl_marks.specs.Form.{ArePlatformsOf}

-- the first of several platforms are platforms
first_platforms : (words more : List (List ℕ)) → ArePlatforms (words ++ more) → ArePlatforms words
first_platforms words more are = record {
  each = subst (All (λ word. is_platform word ≡ true)) (take_at words more (length words) refl) (All-take (λ word. is_platform word ≡ true) (length words) (words ++ more) are.each);
  distinct = λ i j d lt within same.
      are.distinct i j d lt (omega (arith, within, length-append words more))
      (get_or_append_left words more d i (omega (arith, lt, within)) ∙ same ∙ sym (get_or_append_left words more d j within));
  few = omega (arith, are.few, length-append words more);
}

-- a text with a word that can't be kept lists no platforms
pub platforms_bad : (text : List ℕ) (e : PlatformsError) (at : ℕ) (names : List (List ℕ)) → e ≡ BadPlatforms at → IsPlatformsErrorOf text e → ArePlatformsOf (Some text) names → ⊥
platforms_bad text e at names is error are =
    let bad : IsFirstBadWord text at = subst (IsPlatformsErrorOf text) is error in
    bad.bad (first_platforms (bad.before ++ bad.word ∷ []) bad.behind (subst ArePlatforms (bad.words ∙ sym (append_assoc bad.before (bad.word ∷ []) bad.behind)) are.1.words))
