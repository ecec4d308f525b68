-- Names that are added one after the other.
use Rattle.std.proofs.Common.{◌≡◌, ℕ, ◌+◌, ◌<◌, cond, false, List, [], ◌∷◌, ◌++◌, length, get_or, take, map, refl, sym, ap, ◌∙◌}
use Rattle.std.specs.Prelude.{filter}
use Rattle.std.specs.Str.{bytes_eq}
use Rattle.std.specs.List.{flat_map}
use Rattle.std.proofs.lemmas.List.{take_more, map_more, flat_map_more}
use Rattle.std.proofs.lemmas.List.Elements.{filter-append}
use Rattle.indexmap.specs.IndexSet.{insert_key, insert_all}
use Rattle.tl_path.specs.Names.{is_name}

abbrev Text : Type 0
Text = List ℕ

pub all-append : (keys some more : List Text) → insert_all bytes_eq keys (some ++ more) ≡ insert_all bytes_eq (insert_all bytes_eq keys some) more
all-append keys [] more = refl
all-append keys (name ∷ some) more = all-append (insert_key bytes_eq keys name) some more

-- a name that is no root of the first ones yet
pub root_more : (keys start roots : List Text) (i : ℕ) (root : Text) → i < length roots → root ≡ get_or roots i root → keys ≡ insert_all bytes_eq start (take i roots)
    → insert_key bytes_eq keys root ≡ insert_all bytes_eq start (take (i + 1) roots)
root_more keys start roots i root lt at so_far =
    ap (λ (ks : List Text). insert_key bytes_eq ks root) so_far ∙ sym (all-append start (take i roots) (root ∷ []))
    ∙ ap (λ (r : Text). insert_all bytes_eq start (take i roots ++ r ∷ [])) at ∙ ap (insert_all bytes_eq start) (sym (take_more roots i root lt))

module _ {A : Type 0} where
  -- the text of one element more
  pub text_more : (text : A → Text) (keys start : List Text) (xs : List A) (i : ℕ) (x : A) → i < length xs → x ≡ get_or xs i x
      → keys ≡ insert_all bytes_eq start (filter is_name (map text (take i xs)))
      → insert_all bytes_eq keys (filter is_name (text x ∷ [])) ≡ insert_all bytes_eq start (filter is_name (map text (take (i + 1) xs)))
  text_more text keys start xs i x lt at so_far =
      ap (λ (ks : List Text). insert_all bytes_eq ks (filter is_name (text x ∷ []))) so_far
      ∙ sym (all-append start (filter is_name (map text (take i xs))) (filter is_name (text x ∷ [])))
      ∙ ap (insert_all bytes_eq start) (sym (filter-append is_name (map text (take i xs)) (text x ∷ []))
      ∙ ap (λ (y : A). filter is_name (map text (take i xs) ++ text y ∷ [])) at
      ∙ ap (filter is_name) (sym (map_more text xs i x lt)))

  -- the names of one element more
  pub names_more : (named : A → List Text) (keys start : List Text) (xs : List A) (i : ℕ) (x : A) → i < length xs → x ≡ get_or xs i x
      → keys ≡ insert_all bytes_eq start (flat_map named (take i xs))
      → insert_all bytes_eq keys (named x) ≡ insert_all bytes_eq start (flat_map named (take (i + 1) xs))
  names_more named keys start xs i x lt at so_far =
      ap (λ (ks : List Text). insert_all bytes_eq ks (named x)) so_far
      ∙ sym (all-append start (flat_map named (take i xs)) (named x))
      ∙ ap (insert_all bytes_eq start) (flat_map_more named [] (take i xs) x ∙ ap (λ (y : A). flat_map named (take i xs ++ y ∷ [])) at ∙ ap (flat_map named) (sym (take_more xs i x lt)))
