-- The lines of files that aren't there, as the files are asked for one by one.
use Rattle.std.proofs.Common.{◌≡◌, ◌+◌, ◌<◌, ℕ, Bool, true, false, cond, ◌&&◌, List, [], ◌∷◌, ◌++◌, length, get_or, take, map, Option, Some, None, sym, ap, ◌∙◌}
use Rattle.std.specs.Prelude.{filter, is_some, is_none}
use Rattle.std.proofs.lemmas.List.{map_more, map-append, append-nil}
use Rattle.std.proofs.lemmas.List.Elements.{filter-append}
use Rattle.std.specs.List.{list_any}
use Rattle.tl_model.specs.Volume.{Volume, at, same_name}
use Rattle.tl_entry.specs.Rising.{has_key}
use Rattle.tl_entry.specs.declared.object.Object.{Object}
use Rattle.tl_report.specs.Claims.{Claim, claims}
use Rattle.tl_report.specs.Lines.{line_of}
use Rattle.tl_report.specs.Missing.{is_gone, missing_line, missing_among}
use Rattle.tl_report.specs.declared.lines.Finding.TheVariants.{Missing}
use Rattle.tl_report.proofs.AnyLemmas.{any-map, any-filter}

none_of_some : (o : Option (List ℕ)) (t : Bool) → is_some o ≡ t → is_none o ≡ cond t false true
none_of_some None t is = ap (λ (b : Bool). cond b false true) is
none_of_some (Some bytes) t is = ap (λ (b : Bool). cond b false true) is

module _ {A : Type 0} (f : A → Claim) (tree now : Volume) (files : List A) (i : ℕ) (x : A) (within : i < length files) (is : x ≡ get_or files i x) (there : Bool) (same : now ≡ tree) (asked : there ≡ is_some (at now (f x).path)) where
  missing_next : missing_among tree (map f (take (i + 1) files)) ≡ missing_among tree (map f (take i files)) ++ missing_among tree (f x ∷ [])
  missing_next =
      ap (missing_among tree) (map_more f files i x within ∙ ap (λ (y : A). map f (take i files) ++ f y ∷ []) (sym is))
      ∙ ap (map missing_line) (filter-append (is_gone tree) (map f (take i files)) (f x ∷ []))
      ∙ map-append missing_line (filter (is_gone tree) (map f (take i files))) (filter (is_gone tree) (f x ∷ []))

  gone_as : (t : Bool) → there ≡ t → is_gone tree (f x) ≡ cond t false true
  gone_as t e = ap (λ (v : Volume). is_none (at v (f x).path)) (sym same) ∙ none_of_some (at now (f x).path) t (sym asked ∙ e)

  -- a file that is there
  pub missing-there : (lines : List (List ℕ)) → there ≡ true → lines ≡ missing_among tree (map f (take i files)) → lines ≡ missing_among tree (map f (take (i + 1) files))
  missing-there lines held so_far =
      so_far ∙ sym (missing_next ∙ ap (λ t. missing_among tree (map f (take i files)) ++ map missing_line (cond t (f x ∷ []) [])) (gone_as true held) ∙ append-nil _)

  -- one that isn't, and its line
  pub missing-gone : (lines next : List (List ℕ)) (owner path : List ℕ) → there ≡ false → owner ≡ (f x).owner → path ≡ (f x).path → next ≡ lines ++ line_of Missing owner path ∷ []
      → lines ≡ missing_among tree (map f (take i files)) → next ≡ missing_among tree (map f (take (i + 1) files))
  missing-gone lines next owner path lost is_owner is_path added so_far =
      added ∙ ap (λ (before : List (List ℕ)). before ++ line_of Missing owner path ∷ []) so_far
      ∙ ap (λ (o : List ℕ). missing_among tree (map f (take i files)) ++ line_of Missing o path ∷ []) is_owner
      ∙ ap (λ (p : List ℕ). missing_among tree (map f (take i files)) ++ line_of Missing (f x).owner p ∷ []) is_path
      ∙ sym (missing_next ∙ ap (λ t. missing_among tree (map f (take i files)) ++ map missing_line (cond t (f x ∷ []) [])) (gone_as false lost))

-- the same files that aren't there, and the same lines
pub same-missing : (tree : Volume) (line : List ℕ) (cs ds : List Claim) → ((test : Claim → Bool) → list_any (λ c. is_gone tree c && test c) cs ≡ list_any (λ c. is_gone tree c && test c) ds)
    → has_key (λ (l : List ℕ). l) line (missing_among tree cs) ≡ has_key (λ (l : List ℕ). l) line (missing_among tree ds)
same-missing tree line cs ds same = hits cs ∙ same (λ c. same_name (missing_line c) line) ∙ sym (hits ds)
  where
    hits : (files : List Claim) → has_key (λ (l : List ℕ). l) line (missing_among tree files) ≡ list_any (λ c. is_gone tree c && same_name (missing_line c) line) files
    hits files = any-map (λ l. same_name l line) missing_line (filter (is_gone tree) files) ∙ any-filter (λ c. same_name (missing_line c) line) (is_gone tree) files

-- the files of a database that aren't there, among fewer files and by other names
pub found-as : {A : Type 0} (f : A → Claim) (tree : Volume) (xs ys zs : List A) → xs ≡ ys → (old db : List Object) → old ≡ db
    → ((test : Claim → Bool) → list_any (λ c. is_gone tree c && test c) (map f ys) ≡ list_any (λ c. is_gone tree c && test c) (map f zs)) → ((test : Claim → Bool) → list_any test (map f zs) ≡ list_any test (claims old))
    → (test : Claim → Bool) → list_any (λ c. is_gone tree c && test c) (map f xs) ≡ list_any (λ c. is_gone tree c && test c) (claims db)
found-as {A = A} f tree xs ys zs same old db is fewer has test =
    ap (λ (files : List A). list_any (λ c. is_gone tree c && test c) (map f files)) same ∙ fewer test ∙ has (λ c. is_gone tree c && test c)
    ∙ ap (λ (os : List Object). list_any (λ c. is_gone tree c && test c) (claims os)) is
