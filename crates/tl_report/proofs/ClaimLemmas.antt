-- The files of entries, as a list that has each of them.
use Rattle.std.proofs.Common.{◌≡◌, ℕ, Bool, true, false, ◌&&◌, ◌||◌, List, ◌∷◌, ◌++◌, map, refl, sym, ap, ◌∙◌, append_assoc}
use Rattle.std.specs.Prelude.{filter, not}
use Rattle.std.specs.List.{list_any, flat_map}
use Rattle.std.proofs.lemmas.List.Folds.{list_any-append}
use Rattle.tl_path.specs.Reserved.{is_reserved}
use Rattle.tl_entry.specs.FilePaths.{listed_paths, file_paths}
use Rattle.tl_entry.specs.Sections.{paths_of}
use Rattle.tl_entry.specs.declared.object.Object.{Object}
use Rattle.tl_entry.specs.declared.object.BinFiles.{BinFiles}
use Rattle.tl_tree.specs.Changes.{listed, own}
use Rattle.tl_report.specs.Claims.{Claim, claim_by, claims_by, claims}
use Rattle.tl_report.proofs.AnyLemmas.{any-map, any-filter, any-rising_of}

-- the paths that an entry lists, however its sections are joined
same_listed : (o : Object) → listed_paths o ≡ listed o
same_listed o =
    let bins = flat_map (λ (bin : BinFiles). bin.paths) o.bin in
    let docs = paths_of o.doc.files in
    sym (append_assoc (o.run.paths ++ docs) o.src.paths bins ∙ append_assoc o.run.paths docs (o.src.paths ++ bins))

-- the files of an entry in order, each once, are its files
pub own-claims : (test : Claim → Bool) (o : Object) → list_any test (map (claim_by o.name) (filter (λ path. not (is_reserved path)) (file_paths o))) ≡ list_any test (claims_by o)
own-claims test o =
    let free : List ℕ → Bool = λ path. not (is_reserved path) in
    let hit : List ℕ → Bool = λ path. free path && test (claim_by o.name path) in
    any-map test (claim_by o.name) (filter free (file_paths o)) ∙ any-filter (λ path. test (claim_by o.name path)) free (file_paths o)
    ∙ any-rising_of hit (listed_paths o) ∙ ap (list_any hit) (same_listed o)
    ∙ sym (any-filter (λ path. test (claim_by o.name path)) free (listed o)) ∙ sym (any-map test (claim_by o.name) (own o))

or_assoc : (a b c : Bool) → (a || (b || c)) ≡ ((a || b) || c)
or_assoc true b c = refl
or_assoc false b c = refl

-- the files of one entry more
pub claims_more : (test : Claim → Bool) (before after : List Claim) (o : Object) (rest db : List Object)
    → after ≡ before ++ map (claim_by o.name) (filter (λ path. not (is_reserved path)) (file_paths o))
    → (list_any test before || list_any test (claims (o ∷ rest))) ≡ list_any test (claims db)
    → (list_any test after || list_any test (claims rest)) ≡ list_any test (claims db)
claims_more test before after o rest db is so_far =
    ap (λ (files : List Claim). list_any test files || list_any test (claims rest)) is
    ∙ ap (λ t. t || list_any test (claims rest)) (list_any-append test before _ ∙ ap (λ t. list_any test before || t) (own-claims test o))
    ∙ sym (or_assoc (list_any test before) (list_any test (claims_by o)) (list_any test (claims rest)))
    ∙ ap (λ t. list_any test before || t) (sym (list_any-append test (claims_by o) (claims rest)))
    ∙ so_far
