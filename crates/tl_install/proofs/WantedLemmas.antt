-- The containers that a step of a plan fetches hold the files whose bytes come later in its change, each once.
use Rattle.std.proofs.Common.{◌≡◌, ◌==◌, ◌||◌, ℕ, Bool, true, false, List, [], ◌∷◌, ◌++◌, length, map, Option, Some, None, refl, sym, ◌∙◌, ap, subst, inl, inr, append_assoc, arith}
use Rattle.std.specs.Prelude.{not, option_and_then}
use Rattle.std.specs.List.{flat_map}
use Rattle.std.proofs.lemmas.Bool.{and_parts, cases_Bool, eqb-true, false_from_ne_true, or_parts, true≢false}
use Rattle.std.proofs.lemmas.List.{append-nil}
use Rattle.std.proofs.lemmas.List.Concat.{flat_map-append}
use Rattle.tl_model.specs.Volume.{Name}
use Rattle.tl_entry.specs.Parts.{FileEntry}
use Rattle.tl_entry.specs.Rising.{is_rising}
use Rattle.tl_entry.specs.declared.object.Object.{Object}
use Rattle.tl_entry.proofs.SetLemmas.{has-rising_of, none_again, rising-rising_of}
use Rattle.tl_db.specs.Entries.{entry_of}
use Rattle.tl_db.specs.declared.repo.Repo.{Repo}
use Rattle.tl_tree.specs.Changes.{bin_paths, later, later_by, listed, own, path_of}
use Rattle.tl_tree.specs.Conditions.{IsChange}
use Rattle.tl_tree.specs.Staged.{has_name}
use Rattle.tl_tree.proofs.Distinct.{AreOnce, IsPart, has_either, has_name-append, has_right, neither_has, once-append, once-cons, once-cross, once-nil, once-right, part-append}
use Rattle.tl_tree.proofs.Spoken.{late_spoken}
use Rattle.tl_coming.specs.Made.{AreUnreserved, OwnsListed, made_by, made_parts, stream_of}
use Rattle.tl_coming.specs.Parts.{part_entry}
use Rattle.tl_coming.specs.declared.part.PlanPart.{PlanPart}
use Rattle.tl_coming.specs.declared.part.PlanPart.TheVariants.{Install, Update, Remove}
use Rattle.tl_fetch.specs.Containers.{part_listed, part_paths}
use Rattle.tl_fetch.specs.declared.container.ContainerPart.{ContainerPart}
use Rattle.tl_fetch.specs.declared.container.ContainerPart.TheVariants.{Run, Doc, Src}
use Rattle.tl_fill.specs.Filling.{AreLater}
use Rattle.tl_fill.specs.Wanted.{all_paths, wanted_paths}
use Rattle.tl_fill.proofs.PathLemmas.{has_path}
use Rattle.tl_install.specs.Fetched.{entry_wanted, package_wanted, repo_wanted, wanted_by, wanted_if, wanted_in}

-- ---- the files of a container

rising_behind : (x : Name) (xs : List Name) → is_rising (λ p. p) (x ∷ xs) ≡ true → is_rising (λ p. p) xs ≡ true
rising_behind x [] up = refl
rising_behind x (y ∷ ys) up = (and_parts _ _ up).1

once_rising : (xs : List Name) → is_rising (λ p. p) xs ≡ true → AreOnce xs
once_rising [] up = once-nil
once_rising (x ∷ xs) up = once-cons x xs (sym (has_path x xs) ∙ none_again x xs up) (once_rising xs (rising_behind x xs up))

once_part : (entry : Object) (part : ContainerPart) → AreOnce (part_paths entry part)
once_part entry part = once_rising (part_paths entry part) (rising-rising_of (part_listed entry part))

has_part : (entry : Object) (part : ContainerPart) (path : Name) → has_name path (part_paths entry part) ≡ has_name path (part_listed entry part)
has_part entry part path = sym (has_path path (part_paths entry part)) ∙ has-rising_of path (part_listed entry part) ∙ has_path path (part_listed entry part)

-- ---- lists with the same names

-- names that are those of another list, each once where they are so there
record IsSame (xs ys : List Name) : Type 0 where
  once : AreOnce ys → AreOnce xs
  same : (path : Name) → has_name path xs ≡ has_name path ys

part_of_same : (xs ys : List Name) → IsSame xs ys → IsPart xs ys
part_of_same xs ys is = record { once = is.once; among = λ name here. sym (is.same name) ∙ here }

same-nil : IsSame [] []
same-nil = record { once = λ once. once; same = λ path. refl }

same-append : (xs ys us vs : List Name) → IsSame xs us → IsSame ys vs → IsSame (xs ++ ys) (us ++ vs)
same-append xs ys us vs far near = record {
  once = (part-append xs ys us vs (part_of_same xs us far) (part_of_same ys vs near)).once;
  same = λ path. has_name-append path xs ys ∙ ap (λ (b : Bool). b || has_name path ys) (far.same path) ∙ ap (λ (b : Bool). has_name path us || b) (near.same path) ∙ sym (has_name-append path us vs);
}

-- ---- the containers of a package

-- a container that is wanted where there are such files
module _ {X : Type 0} (repo : Repo) (entry : Object) (part : ContainerPart) where
  abbrev if_any : List X → List Name
  if_any files = all_paths (wanted_if (not (length files == 0)) repo entry part)

  some_files : (file : X) (files : List X) → (length (file ∷ files) == 0) ≡ false
  some_files file files = false_from_ne_true _ (λ is. let none : length (file ∷ files) ≡ 0 = eqb-true (length (file ∷ files)) 0 is in absurd (omega (arith, none)))

  any_whole : (file : X) (files : List X) → if_any (file ∷ files) ≡ part_paths entry part
  any_whole file files = ap (λ (b : Bool). all_paths (wanted_if (not b) repo entry part)) (some_files file files) ∙ append-nil (part_paths entry part)

  any_once : (files : List X) → AreOnce (if_any files)
  any_once [] = once-nil
  any_once (file ∷ files) = subst AreOnce (sym (any_whole file files)) (once_part entry part)

  any_has : (files : List X) → (files ≡ [] → part_listed entry part ≡ []) → (path : Name) → has_name path (if_any files) ≡ has_name path (part_listed entry part)
  any_has [] none path = sym (ap (λ (l : List Name). has_name path l) (none refl))
  any_has (file ∷ files) none path = ap (λ (l : List Name). has_name path l) (any_whole file files) ∙ has_part entry part path

shuffled : (a b c d : Bool) → ((a || d) || (b || c)) ≡ (a || (b || (c || d)))
shuffled true b c d = refl
shuffled false true c true = refl
shuffled false true c false = refl
shuffled false false true true = refl
shuffled false false true false = refl
shuffled false false false true = refl
shuffled false false false false = refl

module _ (repo : Repo) (entry : Object) where
  abbrev runs : List Name
  runs = entry.run.paths

  abbrev docs : List Name
  docs = map path_of entry.doc.files

  abbrev srcs : List Name
  srcs = entry.src.paths

  abbrev bins : List Name
  bins = flat_map bin_paths entry.bin

  abbrev for_run : List Name
  for_run = part_paths entry Run

  abbrev for_doc : List Name
  for_doc = if_any repo entry Doc entry.doc.files

  abbrev for_src : List Name
  for_src = if_any repo entry Src entry.src.paths

  has_run : (path : Name) → has_name path for_run ≡ (has_name path runs || has_name path bins)
  has_run path = has_part entry Run path ∙ has_name-append path runs bins

  has_doc : (path : Name) → has_name path for_doc ≡ has_name path docs
  has_doc path = any_has repo entry Doc entry.doc.files (λ none. ap (λ (l : List FileEntry). map path_of l) none) path

  has_src : (path : Name) → has_name path for_src ≡ has_name path srcs
  has_src path = any_has repo entry Src entry.src.paths (λ none. none) path

  split : all_paths (package_wanted repo entry) ≡ for_run ++ (for_doc ++ for_src)
  split = ap (λ (l : List Name). for_run ++ l) (flat_map-append wanted_paths (wanted_if (not (length entry.doc.files == 0)) repo entry Doc) (wanted_if (not (length entry.src.paths == 0)) repo entry Src))

  relisted : listed entry ≡ runs ++ (docs ++ (srcs ++ bins))
  relisted = append_assoc (runs ++ docs) srcs bins ∙ append_assoc runs docs (srcs ++ bins)

  package_has : (path : Name) → has_name path (for_run ++ (for_doc ++ for_src)) ≡ has_name path (listed entry)
  package_has path =
      has_name-append path for_run (for_doc ++ for_src) ∙ ap (λ (b : Bool). b || has_name path (for_doc ++ for_src)) (has_run path)
      ∙ ap (λ (b : Bool). (has_name path runs || has_name path bins) || b)
      (has_name-append path for_doc for_src ∙ ap (λ (b : Bool). b || has_name path for_src) (has_doc path) ∙ ap (λ (b : Bool). has_name path docs || b) (has_src path))
      ∙ shuffled (has_name path runs) (has_name path docs) (has_name path srcs) (has_name path bins)
      ∙ sym (has_name-append path runs (docs ++ (srcs ++ bins))
      ∙ ap (λ (b : Bool). has_name path runs || b) (has_name-append path docs (srcs ++ bins) ∙ ap (λ (b : Bool). has_name path docs || b) (has_name-append path srcs bins)))
      ∙ sym (ap (λ (l : List Name). has_name path l) relisted)

  module _ (once : AreOnce (runs ++ (docs ++ (srcs ++ bins)))) where
    behind : AreOnce (docs ++ (srcs ++ bins))
    behind = once-right runs (docs ++ (srcs ++ bins)) once

    -- a file that is documentation is no source
    doc_apart : (path : Name) → has_name path for_doc ≡ true → has_name path for_src ≡ false
    doc_apart path here =
        has_src path ∙ (or_parts (has_name path srcs) (has_name path bins) (sym (has_name-append path srcs bins) ∙ once-cross docs (srcs ++ bins) behind path (sym (has_doc path) ∙ here))).0

    neither : (path : Name) → has_name path docs ≡ false → has_name path srcs ≡ false → has_name path (for_doc ++ for_src) ≡ false
    neither path doc src = neither_has path for_doc for_src (has_doc path ∙ doc) (has_src path ∙ src)

    -- a name that two lists have where one is told from the other
    not_both : (path : Name) (xs ys : List Name) → AreOnce (xs ++ ys) → has_name path ys ≡ true → has_name path xs ≡ false
    not_both path xs ys apart here = elim (cases_Bool (has_name path xs)) [
      | inl both ↦ absurd (true≢false (sym here ∙ once-cross xs ys apart path both))
      | inr other ↦ other
    ]

    -- a file that runs is neither
    run_apart : (path : Name) → has_name path for_run ≡ true → has_name path (for_doc ++ for_src) ≡ false
    run_apart path here = has_either path runs bins
        (λ run. let none = once-cross runs (docs ++ (srcs ++ bins)) once path run in
        let parts = or_parts (has_name path docs) (has_name path (srcs ++ bins)) (sym (has_name-append path docs (srcs ++ bins)) ∙ none) in
        neither path parts.0 (or_parts (has_name path srcs) (has_name path bins) (sym (has_name-append path srcs bins) ∙ parts.1)).0)
        (λ bin. neither path (not_both path docs (srcs ++ bins) behind (has_right path srcs bins bin)) (not_both path srcs bins (once-right docs (srcs ++ bins) behind) bin))
        (has_name-append path runs bins ∙ sym (has_run path) ∙ here)

    package_once : AreOnce (for_run ++ (for_doc ++ for_src))
    package_once = once-append for_run (for_doc ++ for_src) (once_part entry Run)
        (once-append for_doc for_src (any_once repo entry Doc entry.doc.files) (any_once repo entry Src entry.src.paths) doc_apart) run_apart

  package_same : IsSame (all_paths (package_wanted repo entry)) (listed entry)
  package_same = record {
    once = λ once. subst AreOnce (sym split) (package_once (subst AreOnce relisted once));
    same = λ path. ap (λ (l : List Name). has_name path l) split ∙ package_has path;
  }

-- ---- the containers of a step

entry_same : (repo : Repo) (found : Option Object) → OwnsListed found → IsSame (all_paths (entry_wanted repo found)) (later (stream_of found))
entry_same repo None owns = same-nil
entry_same repo (Some entry) owns = subst (λ (l : List Name). IsSame (all_paths (package_wanted repo entry)) l) (sym (append-nil (own entry) ∙ owns)) (package_same repo entry)

named_same : (name : List ℕ) (found : Option Repo) → OwnsListed (option_and_then (λ (repo : Repo). entry_of name repo.db) found)
    → IsSame (all_paths (repo_wanted name found)) (later (stream_of (option_and_then (λ (repo : Repo). entry_of name repo.db) found)))
named_same name None owns = same-nil
named_same name (Some repo) owns = entry_same repo (entry_of name repo.db) owns

module _ (repos : List Repo) where
  part_same : (part : PlanPart) → OwnsListed (part_entry repos part) → IsSame (all_paths (wanted_by repos part)) (later (made_by repos part))
  part_same (Install name repo) owns = named_same name _ owns
  part_same (Update name repo) owns = named_same name _ owns
  part_same (Remove name) owns = same-nil

  step_same : (step : List PlanPart) → AreUnreserved repos step → IsSame (all_paths (wanted_in repos step)) (later (made_parts repos step))
  step_same [] owns = same-nil
  step_same (part ∷ step) owns =
      subst (λ (l : List Name). IsSame l (later (made_parts repos (part ∷ step)))) (sym (flat_map-append wanted_paths (wanted_by repos part) (wanted_in repos step)))
      (subst (λ (l : List Name). IsSame (all_paths (wanted_by repos part) ++ all_paths (wanted_in repos step)) l) (sym (flat_map-append later_by (made_by repos part) (made_parts repos step)))
      (same-append (all_paths (wanted_by repos part)) (all_paths (wanted_in repos step)) (later (made_by repos part)) (later (made_parts repos step)) (part_same part owns.0) (step_same step owns.1)))

  -- what a step fetches is what comes later in its change
  pub step_later : (db : List Object) (step : List PlanPart) (line : List ℕ) → IsChange db (made_parts repos step) line → AreUnreserved repos step → AreLater (made_parts repos step) (wanted_in repos step)
  step_later db step line is owns =
      let same = step_same step owns in
      record {
        apart = same.once ((late_spoken (made_parts repos step)).once is.paths);
        same = same.same;
      }
