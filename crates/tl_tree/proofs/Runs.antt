-- How the staging of records goes on.
use Rattle.std.proofs.Common.{◌≡◌, ◌<◌, ◌+◌, ℕ, Result, Ok, Err, suc, zero, true, List, [], ◌∷◌, ◌++◌, length, take, get_or, sym, ◌∙◌, ap, arith, append_assoc}
use Rattle.std.proofs.lemmas.List.{map-append, map_more}
use Rattle.std.specs.Prelude.{map, OnErr}
use Rattle.tl_model.specs.Volume.{Name}
use Rattle.tl_model.specs.Seen.{Seen}
use Rattle.tl_journal_text.specs.Records.{Record, is_outside}
use Rattle.tl_journal.specs.States.{staged}
use Rattle.tl_tree.specs.declared.arrange.Coming.{Coming}
use Rattle.tl_tree.specs.Staged.{FilesOutside, files_of, file_of, writes_of, write_of}

-- the records of a list, one element more
pub added_more : {X : Type 0} (f : X → Record) (xs : List X) (i : ℕ) (x : X) (old mid new : Seen) → i < length xs → x ≡ get_or xs i x
    → staged mid ≡ staged old ++ map f (take i xs) → staged new ≡ staged mid ++ f x ∷ [] → staged new ≡ staged old ++ map f (take (i + 1) xs)
added_more f xs i x old mid new lt is far near =
    near ∙ ap (λ (rs : List Record). rs ++ f x ∷ []) far ∙ append_assoc (staged old) (map f (take i xs)) (f x ∷ [])
    ∙ ap (λ (rs : List Record). staged old ++ rs) (ap (λ y. map f (take i xs) ++ f y ∷ []) is ∙ sym (map_more f xs i x lt))

map_take_more : (files : List Coming) (i : ℕ) (file : Coming) → i < length files → file ≡ get_or files i file
    → writes_of (files_of (take (i + 1) files)) ≡ writes_of (files_of (take i files)) ++ write_of (file_of file) ∷ []
map_take_more files i file lt is =
    ap (λ (fs : List (Name × List ℕ)). writes_of fs) (map_more file_of files i file lt ∙ ap (λ (w : Coming). files_of (take i files) ++ file_of w ∷ []) (sym is))
    ∙ map-append write_of (files_of (take i files)) (file_of file ∷ [])

-- the records that write files, one more
pub added_files_more : (files : List Coming) (i : ℕ) (file : Coming) (old mid new : Seen) → i < length files → file ≡ get_or files i file
    → staged mid ≡ staged old ++ writes_of (files_of (take i files)) → staged new ≡ staged mid ++ write_of (file_of file) ∷ [] → staged new ≡ staged old ++ writes_of (files_of (take (i + 1) files))
added_files_more files i file old mid new lt is far near =
    near ∙ ap (λ (rs : List Record). rs ++ write_of (file_of file) ∷ []) far ∙ append_assoc (staged old) (writes_of (files_of (take i files))) (write_of (file_of file) ∷ [])
    ∙ ap (λ (rs : List Record). staged old ++ rs) (sym (map_take_more files i file lt is))

-- a file of some that may be written
pub files_outside_at : (files : List Coming) (i : ℕ) (file : Coming) → i < length files → file ≡ get_or files i file → FilesOutside (files_of files) → is_outside file.path.now ≡ true
files_outside_at [] i file lt is all = absurd (omega arith)
files_outside_at (f ∷ files) zero file lt is all = ap (λ (w : Coming). is_outside w.path.now) is ∙ all.0
files_outside_at (f ∷ files) (suc i) file lt is all = files_outside_at files i file (omega arith) is all.1

-- a fact that holds whichever way a call ended
pub on_err : {T E : Type 0} (result : Result T E) (P : Type 0) → P → OnErr result P
on_err (Ok x) P p = tt
on_err (Err e) P p = p
