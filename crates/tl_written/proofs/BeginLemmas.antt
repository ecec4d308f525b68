-- What the lines of each part of an entry begin with.
use Rattle.std.proofs.Common.{◌≡◌, ℕ, ◌==◌, ◌&&◌, Bool, true, false, cond, List, [], ◌∷◌, ◌++◌, length, Option, Some, None, refl, ap, ◌∙◌, append_assoc, inl, inr}
use Rattle.std.specs.Prelude.{codes}
use Rattle.std.specs.List.{flat_map}
use Rattle.tl_model.specs.Decimal.{decimal_text}
use Rattle.hex.specs.Hex.{encode_lower}
use Rattle.tl_entry.specs.Parts.{FileEntry, FactEntry}
use Rattle.tl_entry.specs.declared.object.Files.{Files}
use Rattle.tl_entry.specs.declared.object.DocFiles.{DocFiles}
use Rattle.tl_entry.specs.declared.object.BinFiles.{BinFiles}
use Rattle.tl_object.specs.Writing.{key_line, text_line, size_line, digest_line, path_line, file_line, mark_text, section_line, files_lines, doc_lines, bin_line, bin_lines, fact_line, relocated_line}
use Rattle.tl_written.proofs.FindLemmas.{Begins}

-- a word stands at the front of some bytes
abbrev pub Fronts : List ℕ → List ℕ → Type 0
Fronts word bytes = (more : List ℕ) × (bytes ≡ word ++ more)

-- and so at the front of those with more bytes behind them
pub fronts-more : (word bytes behind : List ℕ) → Fronts word bytes → Fronts word (bytes ++ behind)
fronts-more word bytes behind front = (front.0 ++ behind, ap (λ (t : List ℕ). t ++ behind) front.1 ∙ append_assoc word front.0 behind)

pub key_line-fronts : (key value : List ℕ) → Fronts (key ++ 32 ∷ []) (key_line key value)
unfolding key_line
key_line-fronts key value = (value ++ 10 ∷ [], append_assoc key (32 ∷ value) (10 ∷ []) ∙ rw (append_assoc key (32 ∷ []) (value ++ 10 ∷ [])) refl)

pub text_line-begins : (key : List ℕ) (text : Option (List ℕ)) → Begins (key ++ 32 ∷ []) (text_line key text)
text_line-begins key None = inl refl
text_line-begins key (Some text) = inr (key_line-fronts key text)

pub size_line-begins : (key : List ℕ) (size : Option ℕ) → Begins (key ++ 32 ∷ []) (size_line key size)
size_line-begins key None = inl refl
size_line-begins key (Some size) = inr (key_line-fronts key (decimal_text size))

pub digest_line-begins : (key : List ℕ) (digest : Option (List ℕ)) → Begins (key ++ 32 ∷ []) (digest_line key digest)
digest_line-begins key None = inl refl
digest_line-begins key (Some digest) = inr (key_line-fronts key (encode_lower digest))

pub section_line-fronts : (key : List ℕ) (blocks : ℕ) → Fronts (key ++ codes " size=") (section_line key blocks)
unfolding section_line
section_line-fronts key blocks = (decimal_text blocks ++ 10 ∷ [], append_assoc (key ++ codes " size=") (decimal_text blocks) (10 ∷ []))

-- lines that stand only where a test fails
cond-begins : (word lines : List ℕ) (absent : Bool) → Fronts word lines → Begins word (cond absent [] lines)
cond-begins word lines true front = inl refl
cond-begins word lines false front = inr front

pub files_lines-begins : (key : List ℕ) (files : Files) → Begins (key ++ codes " size=") (files_lines key files)
files_lines-begins key files =
    cond-begins (key ++ codes " size=") _ (files.blocks == 0 && length files.paths == 0)
    (fronts-more (key ++ codes " size=") (section_line key files.blocks) (flat_map path_line files.paths) (section_line-fronts key files.blocks))

pub doc_lines-begins : (doc : DocFiles) → Begins (codes "docfiles size=") (doc_lines doc)
doc_lines-begins doc =
    cond-begins (codes "docfiles size=") _ (doc.blocks == 0 && length doc.files == 0)
    (fronts-more (codes "docfiles size=") (section_line (codes "docfiles") doc.blocks) (flat_map file_line doc.files) (section_line-fronts (codes "docfiles") doc.blocks))

pub path_line-fronts : (path : List ℕ) → Fronts (32 ∷ []) (path_line path)
unfolding path_line
path_line-fronts path = (path ++ 10 ∷ [], refl)

pub file_line-fronts : (file : FileEntry) → Fronts (32 ∷ []) (file_line file)
unfolding file_line
file_line-fronts file = (((file.path ++ mark_text (codes "details=\"") file.details) ++ mark_text (codes "language=\"") file.language) ++ 10 ∷ [], refl)

pub bin_lines-fronts : (bin : BinFiles) → Fronts (codes "binfiles arch=") (bin_lines bin)
unfolding bin_line
bin_lines-fronts bin = (section_line bin.platform bin.blocks ++ flat_map path_line bin.paths, refl)

pub fact_line-fronts : (fact : FactEntry) → Fronts (codes "catalogue-") (fact_line fact)
unfolding fact_line
fact_line-fronts fact = ((fact.key ++ 32 ∷ fact.value) ++ 10 ∷ [], refl)

pub relocated_line-begins : (is_relocated : Bool) → Begins (codes "relocated 1\n") (relocated_line is_relocated)
unfolding relocated_line
relocated_line-begins false = inl refl
relocated_line-begins true = inr ([], refl)
