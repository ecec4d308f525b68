-- The pieces of an entry, one behind the other, and what doesn't stand behind each of them.
use Rattle.std.proofs.Common.{◌≡◌, ℕ, true, List, [], ◌∷◌, ◌++◌, refl, sym, ◌∙◌, subst, append_assoc}
use Rattle.std.specs.Prelude.{codes}
use Rattle.std.specs.List.{flat_map, list_all}
use Rattle.tl_entry.specs.declared.object.Container.{Container}
use Rattle.tl_entry.specs.declared.object.Object.{Object}
use Rattle.tl_object.specs.Writing.{key_line, text_lines, size_line, digest_line, container_lines, doc_lines, files_lines, bin_lines, fact_line, first_lines, middle_lines, file_lines, object_text}
use Rattle.tl_written.specs.Found.{Lacks, LacksEach, is_apart}
use Rattle.tl_written.specs.Pieces.{first_words, middle_words, file_words}
use Rattle.tl_written.proofs.FindLemmas.{skip, begins-all, apart-lacks, apart-lacks-each}
use Rattle.tl_written.proofs.BeginLemmas.{key_line-fronts, fact_line-fronts, size_line-begins, digest_line-begins, files_lines-begins, doc_lines-begins, bin_lines-fronts}

-- the lines of a container in front of what begins with none of some words
skip-box : (size_key digest_key : List ℕ) (box : Container) (rest : List ℕ) (others : List (List ℕ)) → list_all (is_apart (size_key ++ 32 ∷ [])) others ≡ true → list_all (is_apart (digest_key ++ 32 ∷ [])) others ≡ true
    → LacksEach rest others → LacksEach (container_lines size_key digest_key box ++ rest) others
skip-box size_key digest_key box rest others one two lacks =
    let behind : LacksEach (digest_line digest_key box.digest ++ rest) others = skip (digest_key ++ 32 ∷ []) (digest_line digest_key box.digest) rest others (digest_line-begins digest_key box.digest) two lacks in
    let whole : LacksEach (size_line size_key box.size ++ (digest_line digest_key box.digest ++ rest)) others =
    skip (size_key ++ 32 ∷ []) (size_line size_key box.size) (digest_line digest_key box.digest ++ rest) others (size_line-begins size_key box.size) one behind in
    subst (λ (t : List ℕ). LacksEach t others) (sym (append_assoc (size_line size_key box.size) (digest_line digest_key box.digest) rest)) whole

-- the lines of texts under a key in front of what begins with none of some words
skip-texts : (key : List ℕ) (texts : List (List ℕ)) (rest : List ℕ) (others : List (List ℕ)) → list_all (is_apart (key ++ 32 ∷ [])) others ≡ true → LacksEach rest others → LacksEach (text_lines key texts ++ rest) others
skip-texts key texts rest others apart lacks = skip (key ++ 32 ∷ []) (text_lines key texts) rest others (begins-all (key ++ 32 ∷ []) (key_line key) texts (key_line-fronts key)) apart lacks

-- what stands behind the files that are run
abbrev pub behind_run : Object → List ℕ → List ℕ
behind_run o rest = flat_map bin_lines o.bin ++ rest

-- what stands behind the sources
abbrev pub behind_src : Object → List ℕ → List ℕ
behind_src o rest = files_lines (codes "runfiles") o.run ++ behind_run o rest

-- what stands behind the container of the sources
abbrev pub behind_src_box : Object → List ℕ → List ℕ
behind_src_box o rest = files_lines (codes "srcfiles") o.src ++ behind_src o rest

-- what stands behind the documentation
abbrev pub behind_doc : Object → List ℕ → List ℕ
behind_doc o rest = container_lines (codes "srccontainersize") (codes "srccontainerchecksum") o.src_box ++ behind_src_box o rest

-- what stands behind the container of the documentation
abbrev pub behind_doc_box : Object → List ℕ → List ℕ
behind_doc_box o rest = doc_lines o.doc ++ behind_doc o rest

-- what stands behind the first container
abbrev pub behind_run_box : Object → List ℕ → List ℕ
behind_run_box o rest = container_lines (codes "doccontainersize") (codes "doccontainerchecksum") o.doc_box ++ behind_doc_box o rest

-- the containers and files, one behind the other
pub files-cut : (o : Object) (text rest : List ℕ) → text ≡ file_lines o ++ rest → text ≡ container_lines (codes "containersize") (codes "containerchecksum") o.run_box ++ behind_run_box o rest
unfolding file_lines
files-cut o text rest same = same ∙ simp append_assoc

lacks-run : (o : Object) (rest : List ℕ) (others : List (List ℕ)) → list_all (is_apart (codes "binfiles arch=")) others ≡ true → LacksEach rest others → LacksEach (behind_run o rest) others
lacks-run o rest others bin lacks = skip (codes "binfiles arch=") (flat_map bin_lines o.bin) rest others (begins-all (codes "binfiles arch=") bin_lines o.bin bin_lines-fronts) bin lacks

lacks-src : (o : Object) (rest : List ℕ) (others : List (List ℕ)) → list_all (is_apart (codes "runfiles size=")) others ≡ true → list_all (is_apart (codes "binfiles arch=")) others ≡ true
    → LacksEach rest others → LacksEach (behind_src o rest) others
lacks-src o rest others run bin lacks =
    skip (codes "runfiles size=") (files_lines (codes "runfiles") o.run) (behind_run o rest) others (files_lines-begins (codes "runfiles") o.run) run (lacks-run o rest others bin lacks)

lacks-src_box : (o : Object) (rest : List ℕ) (others : List (List ℕ)) → list_all (is_apart (codes "srcfiles size=")) others ≡ true → list_all (is_apart (codes "runfiles size=")) others ≡ true
    → list_all (is_apart (codes "binfiles arch=")) others ≡ true → LacksEach rest others → LacksEach (behind_src_box o rest) others
lacks-src_box o rest others src run bin lacks =
    skip (codes "srcfiles size=") (files_lines (codes "srcfiles") o.src) (behind_src o rest) others (files_lines-begins (codes "srcfiles") o.src) src (lacks-src o rest others run bin lacks)

lacks-doc : (o : Object) (rest : List ℕ) (others : List (List ℕ)) → list_all (is_apart (codes "srccontainersize ")) others ≡ true → list_all (is_apart (codes "srccontainerchecksum ")) others ≡ true
    → list_all (is_apart (codes "srcfiles size=")) others ≡ true → list_all (is_apart (codes "runfiles size=")) others ≡ true
    → list_all (is_apart (codes "binfiles arch=")) others ≡ true → LacksEach rest others → LacksEach (behind_doc o rest) others
lacks-doc o rest others size digest src run bin lacks =
    skip-box (codes "srccontainersize") (codes "srccontainerchecksum") o.src_box (behind_src_box o rest) others size digest (lacks-src_box o rest others src run bin lacks)

lacks-doc_box : (o : Object) (rest : List ℕ) (others : List (List ℕ)) → list_all (is_apart (codes "docfiles size=")) others ≡ true
    → list_all (is_apart (codes "srccontainersize ")) others ≡ true → list_all (is_apart (codes "srccontainerchecksum ")) others ≡ true
    → list_all (is_apart (codes "srcfiles size=")) others ≡ true → list_all (is_apart (codes "runfiles size=")) others ≡ true
    → list_all (is_apart (codes "binfiles arch=")) others ≡ true → LacksEach rest others → LacksEach (behind_doc_box o rest) others
lacks-doc_box o rest others doc size digest src run bin lacks =
    skip (codes "docfiles size=") (doc_lines o.doc) (behind_doc o rest) others (doc_lines-begins o.doc) doc (lacks-doc o rest others size digest src run bin lacks)

lacks-run_box : (o : Object) (rest : List ℕ) (others : List (List ℕ)) → list_all (is_apart (codes "doccontainersize ")) others ≡ true → list_all (is_apart (codes "doccontainerchecksum ")) others ≡ true
    → list_all (is_apart (codes "docfiles size=")) others ≡ true
    → list_all (is_apart (codes "srccontainersize ")) others ≡ true → list_all (is_apart (codes "srccontainerchecksum ")) others ≡ true
    → list_all (is_apart (codes "srcfiles size=")) others ≡ true → list_all (is_apart (codes "runfiles size=")) others ≡ true
    → list_all (is_apart (codes "binfiles arch=")) others ≡ true → LacksEach rest others → LacksEach (behind_run_box o rest) others
lacks-run_box o rest others doc_size doc_digest doc size digest src run bin lacks =
    skip-box (codes "doccontainersize") (codes "doccontainerchecksum") o.doc_box (behind_doc_box o rest) others doc_size doc_digest (lacks-doc_box o rest others doc size digest src run bin lacks)

-- what doesn't stand behind each of the pieces
pub record FilesLack (o : Object) (rest : List ℕ) : Type 0 where
  pub run_box : LacksEach (behind_run_box o rest) (codes "containersize " ∷ codes "containerchecksum " ∷ [])
  pub doc_box : LacksEach (behind_doc_box o rest) (codes "doccontainersize " ∷ codes "doccontainerchecksum " ∷ [])
  pub doc : LacksEach (behind_doc o rest) (codes " " ∷ codes "docfiles size=" ∷ [])
  pub src_box : LacksEach (behind_src_box o rest) (codes "srccontainersize " ∷ codes "srccontainerchecksum " ∷ [])
  pub src : LacksEach (behind_src o rest) (codes " " ∷ codes "srcfiles size=" ∷ [])
  pub run : LacksEach (behind_run o rest) (codes " " ∷ codes "runfiles size=" ∷ [])
  pub bin : LacksEach rest (codes " " ∷ codes "binfiles arch=" ∷ [])

pub files-lack : (o : Object) (rest : List ℕ) → LacksEach rest file_words → FilesLack o rest
files-lack o rest lacks =
    let space = lacks.0 in
    let run_box = lacks.1 in
    let doc_box = run_box.1.1 in
    let doc = doc_box.1.1 in
    let src_box = doc.1 in
    let src = src_box.1.1 in
    let run = src.1 in
    let bin = run.1 in
    record {
      run_box = lacks-run_box o rest (codes "containersize " ∷ codes "containerchecksum " ∷ []) refl refl refl refl refl refl refl refl (run_box.0, (run_box.1.0, tt));
      doc_box = lacks-doc_box o rest (codes "doccontainersize " ∷ codes "doccontainerchecksum " ∷ []) refl refl refl refl refl refl (doc_box.0, (doc_box.1.0, tt));
      doc = lacks-doc o rest (codes " " ∷ codes "docfiles size=" ∷ []) refl refl refl refl refl (space, (doc.0, tt));
      src_box = lacks-src_box o rest (codes "srccontainersize " ∷ codes "srccontainerchecksum " ∷ []) refl refl refl (src_box.0, (src_box.1.0, tt));
      src = lacks-src o rest (codes " " ∷ codes "srcfiles size=" ∷ []) refl refl (space, (src.0, tt));
      run = lacks-run o rest (codes " " ∷ codes "runfiles size=" ∷ []) refl (space, (run.0, tt));
      bin = (space, (bin.0, tt));
    }

-- what stands behind the first lines, the texts and the files of an entry that has an empty line behind it
pub record EntryLacks (o : Object) (rest : List ℕ) : Type 0 where
  pub front : LacksEach (middle_lines o ++ (file_lines o ++ (flat_map fact_line o.catalogue_facts ++ 10 ∷ rest))) first_words
  pub texts : LacksEach (file_lines o ++ (flat_map fact_line o.catalogue_facts ++ 10 ∷ rest)) middle_words
  pub files : LacksEach (flat_map fact_line o.catalogue_facts ++ 10 ∷ rest) file_words
  pub facts : Lacks (10 ∷ rest) (codes "catalogue-")

-- an entry, piece by piece
pub entry-cut : (o : Object) (text rest : List ℕ) → text ≡ object_text o ++ rest → text ≡ first_lines o ++ (middle_lines o ++ (file_lines o ++ (flat_map fact_line o.catalogue_facts ++ rest)))
entry-cut o text rest same = same ∙ simp append_assoc

-- the facts in front of an empty line
lacks-facts : (o : Object) (rest : List ℕ) (others : List (List ℕ)) → list_all (is_apart (codes "catalogue-")) others ≡ true → list_all (is_apart (10 ∷ [])) others ≡ true
    → LacksEach (flat_map fact_line o.catalogue_facts ++ 10 ∷ rest) others
lacks-facts o rest others facts end =
    skip (codes "catalogue-") (flat_map fact_line o.catalogue_facts) (10 ∷ rest) others (begins-all (codes "catalogue-") fact_line o.catalogue_facts fact_line-fronts) facts
    (apart-lacks-each (10 ∷ []) rest others end)

-- the files in front of the facts
lacks-files : (o : Object) (rest : List ℕ) (others : List (List ℕ)) → list_all (is_apart (codes "containersize ")) others ≡ true → list_all (is_apart (codes "containerchecksum ")) others ≡ true
    → list_all (is_apart (codes "doccontainersize ")) others ≡ true → list_all (is_apart (codes "doccontainerchecksum ")) others ≡ true
    → list_all (is_apart (codes "docfiles size=")) others ≡ true
    → list_all (is_apart (codes "srccontainersize ")) others ≡ true → list_all (is_apart (codes "srccontainerchecksum ")) others ≡ true
    → list_all (is_apart (codes "srcfiles size=")) others ≡ true → list_all (is_apart (codes "runfiles size=")) others ≡ true
    → list_all (is_apart (codes "binfiles arch=")) others ≡ true → LacksEach rest others → LacksEach (file_lines o ++ rest) others
lacks-files o rest others run_size run_digest doc_size doc_digest doc size digest src run bin lacks =
    subst (λ (t : List ℕ). LacksEach t others) (sym (files-cut o (file_lines o ++ rest) rest refl))
    (skip-box (codes "containersize") (codes "containerchecksum") o.run_box (behind_run_box o rest) others run_size run_digest (lacks-run_box o rest others doc_size doc_digest doc size digest src run bin lacks))

-- the texts in front of the files
lacks-texts : (o : Object) (rest : List ℕ) (others : List (List ℕ)) → list_all (is_apart (codes "longdesc ")) others ≡ true → list_all (is_apart (codes "depend ")) others ≡ true
    → list_all (is_apart (codes "execute ")) others ≡ true → list_all (is_apart (codes "postaction ")) others ≡ true → LacksEach rest others → LacksEach (middle_lines o ++ rest) others
unfolding middle_lines
lacks-texts o rest others longdesc depend execute postaction lacks =
    let four : LacksEach (text_lines (codes "postaction") o.postactions ++ rest) others = skip-texts (codes "postaction") o.postactions rest others postaction lacks in
    let three : LacksEach (text_lines (codes "execute") o.executes ++ (text_lines (codes "postaction") o.postactions ++ rest)) others = skip-texts (codes "execute") o.executes _ others execute four in
    let two : LacksEach (text_lines (codes "depend") o.depends ++ (text_lines (codes "execute") o.executes ++ (text_lines (codes "postaction") o.postactions ++ rest))) others = skip-texts (codes "depend") o.depends _ others depend three in
    let one : LacksEach (text_lines (codes "longdesc") o.longdesc ++ (text_lines (codes "depend") o.depends ++ (text_lines (codes "execute") o.executes ++ (text_lines (codes "postaction") o.postactions ++ rest)))) others = skip-texts (codes "longdesc") o.longdesc _ others longdesc two in
    simp append_assoc one

pub entry-lacks : (o : Object) (rest : List ℕ) → EntryLacks o rest
entry-lacks o rest =
    let behind_texts : List ℕ = file_lines o ++ (flat_map fact_line o.catalogue_facts ++ 10 ∷ rest) in
    record {
      front = lacks-texts o behind_texts first_words refl refl refl refl
          (lacks-files o (flat_map fact_line o.catalogue_facts ++ 10 ∷ rest) first_words refl refl refl refl refl refl refl refl refl refl (lacks-facts o rest first_words refl refl));
      texts = lacks-files o (flat_map fact_line o.catalogue_facts ++ 10 ∷ rest) middle_words refl refl refl refl refl refl refl refl refl refl (lacks-facts o rest middle_words refl refl);
      files = lacks-facts o rest file_words refl refl;
      facts = apart-lacks (10 ∷ []) (codes "catalogue-") rest refl;
    }
