-- The text of each part of an entry, read again.
use Rattle.std.proofs.Common.{◌≡◌, ℕ, ◌==◌, ◌^◌, ◌<◌, Bool, true, false, cond, ◌&&◌, List, [], ◌∷◌, ◌++◌, length, map, Option, Some, None, refl, sym, ◌∙◌, ap, subst, append_assoc}
use Rattle.std.specs.Prelude.{All, is_some, codes}
use Rattle.std.specs.List.{AllByRecursion, flat_map}
use Rattle.std.proofs.lemmas.List.{append-nil}
use Rattle.std.proofs.lemmas.List.Elements.{All-head, All-tail, All-nil, All-cons}
use Rattle.tl_model.specs.Decimal.{decimal_text}
use Rattle.hex.specs.Hex.{encode_lower}
use Rattle.tl_text.specs.Texts.{IsText, is_text}
use Rattle.tl_path.specs.Path.{IsPath}
use Rattle.tl_path.specs.declared.kinds.Category.{Category}
use Rattle.tl_entry.specs.Parts.{FileEntry, FactEntry}
use Rattle.tl_entry.specs.Rising.{is_rising, insert_by}
use Rattle.tl_object.specs.Built.{put}
use Rattle.tl_object.specs.Known.{is_known, container_of}
use Rattle.tl_object.specs.Reading.{Place, Plain, Marked, place_of}
use Rattle.tl_object.specs.Writing.{key_line, number_line, text_line, text_lines, category_word, size_line, digest_line, container_lines, path_line, file_line, section_line, files_lines, doc_lines, bin_line, bin_lines, fact_line, relocated_line}
use Rattle.tl_object.specs.Formed.{IsFormedText, IsFormedSize, IsFormedDigest, IsFormedBox, IsFormedFile, IsFormedDoc, IsFormedSection, IsFormedBin, IsFormedFact}
use Rattle.tl_object.specs.declared.fault.LineKind.TheVariants as kinds
use Rattle.tl_object.specs.declared.head.Head.{Head}
use Rattle.tl_object.specs.declared.head.Head.TheVariants as heads
use Rattle.tl_object.specs.declared.key.Part.{Part}
use Rattle.tl_object.specs.declared.key.Part.TheVariants.{Run, Doc, Src}
use Rattle.tl_entry.specs.declared.object.Container.{Container}
use Rattle.tl_entry.specs.declared.object.Files.{Files}
use Rattle.tl_entry.specs.declared.object.DocFiles.{DocFiles}
use Rattle.tl_entry.specs.declared.object.BinFiles.{BinFiles}
use Rattle.tl_object.specs.declared.builder.Builder.{Builder}
use Rattle.tl_entry.proofs.RisingLemmas.{rising-map}
use Rattle.tl_object.specs.Steps.{bare}
use Rattle.tl_object.proofs.BareLemmas.{paths-bare}
use Rattle.tl_object.proofs.LastLemmas.{insert-last, absent-last, rising-tail, Follows, follows-next}
use Rattle.tl_object.proofs.HeadLemmas.{IsHead, text_head, category_head, revision_head, relocated_head, size_key, size_head, digest_key, digest_head, files_key, files_head, sized, arched, bin_head, fact_head, formed_by}
use Rattle.tl_object.proofs.AgainLemmas.{Leads, leads-nil, leads-append, leads-line, leads-section, Allowed}

-- a text that is another one
leads-text : (s t : List ℕ) (builder after : Builder) → s ≡ t → Leads t builder after → Leads s builder after
leads-text s t builder after is leads = subst (λ (x : List ℕ). Leads x builder after) (sym is) leads

-- nothing is read, and the parts are the same
leads-same : (builder after : Builder) → builder ≡ after → Leads [] builder after
leads-same builder after is = subst (λ (b : Builder). Leads [] builder b) is (leads-nil builder)

-- ---- fields that stand once

leads-key : (key value : List ℕ) (head : Head) (builder : Builder) → IsHead (key ++ 32 ∷ value) head → is_known builder head ≡ false → Leads (key_line key value) builder (put builder head [])
unfolding key_line
leads-key key value head builder is new = leads-line (key ++ 32 ∷ value) head builder is new

pub leads-category : (b : Builder) (category : Category) → b.category ≡ None → Leads (key_line (codes "category") (category_word category)) b (record b { category = Some category })
leads-category b category new = leads-key (codes "category") (category_word category) (heads.Category category) b (category_head category) (ap (λ (o : Option Category). is_some o) new)

pub leads-revision : (b : Builder) (revision : ℕ) → b.revision ≡ None → revision < 2 ^ 32 → Leads (number_line (codes "revision") revision) b (record b { revision = Some revision })
leads-revision b revision new small = leads-key (codes "revision") (decimal_text revision) (heads.Revision revision) b (revision_head revision small) (ap (λ (o : Option ℕ). is_some o) new)

pub leads-catalogue : (b : Builder) (text : Option (List ℕ)) → b.catalogue ≡ None → IsFormedText text → Leads (text_line (codes "catalogue") text) b (record b { catalogue = text })
leads-catalogue b None new is = leads-same b (record b { catalogue = None }) (ap (λ (o : Option (List ℕ)). record b { catalogue = o }) new)
leads-catalogue b (Some text) new is =
    leads-key (codes "catalogue") text (heads.Catalogue text) b (text_head (codes "catalogue") text (heads.Catalogue text) refl is (formed_by (is_text text) text kinds.Value heads.Catalogue is))
    (ap (λ (o : Option (List ℕ)). is_some o) new)

pub leads-shortdesc : (b : Builder) (text : Option (List ℕ)) → b.shortdesc ≡ None → IsFormedText text → Leads (text_line (codes "shortdesc") text) b (record b { shortdesc = text })
leads-shortdesc b None new is = leads-same b (record b { shortdesc = None }) (ap (λ (o : Option (List ℕ)). record b { shortdesc = o }) new)
leads-shortdesc b (Some text) new is =
    leads-key (codes "shortdesc") text (heads.Shortdesc text) b (text_head (codes "shortdesc") text (heads.Shortdesc text) refl is (formed_by (is_text text) text kinds.Value heads.Shortdesc is))
    (ap (λ (o : Option (List ℕ)). is_some o) new)

-- whether a relocated entry is told so
abbrev pub told : Bool → Option Bool
told false = None
told true = Some true

pub leads-relocated : (b : Builder) (relocated : Bool) → b.relocated ≡ None → Leads (relocated_line relocated) b (record b { relocated = told relocated })
unfolding relocated_line
leads-relocated b false new = leads-same b (record b { relocated = None }) (ap (λ (o : Option Bool). record b { relocated = o }) new)
leads-relocated b true new = leads-line (codes "relocated" ++ 32 ∷ codes "1") (heads.Relocated true) b relocated_head (ap (λ (o : Option Bool). is_some o) new)

-- ---- fields that may stand more than once

leads-list : {A : Type 0} (P : A → Type 0) (line : A → List ℕ) (with : Builder → List A → Builder) → ((b : Builder) → with b [] ≡ b) → ((b : Builder) (x : A) (xs : List A) → with (with b (x ∷ [])) xs ≡ with b (x ∷ xs))
    → ((b : Builder) (x : A) → P x → Leads (line x) b (with b (x ∷ []))) → (b : Builder) (xs : List A) → All P xs → Leads (flat_map line xs) b (with b xs)
leads-list P line with none more one b [] each = leads-same b (with b []) (sym (none b))
leads-list P line with none more one b (x ∷ xs) each =
    leads-append (line x) (flat_map line xs) b (with b (x ∷ [])) (with b (x ∷ xs)) (one b x (All-head P x xs each))
    (subst (λ (a : Builder). Leads (flat_map line xs) (with b (x ∷ [])) a) (more b x xs) (leads-list P line with none more one (with b (x ∷ [])) xs (All-tail P x xs each)))

pub leads-longdesc : (b : Builder) (texts : List (List ℕ)) → All IsText texts → Leads (text_lines (codes "longdesc") texts) b (record b { longdesc = b.longdesc ++ texts })
leads-longdesc =
    leads-list IsText (key_line (codes "longdesc")) (λ b xs. record b { longdesc = b.longdesc ++ xs })
    (λ b. ap (λ (xs : List (List ℕ)). record b { longdesc = xs }) (append-nil b.longdesc)) (λ b x xs. ap (λ (ys : List (List ℕ)). record b { longdesc = ys }) (append_assoc b.longdesc (x ∷ []) xs))
    (λ b text is. leads-key (codes "longdesc") text (heads.Longdesc text) b (text_head (codes "longdesc") text (heads.Longdesc text) refl is (formed_by (is_text text) text kinds.Value heads.Longdesc is)) refl)

pub leads-depends : (b : Builder) (texts : List (List ℕ)) → All IsText texts → Leads (text_lines (codes "depend") texts) b (record b { depends = b.depends ++ texts })
leads-depends =
    leads-list IsText (key_line (codes "depend")) (λ b xs. record b { depends = b.depends ++ xs })
    (λ b. ap (λ (xs : List (List ℕ)). record b { depends = xs }) (append-nil b.depends)) (λ b x xs. ap (λ (ys : List (List ℕ)). record b { depends = ys }) (append_assoc b.depends (x ∷ []) xs))
    (λ b text is. leads-key (codes "depend") text (heads.Depend text) b (text_head (codes "depend") text (heads.Depend text) refl is (formed_by (is_text text) text kinds.Value heads.Depend is)) refl)

pub leads-executes : (b : Builder) (texts : List (List ℕ)) → All IsText texts → Leads (text_lines (codes "execute") texts) b (record b { executes = b.executes ++ texts })
leads-executes =
    leads-list IsText (key_line (codes "execute")) (λ b xs. record b { executes = b.executes ++ xs })
    (λ b. ap (λ (xs : List (List ℕ)). record b { executes = xs }) (append-nil b.executes)) (λ b x xs. ap (λ (ys : List (List ℕ)). record b { executes = ys }) (append_assoc b.executes (x ∷ []) xs))
    (λ b text is. leads-key (codes "execute") text (heads.Execute text) b (text_head (codes "execute") text (heads.Execute text) refl is (formed_by (is_text text) text kinds.Value heads.Execute is)) refl)

pub leads-postactions : (b : Builder) (texts : List (List ℕ)) → All IsText texts → Leads (text_lines (codes "postaction") texts) b (record b { postactions = b.postactions ++ texts })
leads-postactions =
    leads-list IsText (key_line (codes "postaction")) (λ b xs. record b { postactions = b.postactions ++ xs })
    (λ b. ap (λ (xs : List (List ℕ)). record b { postactions = xs }) (append-nil b.postactions)) (λ b x xs. ap (λ (ys : List (List ℕ)). record b { postactions = ys }) (append_assoc b.postactions (x ∷ []) xs))
    (λ b text is. leads-key (codes "postaction") text (heads.Postaction text) b (text_head (codes "postaction") text (heads.Postaction text) refl is (formed_by (is_text text) text kinds.Value heads.Postaction is)) refl)

leads-fact : (b : Builder) (fact : FactEntry) → IsFormedFact fact → Leads (fact_line fact) b (record b { catalogue_facts = b.catalogue_facts ++ fact ∷ [] })
unfolding fact_line
leads-fact b fact is = leads-line ((codes "catalogue-" ++ fact.key) ++ 32 ∷ fact.value) (heads.Fact fact) b (fact_head fact is) refl

pub leads-facts : (b : Builder) (facts : List FactEntry) → All IsFormedFact facts → Leads (flat_map fact_line facts) b (record b { catalogue_facts = b.catalogue_facts ++ facts })
leads-facts =
    leads-list IsFormedFact fact_line (λ b xs. record b { catalogue_facts = b.catalogue_facts ++ xs })
    (λ b. ap (λ (xs : List FactEntry). record b { catalogue_facts = xs }) (append-nil b.catalogue_facts)) (λ b x xs. ap (λ (ys : List FactEntry). record b { catalogue_facts = ys }) (append_assoc b.catalogue_facts (x ∷ []) xs))
    leads-fact

-- ---- containers

-- some parts with what is known of a container
abbrev pub boxed : Builder → Part → Container → Builder
boxed b Run box = record b { run_box = box }
boxed b Doc box = record b { doc_box = box }
boxed b Src box = record b { src_box = box }

put_size : (b : Builder) (part : Part) (size : ℕ) → put b (heads.Size part size) [] ≡ boxed b part (record (container_of b part) { size = Some size })
put_size b Run size = refl
put_size b Doc size = refl
put_size b Src size = refl

put_digest : (b : Builder) (part : Part) (digest : List ℕ) → put b (heads.Digest part digest) [] ≡ boxed b part (record (container_of b part) { digest = Some digest })
put_digest b Run digest = refl
put_digest b Doc digest = refl
put_digest b Src digest = refl

known_size : (b : Builder) (part : Part) (size : ℕ) → is_known b (heads.Size part size) ≡ is_some (container_of b part).size
known_size b Run size = refl
known_size b Doc size = refl
known_size b Src size = refl

known_digest : (b : Builder) (part : Part) (digest : List ℕ) → is_known b (heads.Digest part digest) ≡ is_some (container_of b part).digest
known_digest b Run digest = refl
known_digest b Doc digest = refl
known_digest b Src digest = refl

box_same : (b : Builder) (part : Part) → boxed b part (container_of b part) ≡ b
box_same b Run = refl
box_same b Doc = refl
box_same b Src = refl

box_again : (b : Builder) (part : Part) (box : Container) → container_of (boxed b part box) part ≡ box
box_again b Run box = refl
box_again b Doc box = refl
box_again b Src box = refl

box_twice : (b : Builder) (part : Part) (box other : Container) → boxed (boxed b part box) part other ≡ boxed b part other
box_twice b Run box other = refl
box_twice b Doc box other = refl
box_twice b Src box other = refl

leads-size : (b : Builder) (part : Part) (size : Option ℕ) → (container_of b part).size ≡ None → IsFormedSize size → Leads (size_line (size_key part) size) b (boxed b part (record (container_of b part) { size = size }))
leads-size b part None new is =
    leads-same b (boxed b part (record (container_of b part) { size = None })) (sym (box_same b part) ∙ ap (λ (o : Option ℕ). boxed b part (record (container_of b part) { size = o })) new)
leads-size b part (Some size) new is =
    subst (λ (after : Builder). Leads (size_line (size_key part) (Some size)) b after) (put_size b part size)
    (leads-key (size_key part) (decimal_text size) (heads.Size part size) b (size_head part size is) (known_size b part size ∙ ap (λ (o : Option ℕ). is_some o) new))

leads-digest : (b : Builder) (part : Part) (digest : Option (List ℕ)) → (container_of b part).digest ≡ None → IsFormedDigest digest → Leads (digest_line (digest_key part) digest) b (boxed b part (record (container_of b part) { digest = digest }))
leads-digest b part None new is =
    leads-same b (boxed b part (record (container_of b part) { digest = None })) (sym (box_same b part) ∙ ap (λ (o : Option (List ℕ)). boxed b part (record (container_of b part) { digest = o })) new)
leads-digest b part (Some digest) new is =
    subst (λ (after : Builder). Leads (digest_line (digest_key part) (Some digest)) b after) (put_digest b part digest)
    (leads-key (digest_key part) (encode_lower digest) (heads.Digest part digest) b (digest_head part digest is) (known_digest b part digest ∙ ap (λ (o : Option (List ℕ)). is_some o) new))

-- a container of which nothing is known
abbrev pub no_box : Container
no_box = record { size = None; digest = None }

pub leads-box : (b : Builder) (part : Part) (box : Container) → container_of b part ≡ no_box → IsFormedBox box → Leads (container_lines (size_key part) (digest_key part) box) b (boxed b part box)
leads-box b part box new is =
    let sized_box : Container = record (container_of b part) { size = box.size } in
    let between : Builder = boxed b part sized_box in
    let here : container_of between part ≡ sized_box = box_again b part sized_box in
    let last : record (container_of between part) { digest = box.digest } ≡ box = ap (λ (c : Container). record c { digest = box.digest }) here in
    leads-append (size_line (size_key part) box.size) (digest_line (digest_key part) box.digest) b between (boxed b part box)
    (leads-size b part box.size (ap (λ (c : Container). c.size) new) is.size)
    (subst (λ (after : Builder). Leads (digest_line (digest_key part) box.digest) between after) (box_twice b part sized_box (record (container_of between part) { digest = box.digest }) ∙ ap (boxed b part) last)
    (leads-digest between part box.digest (ap (λ (c : Container). c.digest) (here ∙ ap (λ (c : Container). record c { size = box.size }) new)) is.digest))

-- ---- sections

formed-bare : (paths : List (List ℕ)) → All IsPath paths → All IsFormedFile (map bare paths)
formed-bare [] each = All-nil IsFormedFile
formed-bare (path ∷ paths) each =
    All-cons IsFormedFile (bare path) (map bare paths) (record { path = All-head IsPath path paths each; details = tt; language = tt }) (formed-bare paths (All-tail IsPath path paths each))

rising-bare : (paths : List (List ℕ)) → is_rising (λ (path : List ℕ). path) paths ≡ true → is_rising (λ (f : FileEntry). f.path) (map bare paths) ≡ true
rising-bare paths up =
    sym (rising-map (λ (f : FileEntry). f.path) (map bare paths)) ∙ ap (λ (ps : List (List ℕ)). is_rising (λ (path : List ℕ). path) ps) (paths-bare paths) ∙ up

allowed-bare : (place : Place) → ((path : List ℕ) → Allowed place (bare path)) → (paths : List (List ℕ)) → AllByRecursion (Allowed place) (map bare paths)
allowed-bare place allowed [] = tt
allowed-bare place allowed (path ∷ paths) = (allowed path, allowed-bare place allowed paths)

lines-bare : (paths : List (List ℕ)) → flat_map path_line paths ≡ flat_map file_line (map bare paths)
unfolding path_line file_line
lines-bare [] = refl
lines-bare (path ∷ paths) =
    let same : path_line path ≡ file_line (bare path) = ap (λ (t : List ℕ). t ++ 10 ∷ []) (sym (append-nil ((32 ∷ path) ++ []) ∙ append-nil (32 ∷ path))) in
    ap (λ (t : List ℕ). t ++ flat_map path_line paths) same ∙ ap (λ (t : List ℕ). file_line (bare path) ++ t) (lines-bare paths)

-- a line with a head of this kind, and the lines of some paths
leads-paths : (line : List ℕ) (head : Head) (paths : List (List ℕ)) (b : Builder) → IsHead line head → is_known b head ≡ false → place_of head ≡ Plain → All IsPath paths → is_rising (λ (path : List ℕ). path) paths ≡ true
    → Leads ((line ++ 10 ∷ []) ++ flat_map path_line paths) b (put b head (map bare paths))
leads-paths line head paths b is new plain each up =
    leads-text ((line ++ 10 ∷ []) ++ flat_map path_line paths) (line ++ 10 ∷ flat_map file_line (map bare paths)) b (put b head (map bare paths))
    (append_assoc line (10 ∷ []) (flat_map path_line paths) ∙ ap (λ (t : List ℕ). line ++ 10 ∷ t) (lines-bare paths))
    (leads-section line head (map bare paths) b is new (formed-bare paths each) (rising-bare paths up)
    (subst (λ (place : Place). AllByRecursion (Allowed place) (map bare paths)) (sym plain) (allowed-bare Plain (λ path files. refl) paths)))

section_text : (key : List ℕ) (blocks : ℕ) → section_line key blocks ≡ (key ++ 32 ∷ sized blocks) ++ 10 ∷ []
unfolding section_line
section_text key blocks = ap (λ (t : List ℕ). t ++ 10 ∷ []) (append_assoc key (codes " size=") (decimal_text blocks))

-- what is kept of a section that is left out where it is empty
abbrev pub told_files : Files → Option Files
told_files files = cond (files.blocks == 0 && length files.paths == 0) None (Some files)

section_by : (part : Part) (files : Files) (b : Builder) → IsFormedSection files → is_known b (heads.Files part files.blocks) ≡ false → place_of (heads.Files part files.blocks) ≡ Plain
    → Leads (section_line (files_key part) files.blocks ++ flat_map path_line files.paths) b (put b (heads.Files part files.blocks) (map bare files.paths))
section_by part files b is new plain =
    leads-text (section_line (files_key part) files.blocks ++ flat_map path_line files.paths) (((files_key part ++ 32 ∷ sized files.blocks) ++ 10 ∷ []) ++ flat_map path_line files.paths) b _
    (ap (λ (t : List ℕ). t ++ flat_map path_line files.paths) (section_text (files_key part) files.blocks))
    (leads-paths (files_key part ++ 32 ∷ sized files.blocks) (heads.Files part files.blocks) files.paths b (files_head part files.blocks is.blocks) new plain is.paths is.rising)

pub leads-run : (b : Builder) (files : Files) → b.run ≡ None → IsFormedSection files → Leads (files_lines (codes "runfiles") files) b (record b { run = told_files files })
leads-run b files new is = by_test (files.blocks == 0 && length files.paths == 0)
  where
    by_test : (t : Bool) → Leads (cond t [] (section_line (codes "runfiles") files.blocks ++ flat_map path_line files.paths)) b (record b { run = cond t None (Some files) })
    by_test true = leads-same b (record b { run = None }) (ap (λ (o : Option Files). record b { run = o }) new)
    by_test false =
        subst (λ (ps : List (List ℕ)). Leads (section_line (codes "runfiles") files.blocks ++ flat_map path_line files.paths) b (record b { run = Some (record { blocks = files.blocks; paths = ps }) })) (paths-bare files.paths)
        (section_by Run files b is (ap (λ (o : Option Files). is_some o) new) refl)

pub leads-src : (b : Builder) (files : Files) → b.src ≡ None → IsFormedSection files → Leads (files_lines (codes "srcfiles") files) b (record b { src = told_files files })
leads-src b files new is = by_test (files.blocks == 0 && length files.paths == 0)
  where
    by_test : (t : Bool) → Leads (cond t [] (section_line (codes "srcfiles") files.blocks ++ flat_map path_line files.paths)) b (record b { src = cond t None (Some files) })
    by_test true = leads-same b (record b { src = None }) (ap (λ (o : Option Files). record b { src = o }) new)
    by_test false =
        subst (λ (ps : List (List ℕ)). Leads (section_line (codes "srcfiles") files.blocks ++ flat_map path_line files.paths) b (record b { src = Some (record { blocks = files.blocks; paths = ps }) })) (paths-bare files.paths)
        (section_by Src files b is (ap (λ (o : Option Files). is_some o) new) refl)

-- what is kept of documentation that is left out where it is empty
abbrev pub told_doc : DocFiles → Option DocFiles
told_doc doc = cond (doc.blocks == 0 && length doc.files == 0) None (Some doc)

allowed-marked : (files : List FileEntry) → AllByRecursion (Allowed Marked) files
allowed-marked [] = tt
allowed-marked (file ∷ files) = (λ before. refl, allowed-marked files)

pub leads-doc : (b : Builder) (doc : DocFiles) → b.doc ≡ None → IsFormedDoc doc → Leads (doc_lines doc) b (record b { doc = told_doc doc })
leads-doc b doc new is = by_test (doc.blocks == 0 && length doc.files == 0)
  where
    by_test : (t : Bool) → Leads (cond t [] (section_line (codes "docfiles") doc.blocks ++ flat_map file_line doc.files)) b (record b { doc = cond t None (Some doc) })
    by_test true = leads-same b (record b { doc = None }) (ap (λ (o : Option DocFiles). record b { doc = o }) new)
    by_test false =
        leads-text (section_line (codes "docfiles") doc.blocks ++ flat_map file_line doc.files) ((codes "docfiles" ++ 32 ∷ sized doc.blocks) ++ 10 ∷ flat_map file_line doc.files) b (record b { doc = Some doc })
        (ap (λ (t : List ℕ). t ++ flat_map file_line doc.files) (section_text (codes "docfiles") doc.blocks) ∙ append_assoc (codes "docfiles" ++ 32 ∷ sized doc.blocks) (10 ∷ []) (flat_map file_line doc.files))
        (leads-section (codes "docfiles" ++ 32 ∷ sized doc.blocks) (heads.Files Doc doc.blocks) doc.files b (files_head Doc doc.blocks is.blocks) (ap (λ (o : Option DocFiles). is_some o) new) is.files is.rising (allowed-marked doc.files))

-- ---- binaries

bin_text : (platform : List ℕ) (blocks : ℕ) → bin_line platform blocks ≡ (codes "binfiles" ++ 32 ∷ arched platform blocks) ++ 10 ∷ []
unfolding bin_line
bin_text platform blocks = ap (λ (t : List ℕ). codes "binfiles arch=" ++ t) (section_text platform blocks)

abbrev pub bin_key : BinFiles → List ℕ
bin_key bin = bin.platform

abbrev with_bins : Builder → List BinFiles → Builder
with_bins b bins = record b { bin = bins }

leads-bin : (b : Builder) (bin : BinFiles) → Follows bin_key b.bin (bin ∷ []) → IsFormedBin bin → Leads (bin_lines bin) b (with_bins b (b.bin ++ bin ∷ []))
leads-bin b bin follows is =
    let head : Head = heads.Binfiles bin.platform bin.blocks in
    let last : put b head (map bare bin.paths) ≡ with_bins b (b.bin ++ bin ∷ []) =
    ap (λ (ps : List (List ℕ)). with_bins b (insert_by bin_key (record { platform = bin.platform; blocks = bin.blocks; paths = ps }) b.bin)) (paths-bare bin.paths)
    ∙ ap (with_bins b) (insert-last bin_key bin b.bin follows) in
    subst (λ (after : Builder). Leads (bin_lines bin) b after) last
    (leads-text (bin_lines bin) (((codes "binfiles" ++ 32 ∷ arched bin.platform bin.blocks) ++ 10 ∷ []) ++ flat_map path_line bin.paths) b (put b head (map bare bin.paths))
    (ap (λ (t : List ℕ). t ++ flat_map path_line bin.paths) (bin_text bin.platform bin.blocks))
    (leads-paths (codes "binfiles" ++ 32 ∷ arched bin.platform bin.blocks) head bin.paths b (bin_head bin.platform bin.blocks is.platform is.blocks) (absent-last bin_key bin b.bin follows) refl is.paths is.rising))

pub leads-bins : (b : Builder) (bins : List BinFiles) → Follows bin_key b.bin bins → is_rising bin_key bins ≡ true → All IsFormedBin bins → Leads (flat_map bin_lines bins) b (with_bins b (b.bin ++ bins))
leads-bins b [] follows up each = leads-same b (with_bins b (b.bin ++ [])) (ap (with_bins b) (sym (append-nil b.bin)))
leads-bins b (bin ∷ bins) follows up each =
    let between : Builder = with_bins b (b.bin ++ bin ∷ []) in
    leads-append (bin_lines bin) (flat_map bin_lines bins) b between (with_bins b (b.bin ++ bin ∷ bins)) (leads-bin b bin follows (All-head IsFormedBin bin bins each))
    (subst (λ (after : List BinFiles). Leads (flat_map bin_lines bins) between (with_bins b after)) (append_assoc b.bin (bin ∷ []) bins)
    (leads-bins between bins (follows-next bin_key b.bin bin bins follows up) (rising-tail bin_key bin bins up) (All-tail IsFormedBin bin bins each)))
