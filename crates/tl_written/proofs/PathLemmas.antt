-- The lines of paths and of the sections that have them.
use Rattle.std.proofs.Common.{◌≡◌, ◌⊎◌, ℕ, ◌==◌, ◌^◌, ◌<◌, Bool, true, false, cond, ◌&&◌, List, [], ◌∷◌, ◌++◌, length, Some, inl, inr, refl, sym, subst, ◌∙◌, ap, arith, length-append, append_assoc}
use Rattle.std.specs.Prelude.{codes}
use Rattle.std.specs.List.{flat_map}
use Rattle.std.proofs.lemmas.Bool.{and_from, eq-eqb, true≢false}
use Rattle.std.proofs.lemmas.Option.{none-some}
use Rattle.std.proofs.lemmas.List.Elements.{All-nil}
use Rattle.tl_model.specs.Decimal.{decimal_text}
use Rattle.tl_model.specs.Acks.{IsPlain, plain-nil, plain-append}
use Rattle.tl_path.specs.declared.fault.PathFault.{PathFault}
use Rattle.tl_path.specs.Path.{IsPath, path_fault}
use Rattle.tl_entry.specs.Rising.{comes_before}
use Rattle.tl_entry.specs.Sections.{no_files}
use Rattle.tl_entry.specs.declared.object.Files.{Files}
use Rattle.tl_object.specs.Plain.{is_key}
use Rattle.tl_object.specs.Formed.{IsFormedSection}
use Rattle.tl_object.specs.Writing.{path_line, section_line, files_lines}
use Rattle.tl_object.proofs.PlainLemmas.{plain_path_line, plain_section_line, line_of_number}
use Rattle.tl_written.specs.Stands.{Stands}
use Rattle.tl_written.specs.Rises.{AreRising, OneStands}
use Rattle.tl_written.specs.Found.{Lacks, LacksEach}
use Rattle.tl_written.specs.Pieces.{PathsStand}
use Rattle.tl_written.proofs.StandLemmas.{behind-both, section-written}
use Rattle.tl_written.proofs.FindLemmas.{append-cancel}
use Rattle.tl_written.proofs.BeginLemmas.{Fronts, fronts-more, section_line-fronts, path_line-fronts}

-- what stands behind at least one byte is shorter
pub behind-shorter : (first : ℕ) (more text rest : List ℕ) → text ≡ (first ∷ more) ++ rest → length rest < length text
behind-shorter first more text rest same = omega (arith, ap length same, length-append more rest)

-- a section's line, piece by piece
pub section_pieces : (key text sized behind digits rest : List ℕ) (blocks : ℕ) → text ≡ key ++ sized → sized ≡ codes " size=" ++ behind → behind ≡ digits ++ 10 ∷ rest → digits ≡ decimal_text blocks
    → text ≡ section_line key blocks ++ rest
unfolding section_line
section_pieces key text sized behind digits rest blocks one two three number =
    let named = behind-both key (codes " size=") text sized behind one two in
    let counted = behind-both (key ++ codes " size=") digits text behind (10 ∷ rest) named three in
    let whole = behind-both ((key ++ codes " size=") ++ digits) (10 ∷ []) text (10 ∷ rest) rest counted refl in
    subst (λ (shown : List ℕ). text ≡ (((key ++ codes " size=") ++ shown) ++ 10 ∷ []) ++ rest) number whole

-- a section's line, cut behind its key
pub section_front : (key text rest : List ℕ) (blocks : ℕ) → text ≡ section_line key blocks ++ rest → text ≡ key ++ (codes " size=" ++ (decimal_text blocks ++ 10 ∷ rest))
unfolding section_line
section_front key text rest blocks same =
    same ∙ append_assoc ((key ++ codes " size=") ++ decimal_text blocks) (10 ∷ []) rest ∙ append_assoc (key ++ codes " size=") (decimal_text blocks) (10 ∷ rest)
    ∙ append_assoc key (codes " size=") (decimal_text blocks ++ 10 ∷ rest)

-- what stands behind its key
pub section_sized : (key text sized rest : List ℕ) (blocks : ℕ) → text ≡ section_line key blocks ++ rest → text ≡ key ++ sized → sized ≡ codes " size=" ++ (decimal_text blocks ++ 10 ∷ rest)
section_sized key text sized rest blocks same one = append-cancel key sized (codes " size=" ++ (decimal_text blocks ++ 10 ∷ rest)) (sym one ∙ section_front key text rest blocks same)

-- what stands behind ` size=`
pub section_digits : (key text sized behind rest : List ℕ) (blocks : ℕ) → text ≡ section_line key blocks ++ rest → text ≡ key ++ sized → sized ≡ codes " size=" ++ behind → behind ≡ decimal_text blocks ++ 10 ∷ rest
section_digits key text sized behind rest blocks same one two =
    append-cancel (codes " size=") behind (decimal_text blocks ++ 10 ∷ rest) (sym two ∙ section_sized key text sized rest blocks same one)

-- a path's line, piece by piece
pub path_stands : (text behind path rest : List ℕ) → text ≡ (32 ∷ []) ++ behind → behind ≡ path ++ 10 ∷ rest → IsPath path → OneStands (λ (path : List ℕ). path) path_line IsPath path text rest
unfolding path_line
path_stands text behind path rest one two is =
    let whole : text ≡ ((32 ∷ path) ++ 10 ∷ []) ++ rest = behind-both (32 ∷ path) (10 ∷ []) text (10 ∷ rest) rest (behind-both (32 ∷ []) path text behind (10 ∷ rest) one two) refl in
    record { value = path; same = whole; plain = plain_path_line path is; is = (is, refl) }

-- what stands behind a path's line is shorter
pub path_shorter : (path text rest : List ℕ) → OneStands (λ (path : List ℕ). path) path_line IsPath path text rest → length rest < length text
unfolding path_line
path_shorter path text rest one = behind-shorter 32 (one.value ++ 10 ∷ []) text rest one.same

-- a path's line, cut behind its space
pub path_front : (path text rest : List ℕ) → text ≡ path_line path ++ rest → text ≡ (32 ∷ []) ++ (path ++ 10 ∷ rest)
unfolding path_line
path_front path text rest same = same ∙ append_assoc (32 ∷ path) (10 ∷ []) rest

-- what stands behind its space
pub path_cut : (path text behind rest : List ℕ) → text ≡ path_line path ++ rest → text ≡ (32 ∷ []) ++ behind → behind ≡ path ++ 10 ∷ rest
path_cut path text behind rest same one = append-cancel (32 ∷ []) behind (path ++ 10 ∷ rest) (sym one ∙ path_front path text rest same)

-- a text where a path's line stands begins with a space
pub path_spaced : (path text behind rest : List ℕ) → OneStands (λ (path : List ℕ). path) path_line IsPath path text behind → LacksEach rest ((32 ∷ []) ∷ []) → text ≡ rest → ⊥
path_spaced path text behind rest one lacks same = lacks.0 (one.value ++ 10 ∷ behind) (sym same ∙ path_front one.value text behind one.same)

-- no path is empty
pub path_after : (path : List ℕ) → IsPath path → comes_before [] path ≡ true
path_after [] is = absurd (none-some _ (sym is))
path_after (b ∷ path) is = refl

-- a path has no fault
pub no_fault : (path found : List ℕ) (fault : PathFault) → IsPath path → found ≡ path → path_fault found ≡ Some fault → ⊥
no_fault path found fault is same fails = none-some fault (sym is ∙ ap path_fault (sym same) ∙ fails)

-- an absent section has no lines
pub no_section : (key text : List ℕ) → Stands (files_lines key) IsFormedSection text text
no_section key text = record {
  value = no_files;
  same = refl;
  plain = plain-nil;
  is = record { blocks = omega arith; paths = All-nil IsPath; rising = refl };
}

-- a section's line and its paths
pub section_stands : (key text paths rest : List ℕ) (blocks : ℕ) → is_key key ≡ true → text ≡ section_line key blocks ++ paths → blocks < 2 ^ 64 → PathsStand paths rest
    → ((blocks ≡ 0) × (length rest ≡ length paths → ⊥)) ⊎ (blocks ≡ 0 → ⊥) → Stands (files_lines key) IsFormedSection text rest
section_stands key text paths rest blocks begins one small some either =
    let whole = section_line key blocks ++ flat_map path_line some.value in
    let there : false ≡ (blocks == 0 && length some.value == 0) = sym (section-written path_line paths rest blocks some.value some.same either) in
    record {
      value = record { blocks = blocks; paths = some.value };
      same = behind-both (section_line key blocks) (flat_map path_line some.value) text paths rest one some.same ∙ ap (λ t. cond t [] whole ++ rest) there;
      plain = subst (λ t. IsPlain (cond t [] whole)) there
          (plain-append (section_line key blocks) (flat_map path_line some.value) (plain_section_line key blocks begins (line_of_number blocks small)) some.plain);
      is = record { blocks = small; paths = some.is.each; rising = some.is.rising };
    }

-- where the lines of a section stand, either it has none, or they are written
section_either : (test : Bool) (written text rest : List ℕ) → text ≡ cond test [] written ++ rest → (text ≡ rest) ⊎ ((test ≡ false) × (text ≡ written ++ rest))
section_either true written text rest same = inl same
section_either false written text rest same = inr (refl, same)

-- no section stands where none was found
pub section-absent : {A : Type 0} (lines : A → List ℕ) (key text rest : List ℕ) (blocks : ℕ) (items : List A)
    → text ≡ cond (blocks == 0 && length items == 0) [] (section_line key blocks ++ flat_map lines items) ++ rest
    → ((paths : List ℕ) → text ≡ section_line key blocks ++ paths → ⊥) → text ≡ rest
section-absent lines key text rest blocks items same none =
    elim (section_either (blocks == 0 && length items == 0) (section_line key blocks ++ flat_map lines items) text rest same) [
      | inl empty ↦ empty
      | inr written ↦ absurd (none (flat_map lines items ++ rest) (written.1 ∙ append_assoc (section_line key blocks) (flat_map lines items) rest))
    ]

-- a section was found in front of what no section begins, so it is written
pub section-there : {A : Type 0} (lines : A → List ℕ) (key text paths rest : List ℕ) (found blocks : ℕ) (items : List A) → Lacks rest (key ++ codes " size=") → text ≡ section_line key found ++ paths
    → text ≡ cond (blocks == 0 && length items == 0) [] (section_line key blocks ++ flat_map lines items) ++ rest
    → ((blocks == 0 && length items == 0) ≡ false) × (text ≡ section_line key blocks ++ (flat_map lines items ++ rest))
section-there lines key text paths rest found blocks items lacks stands same =
    let front = fronts-more (key ++ codes " size=") (section_line key found) paths (section_line-fronts key found) in
    elim (section_either (blocks == 0 && length items == 0) (section_line key blocks ++ flat_map lines items) text rest same) [
      | inl empty ↦ absurd (lacks front.0 (sym empty ∙ stands ∙ front.1))
      | inr written ↦ (written.0, written.1 ∙ append_assoc (section_line key blocks) (flat_map lines items) rest)
    ]

-- where nothing stands before a rest, there are no elements whose lines stand there
no_items : {A : Type 0} (lines : A → List ℕ) (rest : List ℕ) (items : List A) → ((x : A) → Fronts (32 ∷ []) (lines x)) → length rest ≡ length (flat_map lines items ++ rest) → (length items == 0) ≡ true
no_items lines rest [] each same = refl
no_items lines rest (x ∷ items) each same =
    absurd (omega (arith, same, length-append (lines x ++ flat_map lines items) rest, length-append (lines x) (flat_map lines items), ap length (each x).1))

-- a section that is written has blocks or elements
pub section-some : {A : Type 0} (lines : A → List ℕ) (paths rest behind : List ℕ) (found blocks : ℕ) (items : List A) → ((x : A) → Fronts (32 ∷ []) (lines x)) → (blocks == 0 && length items == 0) ≡ false
    → found ≡ blocks → paths ≡ flat_map lines items ++ rest → behind ≡ rest → found ≡ 0 → length behind ≡ length paths → ⊥
section-some lines paths rest behind found blocks items each written stated same left none alike =
    let empty : length rest ≡ length (flat_map lines items ++ rest) = ap length (sym left) ∙ alike ∙ ap length same in
    true≢false (sym (and_from (blocks == 0) (length items == 0) (eq-eqb blocks 0 (sym stated ∙ none)) (no_items lines rest items each empty)) ∙ written)

-- no section of files was found, so it is absent
pub files_absent : (key text rest : List ℕ) (files : Files) → IsFormedSection files → text ≡ files_lines key files ++ rest
    → ((blocks : ℕ) (paths : List ℕ) → blocks < 2 ^ 64 → text ≡ section_line key blocks ++ paths → ⊥) → text ≡ rest
files_absent key text rest files formed same none = section-absent path_line key text rest files.blocks files.paths same (λ paths. none files.blocks paths formed.blocks)

-- a section's line was found, so the lines of its paths stand behind it
pub record FilesFound (found : ℕ) (paths rest : List ℕ) (files : Files) : Type 0 where
  pub written : (files.blocks == 0 && length files.paths == 0) ≡ false
  pub stated : found ≡ files.blocks
  pub same : paths ≡ flat_map path_line files.paths ++ rest
  pub rising : AreRising (λ (path : List ℕ). path) IsPath files.paths
  pub lacks : LacksEach rest ((32 ∷ []) ∷ [])

-- where a section of files stands, its paths are found
pub files_found : (key text paths rest : List ℕ) (found : ℕ) (files : Files) → IsFormedSection files → LacksEach rest ((32 ∷ []) ∷ (key ++ codes " size=") ∷ [])
    → text ≡ section_line key found ++ paths → text ≡ files_lines key files ++ rest
    → ((blocks : ℕ) (behind : List ℕ) → blocks < 2 ^ 64 → text ≡ section_line key blocks ++ behind → (found ≡ blocks) × (paths ≡ behind)) → FilesFound found paths rest files
files_found key text paths rest found files formed lacks stands same once =
    let there = section-there path_line key text paths rest found files.blocks files.paths lacks.1.0 stands same in
    let cut = once files.blocks (flat_map path_line files.paths ++ rest) formed.blocks there.1 in
    record { written = there.0; stated = cut.0; same = cut.1; rising = record { each = formed.paths; rising = formed.rising }; lacks = (lacks.0, tt) }

-- and it has blocks or paths
pub files_some : (found : ℕ) (paths rest behind : List ℕ) (files : Files) → FilesFound found paths rest files → behind ≡ rest → found ≡ 0 → length behind ≡ length paths → ⊥
files_some found paths rest behind files there left none alike =
    section-some path_line paths rest behind found files.blocks files.paths path_line-fronts there.written there.stated there.same left none alike
