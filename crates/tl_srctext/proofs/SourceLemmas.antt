-- A source that was read can be written.
use Rattle.std.proofs.Common.{◌≡◌, ℕ, ◌==◌, ◌&&◌, ◌||◌, Bool, true, false, cond, List, [], ◌∷◌, ◌++◌, length, Option, Some, Result, Ok, Err, refl, sym, ap, subst, ◌∙◌, arith}
use Rattle.std.specs.Prelude.{not, All, IfSome, IfOk, MatchResult, fold, codes}
use Rattle.std.specs.List.{list_any}
use Rattle.std.specs.Str.{bytes_eq, is_utf8}
use Rattle.std.proofs.lemmas.Slice.Eq.{bytes_eq-Decides}
use Rattle.std.proofs.lemmas.Bool.Decides.{nat_tests}
use Rattle.std.proofs.lemmas.List.Elements.{All-nil, All-cons, All-append}
use Rattle.tl_kind.specs.declared.kinds.SourceKind.{SourceKind}
use Rattle.tl_kind.specs.declared.kinds.SourceKind.TheVariants as kinds
use Rattle.tl_text.specs.Texts.{is_text}
use Rattle.tl_path.specs.Names.{is_name}
use Rattle.tl_srctext.specs.Joined.{Joined, joined_lines}
use Rattle.tl_srctext.specs.Content.{line_content, before_blank, behind_blank}
use Rattle.tl_srctext.specs.Keys.{source_key_of}
use Rattle.tl_srctext.specs.Line.{is_reserved_name, name_said, said_for_key, said_with, said_in}
use Rattle.tl_srctext.specs.Reading.{BadLine, or_bad_line, lines_said, no_fields, with_said, as_fields, fields_read, nameless, is_name_line, lines_source, source_of}
use Rattle.tl_srctext.specs.Steps.{FailsAtLine}
use Rattle.tl_srctext.specs.declared.error.SourceError.{SourceError}
use Rattle.tl_srctext.specs.Formed.{IsValue, IsFullValue, IsVar, IsPattern, IsSource}
use Rattle.tl_srctext.specs.declared.key.Section.TheVariants.{Run, Src, Doc, Bin}
use Rattle.tl_srctext.specs.declared.key.Key.{Key}
use Rattle.tl_srctext.specs.declared.key.Key.TheVariants as keys
use Rattle.tl_srctext.specs.declared.fields.SourceFields.{SourceFields}
use Rattle.tl_srctext.specs.declared.line.Said.{Said}
use Rattle.tl_srctext.specs.declared.line.Said.TheVariants as saids
use Rattle.tl_srctext.proofs.GivenLemmas.{IsSaid, said_given}
use Rattle.tl_srctext.proofs.VarsLemmas.{AreOnce, AreOnce-insert, vars_of-once, AreVars-insert}

-- the values of fields that lines gave
record AreValues (s : SourceFields) : Type 0 where
  catalogue : IfSome s.catalogue IsFullValue
  shortdesc : IfSome s.shortdesc IsValue
  longdesc : All IsValue s.longdesc
  depends : All IsFullValue s.depends
  executes : All IsFullValue s.executes
  postactions : All IsFullValue s.postactions
  vars : All IsVar s.vars
  once : AreOnce s.vars
  run : All (IsPattern Run) s.run
  src : All (IsPattern Src) s.src
  doc : All (IsPattern Doc) s.doc
  bin : All (IsPattern Bin) s.bin

one_more : {A : Type 0} (P : A → Type 0) (xs : List A) (x : A) → All P xs → P x → All P (xs ++ x ∷ [])
one_more P xs x each is = All-append P xs (x ∷ []) each (All-cons P x [] is (All-nil P))

values_none : (name : List ℕ) → AreValues (no_fields name)
values_none name = record {
  catalogue = tt;
  shortdesc = tt;
  longdesc = All-nil IsValue;
  depends = All-nil IsFullValue;
  executes = All-nil IsFullValue;
  postactions = All-nil IsFullValue;
  vars = All-nil IsVar;
  once = tt;
  run = All-nil (IsPattern Run);
  src = All-nil (IsPattern Src);
  doc = All-nil (IsPattern Doc);
  bin = All-nil (IsPattern Bin);
}

-- with what one line more says they are still such
values_more : (s : SourceFields) (said : Said) → AreValues s → IsSaid said → AreValues (with_said s said)
values_more s saids.Name v is = v
values_more s (saids.Category category) v is = record {
  catalogue = v.catalogue;
  shortdesc = v.shortdesc;
  longdesc = v.longdesc;
  depends = v.depends;
  executes = v.executes;
  postactions = v.postactions;
  vars = v.vars;
  once = v.once;
  run = v.run;
  src = v.src;
  doc = v.doc;
  bin = v.bin;
}
values_more s (saids.Catalogue text) v is = record {
  catalogue = is;
  shortdesc = v.shortdesc;
  longdesc = v.longdesc;
  depends = v.depends;
  executes = v.executes;
  postactions = v.postactions;
  vars = v.vars;
  once = v.once;
  run = v.run;
  src = v.src;
  doc = v.doc;
  bin = v.bin;
}
values_more s (saids.Shortdesc text) v is = record {
  catalogue = v.catalogue;
  shortdesc = is;
  longdesc = v.longdesc;
  depends = v.depends;
  executes = v.executes;
  postactions = v.postactions;
  vars = v.vars;
  once = v.once;
  run = v.run;
  src = v.src;
  doc = v.doc;
  bin = v.bin;
}
values_more s (saids.Longdesc text) v is = record {
  catalogue = v.catalogue;
  shortdesc = v.shortdesc;
  longdesc = one_more IsValue s.longdesc text v.longdesc is;
  depends = v.depends;
  executes = v.executes;
  postactions = v.postactions;
  vars = v.vars;
  once = v.once;
  run = v.run;
  src = v.src;
  doc = v.doc;
  bin = v.bin;
}
values_more s (saids.Depend text) v is = record {
  catalogue = v.catalogue;
  shortdesc = v.shortdesc;
  longdesc = v.longdesc;
  depends = one_more IsFullValue s.depends text v.depends is;
  executes = v.executes;
  postactions = v.postactions;
  vars = v.vars;
  once = v.once;
  run = v.run;
  src = v.src;
  doc = v.doc;
  bin = v.bin;
}
values_more s (saids.Execute text) v is = record {
  catalogue = v.catalogue;
  shortdesc = v.shortdesc;
  longdesc = v.longdesc;
  depends = v.depends;
  executes = one_more IsFullValue s.executes text v.executes is;
  postactions = v.postactions;
  vars = v.vars;
  once = v.once;
  run = v.run;
  src = v.src;
  doc = v.doc;
  bin = v.bin;
}
values_more s (saids.Postaction text) v is = record {
  catalogue = v.catalogue;
  shortdesc = v.shortdesc;
  longdesc = v.longdesc;
  depends = v.depends;
  executes = v.executes;
  postactions = one_more IsFullValue s.postactions text v.postactions is;
  vars = v.vars;
  once = v.once;
  run = v.run;
  src = v.src;
  doc = v.doc;
  bin = v.bin;
}
values_more s (saids.Variable name value) v is = record {
  catalogue = v.catalogue;
  shortdesc = v.shortdesc;
  longdesc = v.longdesc;
  depends = v.depends;
  executes = v.executes;
  postactions = v.postactions;
  vars = AreVars-insert s.vars name value v.vars is;
  once = AreOnce-insert s.vars name value v.once;
  run = v.run;
  src = v.src;
  doc = v.doc;
  bin = v.bin;
}
values_more s (saids.Pattern Run pattern) v is = record {
  catalogue = v.catalogue;
  shortdesc = v.shortdesc;
  longdesc = v.longdesc;
  depends = v.depends;
  executes = v.executes;
  postactions = v.postactions;
  vars = v.vars;
  once = v.once;
  run = one_more (IsPattern Run) s.run pattern v.run is;
  src = v.src;
  doc = v.doc;
  bin = v.bin;
}
values_more s (saids.Pattern Src pattern) v is = record {
  catalogue = v.catalogue;
  shortdesc = v.shortdesc;
  longdesc = v.longdesc;
  depends = v.depends;
  executes = v.executes;
  postactions = v.postactions;
  vars = v.vars;
  once = v.once;
  run = v.run;
  src = one_more (IsPattern Src) s.src pattern v.src is;
  doc = v.doc;
  bin = v.bin;
}
values_more s (saids.Pattern Doc pattern) v is = record {
  catalogue = v.catalogue;
  shortdesc = v.shortdesc;
  longdesc = v.longdesc;
  depends = v.depends;
  executes = v.executes;
  postactions = v.postactions;
  vars = v.vars;
  once = v.once;
  run = v.run;
  src = v.src;
  doc = one_more (IsPattern Doc) s.doc pattern v.doc is;
  bin = v.bin;
}
values_more s (saids.Pattern Bin pattern) v is = record {
  catalogue = v.catalogue;
  shortdesc = v.shortdesc;
  longdesc = v.longdesc;
  depends = v.depends;
  executes = v.executes;
  postactions = v.postactions;
  vars = v.vars;
  once = v.once;
  run = v.run;
  src = v.src;
  doc = v.doc;
  bin = one_more (IsPattern Bin) s.bin pattern v.bin is;
}

-- the name stays
name_kept : (s : SourceFields) (said : Said) → (with_said s said).name ≡ s.name
name_kept s saids.Name = refl
name_kept s (saids.Category category) = refl
name_kept s (saids.Catalogue text) = refl
name_kept s (saids.Shortdesc text) = refl
name_kept s (saids.Longdesc text) = refl
name_kept s (saids.Depend text) = refl
name_kept s (saids.Execute text) = refl
name_kept s (saids.Postaction text) = refl
name_kept s (saids.Variable name value) = refl
name_kept s (saids.Pattern Run pattern) = refl
name_kept s (saids.Pattern Src pattern) = refl
name_kept s (saids.Pattern Doc pattern) = refl
name_kept s (saids.Pattern Bin pattern) = refl

-- what was said can be written
abbrev AllSaid : List Said → Type 0
AllSaid [] = Unit {0}
AllSaid (said ∷ saids) = IsSaid said × AllSaid saids

all_more : (done : List Said) (said : Said) → AllSaid done → IsSaid said → AllSaid (done ++ said ∷ [])
all_more [] said all is = (is, tt)
all_more (first ∷ done) said all is = (all.0, all_more done said all.1 is)

values_all : (s : SourceFields) (saids : List Said) → AreValues s → AllSaid saids → AreValues (fold with_said s saids)
values_all s [] v all = v
values_all s (said ∷ saids) v all = values_all (with_said s said) saids (values_more s said v all.0) all.1

name_all : (s : SourceFields) (saids : List Said) → (fold with_said s saids).name ≡ s.name
name_all s [] = refl
name_all s (said ∷ saids) = name_all (with_said s said) saids ∙ name_kept s said

abbrev ok_or : {A B : Type 0} → A → Result A B → A
ok_or other (Ok x) = x
ok_or other (Err e) = other

ok_same : {A B : Type 0} {x y : A} → ◌≡◌ {A = Result A B} (Ok x) (Ok y) → x ≡ y
ok_same {x = x} e = ap (ok_or x) e

-- what lines say can be written
lines_given : (name : List ℕ) (done : List Said) (lines : List Joined) (saids : List Said) → AllSaid done → lines_said name done lines ≡ Ok saids → AllSaid saids
lines_given name done [] saids all found = subst AllSaid (ok_same {B = BadLine} found) all
lines_given name done (line ∷ lines) saids all found = by (lines_given name done lines saids all) (λ said all_said. lines_given name (done ++ said ∷ []) lines saids all_said)
    (length (line_content line.text) == 0) (said_in name line.number (line_content line.text)) refl found
  where
    by : (lines_said name done lines ≡ Ok saids → AllSaid saids) → ((said : Said) → AllSaid (done ++ said ∷ []) → lines_said name (done ++ said ∷ []) lines ≡ Ok saids → AllSaid saids)
        → (t : Bool) (r : Result Said SourceKind) → said_in name line.number (line_content line.text) ≡ r
        → cond t (lines_said name done lines) (or_bad_line line.number r (λ said. lines_said name (done ++ said ∷ []) lines)) ≡ Ok saids → AllSaid saids
    by same_on more true r e same = same_on same
    by same_on more false (Ok said) e same = more said (all_more done said all (said_given name line.number line.text said e)) same
    by same_on more false (Err kind) e same = absurd (cc)

fields_given : (name : List ℕ) (found : Result (List Said) BadLine) (s : SourceFields) → ((saids : List Said) → found ≡ Ok saids → AllSaid saids)
    → as_fields name found ≡ Ok s → AreValues s × (s.name ≡ name)
fields_given name (Ok saids) s each same =
    subst (λ (t : SourceFields). AreValues t × (t.name ≡ name)) (ok_same {B = BadLine} same)
    (values_all (no_fields name) saids (values_none name) (each saids refl), name_all (no_fields name) saids)
fields_given name (Err bad) s each same = absurd (cc)

-- ---- a reserved name

key_is_name : (word : List ℕ) → bytes_eq word (codes "name") ≡ true → source_key_of word ≡ Some keys.Name
unfolding source_key_of
key_is_name word is = ap source_key_of ((bytes_eq-Decides word (codes "name")).0 is)

-- the value of a name is bad in the source of a reserved name
name_bad : (name : List ℕ) (number : ℕ) (value : List ℕ) (said : Said) → is_reserved_name name ≡ true → said_for_key name number keys.Name value ≡ Ok said → ⊥
name_bad name number [] said reserved found = cc
name_bad name number (b ∷ value) said reserved found = by (is_text (b ∷ value)) found
  where
    or_none : (t : Bool) → (t && false) ≡ false
    or_none true = refl
    or_none false = refl

    none : (bytes_eq (b ∷ value) name && not (is_reserved_name name)) ≡ false
    none = ap (λ t. bytes_eq (b ∷ value) name && not t) reserved ∙ or_none (bytes_eq (b ∷ value) name)

    by : (t : Bool) → cond t (name_said name (b ∷ value)) (Err kinds.TooLong) ≡ Ok said → ⊥
    by true same =
        let bad : ◌≡◌ {A = Result Said SourceKind} (Err kinds.Name) (Ok said) = sym (ap (λ t. cond t (Ok saids.Name) (Err kinds.Name)) none) ∙ same in
        cc
    by false same = cc

line_bad : (name : List ℕ) (number : ℕ) (line : List ℕ) (said : Said) → is_reserved_name name ≡ true → bytes_eq (before_blank line) (codes "name") ≡ true → said_in name number line ≡ Ok said → ⊥
line_bad name number line said reserved named found = by (is_utf8 line) found
  where
    by : (t : Bool) → cond t (said_with name number (source_key_of (before_blank line)) (behind_blank line)) (Err kinds.Utf8) ≡ Ok said → ⊥
    by true same = name_bad name number (behind_blank line) said reserved (sym (ap (λ (k : Option Key). said_with name number k (behind_blank line)) (key_is_name (before_blank line) named)) ∙ same)
    by false same = cc

-- an empty line is no name line
full_line : (line : List ℕ) → bytes_eq (before_blank line) (codes "name") ≡ true → (length line == 0) ≡ false
full_line [] is = absurd (cc)
full_line (b ∷ line) is = grind (arith, nat_tests)

-- the source of a reserved name that has a name line doesn't read
reserved_bad : (name : List ℕ) (done : List Said) (lines : List Joined) (saids : List Said) → is_reserved_name name ≡ true → list_any is_name_line lines ≡ true
    → lines_said name done lines ≡ Ok saids → ⊥
reserved_bad name done [] saids reserved has found = cc
reserved_bad name done (line ∷ lines) saids reserved has found =
    by (λ more. reserved_bad name done lines saids reserved more) (λ said more. reserved_bad name (done ++ said ∷ []) lines saids reserved more) (is_name_line line) refl has
  where
    on : (list_any is_name_line lines ≡ true → lines_said name done lines ≡ Ok saids → ⊥)
        → ((said : Said) → list_any is_name_line lines ≡ true → lines_said name (done ++ said ∷ []) lines ≡ Ok saids → ⊥)
        → (t : Bool) (r : Result Said SourceKind) → list_any is_name_line lines ≡ true
        → cond t (lines_said name done lines) (or_bad_line line.number r (λ said. lines_said name (done ++ said ∷ []) lines)) ≡ Ok saids → ⊥
    on first next true r more same = first more same
    on first next false (Ok said) more same = next said more same
    on first next false (Err kind) more same = cc

    here : is_name_line line ≡ true → (r : Result Said SourceKind) → said_in name line.number (line_content line.text) ≡ r
        → or_bad_line line.number r (λ said. lines_said name (done ++ said ∷ []) lines) ≡ Ok saids → ⊥
    here named (Ok said) e same = line_bad name line.number (line_content line.text) said reserved named e
    here named (Err kind) e same = cc

    by : (list_any is_name_line lines ≡ true → lines_said name done lines ≡ Ok saids → ⊥)
        → ((said : Said) → list_any is_name_line lines ≡ true → lines_said name (done ++ said ∷ []) lines ≡ Ok saids → ⊥)
        → (t : Bool) → is_name_line line ≡ t → (t || list_any is_name_line lines) ≡ true → ⊥
    by first next true e more = here e (said_in name line.number (line_content line.text)) refl
        (sym (ap (λ t. cond t (lines_said name done lines) (or_bad_line line.number (said_in name line.number (line_content line.text)) (λ said. lines_said name (done ++ said ∷ []) lines)))
        (full_line (line_content line.text) e)) ∙ found)
    by first next false e more = on first next (length (line_content line.text) == 0) (said_in name line.number (line_content line.text)) more found

-- ---- the whole source

saids_of : (name : List ℕ) (found : Result (List Said) BadLine) (s : SourceFields) → as_fields name found ≡ Ok s → (saids : List Said) × (found ≡ Ok saids)
saids_of name (Ok saids) s same = (saids, refl)
saids_of name (Err bad) s same = absurd (cc)

allowed_if : (name : List ℕ) (lines : List Joined) (s : SourceFields) → lines_source name lines ≡ Ok s → (is_reserved_name name ≡ false) × (fields_read name lines ≡ Ok s)
allowed_if name lines s found = by (is_reserved_name name) refl (list_any is_name_line lines) refl found
  where
    by : (t : Bool) → is_reserved_name name ≡ t → (u : Bool) → list_any is_name_line lines ≡ u
        → cond (t && not u) (nameless name lines) (fields_read name lines) ≡ Ok s → (is_reserved_name name ≡ false) × (fields_read name lines ≡ Ok s)
    by false e u f same = (e, same)
    by true e false f same = absurd (cc)
    by true e true f same =
        let said = saids_of name (lines_said name [] lines) s same in
        absurd (reserved_bad name [] lines said.0 e f said.1)

-- a source that was read can be written
pub source_given : (name text : List ℕ) (s : SourceFields) → is_name name ≡ true → source_of name text ≡ Ok s → IsSource s
source_given name text s is found =
    let read = allowed_if name (joined_lines text) s found in
    let given = fields_given name (lines_said name [] (joined_lines text)) s (λ saids e. lines_given name [] (joined_lines text) saids tt e) read.1 in
    record {
      name = subst (λ (n : List ℕ). is_name n ≡ true) (sym given.1) is;
      allowed = ap is_reserved_name given.1 ∙ read.0;
      catalogue = given.0.catalogue;
      shortdesc = given.0.shortdesc;
      longdesc = given.0.longdesc;
      depends = given.0.depends;
      executes = given.0.executes;
      postactions = given.0.postactions;
      vars = given.0.vars;
      once = vars_of-once s.vars given.0.once;
      run = given.0.run;
      src = given.0.src;
      doc = given.0.doc;
      bin = given.0.bin;
    }

pub formed_if : (name text : List ℕ) (result : Result SourceFields SourceError) → is_name name ≡ true
    → MatchResult result (λ source. source_of name text ≡ Ok source) (FailsAtLine (source_of name text)) → IfOk result IsSource
formed_if name text (Ok source) is read = source_given name text source is read
formed_if name text (Err e) is read = tt
