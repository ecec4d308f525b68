-- The text of a source reads as the source again, but for line numbers.
use Rattle.std.proofs.Common.{◌≡◌, ℕ, ◌+◌, ◌≤◌, ◌&&◌, true, false, cond, List, [], ◌∷◌, ◌++◌, length, map, Option, Some, None, Ok, Err, refl, sym, ap, ◌∙◌, arith, append_assoc}
use Rattle.std.specs.Prelude.{not, nat_le, codes, IfSome, fold}
use Rattle.std.specs.List.{flat_map, list_any}
use Rattle.std.specs.Str.{bytes_eq}
use Rattle.std.proofs.lemmas.Bool.{and_parts, and_from}
use Rattle.std.proofs.lemmas.Bool.Decides.{nat_tests}
use Rattle.std.proofs.lemmas.List.{append-nil, length-append}
use Rattle.std.proofs.lemmas.Grind.{flat_map-append}
use Rattle.std.proofs.lemmas.List.Folds.{flat_map-map}
use Rattle.std.proofs.lemmas.Slice.Eq.{bytes_eq-Decides}
use Rattle.indexmap.specs.IndexMap.{insert_entry}
use Rattle.tl_model.specs.Lines.{text_of}
use Rattle.tl_path.specs.Bytes.{is_letter_or_digit, is_of_name}
use Rattle.tl_path.specs.Names.{is_name}
use Rattle.tl_path.specs.Kinds.{category_text}
use Rattle.tl_path.proofs.Words.{word_all, word_short}
use Rattle.tl_path.specs.declared.kinds.Category.{Category}
use Rattle.tl_path.specs.declared.kinds.Category.TheVariants.{Package, TLCore, ConTeXt, Collection, Scheme}
use Rattle.tl_kind.specs.declared.kinds.SourceKind.TheVariants as kinds
use Rattle.tl_srctext.specs.declared.key.Section.{Section}
use Rattle.tl_srctext.specs.declared.key.Section.TheVariants.{Run, Src, Doc, Bin}
use Rattle.tl_srctext.specs.declared.key.Key.TheVariants as keys
use Rattle.tl_srctext.specs.declared.pattern.SourcePattern.{SourcePattern}
use Rattle.tl_srctext.specs.declared.line.Said.{Said}
use Rattle.tl_srctext.specs.declared.line.Said.TheVariants as saids
use Rattle.tl_srctext.specs.declared.fields.SourceFields.{SourceFields}
use Rattle.tl_srctext.specs.Content.{behind_blank}
use Rattle.tl_srctext.specs.Keys.{source_key_of}
use Rattle.tl_srctext.specs.Variables.{is_var_byte, is_var_name, is_value_byte, is_var_value, name_of, with_var_value, var_value, var_with}
use Rattle.tl_srctext.specs.Line.{is_reserved_name, said_of}
use Rattle.tl_srctext.specs.Reading.{fields_of, source_of, fields_read, nameless, is_name_line}
use Rattle.tl_srctext.specs.Joined.{joined_lines}
use Rattle.tl_srctext.specs.Writing.{guard, source_line, optional_line, value_lines, var_text, var_lines, pattern_value, pattern_lines, source_head, source_middle, source_tail, source_text}
use Rattle.tl_srctext.specs.Formed.{IsValue, IsFullValue, IsVar, IsPattern, IsSource}
use Rattle.tl_srctext.specs.Again.{unplaced, less_lines, ReadsAgain}
use Rattle.tl_srctext.proofs.TextLemmas.{none_before, before-word, behind-word}
use Rattle.tl_srctext.proofs.ValueLemmas.{is_ink, ink_word, all_of, word-value, pair-value}
use Rattle.tl_srctext.proofs.PatternLemmas.{on_line, pattern-again, pattern-full}
use Rattle.tl_srctext.proofs.SaysLemmas.{Says, line_of, says_full, says_value}
use Rattle.tl_srctext.proofs.AgainLemmas.{AllSay, say-append, say-each, item_lines, put_all, items_read, put-append, numbered, put-field, unnumbered-same}

-- ---- each kind of line

name_ink : (b : ℕ) → is_of_name b ≡ true → is_ink b ≡ true
name_ink b is = grind (arith, nat_tests)

same_bytes : (text : List ℕ) → bytes_eq text text ≡ true
same_bytes text = (bytes_eq-Decides text text).1 refl

name_says : (name : List ℕ) → is_name name ≡ true → is_reserved_name name ≡ false → Says name (codes "name") name (λ n. saids.Name)
unfolding source_key_of
name_says [] is allowed = absurd (cc)
name_says (b ∷ name) is allowed =
    says_full (b ∷ name) 110 (codes "ame") (b ∷ name) keys.Name (λ n. saids.Name) refl refl
    (word-value b name (all_of is_of_name is_ink name_ink (b ∷ name) (word_all is_letter_or_digit is_of_name 128 (b ∷ name) is)) (omega (arith, word_short is_letter_or_digit is_of_name 128 (b ∷ name) is)))
    (λ n. ap (λ t. cond t (Ok saids.Name) (Err kinds.Name)) (and_from _ _ (same_bytes (b ∷ name)) (ap not allowed)))

category_says : (name : List ℕ) (category : Category) → Says name (codes "category") (category_text category) (λ n. saids.Category category)
unfolding source_key_of
category_says name Package = says_full name 99 (codes "ategory") (codes "Package") keys.Category (λ n. saids.Category Package) refl refl (word-value 80 (codes "ackage") refl (omega arith)) (λ n. refl)
category_says name TLCore = says_full name 99 (codes "ategory") (codes "TLCore") keys.Category (λ n. saids.Category TLCore) refl refl (word-value 84 (codes "LCore") refl (omega arith)) (λ n. refl)
category_says name ConTeXt = says_full name 99 (codes "ategory") (codes "ConTeXt") keys.Category (λ n. saids.Category ConTeXt) refl refl (word-value 67 (codes "onTeXt") refl (omega arith)) (λ n. refl)
category_says name Collection = says_full name 99 (codes "ategory") (codes "Collection") keys.Category (λ n. saids.Category Collection) refl refl (word-value 67 (codes "ollection") refl (omega arith)) (λ n. refl)
category_says name Scheme = says_full name 99 (codes "ategory") (codes "Scheme") keys.Category (λ n. saids.Category Scheme) refl refl (word-value 83 (codes "cheme") refl (omega arith)) (λ n. refl)

var_ink : (b : ℕ) → is_var_byte b ≡ true → is_ink b ≡ true
var_ink b is = grind (arith, nat_tests)

value_ink : (b : ℕ) → is_value_byte b ≡ true → is_ink b ≡ true
value_ink b is = grind (arith, nat_tests)

-- the value of a variable is a value
var_value_full : (value : List ℕ) → is_var_value value ≡ true → length value ≤ 65536 → IsFullValue value
var_value_full [] is short = absurd (cc)
var_value_full (b ∷ value) is short =
    word-value b value (all_of is_value_byte is_ink value_ink (b ∷ value) (and_parts _ _ (and_parts (nat_le 1 (length (b ∷ value))) _ is).1).0) short

var_says : (name : List ℕ) (var : List ℕ × List ℕ) → IsVar var → Says name (codes "tlpsetvar") (var_text var) (λ n. saids.Variable var.0 var.1)
unfolding source_key_of
var_says name var is = by var.0 var.1 is.name is.value is.short
  where
    by : (v w : List ℕ) → is_var_name v ≡ true → is_var_value w ≡ true → length (v ++ 32 ∷ w) ≤ 65536 → Says name (codes "tlpsetvar") (v ++ 32 ∷ w) (λ n. saids.Variable v w)
    by [] w named_is valued short = absurd (cc)
    by (b ∷ v) w named_is valued short =
        let ink = all_of is_var_byte is_ink var_ink (b ∷ v) (and_parts _ _ (and_parts (nat_le 1 (length (b ∷ v))) _ named_is).1).0 in
        let value = var_value_full w valued (omega (arith, short, length-append (b ∷ v) (32 ∷ w))) in
        says_full name 116 (codes "lpsetvar") ((b ∷ v) ++ 32 ∷ w) keys.Variable (λ n. saids.Variable (b ∷ v) w) refl refl (pair-value b v w ink value short)
        (λ n. ap (said_of (λ var. saids.Variable var.0 var.1))
        (ap (λ (l : List ℕ). var_with (name_of l) (behind_blank ((b ∷ v) ++ 32 ∷ w))) (before-word (b ∷ v) w (ink_word (b ∷ v) ink))
        ∙ ap (λ t. var_with (cond t (Some (b ∷ v)) None) (behind_blank ((b ∷ v) ++ 32 ∷ w))) named_is
        ∙ ap (λ (l : List ℕ). with_var_value (b ∷ v) (var_value l)) (behind-word (b ∷ v) w (ink_word (b ∷ v) ink) (none_before w value.value.begins))
        ∙ ap (λ t. with_var_value (b ∷ v) (cond t (Ok w) (Err kinds.Variable))) valued))

run_says : (name : List ℕ) (p : SourcePattern) → IsPattern Run p → Says name (codes "runpattern") (pattern_value p) (λ n. saids.Pattern Run (on_line n p))
unfolding source_key_of
run_says name p is =
    says_full name 114 (codes "unpattern") (pattern_value p) (keys.Pattern Run) (λ n. saids.Pattern Run (on_line n p)) refl refl (pattern-full Run p is) (λ n. ap (said_of (saids.Pattern Run)) (pattern-again Run n p is))

src_says : (name : List ℕ) (p : SourcePattern) → IsPattern Src p → Says name (codes "srcpattern") (pattern_value p) (λ n. saids.Pattern Src (on_line n p))
unfolding source_key_of
src_says name p is =
    says_full name 115 (codes "rcpattern") (pattern_value p) (keys.Pattern Src) (λ n. saids.Pattern Src (on_line n p)) refl refl (pattern-full Src p is) (λ n. ap (said_of (saids.Pattern Src)) (pattern-again Src n p is))

doc_says : (name : List ℕ) (p : SourcePattern) → IsPattern Doc p → Says name (codes "docpattern") (pattern_value p) (λ n. saids.Pattern Doc (on_line n p))
unfolding source_key_of
doc_says name p is =
    says_full name 100 (codes "ocpattern") (pattern_value p) (keys.Pattern Doc) (λ n. saids.Pattern Doc (on_line n p)) refl refl (pattern-full Doc p is) (λ n. ap (said_of (saids.Pattern Doc)) (pattern-again Doc n p is))

bin_says : (name : List ℕ) (p : SourcePattern) → IsPattern Bin p → Says name (codes "binpattern") (pattern_value p) (λ n. saids.Pattern Bin (on_line n p))
unfolding source_key_of
bin_says name p is =
    says_full name 98 (codes "inpattern") (pattern_value p) (keys.Pattern Bin) (λ n. saids.Pattern Bin (on_line n p)) refl refl (pattern-full Bin p is) (λ n. ap (said_of (saids.Pattern Bin)) (pattern-again Bin n p is))

-- ---- the whole source

abbrev Items : Type 0
Items = List (List ℕ × List ℕ)

abbrev one : List ℕ → List ℕ → Items
one key value = (key, value) ∷ []

abbrev optional : List ℕ → Option (List ℕ) → Items
optional key None = []
optional key (Some value) = one key value

abbrev optionally : (List ℕ → Said) → Option (List ℕ) → List (ℕ → Said)
optionally say None = []
optionally say (Some value) = (λ n. say value) ∷ []

abbrev under : {A : Type 0} → List ℕ → (A → List ℕ) → List A → Items
under key text xs = map (λ x. (key, text x)) xs

abbrev say_value : (List ℕ → Said) → List ℕ → ℕ → Said
say_value say value n = say value

abbrev say_var : List ℕ × List ℕ → ℕ → Said
say_var var n = saids.Variable var.0 var.1

abbrev say_pattern : Section → SourcePattern → ℕ → Said
say_pattern section p n = saids.Pattern section (on_line n p)

-- the keys and values of a source
abbrev last_items : SourceFields → Items
last_items s =
    under (codes "tlpsetvar") var_text s.vars ++ (under (codes "runpattern") pattern_value s.run ++ (under (codes "srcpattern") pattern_value s.src
    ++ (under (codes "docpattern") pattern_value s.doc ++ under (codes "binpattern") pattern_value s.bin)))

abbrev middle_items : SourceFields → Items
middle_items s =
    under (codes "longdesc") (λ v. v) s.longdesc ++ (under (codes "depend") (λ v. v) s.depends ++ (under (codes "execute") (λ v. v) s.executes ++ under (codes "postaction") (λ v. v) s.postactions))

abbrev first_items : SourceFields → Items
first_items s =
    one (codes "name") s.name ++ (one (codes "category") (category_text s.category) ++ (optional (codes "catalogue") s.catalogue ++ optional (codes "shortdesc") s.shortdesc))

-- what they say
abbrev last_saids : SourceFields → List (ℕ → Said)
last_saids s =
    map say_var s.vars ++ (map (say_pattern Run) s.run ++ (map (say_pattern Src) s.src ++ (map (say_pattern Doc) s.doc ++ map (say_pattern Bin) s.bin)))

abbrev middle_saids : SourceFields → List (ℕ → Said)
middle_saids s =
    map (say_value saids.Longdesc) s.longdesc ++ (map (say_value saids.Depend) s.depends ++ (map (say_value saids.Execute) s.executes ++ map (say_value saids.Postaction) s.postactions))

abbrev first_saids : SourceFields → List (ℕ → Said)
first_saids s = (λ n. saids.Name) ∷ (λ n. saids.Category s.category) ∷ (optionally saids.Catalogue s.catalogue ++ optionally saids.Shortdesc s.shortdesc)

catalogue_say : (name : List ℕ) (value : Option (List ℕ)) → IfSome value IsFullValue → AllSay name (optional (codes "catalogue") value) (optionally saids.Catalogue value)
unfolding source_key_of
catalogue_say name None is = tt
catalogue_say name (Some value) is = (says_full name 99 (codes "atalogue") value keys.Catalogue (λ n. saids.Catalogue value) refl refl is (λ n. refl), tt)

shortdesc_say : (name : List ℕ) (value : Option (List ℕ)) → IfSome value IsValue → AllSay name (optional (codes "shortdesc") value) (optionally saids.Shortdesc value)
unfolding source_key_of
shortdesc_say name None is = tt
shortdesc_say name (Some value) is = (says_value name 115 (codes "hortdesc") value keys.Shortdesc (λ n. saids.Shortdesc value) refl refl refl is (λ n. refl), tt)

first_say : (s : SourceFields) → IsSource s → AllSay s.name (first_items s) (first_saids s)
first_say s is = (
  name_says s.name is.name is.allowed,
  (
    category_says s.name s.category,
    say-append s.name (optional (codes "catalogue") s.catalogue) (optional (codes "shortdesc") s.shortdesc) (optionally saids.Catalogue s.catalogue) (optionally saids.Shortdesc s.shortdesc)
        (catalogue_say s.name s.catalogue is.catalogue) (shortdesc_say s.name s.shortdesc is.shortdesc),
  ),
)

middle_say : (s : SourceFields) → IsSource s → AllSay s.name (middle_items s) (middle_saids s)
unfolding source_key_of
middle_say s is =
    say-append s.name (under (codes "longdesc") (λ v. v) s.longdesc) _ (map (say_value saids.Longdesc) s.longdesc) _
    (say-each IsValue s.name (codes "longdesc") (λ v. v) (say_value saids.Longdesc) (λ v i. says_value s.name 108 (codes "ongdesc") v keys.Longdesc (λ n. saids.Longdesc v) refl refl refl i (λ n. refl)) s.longdesc is.longdesc)
    (say-append s.name (under (codes "depend") (λ v. v) s.depends) _ (map (say_value saids.Depend) s.depends) _
    (say-each IsFullValue s.name (codes "depend") (λ v. v) (say_value saids.Depend) (λ v i. says_full s.name 100 (codes "epend") v keys.Depend (λ n. saids.Depend v) refl refl i (λ n. refl)) s.depends is.depends)
    (say-append s.name (under (codes "execute") (λ v. v) s.executes) _ (map (say_value saids.Execute) s.executes) _
    (say-each IsFullValue s.name (codes "execute") (λ v. v) (say_value saids.Execute) (λ v i. says_full s.name 101 (codes "xecute") v keys.Execute (λ n. saids.Execute v) refl refl i (λ n. refl)) s.executes is.executes)
    (say-each IsFullValue s.name (codes "postaction") (λ v. v) (say_value saids.Postaction) (λ v i. says_full s.name 112 (codes "ostaction") v keys.Postaction (λ n. saids.Postaction v) refl refl i (λ n. refl)) s.postactions is.postactions)))

last_say : (s : SourceFields) → IsSource s → AllSay s.name (last_items s) (last_saids s)
last_say s is =
    say-append s.name (under (codes "tlpsetvar") var_text s.vars) _ (map say_var s.vars) _ (say-each IsVar s.name (codes "tlpsetvar") var_text say_var (λ v i. var_says s.name v i) s.vars is.vars)
    (say-append s.name (under (codes "runpattern") pattern_value s.run) _ (map (say_pattern Run) s.run) _
    (say-each (IsPattern Run) s.name (codes "runpattern") pattern_value (say_pattern Run) (λ p i. run_says s.name p i) s.run is.run)
    (say-append s.name (under (codes "srcpattern") pattern_value s.src) _ (map (say_pattern Src) s.src) _
    (say-each (IsPattern Src) s.name (codes "srcpattern") pattern_value (say_pattern Src) (λ p i. src_says s.name p i) s.src is.src)
    (say-append s.name (under (codes "docpattern") pattern_value s.doc) _ (map (say_pattern Doc) s.doc) _
    (say-each (IsPattern Doc) s.name (codes "docpattern") pattern_value (say_pattern Doc) (λ p i. doc_says s.name p i) s.doc is.doc)
    (say-each (IsPattern Bin) s.name (codes "binpattern") pattern_value (say_pattern Bin) (λ p i. bin_says s.name p i) s.bin is.bin))))

abbrev all_items : SourceFields → Items
all_items s = first_items s ++ (middle_items s ++ last_items s)

abbrev all_saids : SourceFields → List (ℕ → Said)
all_saids s = first_saids s ++ (middle_saids s ++ last_saids s)

all_say : (s : SourceFields) → IsSource s → AllSay s.name (all_items s) (all_saids s)
all_say s is =
    say-append s.name (first_items s) (middle_items s ++ last_items s) (first_saids s) (middle_saids s ++ last_saids s) (first_say s is)
    (say-append s.name (middle_items s) (last_items s) (middle_saids s) (last_saids s) (middle_say s is) (last_say s is))

-- ---- its text

abbrev line_text : List ℕ × List ℕ → List ℕ
line_text item = source_line item.0 item.1

one_text : (key value rest : List ℕ) → source_line key value ++ rest ≡ line_of key value ++ 10 ∷ rest
unfolding source_line
one_text key value rest =
    ap (λ (l : List ℕ). l ++ rest) (sym (append_assoc key ((32 ∷ value) ++ guard value) (10 ∷ []) ∙ ap (λ (l : List ℕ). key ++ l) (append_assoc (32 ∷ value) (guard value) (10 ∷ []))))
    ∙ append_assoc (line_of key value) (10 ∷ []) rest

items_text : (items : Items) → flat_map line_text items ≡ text_of (item_lines items)
items_text [] = refl
items_text (item ∷ items) = one_text item.0 item.1 (flat_map line_text items) ∙ ap (λ (l : List ℕ). line_of item.0 item.1 ++ 10 ∷ l) (items_text items)

optional_text : (key : List ℕ) (value : Option (List ℕ)) → optional_line key value ≡ flat_map line_text (optional key value)
optional_text key None = refl
optional_text key (Some value) = sym (append-nil (source_line key value))

first_text : (s : SourceFields) → source_head s ≡ flat_map line_text (first_items s)
unfolding source_head
first_text s =
    ap (λ (l : List ℕ). source_line (codes "name") s.name ++ (source_line (codes "category") (category_text s.category) ++ l))
    (ap (λ (l : List ℕ). l ++ optional_line (codes "shortdesc") s.shortdesc) (optional_text (codes "catalogue") s.catalogue)
    ∙ ap (λ (l : List ℕ). flat_map line_text (optional (codes "catalogue") s.catalogue) ++ l) (optional_text (codes "shortdesc") s.shortdesc)
    ∙ sym (flat_map-append line_text (optional (codes "catalogue") s.catalogue) (optional (codes "shortdesc") s.shortdesc)))

under_text : {A : Type 0} (key : List ℕ) (text : A → List ℕ) (xs : List A) (rest : Items) → flat_map (λ x. source_line key (text x)) xs ++ flat_map line_text rest ≡ flat_map line_text (under key text xs ++ rest)
under_text key text xs rest =
    ap (λ (l : List ℕ). l ++ flat_map line_text rest) (sym (flat_map-map line_text (λ x. (key, text x)) xs)) ∙ sym (flat_map-append line_text (under key text xs) rest)

last_under : {A : Type 0} (key : List ℕ) (text : A → List ℕ) (xs : List A) → flat_map (λ x. source_line key (text x)) xs ≡ flat_map line_text (under key text xs)
last_under key text xs = sym (flat_map-map line_text (λ x. (key, text x)) xs)

middle_text : (s : SourceFields) → source_middle s ≡ flat_map line_text (middle_items s)
unfolding source_middle
middle_text s =
    ap (λ (l : List ℕ). value_lines (codes "longdesc") s.longdesc ++ (value_lines (codes "depend") s.depends ++ (value_lines (codes "execute") s.executes ++ l))) (last_under (codes "postaction") (λ v. v) s.postactions)
    ∙ ap (λ (l : List ℕ). value_lines (codes "longdesc") s.longdesc ++ (value_lines (codes "depend") s.depends ++ l)) (under_text (codes "execute") (λ v. v) s.executes _)
    ∙ ap (λ (l : List ℕ). value_lines (codes "longdesc") s.longdesc ++ l) (under_text (codes "depend") (λ v. v) s.depends _)
    ∙ under_text (codes "longdesc") (λ v. v) s.longdesc _

last_text : (s : SourceFields) → source_tail s ≡ flat_map line_text (last_items s)
unfolding source_tail
last_text s =
    ap (λ (l : List ℕ). var_lines s.vars ++ (pattern_lines (codes "runpattern") s.run ++ (pattern_lines (codes "srcpattern") s.src ++ (pattern_lines (codes "docpattern") s.doc ++ l)))) (last_under (codes "binpattern") pattern_value s.bin)
    ∙ ap (λ (l : List ℕ). var_lines s.vars ++ (pattern_lines (codes "runpattern") s.run ++ (pattern_lines (codes "srcpattern") s.src ++ l))) (under_text (codes "docpattern") pattern_value s.doc _)
    ∙ ap (λ (l : List ℕ). var_lines s.vars ++ (pattern_lines (codes "runpattern") s.run ++ l)) (under_text (codes "srcpattern") pattern_value s.src _)
    ∙ ap (λ (l : List ℕ). var_lines s.vars ++ l) (under_text (codes "runpattern") pattern_value s.run _)
    ∙ under_text (codes "tlpsetvar") var_text s.vars _

whole_text : (s : SourceFields) → source_text s ≡ text_of (item_lines (all_items s))
whole_text s =
    ap (λ (l : List ℕ). l ++ (source_middle s ++ source_tail s)) (first_text s)
    ∙ ap (λ (l : List ℕ). flat_map line_text (first_items s) ++ l) (ap (λ (l : List ℕ). l ++ source_tail s) (middle_text s) ∙ ap (λ (l : List ℕ). flat_map line_text (middle_items s) ++ l) (last_text s)
    ∙ sym (flat_map-append line_text (middle_items s) (last_items s)))
    ∙ sym (flat_map-append line_text (first_items s) (middle_items s ++ last_items s))
    ∙ items_text (all_items s)

-- ---- its fields

step : (s after : SourceFields) (n : ℕ) (saids others : List (ℕ → Said)) → put_all s n saids ≡ after → put_all s n (saids ++ others) ≡ put_all after (n + length saids) others
step s after n saids others is = put-append s n saids others ∙ ap (λ (t : SourceFields). put_all t (n + length saids) others) is

catalogue_put : (s : SourceFields) (n : ℕ) (value : Option (List ℕ)) → s.catalogue ≡ None → put_all s n (optionally saids.Catalogue value) ≡ record s { catalogue = value }
catalogue_put s n None none = sym (ap (λ (o : Option (List ℕ)). record s { catalogue = o }) (sym none))
catalogue_put s n (Some value) none = refl

shortdesc_put : (s : SourceFields) (n : ℕ) (value : Option (List ℕ)) → s.shortdesc ≡ None → put_all s n (optionally saids.Shortdesc value) ≡ record s { shortdesc = value }
shortdesc_put s n None none = sym (ap (λ (o : Option (List ℕ)). record s { shortdesc = o }) (sym none))
shortdesc_put s n (Some value) none = refl

vars_put : (s : SourceFields) (n : ℕ) (vars : List (List ℕ × List ℕ)) → put_all s n (map say_var vars) ≡ record s { vars = fold (λ vs var. insert_entry bytes_eq vs var.0 var.1) s.vars vars }
vars_put s n [] = refl
vars_put s n (var ∷ vars) = vars_put (record s { vars = insert_entry bytes_eq s.vars var.0 var.1 }) (n + 1) vars

longdesc_put : (s : SourceFields) (n : ℕ) (values : List (List ℕ)) → put_all s n (map (say_value saids.Longdesc) values) ≡ record s { longdesc = s.longdesc ++ values }
longdesc_put s n values =
    put-field (λ s. s.longdesc) (λ s ys. record s { longdesc = ys }) (say_value saids.Longdesc) (λ n x. x) (λ s x n. refl) (λ s ys. refl) (λ s ys zs. refl) (λ s. refl) s n values
    ∙ ap (λ (ys : List (List ℕ)). record s { longdesc = s.longdesc ++ ys }) (unnumbered-same n values)

depends_put : (s : SourceFields) (n : ℕ) (values : List (List ℕ)) → put_all s n (map (say_value saids.Depend) values) ≡ record s { depends = s.depends ++ values }
depends_put s n values =
    put-field (λ s. s.depends) (λ s ys. record s { depends = ys }) (say_value saids.Depend) (λ n x. x) (λ s x n. refl) (λ s ys. refl) (λ s ys zs. refl) (λ s. refl) s n values
    ∙ ap (λ (ys : List (List ℕ)). record s { depends = s.depends ++ ys }) (unnumbered-same n values)

executes_put : (s : SourceFields) (n : ℕ) (values : List (List ℕ)) → put_all s n (map (say_value saids.Execute) values) ≡ record s { executes = s.executes ++ values }
executes_put s n values =
    put-field (λ s. s.executes) (λ s ys. record s { executes = ys }) (say_value saids.Execute) (λ n x. x) (λ s x n. refl) (λ s ys. refl) (λ s ys zs. refl) (λ s. refl) s n values
    ∙ ap (λ (ys : List (List ℕ)). record s { executes = s.executes ++ ys }) (unnumbered-same n values)

postactions_put : (s : SourceFields) (n : ℕ) (values : List (List ℕ)) → put_all s n (map (say_value saids.Postaction) values) ≡ record s { postactions = s.postactions ++ values }
postactions_put s n values =
    put-field (λ s. s.postactions) (λ s ys. record s { postactions = ys }) (say_value saids.Postaction) (λ n x. x) (λ s x n. refl) (λ s ys. refl) (λ s ys zs. refl) (λ s. refl) s n values
    ∙ ap (λ (ys : List (List ℕ)). record s { postactions = s.postactions ++ ys }) (unnumbered-same n values)

run_put : (s : SourceFields) (n : ℕ) (ps : List SourcePattern) → put_all s n (map (say_pattern Run) ps) ≡ record s { run = s.run ++ numbered on_line n ps }
run_put s n ps = put-field (λ s. s.run) (λ s ys. record s { run = ys }) (say_pattern Run) on_line (λ s x n. refl) (λ s ys. refl) (λ s ys zs. refl) (λ s. refl) s n ps

src_put : (s : SourceFields) (n : ℕ) (ps : List SourcePattern) → put_all s n (map (say_pattern Src) ps) ≡ record s { src = s.src ++ numbered on_line n ps }
src_put s n ps = put-field (λ s. s.src) (λ s ys. record s { src = ys }) (say_pattern Src) on_line (λ s x n. refl) (λ s ys. refl) (λ s ys zs. refl) (λ s. refl) s n ps

doc_put : (s : SourceFields) (n : ℕ) (ps : List SourcePattern) → put_all s n (map (say_pattern Doc) ps) ≡ record s { doc = s.doc ++ numbered on_line n ps }
doc_put s n ps = put-field (λ s. s.doc) (λ s ys. record s { doc = ys }) (say_pattern Doc) on_line (λ s x n. refl) (λ s ys. refl) (λ s ys zs. refl) (λ s. refl) s n ps

bin_put : (s : SourceFields) (n : ℕ) (ps : List SourcePattern) → put_all s n (map (say_pattern Bin) ps) ≡ record s { bin = s.bin ++ numbered on_line n ps }
bin_put s n ps = put-field (λ s. s.bin) (λ s ys. record s { bin = ys }) (say_pattern Bin) on_line (λ s x n. refl) (λ s ys. refl) (λ s ys zs. refl) (λ s. refl) s n ps

unplaced-numbered : (n : ℕ) (ps : List SourcePattern) → unplaced (numbered on_line n ps) ≡ unplaced ps
unplaced-numbered n [] = refl
unplaced-numbered n (p ∷ ps) = ap (λ (qs : List SourcePattern). record p { line = 0 } ∷ qs) (unplaced-numbered (n + 1) ps)

first_left : (s : SourceFields) → put_all (fields_of s.name []) 1 (first_saids s) ≡ record (fields_of s.name []) { category = s.category; catalogue = s.catalogue; shortdesc = s.shortdesc }
first_left s =
    let start = record (fields_of s.name []) { category = s.category } in
    step start (record start { catalogue = s.catalogue }) 3 (optionally saids.Catalogue s.catalogue) (optionally saids.Shortdesc s.shortdesc) (catalogue_put start 3 s.catalogue refl)
    ∙ shortdesc_put (record start { catalogue = s.catalogue }) (3 + length (optionally saids.Catalogue s.catalogue)) s.shortdesc refl

middle_left : (t s : SourceFields) (n : ℕ) → put_all t n (middle_saids s)
    ≡ record t { longdesc = t.longdesc ++ s.longdesc; depends = t.depends ++ s.depends; executes = t.executes ++ s.executes; postactions = t.postactions ++ s.postactions }
middle_left t s n =
    step t _ n (map (say_value saids.Longdesc) s.longdesc) _ (longdesc_put t n s.longdesc)
    ∙ step _ _ _ (map (say_value saids.Depend) s.depends) _ (depends_put _ _ s.depends)
    ∙ step _ _ _ (map (say_value saids.Execute) s.executes) _ (executes_put _ _ s.executes)
    ∙ postactions_put _ _ s.postactions

-- the fields after the last lines
record LastLeft (t s : SourceFields) (n : ℕ) : Type 0 where
  at_run : ℕ
  at_src : ℕ
  at_doc : ℕ
  at_bin : ℕ
  left : put_all t n (last_saids s) ≡ record t {
    vars = fold (λ vs var. insert_entry bytes_eq vs var.0 var.1) t.vars s.vars;
    run = t.run ++ numbered on_line at_run s.run;
    src = t.src ++ numbered on_line at_src s.src;
    doc = t.doc ++ numbered on_line at_doc s.doc;
    bin = t.bin ++ numbered on_line at_bin s.bin;
  }

last_left : (t s : SourceFields) (n : ℕ) → LastLeft t s n
last_left t s n =
    let run = n + length (map say_var s.vars) in
    let src = run + length (map (say_pattern Run) s.run) in
    let doc = src + length (map (say_pattern Src) s.src) in
    let bin = doc + length (map (say_pattern Doc) s.doc) in
    record {
      at_run = run;
      at_src = src;
      at_doc = doc;
      at_bin = bin;
      left = step t _ n (map say_var s.vars) _ (vars_put t n s.vars)
          ∙ step _ _ run (map (say_pattern Run) s.run) _ (run_put _ run s.run)
          ∙ step _ _ src (map (say_pattern Src) s.src) _ (src_put _ src s.src)
          ∙ step _ _ doc (map (say_pattern Doc) s.doc) _ (doc_put _ doc s.doc)
          ∙ bin_put _ bin s.bin;
    }

-- the text of a source reads as the source again, but for line numbers
pub reads-again : (s : SourceFields) → IsSource s → ReadsAgain s (source_text s)
reads-again s is =
    let start = record (fields_of s.name []) { category = s.category; catalogue = s.catalogue; shortdesc = s.shortdesc } in
    let after = record start { longdesc = s.longdesc; depends = s.depends; executes = s.executes; postactions = s.postactions } in
    let first_number = 1 + length (first_saids s) in
    let last_number = first_number + length (middle_saids s) in
    let last = last_left after s last_number in
    let placed = record s { run = numbered on_line last.at_run s.run; src = numbered on_line last.at_src s.src; doc = numbered on_line last.at_doc s.doc; bin = numbered on_line last.at_bin s.bin } in
    record {
      read = placed;
      reads = ap (source_of s.name) (whole_text s)
          ∙ ap (λ t. cond (t && not (list_any is_name_line (joined_lines (text_of (item_lines (all_items s)))))) (nameless s.name (joined_lines (text_of (item_lines (all_items s)))))
          (fields_read s.name (joined_lines (text_of (item_lines (all_items s)))))) is.allowed
          ∙ items_read s.name (all_items s) (all_saids s) (all_say s is)
          ∙ ap Ok (step (fields_of s.name []) start 1 (first_saids s) (middle_saids s ++ last_saids s) (first_left s)
          ∙ step start after first_number (middle_saids s) (last_saids s) (middle_left start s first_number)
          ∙ last.left
          ∙ ap (λ (vs : List (List ℕ × List ℕ)). record placed { vars = vs }) is.once);
      same = ap (λ (ps : List SourcePattern). record (less_lines placed) { run = ps }) (unplaced-numbered last.at_run s.run)
          ∙ ap (λ (ps : List SourcePattern). record (less_lines placed) { run = unplaced s.run; src = ps }) (unplaced-numbered last.at_src s.src)
          ∙ ap (λ (ps : List SourcePattern). record (less_lines placed) { run = unplaced s.run; src = unplaced s.src; doc = ps }) (unplaced-numbered last.at_doc s.doc)
          ∙ ap (λ (ps : List SourcePattern). record (less_lines s) { bin = ps }) (unplaced-numbered last.at_bin s.bin);
    }
