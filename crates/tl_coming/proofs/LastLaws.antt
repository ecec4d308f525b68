-- The greatest numbers of parts with files that touch a path.
use Rattle.std.proofs.Common.{◌≡◌, ◌≢◌, ◌⊎◌, ◌<◌, ◌≤◌, ◌+◌, ℕ, zero, suc, Bool, true, false, cond, ◌||◌, ◌&&◌, List, [], ◌∷◌, ◌++◌, length, get_or, take, drop, map, Option, Some, Vec, refl, sym, ap, subst, ◌∙◌, arith, nat_eq, inl, inr}
use Rattle.std.specs.Prelude.{filter, nat_lt, max, unwrap_or}
use Rattle.std.specs.List.{list_any, flat_map}
use Rattle.std.specs.Str.{bytes_eq}
use Rattle.std.specs.Cmp.{IsEquivalence}
use Rattle.std.specs.Cmp.Lexicographic.{nat_list_eq_equiv, pointwise, texts_ties}
use Rattle.std.specs.Map.{lookup}
use Rattle.std.specs.declared.alloc.Global.{Global}
use Rattle.std.proofs.lemmas.Bool.{cases_Bool, true≢false, lt-ltb}
use Rattle.std.proofs.lemmas.Bool.Decides.{nat_tests}
use Rattle.std.proofs.lemmas.List.{append_assoc, map-append, length-take-le}
use Rattle.std.proofs.Math.Seq.{take-suc}
use Rattle.std.proofs.lemmas.List.Folds.{list_any-append}
use Rattle.indexmap.specs.IndexMap.{IndexMap, insert_entry}
use Rattle.tl_path.specs.Components.{is_below, is_touching}
use Rattle.tl_entry.specs.declared.object.Object.{Object}
use Rattle.tl_touch.proofs.Fronts.{HasFront, front_of, below_front}
use Rattle.tl_touch.proofs.Touching.{bytes_same, any_either}
use Rattle.tl_coming.specs.Parts.{part_name, files_with}
use Rattle.tl_coming.proofs.ClashLaws.{any_filter}
use Rattle.tl_plan.proofs.SetLaws.{any_alike, any_flat}
use Rattle.tl_tree.specs.Changes.{own}
use Rattle.tl_model.specs.Volume.{same_name}
use Rattle.tl_coming.specs.Lasts.{Noted, AreNoted, AreNumbered, AreLast, number_at, is_noted, ends_at, names_from, files_noted}
use Rattle.tl_coming.specs.declared.lasts.Lasts.{Lasts}
use Rattle.tl_coming.specs.declared.part.PlanPart.{PlanPart}

abbrev Texts : Type 0
Texts = List (List ℕ)

abbrev Key : Type 0
Key = Vec ℕ Global

bytes_refl : (a : List ℕ) → bytes_eq a a ≡ true
bytes_refl a = let laws : IsEquivalence bytes_eq = nat_list_eq_equiv in laws.refl a

bytes_flip : (a b : List ℕ) → bytes_eq a b ≡ bytes_eq b a
bytes_flip a b = let laws : IsEquivalence bytes_eq = nat_list_eq_equiv in laws.symm a b

pub lt_max : (l a b : ℕ) → nat_lt l (max a b) ≡ (nat_lt l a || nat_lt l b)
lt_max l a b = grind (arith, nat_tests)

or_nil : (t : Bool) → (t || false) ≡ t
or_nil true = refl
or_nil false = refl

and_false : (t : Bool) → (t && false) ≡ false
and_false true = refl
and_false false = refl

-- what is found at a text
abbrev found_at : List ℕ → List (Key × ℕ) → Option ℕ
found_at x es = lookup (λ (key : Key). bytes_eq x key.items) es

abbrev with_number : List (Key × ℕ) → Key → ℕ → List (Key × ℕ)
with_number es k v = insert_entry (λ (a b : Key). pointwise nat_eq a.items b.items) es k v

twice : (b : Bool) (p q r : Option ℕ) → cond b p r ≡ cond b p (cond b q r)
twice true p q r = refl
twice false p q r = refl

swapped : (a b : Bool) (p q r : Option ℕ) → (a ≡ true → b ≡ true → ⊥) → cond b q (cond a p r) ≡ cond a p (cond b q r)
swapped true true p q r apart = absurd (apart refl refl)
swapped true false p q r apart = refl
swapped false true p q r apart = refl
swapped false false p q r apart = refl

-- what a map of numbers has at a text after one was put at another
put_at : (es : List (Key × ℕ)) (k : Key) (v : ℕ) (x : List ℕ) → found_at x (with_number es k v) ≡ cond (bytes_eq x k.items) (Some v) (found_at x es)
put_at [] k v x = refl
put_at (e ∷ es) k v x = by (cases_Bool (pointwise nat_eq k.items e.0.items)) (put_at es k v x)
  where
    by : (pointwise nat_eq k.items e.0.items ≡ true) ⊎ (pointwise nat_eq k.items e.0.items ≡ false)
        → found_at x (with_number es k v) ≡ cond (bytes_eq x k.items) (Some v) (found_at x es)
        → found_at x (cond (pointwise nat_eq k.items e.0.items) ((e.0, v) ∷ es) (e ∷ with_number es k v)) ≡ cond (bytes_eq x k.items) (Some v) (found_at x (e ∷ es))
    by (inl same) rest =
        let is : k.items ≡ e.0.items = bytes_same k.items e.0.items same in
        ap (λ t. found_at x (cond t ((e.0, v) ∷ es) (e ∷ with_number es k v))) same
        ∙ twice (bytes_eq x e.0.items) (Some v) (Some e.1) (found_at x es)
        ∙ ap (λ (t : List ℕ). cond (bytes_eq x t) (Some v) (found_at x (e ∷ es))) (sym is)
    by (inr apart) rest =
        ap (λ t. found_at x (cond t ((e.0, v) ∷ es) (e ∷ with_number es k v))) apart
        ∙ ap (λ (o : Option ℕ). cond (bytes_eq x e.0.items) (Some e.1) o) rest
        ∙ swapped (bytes_eq x k.items) (bytes_eq x e.0.items) (Some v) (Some e.1) (found_at x es)
        (λ at_k at_e. true≢false (sym (ap (λ (t : List ℕ). pointwise nat_eq t e.0.items) (sym (bytes_same x k.items at_k)) ∙ at_e) ∙ apart))

-- the number at a text, after one was noted at another
pub noted_at : (es more : List (Key × ℕ)) (k : Key) (text : List ℕ) (number greater : ℕ) → k.items ≡ text → greater ≡ max number (unwrap_or (found_at text es) 0) → more ≡ with_number es k greater
    → (least : ℕ) (other : List ℕ) → nat_lt least (unwrap_or (found_at other more) 0) ≡ (nat_lt least (unwrap_or (found_at other es) 0) || (nat_lt least number && bytes_eq other text))
noted_at es more k text number greater key is put least other =
    ap (λ (l : List (Key × ℕ)). nat_lt least (unwrap_or (found_at other l) 0)) put
    ∙ ap (λ (o : Option ℕ). nat_lt least (unwrap_or o 0)) (put_at es k greater other ∙ ap (λ (t : List ℕ). cond (bytes_eq other t) (Some greater) (found_at other es)) key)
    ∙ by (cases_Bool (bytes_eq other text))
  where
    flip : (a b : Bool) → (a || b) ≡ (b || (a && true))
    flip true true = refl
    flip true false = refl
    flip false true = refl
    flip false false = refl

    drops : (a b : Bool) → a ≡ (a || (b && false))
    drops true b = refl
    drops false true = refl
    drops false false = refl

    by : (bytes_eq other text ≡ true) ⊎ (bytes_eq other text ≡ false)
        → nat_lt least (unwrap_or (cond (bytes_eq other text) (Some greater) (found_at other es)) 0)
        ≡ (nat_lt least (unwrap_or (found_at other es) 0) || (nat_lt least number && bytes_eq other text))
    by (inl same) =
        let here : other ≡ text = bytes_same other text same in
        ap (λ t. nat_lt least (unwrap_or (cond t (Some greater) (found_at other es)) 0)) same
        ∙ ap (nat_lt least) is ∙ lt_max least number (unwrap_or (found_at text es) 0)
        ∙ ap (λ (t : List ℕ). nat_lt least number || nat_lt least (unwrap_or (found_at t es) 0)) (sym here)
        ∙ flip (nat_lt least number) (nat_lt least (unwrap_or (found_at other es) 0))
        ∙ ap (λ t. nat_lt least (unwrap_or (found_at other es) 0) || (nat_lt least number && t)) (sym same)
    by (inr apart) =
        ap (λ t. nat_lt least (unwrap_or (cond t (Some greater) (found_at other es)) 0)) apart
        ∙ drops (nat_lt least (unwrap_or (found_at other es) 0)) (nat_lt least number)
        ∙ ap (λ t. nat_lt least (unwrap_or (found_at other es) 0) || (nat_lt least number && t)) (sym apart)

-- whether a folder that a path is below has less than so many bytes
abbrev pub is_front : List ℕ → ℕ → List ℕ → Bool
is_front path end folder = nat_lt (length folder) end && is_below path folder

-- the next folder: where a '/' stands
front_slash : (path folder : List ℕ) (end : ℕ) → end < length path → get_or path end 0 ≡ 47 → is_front path (end + 1) folder ≡ (is_front path end folder || bytes_eq folder (take end path))
front_slash path folder end less slash = by (cases_Bool (bytes_eq folder (take end path)))
  where
    whole : length (take end path) ≡ end
    whole = length-take-le end path (omega (arith, less))

    off_end : bytes_eq folder (take end path) ≡ false → is_below path folder ≡ true → length folder ≡ end → ⊥
    off_end apart below is =
        let front : HasFront folder path = front_of folder path below in
        let same : take end path ≡ folder = ap (λ (n : ℕ). take n path) (sym is) ∙ front.front in
        true≢false (sym (ap (bytes_eq folder) same ∙ bytes_refl folder) ∙ apart)

    still : (below : Bool) → (below ≡ true → length folder ≡ end → ⊥) → (nat_lt (length folder) (end + 1) && below) ≡ ((nat_lt (length folder) end && below) || false)
    still false none = and_false (nat_lt (length folder) (end + 1)) ∙ sym (or_nil _ ∙ and_false (nat_lt (length folder) end))
    still true none = let n : length folder ≢ end = none refl in grind (arith, nat_tests)

    or_true : (a : Bool) → (a || true) ≡ true
    or_true true = refl
    or_true false = refl

    by : (bytes_eq folder (take end path) ≡ true) ⊎ (bytes_eq folder (take end path) ≡ false) → is_front path (end + 1) folder ≡ (is_front path end folder || bytes_eq folder (take end path))
    by (inl same) =
        let is : folder ≡ take end path = bytes_same folder (take end path) same in
        let below : is_below path folder ≡ true = ap (is_below path) is ∙ below_front path end less slash in
        let size : length folder ≡ end = ap length is ∙ whole in
        let short : nat_lt (length folder) (end + 1) ≡ true = lt-ltb (length folder) (end + 1) (omega (arith, size)) in
        ap (λ t. t && is_below path folder) short ∙ below ∙ sym (or_true (is_front path end folder)) ∙ ap (λ t. is_front path end folder || t) (sym same)
    by (inr apart) = still (is_below path folder) (off_end apart) ∙ ap (λ t. is_front path end folder || t) (sym apart)

-- the same where none stands
front_same : (path folder : List ℕ) (end : ℕ) → get_or path end 0 ≢ 47 → is_front path (end + 1) folder ≡ is_front path end folder
front_same path folder end other = still (is_below path folder) refl
  where
    still : (below : Bool) → is_below path folder ≡ below → (nat_lt (length folder) (end + 1) && below) ≡ (nat_lt (length folder) end && below)
    still false is = and_false (nat_lt (length folder) (end + 1)) ∙ sym (and_false (nat_lt (length folder) end))
    still true is =
        let front : HasFront folder path = front_of folder path is in
        let apart : length folder ≢ end = λ same. other (ap (λ (n : ℕ). get_or path n 0) (sym same) ∙ front.slash) in
        grind (arith, nat_tests)

-- the next folder
pub front_next : (path folder : List ℕ) (end : ℕ) → end < length path → is_front path (end + 1) folder ≡ (is_front path end folder || ends_at path end folder)
front_next path folder end less = elim (cases_Bool (nat_eq (get_or path end 0) 47)) [
  | inl slash ↦ front_slash path folder end less (grind (arith, nat_tests)) ∙ ap (λ t. is_front path end folder || (t && bytes_eq folder (take end path))) (sym slash)
  | inr other ↦ front_same path folder end (grind (arith, nat_tests)) ∙ sym (or_nil (is_front path end folder)) ∙ ap (λ t. is_front path end folder || (t && bytes_eq folder (take end path))) (sym other)
]

-- all folders that a path is below
pub front_all : (path folder : List ℕ) (end : ℕ) → length path ≤ end → is_front path end folder ≡ is_below path folder
front_all path folder end far = by (cases_Bool (is_below path folder))
  where
    by : (is_below path folder ≡ true) ⊎ (is_below path folder ≡ false) → is_front path end folder ≡ is_below path folder
    by (inl is) =
        let front : HasFront folder path = front_of folder path is in
        let less = front.shorter in
        ap (λ t. t && is_below path folder) (lt-ltb (length folder) end (omega (arith, less, far)))
    by (inr off) = ap (λ t. nat_lt (length folder) end && t) off ∙ and_false (nat_lt (length folder) end) ∙ sym off

pub front_none : (path folder : List ℕ) → is_front path 0 folder ≡ false
front_none path folder = let e : nat_lt (length folder) 0 ≡ false = grind (arith, nat_tests) in ap (λ t. t && is_below path folder) e

-- noted beside what was noted before
pub joined_next : (old number front here : Bool) → ((old || (number && front)) || (number && here)) ≡ (old || (number && (front || here)))
joined_next true number front here = refl
joined_next false true true here = refl
joined_next false true false here = refl
joined_next false false front here = refl

-- what is noted by tests that agree, and by one of two
pub noted_alike : (least : ℕ) (p q : List ℕ → Bool) (noted : List Noted) → ((f : List ℕ) → p f ≡ q f) → is_noted least p noted ≡ is_noted least q noted
noted_alike least p q [] alike = refl
noted_alike least p q (n ∷ noted) alike = ap (λ t. (nat_lt least n.0 && t) || is_noted least p noted) (alike n.1) ∙ ap (λ t. (nat_lt least n.0 && q n.1) || t) (noted_alike least p q noted alike)

pub noted_either : (least : ℕ) (p q : List ℕ → Bool) (noted : List Noted) → is_noted least (λ f. p f || q f) noted ≡ (is_noted least p noted || is_noted least q noted)
noted_either least p q [] = refl
noted_either least p q (n ∷ noted) =
    ap (λ t. (nat_lt least n.0 && (p n.1 || q n.1)) || t) (noted_either least p q noted)
    ∙ regroup (nat_lt least n.0) (p n.1) (q n.1) (is_noted least p noted) (is_noted least q noted)
  where
    regroup : (n a b c d : Bool) → ((n && (a || b)) || (c || d)) ≡ (((n && a) || c) || ((n && b) || d))
    regroup false a b c d = refl
    regroup true true b c d = refl
    regroup true false true true d = refl
    regroup true false true false d = refl
    regroup true false false c d = refl

pub noted_none : (least : ℕ) (noted : List Noted) → is_noted least (λ f. false) noted ≡ false
noted_none least [] = refl
noted_none least (n ∷ noted) = ap (λ t. t || is_noted least (λ f. false) noted) (and_false (nat_lt least n.0)) ∙ noted_none least noted

-- one more is noted
pub noted_more : (least : ℕ) (p : List ℕ → Bool) (noted : List Noted) (number : ℕ) (file : List ℕ) → is_noted least p (noted ++ (number, file) ∷ []) ≡ (is_noted least p noted || (nat_lt least number && p file))
noted_more least p noted number file =
    list_any-append (λ (n : Noted). nat_lt least n.0 && p n.1) noted ((number, file) ∷ []) ∙ ap (λ t. is_noted least p noted || t) (or_nil (nat_lt least number && p file))

-- several files of one number are noted
pub noted_files : (least number : ℕ) (p : List ℕ → Bool) (files : Texts) → is_noted least p (map (λ (f : List ℕ). (number, f)) files) ≡ (nat_lt least number && list_any p files)
noted_files least number p [] = sym (and_false (nat_lt least number))
noted_files least number p (f ∷ files) = ap (λ b. (nat_lt least number && p f) || b) (noted_files least number p files) ∙ out (nat_lt least number) (p f) (list_any p files)
  where
    out : (t a b : Bool) → ((t && a) || (t && b)) ≡ (t && (a || b))
    out true a b = refl
    out false a b = refl

pub noted-append : (least : ℕ) (p : List ℕ → Bool) (xs ys : List Noted) → is_noted least p (xs ++ ys) ≡ (is_noted least p xs || is_noted least p ys)
noted-append least p xs ys = list_any-append (λ (n : Noted). nat_lt least n.0 && p n.1) xs ys

-- files of the number 0 aren't noted
pub noted_zero : (least : ℕ) (p : List ℕ → Bool) (noted : List Noted) (files : Texts) → is_noted least p (noted ++ map (λ (f : List ℕ). (0, f)) files) ≡ is_noted least p noted
noted_zero least p noted files =
    let none : nat_lt least 0 ≡ false = grind (arith, nat_tests) in
    noted-append least p noted (map (λ (f : List ℕ). (0, f)) files)
    ∙ ap (λ b. is_noted least p noted || b) (noted_files least 0 p files ∙ ap (λ t. t && list_any p files) none) ∙ or_nil (is_noted least p noted)

-- the names of a plan's first parts and of one more
pub names_more : (number : ℕ) (plan : List PlanPart) (part : PlanPart) → names_from number (plan ++ part ∷ []) ≡ names_from number plan ++ (number + length plan, part_name part) ∷ []
names_more number [] part = let e : number ≡ number + 0 = omega arith in ap (λ (n : ℕ). (n, part_name part) ∷ []) e
names_more number (p ∷ plan) part =
    ap (λ (l : List Noted). (number, part_name p) ∷ l) (names_more (number + 1) plan part
    ∙ (let e : number + 1 + length plan ≡ number + suc (length plan) = omega arith in ap (λ (n : ℕ). names_from (number + 1) plan ++ (n, part_name part) ∷ []) e))

-- what is noted of names behind a place
named_behind : (p : List ℕ → Bool) (plan : List PlanPart) (before place : ℕ) → is_noted (before + place) p (names_from (before + 1) plan) ≡ list_any p (map part_name (drop place plan))
named_behind p [] before zero = refl
named_behind p [] before (suc place) = refl
named_behind p (part ∷ plan) before zero =
    let less : nat_lt (before + 0) (before + 1) ≡ true = grind (arith, nat_tests) in
    ap (λ t. (t && p (part_name part)) || is_noted (before + 0) p (names_from (before + 1 + 1) plan)) less
    ∙ ap (λ b. p (part_name part) || b)
    ((let e : before + 0 ≡ before = omega arith in ap (λ (n : ℕ). is_noted n p (names_from (before + 1 + 1) plan)) e) ∙ later plan (before + 1) before (omega arith))
  where
    later : (plan : List PlanPart) (number least : ℕ) → least < number + 1 → is_noted least p (names_from (number + 1) plan) ≡ list_any p (map part_name plan)
    later [] number least less = refl
    later (part ∷ plan) number least less =
        ap (λ t. (t && p (part_name part)) || is_noted least p (names_from (number + 1 + 1) plan)) (lt-ltb least (number + 1) less)
        ∙ ap (λ b. p (part_name part) || b) (later plan (number + 1) least (omega (arith, less)))
named_behind p (part ∷ plan) before (suc place) =
    let off : nat_lt (before + suc place) (before + 1) ≡ false = grind (arith, nat_tests) in
    ap (λ t. (t && p (part_name part)) || is_noted (before + suc place) p (names_from (before + 1 + 1) plan)) off
    ∙ (let e : before + suc place ≡ before + 1 + place = omega arith in ap (λ (n : ℕ). is_noted n p (names_from (before + 1 + 1) plan)) e)
    ∙ named_behind p plan (before + 1) place

-- what entries of one of some parts' packages pass, entry by entry
exchanged : (test : Object → Bool) (plan : List PlanPart) (db : List Object)
    → list_any (λ (part : PlanPart). list_any (λ (o : Object). same_name o.name (part_name part) && test o) db) plan
    ≡ list_any (λ (o : Object). list_any (bytes_eq o.name) (map part_name plan) && test o) db
exchanged test [] db = sym (none db)
  where
    none : (os : List Object) → list_any (λ (o : Object). false && test o) os ≡ false
    none [] = refl
    none (o ∷ os) = none os
exchanged test (part ∷ plan) db =
    ap (λ b. list_any (λ (o : Object). same_name o.name (part_name part) && test o) db || b) (exchanged test plan db)
    ∙ sym (any_either (λ (o : Object). same_name o.name (part_name part) && test o) (λ (o : Object). list_any (bytes_eq o.name) (map part_name plan) && test o) db)
    ∙ any_alike _ _ db (λ o. out (same_name o.name (part_name part)) (list_any (bytes_eq o.name) (map part_name plan)) (test o)
    ∙ ap (λ b. (b || list_any (bytes_eq o.name) (map part_name plan)) && test o) (sym (texts_ties o.name (part_name part))))
  where
    out : (a b t : Bool) → ((a && t) || (b && t)) ≡ ((a || b) && t)
    out true true true = refl
    out true true false = refl
    out true false true = refl
    out true false false = refl
    out false b t = refl

-- what is noted of the files of entries behind a place of a plan
pub files_behind : (db : List Object) (plan : List PlanPart) (number : List ℕ → ℕ) → ((least : ℕ) (name : List ℕ) → nat_lt least (number name) ≡ is_noted least (bytes_eq name) (names_from 1 plan))
    → (least : ℕ) (test : List ℕ → Bool) → is_noted least test (files_noted number db) ≡ list_any test (flat_map (files_with db) (drop least plan))
files_behind db plan number numbered least test =
    by_entry db
    ∙ sym (exchanged (λ (o : Object). list_any test (own o)) (drop least plan) db)
    ∙ any_alike _ _ (drop least plan) (λ part.
    sym (any_flat test own (filter (λ (o : Object). same_name o.name (part_name part)) db) ∙ any_filter (λ (o : Object). list_any test (own o)) (λ (o : Object). same_name o.name (part_name part)) db))
    ∙ sym (any_flat test (files_with db) (drop least plan))
  where
    by_entry : (os : List Object) → is_noted least test (files_noted number os) ≡ list_any (λ (o : Object). list_any (bytes_eq o.name) (map part_name (drop least plan)) && list_any test (own o)) os
    by_entry [] = refl
    by_entry (o ∷ os) =
        noted-append least test (map (λ (f : List ℕ). (number o.name, f)) (own o)) (files_noted number os)
        ∙ ap (λ b. b || is_noted least test (files_noted number os)) (noted_files least (number o.name) test (own o)
        ∙ ap (λ t. t && list_any test (own o)) (numbered least o.name
        ∙ (let e : least ≡ 0 + least = omega arith in ap (λ (n : ℕ). is_noted n (bytes_eq o.name) (names_from 1 plan)) e) ∙ named_behind (bytes_eq o.name) plan 0 least))
        ∙ ap (λ b. (list_any (bytes_eq o.name) (map part_name (drop least plan)) && list_any test (own o)) || b) (by_entry os)

-- ---- what each call notes

pub front_start : (a b : Bool) (path folder : List ℕ) → a ≡ (a || (b && is_front path 0 folder))
front_start a b path folder = drops a b ∙ ap (λ t. a || (b && t)) (sym (front_none path folder))
  where
    drops : (a b : Bool) → a ≡ (a || (b && false))
    drops true b = refl
    drops false true = refl
    drops false false = refl

-- a file is noted
pub file_noted : (old new : Lasts) (noted : List Noted) (number : ℕ) (file at below : List ℕ) → at ≡ file → below ≡ file
    → ((least : ℕ) (other : List ℕ) → nat_lt least (number_at new.files other) ≡ (nat_lt least (number_at old.files other) || (nat_lt least number && bytes_eq other at)))
    → ((least : ℕ) (folder : List ℕ) → nat_lt least (number_at new.folders folder) ≡ (nat_lt least (number_at old.folders folder) || (nat_lt least number && is_below below folder)))
    → AreNoted noted old → AreNoted (noted ++ (number, file) ∷ []) new
file_noted old new noted number file at below at_is below_is files folders are = record {
  files = λ least path. files least path ∙ ap (λ b. b || (nat_lt least number && bytes_eq path at)) (are.files least path)
      ∙ ap (λ (t : List ℕ). is_noted least (bytes_eq path) noted || (nat_lt least number && bytes_eq path t)) at_is ∙ sym (noted_more least (bytes_eq path) noted number file);
  folders = λ least folder. folders least folder ∙ ap (λ b. b || (nat_lt least number && is_below below folder)) (are.folders least folder)
      ∙ ap (λ (t : List ℕ). is_noted least (λ f. is_below f folder) noted || (nat_lt least number && is_below t folder)) below_is ∙ sym (noted_more least (λ f. is_below f folder) noted number file);
}

no_more : (l : List Noted) → l ++ [] ≡ l
no_more [] = refl
no_more (x ∷ l) = ap (λ (r : List Noted). x ∷ r) (no_more l)

pub files_start : (noted : List Noted) (number : ℕ) (files : Texts) (lasts : Lasts) → AreNoted noted lasts → AreNoted (noted ++ map (λ (f : List ℕ). (number, f)) (take 0 files)) lasts
files_start noted number files lasts are = subst (λ (l : List Noted). AreNoted l lasts) (sym (no_more noted)) are

pub files_next : (noted : List Noted) (number : ℕ) (files : Texts) (at : ℕ) (file : List ℕ) → at < length files → file ≡ get_or files at file
    → (noted ++ map (λ (f : List ℕ). (number, f)) (take at files)) ++ (number, file) ∷ [] ≡ noted ++ map (λ (f : List ℕ). (number, f)) (take (at + 1) files)
files_next noted number files at file less is =
    append_assoc noted (map (λ (f : List ℕ). (number, f)) (take at files)) ((number, file) ∷ [])
    ∙ ap (λ (l : List Noted). noted ++ l) (ap (λ (f : List ℕ). map (λ (g : List ℕ). (number, g)) (take at files) ++ (number, f) ∷ []) is
    ∙ sym (map-append (λ (g : List ℕ). (number, g)) (take at files) (get_or files at file ∷ []))
    ∙ ap (map (λ (g : List ℕ). (number, g))) (sym (take-suc files at file less) ∙ (let e : suc at ≡ at + 1 = omega arith in ap (λ (n : ℕ). take n files) e)))

pub numbered_next : {S : Type 0} (plan : List PlanPart) (at : ℕ) (part : PlanPart) (text : List ℕ) (old new : IndexMap Key ℕ S) → at < length plan → part ≡ get_or plan at part → text ≡ part_name part
    → ((least : ℕ) (other : List ℕ) → nat_lt least (number_at new other) ≡ (nat_lt least (number_at old other) || (nat_lt least (at + 1) && bytes_eq other text)))
    → AreNumbered (take at plan) old → AreNumbered (take (at + 1) plan) new
numbered_next plan at part text old new less is text_is note are least name =
    note least name ∙ ap (λ b. b || (nat_lt least (at + 1) && bytes_eq name text)) (are least name)
    ∙ ap (λ (t : List ℕ). is_noted least (bytes_eq name) (names_from 1 (take at plan)) || (nat_lt least (at + 1) && bytes_eq name t)) text_is
    ∙ sym (noted_more least (bytes_eq name) (names_from 1 (take at plan)) (at + 1) (part_name part))
    ∙ ap (λ (l : List Noted). is_noted least (bytes_eq name) l)
    ((let n = length-take-le at plan (omega (arith, less)) in let e : at + 1 ≡ 1 + length (take at plan) = omega (arith, n) in ap (λ (n : ℕ). names_from 1 (take at plan) ++ (n, part_name part) ∷ []) e)
    ∙ sym (names_more 1 (take at plan) part)
    ∙ ap (names_from 1) (ap (λ (p : PlanPart). take at plan ++ p ∷ []) is ∙ sym (take-suc plan at part less) ∙ (let e : suc at ≡ at + 1 = omega arith in ap (λ (n : ℕ). take n plan) e)))

pub above_start : (least : ℕ) (path : List ℕ) (noted : List Noted) → nat_lt least 0 ≡ is_noted least (is_front path 0) noted
above_start least path noted =
    (let none : nat_lt least 0 ≡ false = grind (arith, nat_tests) in none)
    ∙ sym (noted_alike least (is_front path 0) (λ f. false) noted (front_none path) ∙ noted_none least noted)

pub above_next : (path : List ℕ) (end last here greater : ℕ) (noted : List Noted) → end < length path → greater ≡ max last here
    → ((least : ℕ) → nat_lt least last ≡ is_noted least (is_front path end) noted) → ((least : ℕ) → nat_lt least here ≡ is_noted least (ends_at path end) noted)
    → (least : ℕ) → nat_lt least greater ≡ is_noted least (is_front path (end + 1)) noted
above_next path end last here greater noted less is so_far is_here least =
    ap (nat_lt least) is ∙ lt_max least last here
    ∙ ap (λ b. b || nat_lt least here) (so_far least)
    ∙ ap (λ b. is_noted least (is_front path end) noted || b) (is_here least)
    ∙ sym (noted_either least (is_front path end) (ends_at path end) noted)
    ∙ noted_alike least (λ f. is_front path end f || ends_at path end f) (is_front path (end + 1)) noted (λ f. sym (front_next path f end less))

-- the number at the front of a path before a place, where a '/' stands there
pub above_slash : (path : List ℕ) (end here : ℕ) (noted : List Noted) (lasts : Lasts) → get_or path end 0 ≡ 47 → here ≡ number_at lasts.files (take end path) → AreNoted noted lasts
    → (least : ℕ) → nat_lt least here ≡ is_noted least (ends_at path end) noted
above_slash path end here noted lasts slash is are least =
    ap (nat_lt least) is ∙ are.files least (take end path)
    ∙ noted_alike least (bytes_eq (take end path)) (ends_at path end) noted
    (λ f. bytes_flip (take end path) f ∙ (let e : nat_eq (get_or path end 0) 47 ≡ true = grind (arith, nat_tests) in ap (λ t. t && bytes_eq f (take end path)) (sym e)))

pub above_other : (path : List ℕ) (end : ℕ) (noted : List Noted) → get_or path end 0 ≢ 47 → (least : ℕ) → nat_lt least 0 ≡ is_noted least (ends_at path end) noted
above_other path end noted other least =
    (let none : nat_lt least 0 ≡ false = grind (arith, nat_tests) in none)
    ∙ sym (noted_alike least (ends_at path end) (λ f. false) noted
    (λ f. let e : nat_eq (get_or path end 0) 47 ≡ false = grind (arith, nat_tests) in ap (λ t. t && bytes_eq f (take end path)) e) ∙ noted_none least noted)

-- a number at a folder, where a '/' stands at a place and where none does
pub folder_slash : (path folder : List ℕ) (end : ℕ) (old number : Bool) → get_or path end 0 ≡ 47 → (old || (number && bytes_eq folder (take end path))) ≡ (old || (number && ends_at path end folder))
folder_slash path folder end old number slash =
    let e : nat_eq (get_or path end 0) 47 ≡ true = grind (arith, nat_tests) in ap (λ t. old || (number && (t && bytes_eq folder (take end path)))) (sym e)

pub folder_other : (path folder : List ℕ) (end : ℕ) (old number : Bool) → get_or path end 0 ≢ 47 → old ≡ (old || (number && ends_at path end folder))
folder_other path folder end old number other =
    let e : nat_eq (get_or path end 0) 47 ≡ false = grind (arith, nat_tests) in
    drops old number ∙ ap (λ t. old || (number && (t && bytes_eq folder (take end path)))) (sym e)
  where
    drops : (a b : Bool) → a ≡ (a || (b && false))
    drops true b = refl
    drops false true = refl
    drops false false = refl

pub above_all : (path : List ℕ) (end : ℕ) (noted : List Noted) → length path ≤ end → (least : ℕ) → is_noted least (is_front path end) noted ≡ is_noted least (is_below path) noted
above_all path end noted far least = noted_alike least (is_front path end) (is_below path) noted (λ f. front_all path f end far)

-- what touches a path
pub touched : (path : List ℕ) (at above below beside last : ℕ) (noted : List Noted) (lasts : Lasts) → at ≡ number_at lasts.files path → below ≡ number_at lasts.folders path
    → ((least : ℕ) → nat_lt least above ≡ is_noted least (is_below path) noted) → beside ≡ max above below → last ≡ max at beside → AreNoted noted lasts
    → (least : ℕ) → nat_lt least last ≡ is_noted least (is_touching path) noted
touched path at above below beside last noted lasts at_is below_is over beside_is last_is are least =
    ap (nat_lt least) last_is ∙ lt_max least at beside
    ∙ ap (λ b. nat_lt least at || b) (ap (nat_lt least) beside_is ∙ lt_max least above below
    ∙ ap (λ b. b || nat_lt least below) (over least) ∙ ap (λ b. is_noted least (is_below path) noted || b) (ap (nat_lt least) below_is ∙ are.folders least path)
    ∙ sym (noted_either least (is_below path) (λ f. is_below f path) noted))
    ∙ ap (λ b. b || is_noted least (λ f. is_below path f || is_below f path) noted) (ap (nat_lt least) at_is ∙ are.files least path)
    ∙ sym (noted_either least (bytes_eq path) (λ f. is_below path f || is_below f path) noted)

-- ---- empty maps

pub none_noted : (lasts : Lasts) → lasts.files.entries ≡ [] → lasts.folders.entries ≡ [] → AreNoted [] lasts
none_noted lasts files folders = record {
  files = λ least path. ap (λ (l : List (Key × ℕ)). nat_lt least (unwrap_or (found_at path l) 0)) files ∙ none least;
  folders = λ least folder. ap (λ (l : List (Key × ℕ)). nat_lt least (unwrap_or (found_at folder l) 0)) folders ∙ none least;
}
  where
    none : (least : ℕ) → nat_lt least 0 ≡ false
    none least = grind (arith, nat_tests)

pub none_numbered : {S : Type 0} (numbers : IndexMap Key ℕ S) → numbers.entries ≡ [] → AreNumbered [] numbers
none_numbered numbers empty least name =
    ap (λ (l : List (Key × ℕ)). nat_lt least (unwrap_or (found_at name l) 0)) empty ∙ (let none : nat_lt least 0 ≡ false = grind (arith, nat_tests) in none)

-- what is noted of the files of some entries, and what is left
pub record HasNoted (noted : List Noted) (number : List ℕ → ℕ) (db rest : List Object) (lasts : Lasts) : Type 0 where
  pub done : List Noted
  pub kept : AreNoted done lasts
  pub all : done ++ files_noted number rest ≡ noted ++ files_noted number db

pub has_start : (noted : List Noted) (number : List ℕ → ℕ) (db rest : List Object) (lasts : Lasts) → rest ≡ db → AreNoted noted lasts → HasNoted noted number db rest lasts
has_start noted number db rest lasts same are = record { done = noted; kept = are; all = ap (λ (os : List Object). noted ++ files_noted number os) same }

pub has_next : (noted : List Noted) (number : List ℕ → ℕ) (db : List Object) (o : Object) (rest : List Object) (lasts next : Lasts) → HasNoted noted number db (o ∷ rest) lasts
    → ((done : List Noted) → AreNoted done lasts → AreNoted (done ++ map (λ (f : List ℕ). (number o.name, f)) (own o)) next) → HasNoted noted number db rest next
has_next noted number db o rest lasts next has more = record {
  done = has.done ++ map (λ (f : List ℕ). (number o.name, f)) (own o);
  kept = more has.done has.kept;
  all = append_assoc has.done (map (λ (f : List ℕ). (number o.name, f)) (own o)) (files_noted number rest) ∙ has.all;
}

pub has_end : (noted : List Noted) (number : List ℕ → ℕ) (db : List Object) (lasts : Lasts) → HasNoted noted number db [] lasts → AreNoted (noted ++ files_noted number db) lasts
has_end noted number db lasts has = subst (λ (l : List Noted). AreNoted l lasts) (sym (no_more has.done) ∙ has.all) has.kept

-- what is noted of the files of all entries tells the last parts
pub last_of_noted : (number : List ℕ → ℕ) (db : List Object) (plan : List PlanPart) (lasts : Lasts) → AreNoted (files_noted number db) lasts
    → ((least : ℕ) (name : List ℕ) → nat_lt least (number name) ≡ is_noted least (bytes_eq name) (names_from 1 plan)) → AreLast db plan lasts
last_of_noted number db plan lasts are numbered = record { noted = files_noted number db; kept = are; behind = files_behind db plan number numbered }

-- a number 0 notes nothing
pub zero_noted : (noted : List Noted) (number : ℕ) (files : Texts) (lasts : Lasts) → number ≡ 0 → AreNoted noted lasts → AreNoted (noted ++ map (λ (f : List ℕ). (number, f)) files) lasts
zero_noted noted number files lasts nothing are = subst (λ (n : ℕ). AreNoted (noted ++ map (λ (f : List ℕ). (n, f)) files) lasts) (sym nothing) (record {
  files = λ least path. are.files least path ∙ sym (noted_zero least (bytes_eq path) noted files);
  folders = λ least folder. are.folders least folder ∙ sym (noted_zero least (λ f. is_below f folder) noted files);
})
