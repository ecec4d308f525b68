-- Lines that say what is known, read together.
use Rattle.std.proofs.Common.{◌≡◌, ℕ, ◌+◌, ◌==◌, cond, List, [], ◌∷◌, ◌++◌, length, map, Result, Ok, refl, sym, ap, ◌∙◌, arith, append_assoc}
use Rattle.std.specs.Prelude.{All}
use Rattle.std.specs.List.{slice_split, AllByRecursion}
use Rattle.std.proofs.lemmas.List.{append-nil}
use Rattle.std.proofs.lemmas.List.Elements.{All-head, All-tail}
use Rattle.std.proofs.lemmas.List.Splits.{slice_split_at}
use Rattle.tl_kind.specs.declared.kinds.SourceKind.{SourceKind}
use Rattle.tl_model.specs.Lines.{IsLine, text_of}
use Rattle.tl_srctext.specs.declared.line.Said.{Said}
use Rattle.tl_srctext.specs.declared.fields.SourceFields.{SourceFields}
use Rattle.tl_srctext.specs.Joined.{less_last, less_return, is_continued, join_from, joined_lines}
use Rattle.tl_srctext.specs.Content.{line_content}
use Rattle.tl_srctext.specs.Line.{said_in}
use Rattle.tl_srctext.specs.Reading.{or_bad_line, lines_said, fields_of, with_said, as_fields, fields_read}
use Rattle.tl_srctext.proofs.JoinLemmas.{join_step}
use Rattle.tl_srctext.proofs.ReadingLemmas.{put-fields}
use Rattle.tl_srctext.proofs.SaysLemmas.{Says, line_of}

-- keys with their values say this, each on its line
abbrev pub AllSay : List ℕ → List (List ℕ × List ℕ) → List (ℕ → Said) → Type 0
AllSay name [] [] = Unit {0}
AllSay name (item ∷ items) (said ∷ saids) = Says name item.0 item.1 said × AllSay name items saids
AllSay name items saids = ⊥

pub say-append : (name : List ℕ) (items more : List (List ℕ × List ℕ)) (saids others : List (ℕ → Said)) → AllSay name items saids → AllSay name more others → AllSay name (items ++ more) (saids ++ others)
say-append name [] more [] others first second = second
say-append name [] more (said ∷ saids) others first second = absurd first
say-append name (item ∷ items) more [] others first second = absurd first
say-append name (item ∷ items) more (said ∷ saids) others first second = (first.0, say-append name items more saids others first.1 second)

-- several values under one key
pub say-each : {A : Type 0} (P : A → Type 0) (name key : List ℕ) (text : A → List ℕ) (say : A → ℕ → Said) → ((x : A) → P x → Says name key (text x) (say x))
    → (xs : List A) → All P xs → AllSay name (map (λ x. (key, text x)) xs) (map say xs)
say-each P name key text say one [] each = tt
say-each P name key text say one (x ∷ xs) each = (one x (All-head P x xs each), say-each P name key text say one xs (All-tail P x xs each))

-- what lines say, the first of which has this number
abbrev pub said_from : ℕ → List (ℕ → Said) → List Said
said_from number [] = []
said_from number (said ∷ saids) = said number ∷ said_from (number + 1) saids

-- the lines of keys with their values
abbrev pub item_lines : List (List ℕ × List ℕ) → List (List ℕ)
item_lines items = map (λ (item : List ℕ × List ℕ). line_of item.0 item.1) items

-- lines that say what is known are read so
pub read_items : (name : List ℕ) (items : List (List ℕ × List ℕ)) (saids : List (ℕ → Said)) (number : ℕ) (done : List Said) → AllSay name items saids
    → lines_said name done (join_from number [] number (item_lines items ++ [] ∷ [])) ≡ Ok (done ++ said_from number saids)
read_items name [] [] number done say = ap Ok (sym (append-nil done))
read_items name [] (said ∷ saids) number done say = absurd say
read_items name (item ∷ items) [] number done say = absurd say
read_items name (item ∷ items) (said ∷ saids) number done say =
    let line = line_of item.0 item.1 in
    let rest = join_from (number + 1) [] (number + 1) (item_lines items ++ [] ∷ []) in
    let kept : less_return line ≡ line = ap (λ t. cond t (less_last line) line) say.0.whole in
    ap (lines_said name done) (join_step number number [] line (item_lines items) []
    ∙ ap (λ (l : List ℕ). cond (is_continued l) (join_from number (less_last l) (number + 1) (item_lines items ++ [] ∷ [])) (record { number = number; text = l } ∷ rest)) kept
    ∙ ap (λ t. cond t (join_from number (less_last line) (number + 1) (item_lines items ++ [] ∷ [])) (record { number = number; text = line } ∷ rest)) say.0.ends)
    ∙ ap (λ t. cond t (lines_said name done rest) (or_bad_line number (said_in name number (line_content line)) (λ more. lines_said name (done ++ more ∷ []) rest))) say.0.full
    ∙ ap (λ (r : Result Said SourceKind). or_bad_line number r (λ more. lines_said name (done ++ more ∷ []) rest)) (say.0.says number)
    ∙ read_items name items saids (number + 1) (done ++ said number ∷ []) say.1
    ∙ ap Ok (append_assoc done (said number ∷ []) (said_from (number + 1) saids))

-- the text of lines is parted at their ends
pub parted : (lines : List (List ℕ)) → AllByRecursion IsLine lines → slice_split (λ b. b == 10) (text_of lines) ≡ lines ++ [] ∷ []
parted [] each = refl
parted (line ∷ lines) each =
    slice_split_at (λ b. b == 10) line 10 (text_of lines) each.0 refl ∙ ap (λ (ls : List (List ℕ)). line ∷ ls) (parted lines each.1)

items_plain : (name : List ℕ) (items : List (List ℕ × List ℕ)) (saids : List (ℕ → Said)) → AllSay name items saids → AllByRecursion IsLine (item_lines items)
items_plain name [] saids say = tt
items_plain name (item ∷ items) [] say = absurd say
items_plain name (item ∷ items) (said ∷ saids) say = (say.0.line, items_plain name items saids say.1)

-- the fields with what some lines say, one after the other
abbrev pub put_all : SourceFields → ℕ → List (ℕ → Said) → SourceFields
put_all s number [] = s
put_all s number (said ∷ saids) = put_all (with_said s (said number)) (number + 1) saids

put_each : (name : List ℕ) (done : List Said) (number : ℕ) (saids : List (ℕ → Said)) → fields_of name (done ++ said_from number saids) ≡ put_all (fields_of name done) number saids
put_each name done number [] = ap (fields_of name) (append-nil done)
put_each name done number (said ∷ saids) =
    ap (fields_of name) (sym (append_assoc done (said number ∷ []) (said_from (number + 1) saids)))
    ∙ put_each name (done ++ said number ∷ []) (number + 1) saids
    ∙ ap (λ (s : SourceFields). put_all s (number + 1) saids) (put-fields name done (said number))

-- the text of such lines reads as the fields that they make
pub items_read : (name : List ℕ) (items : List (List ℕ × List ℕ)) (saids : List (ℕ → Said)) → AllSay name items saids
    → fields_read name (joined_lines (text_of (item_lines items))) ≡ Ok (put_all (fields_of name []) 1 saids)
items_read name items saids say =
    ap (λ (parts : List (List ℕ)). fields_read name (join_from 1 [] 1 parts)) (parted (item_lines items) (items_plain name items saids say))
    ∙ ap (as_fields name) (read_items name items saids 1 [] say)
    ∙ ap Ok (put_each name [] 1 saids)

pub put-append : (s : SourceFields) (number : ℕ) (saids others : List (ℕ → Said)) → put_all s number (saids ++ others) ≡ put_all (put_all s number saids) (number + length saids) others
put-append s number [] others = let same : number ≡ number + 0 = omega arith in ap (λ n. put_all s n others) same
put-append s number (said ∷ saids) others =
    let same : number + 1 + length saids ≡ number + length (said ∷ saids) = omega arith in
    put-append (with_said s (said number)) (number + 1) saids others ∙ ap (λ n. put_all (put_all (with_said s (said number)) (number + 1) saids) n others) same

-- values, each with the number of its line
abbrev pub numbered : {A B : Type 0} → (ℕ → A → B) → ℕ → List A → List B
numbered with_number number [] = []
numbered with_number number (x ∷ xs) = with_number number x ∷ numbered with_number (number + 1) xs

-- lines that add up in one field
module _ {A B : Type 0} (field : SourceFields → List B) (with_field : SourceFields → List B → SourceFields) (say : A → ℕ → Said) (with_number : ℕ → A → B)
    (takes : (s : SourceFields) (x : A) (number : ℕ) → with_said s (say x number) ≡ with_field s (field s ++ with_number number x ∷ []))
    (taken : (s : SourceFields) (ys : List B) → field (with_field s ys) ≡ ys)
    (over : (s : SourceFields) (ys zs : List B) → with_field (with_field s ys) zs ≡ with_field s zs)
    (same : (s : SourceFields) → with_field s (field s) ≡ s) where
  pub put-field : (s : SourceFields) (number : ℕ) (xs : List A) → put_all s number (map say xs) ≡ with_field s (field s ++ numbered with_number number xs)
  put-field s number [] = sym (ap (with_field s) (append-nil (field s)) ∙ same s)
  put-field s number (x ∷ xs) =
      let after = with_field s (field s ++ with_number number x ∷ []) in
      ap (λ (t : SourceFields). put_all t (number + 1) (map say xs)) (takes s x number)
      ∙ put-field after (number + 1) xs
      ∙ over s (field s ++ with_number number x ∷ []) (field after ++ numbered with_number (number + 1) xs)
      ∙ ap (λ (ys : List B). with_field s (ys ++ numbered with_number (number + 1) xs)) (taken s (field s ++ with_number number x ∷ []))
      ∙ ap (with_field s) (append_assoc (field s) (with_number number x ∷ []) (numbered with_number (number + 1) xs))

-- values whose line says no number
pub unnumbered-same : {A : Type 0} (number : ℕ) (xs : List A) → numbered (λ n x. x) number xs ≡ xs
unnumbered-same number [] = refl
unnumbered-same number (x ∷ xs) = ap (λ ys. x ∷ ys) (unnumbered-same (number + 1) xs)
