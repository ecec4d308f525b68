-- What the written lines of a source say.
use Rattle.std.proofs.Common.{◌≡◌, ◌⊎◌, ℕ, ◌+◌, ◌-◌, ◌<◌, ◌==◌, ◌&&◌, ◌||◌, Bool, true, false, cond, List, [], ◌∷◌, ◌++◌, length, get_or, take, drop, Option, Some, Ok, Err, refl, sym, ap, subst, ◌∙◌, inl, inr, arith, append_assoc, suc, zero}
use Rattle.std.specs.Prelude.{not, nat_le}
use Rattle.std.specs.List.{list_all, prefix_len, suffix_len}
use Rattle.std.specs.Str.{IsUtf8, IsAscii}
use Rattle.std.proofs.lemmas.Bool.{and_parts, and_from, not-true}
use Rattle.std.proofs.lemmas.Bool.Decides.{nat_tests}
use Rattle.std.proofs.lemmas.List.{append-nil, take_all, length-append}
use Rattle.std.proofs.Math.Seq.{get_or-append_right}
use Rattle.std.proofs.lemmas.List.Elements.{All-nil, All-cons, All-append, All-weaker}
use Rattle.std.proofs.lemmas.List.Sums.{AllPass-from_list_all}
use Rattle.std.proofs.lemmas.Str.{IsUtf8-append, IsUtf8-from_ascii, is_utf8-from_IsUtf8}
use Rattle.tl_kind.specs.declared.kinds.SourceKind.TheVariants as kinds
use Rattle.tl_model.specs.Lines.{IsLine}
use Rattle.tl_model.specs.Words.{is_blank}
use Rattle.tl_text.specs.Texts.{IsText, is_text, IsUtf8-from_text, IsLine-from_text}
use Rattle.tl_srctext.specs.declared.key.Key.{Key}
use Rattle.tl_srctext.specs.declared.line.Said.{Said}
use Rattle.tl_srctext.specs.Content.{less_blanks_before, less_blanks_behind, line_content, before_blank, behind_blank}
use Rattle.tl_srctext.specs.Joined.{last_byte}
use Rattle.tl_srctext.specs.Keys.{source_key_of, may_be_empty}
use Rattle.tl_srctext.specs.Line.{said_under, said_for_key, said_with, said_in}
use Rattle.tl_srctext.specs.Writing.{guard}
use Rattle.tl_srctext.specs.Formed.{IsValue, IsFullValue}
use Rattle.tl_srctext.proofs.TextLemmas.{is_word_byte, comment-first, comment-blank, none_before, none_behind, behind-more, blank_behind, word-behind, before-word, behind-word, before-alone, behind-alone}

-- a byte of a key
abbrev pub is_key_byte : ℕ → Bool
is_key_byte b = nat_le 97 b && nat_le b 122

-- the line of a key and a value, without its end
abbrev pub line_of : List ℕ → List ℕ → List ℕ
line_of key value = key ++ ((32 ∷ value) ++ guard value)

key_byte : (b : ℕ) → is_key_byte b ≡ true → (is_word_byte b ≡ true) × (b < 128) × ((b == 10) ≡ false)
key_byte b is = (grind (arith, nat_tests), grind (arith, nat_tests), grind (arith, nat_tests))

key_word : (key : List ℕ) → list_all is_key_byte key ≡ true → list_all is_word_byte key ≡ true
key_word [] all = refl
key_word (b ∷ key) all = let parts = and_parts (is_key_byte b) (list_all is_key_byte key) all in and_from _ _ (key_byte b parts.0).0 (key_word key parts.1)

key_ascii : (key : List ℕ) → list_all is_key_byte key ≡ true → IsAscii key
key_ascii [] all i = omega arith
key_ascii (b ∷ key) all zero = (key_byte b (and_parts (is_key_byte b) _ all).0).1
key_ascii (b ∷ key) all (suc i) = key_ascii key (and_parts (is_key_byte b) _ all).1 i

key_line_is : (key : List ℕ) → list_all is_key_byte key ≡ true → IsLine key
key_line_is key all = All-weaker (λ b. is_key_byte b ≡ true) (λ b. (b == 10) ≡ false) (λ b is. (key_byte b is).2) key (AllPass-from_list_all is_key_byte key all)

-- what is written behind a value is one blank or nothing
guard_is : (value : List ℕ) → (guard value ≡ 32 ∷ []) ⊎ (guard value ≡ [])
guard_is value = by (last_byte value == 92 || last_byte value == 13) refl
  where
    by : (t : Bool) → (last_byte value == 92 || last_byte value == 13) ≡ t → (guard value ≡ 32 ∷ []) ⊎ (guard value ≡ [])
    by true e = inl (ap (λ t. cond t (32 ∷ []) []) e)
    by false e = inr (ap (λ t. cond t (32 ∷ []) []) e)

-- a key and a value that isn't empty count whole
full_content : (b : ℕ) (key value : List ℕ) → list_all is_key_byte (b ∷ key) ≡ true → IsFullValue value → line_content (line_of (b ∷ key) value) ≡ (b ∷ key) ++ 32 ∷ value
full_content b key value all is = elim (guard_is value) [
  | inl blank ↦ ap (λ (g : List ℕ). line_content ((b ∷ key) ++ ((32 ∷ value) ++ g))) blank
      ∙ ap (λ (l : List ℕ). less_blanks_behind (less_blanks_before l))
      (comment-first b key (value ++ 32 ∷ []) word ∙ ap (λ (l : List ℕ). (b ∷ key) ++ 32 ∷ l) (comment-blank true value is.value.plain))
      ∙ ap less_blanks_behind (no_before (value ++ 32 ∷ []))
      ∙ ap less_blanks_behind (sym (append_assoc (b ∷ key) (32 ∷ value) (32 ∷ [])))
      ∙ blank_behind ((b ∷ key) ++ 32 ∷ value) no_behind
  | inr none ↦ ap (λ (g : List ℕ). line_content ((b ∷ key) ++ ((32 ∷ value) ++ g))) none
      ∙ ap (λ (l : List ℕ). line_content ((b ∷ key) ++ 32 ∷ l)) (append-nil value)
      ∙ ap (λ (l : List ℕ). less_blanks_behind (less_blanks_before l)) (comment-first b key value word ∙ ap (λ (l : List ℕ). (b ∷ key) ++ 32 ∷ l) is.value.plain)
      ∙ ap less_blanks_behind (no_before value)
      ∙ ap (λ n. take (length ((b ∷ key) ++ 32 ∷ value) - n) ((b ∷ key) ++ 32 ∷ value)) no_behind
      ∙ whole ((b ∷ key) ++ 32 ∷ value)
]
  where
    word : list_all is_word_byte (b ∷ key) ≡ true
    word = key_word (b ∷ key) all

    not_blank : is_blank b ≡ false
    not_blank = not-true (is_blank b) (and_parts (not (is_blank b)) (not (b == 35)) (and_parts (is_word_byte b) (list_all is_word_byte key) word).0).0

    no_before : (rest : List ℕ) → less_blanks_before ((b ∷ key) ++ 32 ∷ rest) ≡ (b ∷ key) ++ 32 ∷ rest
    no_before rest = ap (λ t. drop (cond t (1 + prefix_len is_blank (key ++ 32 ∷ rest)) 0) ((b ∷ key) ++ 32 ∷ rest)) not_blank

    no_behind : suffix_len is_blank ((b ∷ key) ++ 32 ∷ value) ≡ 0
    no_behind = ap (suffix_len is_blank) (sym (append_assoc (b ∷ key) (32 ∷ []) value)) ∙ behind-more ((b ∷ key) ++ 32 ∷ []) value is.full (none_behind value is.value.ends)

    whole : (text : List ℕ) → take (length text - 0) text ≡ text
    whole text = take_all (length text - 0) text (omega arith)

-- a key with an empty value counts alone
bare_content : (b : ℕ) (key : List ℕ) → list_all is_key_byte (b ∷ key) ≡ true → line_content (line_of (b ∷ key) []) ≡ b ∷ key
bare_content b key all =
    ap (λ (l : List ℕ). less_blanks_behind (less_blanks_before l)) (comment-first b key [] word)
    ∙ ap less_blanks_behind (ap (λ t. drop (cond t (1 + prefix_len is_blank (key ++ 32 ∷ [])) 0) ((b ∷ key) ++ 32 ∷ [])) not_blank)
    ∙ blank_behind (b ∷ key) (word-behind (b ∷ key) word)
  where
    word : list_all is_word_byte (b ∷ key) ≡ true
    word = key_word (b ∷ key) all

    not_blank : is_blank b ≡ false
    not_blank = not-true (is_blank b) (and_parts (not (is_blank b)) (not (b == 35)) (and_parts (is_word_byte b) (list_all is_word_byte key) word).0).0

-- ---- what such a line says

-- a key and a value that a line may have under it are written, and say this
pub record Says (name key value : List ℕ) (said : ℕ → Said) : Type 0 where
  pub line : IsLine (line_of key value)
  pub whole : (last_byte (line_of key value) == 13) ≡ false
  pub ends : (last_byte (line_of key value) == 92) ≡ false
  pub full : (length (line_content (line_of key value)) == 0) ≡ false
  pub says : (number : ℕ) → said_in name number (line_content (line_of key value)) ≡ Ok (said number)

not_nil : (b : ℕ) (text : List ℕ) → (length (b ∷ text) == 0) ≡ false
not_nil b text = grind (arith, nat_tests)

line_utf8 : (key value : List ℕ) → list_all is_key_byte key ≡ true → IsText value → IsUtf8 (key ++ 32 ∷ value)
line_utf8 key value all is =
    IsUtf8-append key (32 ∷ value) (IsUtf8-from_ascii key (key_ascii key all)) (IsUtf8-append (32 ∷ []) value (IsUtf8-from_ascii (32 ∷ []) blank) (IsUtf8-from_text value is))
  where
    blank : IsAscii (32 ∷ [])
    blank zero = omega arith
    blank (suc i) = omega arith

-- what a line says whose value isn't empty
full_says : (name : List ℕ) (number b : ℕ) (key value : List ℕ) (k : Key) → list_all is_key_byte (b ∷ key) ≡ true → source_key_of (b ∷ key) ≡ Some k → IsFullValue value
    → said_in name number (line_content (line_of (b ∷ key) value)) ≡ said_under name number k value
full_says name number b key value k all known is =
    ap (said_in name number) (full_content b key value all is)
    ∙ ap (λ t. cond t (said_with name number (source_key_of (before_blank line)) (behind_blank line)) (Err kinds.Utf8)) (is_utf8-from_IsUtf8 line (line_utf8 (b ∷ key) value all is.value.text))
    ∙ ap (λ (w : List ℕ). said_with name number (source_key_of w) (behind_blank line)) (before-word (b ∷ key) value word)
    ∙ ap (λ (o : Option Key). said_with name number o (behind_blank line)) known
    ∙ ap (said_for_key name number k) (behind-word (b ∷ key) value word (none_before value is.value.begins))
    ∙ some value is.full
    ∙ ap (λ t. cond t (said_under name number k value) (Err kinds.TooLong)) is.value.text
  where
    line : List ℕ
    line = (b ∷ key) ++ 32 ∷ value

    word : list_all is_word_byte (b ∷ key) ≡ true
    word = key_word (b ∷ key) all

    some : (v : List ℕ) → 0 < length v → said_for_key name number k v ≡ cond (is_text v) (said_under name number k v) (Err kinds.TooLong)
    some [] lt = absurd (omega arith)
    some (c ∷ v) lt = refl

-- what a line says whose value is empty
bare_says : (name : List ℕ) (number b : ℕ) (key : List ℕ) (k : Key) → list_all is_key_byte (b ∷ key) ≡ true → source_key_of (b ∷ key) ≡ Some k → may_be_empty k ≡ true
    → said_in name number (line_content (line_of (b ∷ key) [])) ≡ said_under name number k []
bare_says name number b key k all known empty =
    ap (said_in name number) (bare_content b key all)
    ∙ ap (λ t. cond t (said_with name number (source_key_of (before_blank (b ∷ key))) (behind_blank (b ∷ key))) (Err kinds.Utf8)) (is_utf8-from_IsUtf8 (b ∷ key) (IsUtf8-from_ascii (b ∷ key) (key_ascii (b ∷ key) all)))
    ∙ ap (λ (w : List ℕ). said_with name number (source_key_of w) (behind_blank (b ∷ key))) (before-alone (b ∷ key) word)
    ∙ ap (λ (o : Option Key). said_with name number o (behind_blank (b ∷ key))) known
    ∙ ap (said_for_key name number k) (behind-alone (b ∷ key) word)
    ∙ ap (λ t. cond (not t) (Err kinds.Value) (said_under name number k [])) empty
  where
    word : list_all is_word_byte (b ∷ key) ≡ true
    word = key_word (b ∷ key) all

-- the end of a line that is written is neither a carriage return nor a backslash
last-more : (xs ys : List ℕ) → 0 < length ys → last_byte (xs ++ ys) ≡ last_byte ys
last-more xs ys some =
    let all : length (xs ++ ys) ≡ length xs + length ys = length-append xs ys in
    let at : length (xs ++ ys) - 1 - length xs ≡ length ys - 1 = omega (arith, all, some) in
    get_or-append_right xs ys (length (xs ++ ys) - 1) 0 (omega (arith, all, some)) ∙ ap (λ i. get_or ys i 0) at

-- a line whose last byte may stand at a line's end
record Ends (line : List ℕ) : Type 0 where
  returned : (last_byte line == 13) ≡ false
  continued : (last_byte line == 92) ≡ false

ends_blank : (text : List ℕ) → Ends (text ++ 32 ∷ [])
ends_blank text = let last : last_byte (text ++ 32 ∷ []) ≡ 32 = last-more text (32 ∷ []) (omega arith) in
    record { returned = ap (λ b. b == 13) last; continued = ap (λ b. b == 92) last }

line_ends : (key value : List ℕ) → Ends (line_of key value)
line_ends key value = by (last_byte value == 92 || last_byte value == 13) refl
  where
    bare : (v : List ℕ) → (last_byte v == 92 || last_byte v == 13) ≡ false → Ends (key ++ 32 ∷ v)
    bare [] none = ends_blank key
    bare (c ∷ v) none =
        let last : last_byte (key ++ 32 ∷ (c ∷ v)) ≡ last_byte (c ∷ v) = ap last_byte (sym (append_assoc key (32 ∷ []) (c ∷ v))) ∙ last-more (key ++ 32 ∷ []) (c ∷ v) (omega arith) in
        let apart = or_parts (last_byte (c ∷ v) == 92) (last_byte (c ∷ v) == 13) none in
        record { returned = ap (λ b. b == 13) last ∙ apart.1; continued = ap (λ b. b == 92) last ∙ apart.0 }
      where
        or_parts : (a b : Bool) → (a || b) ≡ false → (a ≡ false) × (b ≡ false)
        or_parts true b is = absurd (cc)
        or_parts false b is = (refl, is)

    by : (t : Bool) → (last_byte value == 92 || last_byte value == 13) ≡ t → Ends (line_of key value)
    by true e =
        subst Ends (append_assoc key (32 ∷ value) (32 ∷ []) ∙ ap (λ t. key ++ ((32 ∷ value) ++ cond t (32 ∷ []) [])) (sym e)) (ends_blank (key ++ 32 ∷ value))
    by false e =
        subst Ends (ap (λ (g : List ℕ). key ++ 32 ∷ g) (sym (append-nil value)) ∙ ap (λ t. key ++ ((32 ∷ value) ++ cond t (32 ∷ []) [])) (sym e)) (bare value e)

-- a line that is written has no line's end in it
line_plain : (key value : List ℕ) → list_all is_key_byte key ≡ true → IsText value → IsLine (line_of key value)
line_plain key value all is =
    All-append (λ b. (b == 10) ≡ false) key ((32 ∷ value) ++ guard value) (key_line_is key all)
    (All-append (λ b. (b == 10) ≡ false) (32 ∷ value) (guard value) (All-cons (λ b. (b == 10) ≡ false) 32 value refl (IsLine-from_text value is)) guarded)
  where
    guarded : IsLine (guard value)
    guarded = elim (guard_is value) [
      | inl blank ↦ subst IsLine (sym blank) (All-cons (λ b. (b == 10) ≡ false) 32 [] refl (All-nil (λ b. (b == 10) ≡ false)))
      | inr none ↦ subst IsLine (sym none) (All-nil (λ b. (b == 10) ≡ false))
    ]

-- a line with a value that isn't empty
pub says_full : (name : List ℕ) (b : ℕ) (key value : List ℕ) (k : Key) (said : ℕ → Said) → list_all is_key_byte (b ∷ key) ≡ true → source_key_of (b ∷ key) ≡ Some k → IsFullValue value
    → ((number : ℕ) → said_under name number k value ≡ Ok (said number)) → Says name (b ∷ key) value said
says_full name b key value k said all known is by_key = record {
  line = line_plain (b ∷ key) value all is.value.text;
  whole = (line_ends (b ∷ key) value).returned;
  ends = (line_ends (b ∷ key) value).continued;
  full = ap (λ (l : List ℕ). length l == 0) (full_content b key value all is) ∙ not_nil b (key ++ 32 ∷ value);
  says = λ number. full_says name number b key value k all known is ∙ by_key number;
}

-- a line with a value that may be empty
pub says_value : (name : List ℕ) (b : ℕ) (key value : List ℕ) (k : Key) (said : ℕ → Said) → list_all is_key_byte (b ∷ key) ≡ true → source_key_of (b ∷ key) ≡ Some k → may_be_empty k ≡ true → IsValue value
    → ((number : ℕ) → said_under name number k value ≡ Ok (said number)) → Says name (b ∷ key) value said
says_value name b key [] k said all known empty is by_key = record {
  line = line_plain (b ∷ key) [] all is.text;
  whole = (line_ends (b ∷ key) []).returned;
  ends = (line_ends (b ∷ key) []).continued;
  full = ap (λ (l : List ℕ). length l == 0) (bare_content b key all) ∙ not_nil b key;
  says = λ number. bare_says name number b key k all known empty ∙ by_key number;
}
says_value name b key (c ∷ value) k said all known empty is by_key = says_full name b key (c ∷ value) k said all known (record { value = is; full = omega arith }) by_key
