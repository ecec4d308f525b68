-- Pins as they are written, and that they read again.
use Rattle.std.proofs.Common.{◌≡◌, ℕ, ◌+◌, ◌<◌, ◌≤◌, ◌==◌, ◌&&◌, ◌||◌, Bool, true, false, cond, List, [], ◌∷◌, ◌++◌, length, get_or, take, drop, map, Option, Some, None, refl, sym, ap, subst, ◌∙◌, inl, inr, arith, append_assoc, lit<, lit≤}
use Rattle.std.specs.Prelude.{filter, not, nat_eq, nat_le, slice_index, codes}
use Rattle.std.specs.Cmp.Lexicographic.{same_text}
use Rattle.std.specs.List.{All, AllByRecursion, position_or_len, slice_split, join_with_byte, flat_map, starts_with}
use Rattle.std.proofs.lemmas.Bool.{and_parts, and_from, and_left, not-true, or_cases, or_from, false_from_ne_true, eqb-true, ne_eqb, leb-true}
use Rattle.std.proofs.lemmas.List.{append-nil, take_all, take_at, drop_at, drop-drop, map_more, get_or_append_left, get_or_at, length-append}
use Rattle.std.proofs.lemmas.List.Elements.{All-nil, All-cons, All-head, All-append, All-weaker, All-more, All-take, recursion_from_All}
use Rattle.std.proofs.lemmas.List.Splits.{slice_split_none, slice_split_at}
use Rattle.std.proofs.lemmas.List.Sums.{position_or_len_is, AllPass-from_list_all}
use Rattle.tl_model.specs.Acks.{IsPlain, is_ack, plain-text_of}
use Rattle.tl_model.specs.Lines.{IsLine, lines, text_of, lines-text_of}
use Rattle.tl_model.specs.Words.{is_blank}
use Rattle.tl_path.specs.Bytes.{is_of_tag, is_letter_or_digit, is_lower, is_upper, is_digit}
use Rattle.tl_path.specs.Names.{is_tag}
use Rattle.tl_pin.specs.declared.line.PinLine.{PinLine}
use Rattle.tl_pin.specs.Form.{is_pin_byte, is_pin_glob, trimmed}
use Rattle.tl_pin.specs.Reading.{IsPin, pin_with, pin_of, is_passed_over, ReadsPins, pin_text, pins_text}
use Rattle.tl_pin.proofs.TrimLemmas.{trimmed-word}

-- globs with a comma in front of each but the first
pub join-more : (glob : List ℕ) (globs : List (List ℕ)) → join_with_byte 44 (glob ∷ globs) ≡ glob ++ flat_map (λ g. 44 ∷ g) globs
join-more glob [] = sym (append-nil glob)
join-more glob (next ∷ globs) = ap (λ (rest : List ℕ). glob ++ 44 ∷ rest) (join-more next globs)

-- a byte that stands in a pin
abbrev IsInk : ℕ → Type 0
IsInk b = 33 ≤ b

text_of-append : (some more : List (List ℕ)) → text_of (some ++ more) ≡ text_of some ++ text_of more
text_of-append [] more = refl
text_of-append (line ∷ some) more = ap (λ (rest : List ℕ). line ++ 10 ∷ rest) (text_of-append some more) ∙ sym (append_assoc line (10 ∷ text_of some) (text_of more))

-- the text of the first pins, which have their forms
pub record WrittenSoFar (pins : List PinLine) (text : List ℕ) (i : ℕ) : Type 0 where
  pub text_is : text ≡ text_of (map pin_text (take i pins))
  pub forms : All IsPin (take i pins)

pub none_written : (pins : List PinLine) → WrittenSoFar pins [] 0
none_written pins = record { text_is = refl; forms = All-nil IsPin }

pub written_more : (pins : List PinLine) (text : List ℕ) (i : ℕ) (pin : PinLine) → i < length pins → pin ≡ get_or pins i pin → IsPin pin → WrittenSoFar pins text i
    → WrittenSoFar pins (text ++ (pin_text pin ++ 10 ∷ [])) (i + 1)
written_more pins text i pin lt at form so_far = record {
  text_is = ap (λ (t : List ℕ). t ++ (pin_text pin ++ 10 ∷ [])) so_far.text_is
      ∙ sym (text_of-append (map pin_text (take i pins)) (pin_text pin ∷ []))
      ∙ ap (λ (p : PinLine). text_of (map pin_text (take i pins) ++ pin_text p ∷ [])) at
      ∙ ap text_of (sym (map_more pin_text pins i pin lt));
  forms = All-more IsPin pins i pin lt so_far.forms (subst IsPin at form);
}

-- what a text of pins is
pub record IsWritten (pins : List PinLine) (text : List ℕ) : Type 0 where
  pub text_is : text ≡ pins_text pins
  pub plain : IsPlain text
  pub reads : ReadsPins text pins

-- what a pin's bytes aren't
ink_apart : (b n : ℕ) → IsInk b → n < 33 → (b == n) ≡ false
ink_apart b n ink low = ne_eqb b n (λ is. omega (arith, ink, is))

ink_blank : (b : ℕ) → IsInk b → is_blank b ≡ false
ink_blank b ink = or_from _ _ (ink_apart b 32 ink (lit< tt)) (ink_apart b 9 ink (lit< tt))

-- what a test of both says of a pin's byte
glob_byte : (b : ℕ) → is_pin_byte b ≡ true → IsInk b × ((b == 44) ≡ false) × ((b == 58) ≡ false)
glob_byte b is =
    let parts = and_parts (nat_le 33 b && nat_le b 126) (not (b == 44) && not (b == 58)) is in
    let low = and_parts (nat_le 33 b) (nat_le b 126) parts.0 in
    let apart = and_parts (not (b == 44)) (not (b == 58)) parts.1 in
    (leb-true 33 b low.0, not-true _ apart.0, not-true _ apart.1)

tag_byte : (b : ℕ) → is_of_tag b ≡ true → (45 ≤ b) × (b ≡ 58 → ⊥)
tag_byte b is = elim (or_cases (is_letter_or_digit b) (b == 95 || b == 45) is) [
  | inl word ↦ letter_or_digit word
  | inr sign ↦ elim (or_cases (b == 95) (b == 45) sign) [
    | inl low ↦ let e : b ≡ 95 = eqb-true b 95 low in (omega (arith, e), λ colon. omega (arith, e, colon))
    | inr dash ↦ let e : b ≡ 45 = eqb-true b 45 dash in (omega (arith, e), λ colon. omega (arith, e, colon))
  ]
]
  where
    between : (low high : ℕ) → (nat_le low b && nat_le b high) ≡ true → (low ≤ b) × (b ≤ high)
    between low high is = let parts = and_parts (nat_le low b) (nat_le b high) is in (leb-true low b parts.0, leb-true b high parts.1)

    letter_or_digit : is_letter_or_digit b ≡ true → (45 ≤ b) × (b ≡ 58 → ⊥)
    letter_or_digit is = elim (or_cases (is_lower b) (is_upper b || is_digit b) is) [
      | inl lower ↦ let r = between 97 122 lower in (omega (arith, r.0), λ colon. omega (arith, r.0, colon))
      | inr other ↦ elim (or_cases (is_upper b) (is_digit b) other) [
        | inl upper ↦ let r = between 65 90 upper in (omega (arith, r.0), λ colon. omega (arith, r.0, colon))
        | inr digit ↦ let r = between 48 57 digit in (omega (arith, r.0), λ colon. omega (arith, r.1, colon))
      ]
    ]

-- the bytes of a tag
tag_bytes : (tag : List ℕ) → is_tag tag ≡ true → (0 < length tag) × All (λ b. (45 ≤ b) × (b ≡ 58 → ⊥)) tag
tag_bytes tag is =
    let size = and_parts (nat_le 1 (length tag)) _ is in
    let most = and_parts (nat_le (length tag) 64) _ size.1 in
    let word = and_parts (is_letter_or_digit (slice_index tag 0)) _ most.1 in
    let some : 1 ≤ length tag = leb-true 1 (length tag) size.0 in
    (omega (arith, some), All-weaker (λ b. is_of_tag b ≡ true) (λ b. (45 ≤ b) × (b ≡ 58 → ⊥)) tag_byte tag (AllPass-from_list_all is_of_tag tag word.1))

-- the bytes of a glob
glob_bytes : (glob : List ℕ) → is_pin_glob glob ≡ true → All (λ b. is_pin_byte b ≡ true) glob
glob_bytes glob is =
    let size = and_parts (nat_le 1 (length glob)) _ is in
    let most = and_parts (nat_le (length glob) 128) _ size.1 in
    AllPass-from_list_all is_pin_byte glob most.1

abbrev AreGlobs : List (List ℕ) → Type 0
AreGlobs globs = AllByRecursion (λ glob. is_pin_glob glob ≡ true) globs

globs_ink : (globs : List (List ℕ)) → AreGlobs globs → All IsInk (join_with_byte 44 globs)
globs_ink [] are = All-nil IsInk
globs_ink (glob ∷ []) are = All-weaker (λ b. is_pin_byte b ≡ true) IsInk (λ b is. (glob_byte b is).0) glob (glob_bytes glob are.0)
globs_ink (glob ∷ next ∷ globs) are =
    All-append IsInk glob (44 ∷ join_with_byte 44 (next ∷ globs))
    (All-weaker (λ b. is_pin_byte b ≡ true) IsInk (λ b is. (glob_byte b is).0) glob (glob_bytes glob are.0))
    (All-cons IsInk 44 (join_with_byte 44 (next ∷ globs)) (lit≤ tt) (globs_ink (next ∷ globs) are.1))

abbrev is_comma : ℕ → Bool
is_comma b = b == 44

no_comma : (glob : List ℕ) → is_pin_glob glob ≡ true → All (λ b. is_comma b ≡ false) glob
no_comma glob is = All-weaker (λ b. is_pin_byte b ≡ true) (λ b. is_comma b ≡ false) (λ b is. (glob_byte b is).1) glob (glob_bytes glob is)

-- globs that commas part are the parts between commas
globs_parted : (globs : List (List ℕ)) → 0 < length globs → AreGlobs globs → slice_split is_comma (join_with_byte 44 globs) ≡ globs
globs_parted [] some are = absurd (omega arith)
globs_parted (glob ∷ []) some are = slice_split_none is_comma glob (no_comma glob are.0)
globs_parted (glob ∷ next ∷ globs) some are =
    slice_split_at is_comma glob 44 (join_with_byte 44 (next ∷ globs)) (no_comma glob are.0) refl
    ∙ ap (λ (gs : List (List ℕ)). glob ∷ gs) (globs_parted (next ∷ globs) (omega arith) are.1)

globs_trimmed : (globs : List (List ℕ)) → AreGlobs globs → map trimmed globs ≡ globs
globs_trimmed [] are = refl
globs_trimmed (glob ∷ globs) are =
    let full : All (λ b. is_blank b ≡ false) glob = All-weaker (λ b. is_pin_byte b ≡ true) (λ b. is_blank b ≡ false) (λ b is. ink_blank b (glob_byte b is).0) glob (glob_bytes glob are.0) in
    ap (λ (g : List ℕ). g ∷ map trimmed globs) (trimmed-word glob full) ∙ ap (λ (gs : List (List ℕ)). glob ∷ gs) (globs_trimmed globs are.1)

abbrev is_colon : ℕ → Bool
is_colon b = b == 58

colon_behind : (tag rest : List ℕ) → All (λ b. (45 ≤ b) × (b ≡ 58 → ⊥)) tag → position_or_len is_colon (tag ++ 58 ∷ rest) ≡ length tag
colon_behind tag rest bytes =
    position_or_len_is is_colon (tag ++ 58 ∷ rest) (length tag) 0 (omega (arith, length-append tag (58 ∷ rest)))
    (λ k lt. ap is_colon (get_or_append_left tag (58 ∷ rest) 0 k lt) ∙ ne_eqb (get_or tag k 0) 58 (bytes k 0 lt).1)
    (λ _. ap is_colon (get_or_at tag 58 rest 0 (length tag) refl))

-- a pin's text is the text of that pin
pin_again : (pin : PinLine) → IsPin pin → pin_of (pin_text pin) ≡ Some pin
pin_again pin form =
    ap (λ n. pin_with (trimmed (take n (pin_text pin))) (map trimmed (slice_split is_comma (drop (n + 1) (pin_text pin))))) (colon_behind pin.tag rest bytes.1)
    ∙ ap (λ (t : List ℕ). pin_with (trimmed t) (map trimmed (slice_split is_comma (drop (length pin.tag + 1) (pin_text pin))))) (take_at pin.tag (58 ∷ rest) (length pin.tag) refl)
    ∙ ap (λ (r : List ℕ). pin_with (trimmed pin.tag) (map trimmed (slice_split is_comma r))) behind
    ∙ ap (λ (t : List ℕ). pin_with t (map trimmed (slice_split is_comma rest))) (trimmed-word pin.tag full)
    ∙ ap (λ (gs : List (List ℕ)). pin_with pin.tag (map trimmed gs)) (globs_parted pin.globs form.globs.some are)
    ∙ ap (pin_with pin.tag) (globs_trimmed pin.globs are)
    ∙ ap (λ t. cond t (Some pin) None) (and_from _ _ form.tag form.globs.form)
  where
    rest : List ℕ
    rest = join_with_byte 44 pin.globs

    bytes : (0 < length pin.tag) × All (λ b. (45 ≤ b) × (b ≡ 58 → ⊥)) pin.tag
    bytes = tag_bytes pin.tag form.tag

    are : AreGlobs pin.globs
    are = recursion_from_All (λ glob. is_pin_glob glob ≡ true) pin.globs (AllPass-from_list_all is_pin_glob pin.globs form.globs.form)

    full : All (λ b. is_blank b ≡ false) pin.tag
    full = All-weaker (λ b. (45 ≤ b) × (b ≡ 58 → ⊥)) (λ b. is_blank b ≡ false) (λ b is. ink_blank b (omega (arith, is.0))) pin.tag bytes.1

    behind : drop (length pin.tag + 1) (pin_text pin) ≡ rest
    behind = sym (drop-drop 1 (length pin.tag) (pin_text pin)) ∙ ap (drop 1) (drop_at pin.tag (58 ∷ rest) (length pin.tag) refl)

pin_ink : (pin : PinLine) → IsPin pin → All IsInk (pin_text pin)
pin_ink pin form =
    All-append IsInk pin.tag (58 ∷ join_with_byte 44 pin.globs)
    (All-weaker (λ b. (45 ≤ b) × (b ≡ 58 → ⊥)) IsInk (λ b is. omega (arith, is.0)) pin.tag (tag_bytes pin.tag form.tag).1)
    (All-cons IsInk 58 (join_with_byte 44 pin.globs) (lit≤ tt)
    (globs_ink pin.globs (recursion_from_All (λ glob. is_pin_glob glob ≡ true) pin.globs (AllPass-from_list_all is_pin_glob pin.globs form.globs.form))))

-- a pin's text isn't passed over
kept_pin : (tag rest : List ℕ) → 0 < length tag → All (λ b. (45 ≤ b) × (b ≡ 58 → ⊥)) tag → is_passed_over (tag ++ rest) ≡ false
kept_pin [] rest some bytes = absurd (omega arith)
kept_pin (b ∷ tag) rest some bytes =
    let low : 45 ≤ b = (All-head (λ b. (45 ≤ b) × (b ≡ 58 → ⊥)) b tag bytes).0 in
    or_from _ _ (and_left (is_blank b) _ (ink_blank b (omega (arith, low)))) (ne_eqb b 35 (λ is. omega (arith, low, is)))

no_ack : (line : List ℕ) → All IsInk line → is_ack line ≡ false
no_ack line ink = and_left (starts_with nat_eq line (codes "step ")) _ (false_from_ne_true _ (λ is.
    let front : codes "step " ≡ take 5 line = same_text (codes "step ") (take 5 line) (sym is) in
    let space : 33 ≤ 32 = subst (λ (t : List ℕ). All IsInk t) (sym front) (All-take IsInk 5 line ink) 4 0 (lit< tt) in
    omega (arith, space)))

ink_line : (line : List ℕ) → All IsInk line → IsLine line
ink_line line ink = All-weaker IsInk (λ b. (b == 10) ≡ false) (λ b is. ink_apart b 10 is (lit< tt)) line ink

abbrev kept : List ℕ → Bool
kept line = not (is_passed_over line)

read_again : (pins : List PinLine) → AllByRecursion IsPin pins → map pin_of (filter kept (map pin_text pins)) ≡ map (λ pin. Some pin) pins
read_again [] forms = refl
read_again (pin ∷ pins) forms =
    let bytes = tag_bytes pin.tag forms.0.tag in
    ap (λ t. map pin_of (cond (not t) (pin_text pin ∷ filter kept (map pin_text pins)) (filter kept (map pin_text pins)))) (kept_pin pin.tag (58 ∷ join_with_byte 44 pin.globs) bytes.0 bytes.1)
    ∙ ap (λ (o : Option PinLine). o ∷ map pin_of (filter kept (map pin_text pins))) (pin_again pin forms.0)
    ∙ ap (λ (os : List (Option PinLine)). Some pin ∷ os) (read_again pins forms.1)

each_line : (pins : List PinLine) → AllByRecursion IsPin pins → AllByRecursion IsLine (map pin_text pins)
each_line [] forms = tt
each_line (pin ∷ pins) forms = (ink_line (pin_text pin) (pin_ink pin forms.0), each_line pins forms.1)

each_other : (pins : List PinLine) → AllByRecursion IsPin pins → AllByRecursion (λ line. is_ack line ≡ false) (map pin_text pins)
each_other [] forms = tt
each_other (pin ∷ pins) forms = (no_ack (pin_text pin) (pin_ink pin forms.0), each_other pins forms.1)

-- the text of all pins
pub all_written : (pins : List PinLine) (text : List ℕ) (i : ℕ) → length pins ≤ i → WrittenSoFar pins text i → IsWritten pins text
all_written pins text i all so_far =
    let whole : take i pins ≡ pins = take_all i pins all in
    let is : text ≡ pins_text pins = so_far.text_is ∙ ap (λ (ps : List PinLine). text_of (map pin_text ps)) whole in
    let forms : AllByRecursion IsPin pins = recursion_from_All IsPin pins (subst (λ (ps : List PinLine). All IsPin ps) whole so_far.forms) in
    record {
      text_is = is;
      plain = subst IsPlain (sym is) (plain-text_of (map pin_text pins) (each_line pins forms) (each_other pins forms));
      reads = ap (λ (t : List ℕ). map pin_of (filter kept (lines t))) is
          ∙ ap (λ (ls : List (List ℕ)). map pin_of (filter kept ls)) (lines-text_of (map pin_text pins) (each_line pins forms))
          ∙ read_again pins forms;
    }

-- the text of globs behind other text
pub globs_written : (before start out : List ℕ) (globs others : List (List ℕ)) (first : List ℕ) (i : ℕ) → globs ≡ first ∷ others → start ≡ before ++ first
    → out ≡ start ++ flat_map (λ g. 44 ∷ g) (take i others) → length others ≤ i → out ≡ before ++ join_with_byte 44 globs
globs_written before start out globs others first i are begun written all =
    written ∙ ap (λ (gs : List (List ℕ)). start ++ flat_map (λ g. 44 ∷ g) gs) (take_all i others all)
    ∙ ap (λ (s : List ℕ). s ++ flat_map (λ g. 44 ∷ g) others) begun ∙ append_assoc before first (flat_map (λ g. 44 ∷ g) others)
    ∙ ap (λ (t : List ℕ). before ++ t) (sym (join-more first others)) ∙ ap (λ (gs : List (List ℕ)). before ++ join_with_byte 44 gs) (sym are)
