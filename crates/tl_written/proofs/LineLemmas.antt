-- Lines, and what stands behind them.
use Rattle.std.proofs.Common.{◌≡◌, ℕ, ◌+◌, ◌-◌, ◌<◌, ◌^◌, true, false, not, ◌==◌, List, [], ◌∷◌, ◌++◌, Option, Some, None, Result, Ok, Err, length, get_or, slice_index, take, drop, ◌≤◌, refl, sym, ap, ◌∙◌, arith, length-append, length-take, take-append-drop, get_or-take}
use Rattle.std.specs.Prelude.{All, IfSome, IfNone, MatchOption, MatchResult}
use Rattle.std.specs.Result.{is_ok}
use Rattle.std.specs.Str.{IsUtf8}
use Rattle.std.specs.List.{list_all}
use Rattle.std.proofs.Math.Seq.{get_or-append_seam}
use Rattle.std.proofs.lemmas.Bool.{and_from, true≢false, eqb-true, eq-eqb, false_from_ne_true}
use Rattle.std.proofs.lemmas.List.{drop_more, take_rest}
use Rattle.std.proofs.lemmas.List.Elements.{All-head, All-tail, All-from_get_or}
use Rattle.memchr.specs.Find.{Nowhere, NoneBefore, Passes, is_byte}
use Rattle.tl_model.specs.Lines.{IsLine}
use Rattle.tl_model.specs.Decimal.{IsDecimal, is_decimal, decimal_value, decimal_text, IsDecimal-decimal_text, decimal_value-decimal_text}
use Rattle.tl_text.specs.Numbers.{IsNumberFault}
use Rattle.tl_text.specs.Texts.{IsText, IsText-from, IsUtf8-from_text}
use Rattle.tl_text.specs.declared.number.NumberError.{NumberError}
use Rattle.tl_text.specs.declared.number.NumberError.TheVariants.{NotNumber, TooLarge}
use Rattle.tl_object.specs.Writing.{key_line}
use Rattle.tl_written.specs.Found.{Lacks}
use Rattle.tl_written.proofs.FindLemmas.{append-cancel, key-cut}
use Rattle.tl_written.proofs.StandLemmas.{behind-both}

-- what holds where a result is a value
pub if_some : {T : Type 0} (A : Type 0) (P : T → Type 0) (r : Option T) → MatchOption r A P → IfSome r P
if_some A P None is = tt
if_some A P (Some x) is = is

-- what holds where a result is none
pub if_none : {T : Type 0} (A : Type 0) (P : T → Type 0) (r : Option T) → MatchOption r A P → IfNone r A
if_none A P None is = is
if_none A P (Some x) is = tt

-- what follows where a result is a value
pub some_more : {T : Type 0} (P Q : T → Type 0) (r : Option T) → ((x : T) → P x → Q x) → IfSome r P → IfSome r Q
some_more P Q None more is = tt
some_more P Q (Some x) more is = more x is

-- a search's first place of a byte cuts a text there
pub cut_there : (mark : ℕ) (text : List ℕ) (end : ℕ) → NoneBefore (Passes (is_byte mark) text) 0 (length text) end × Passes (is_byte mark) text end
    → (text ≡ take end text ++ mark ∷ take (length text - (end + 1)) (drop (end + 1) text)) × All (λ b. (b == mark) ≡ false) (take end text)
cut_there mark text end found =
    let inside : end < length text = found.0.high in
    let behind : drop end text ≡ mark ∷ drop (end + 1) text = drop_more text end 0 inside ∙ ap (λ (b : ℕ). b ∷ drop (end + 1) text) (eqb-true (slice_index text end) mark found.1) in
    let all : take (length text - (end + 1)) (drop (end + 1) text) ≡ drop (end + 1) text = take_rest text (end + 1) in
    let before : (k : ℕ) → k < length (take end text) → (get_or (take end text) k 0 == mark) ≡ false = λ k within.
    let low : k < end = omega (arith, within, length-take end text) in
    ap (λ (b : ℕ). b == mark) (get_or-take end text k 0 low) ∙ false_from_ne_true (get_or text k 0 == mark) (found.0.before k (omega arith) low) in
    (sym (take-append-drop end text) ∙ ap (λ (l : List ℕ). take end text ++ l) (behind ∙ ap (λ (l : List ℕ). mark ∷ l) (sym all)), All-from_get_or (λ b. (b == mark) ≡ false) (take end text) 0 before)

-- a text that no search finds a byte in isn't cut at that byte
pub uncut : (mark : ℕ) (text : List ℕ) → Nowhere (Passes (is_byte mark) text) 0 (length text) → (front rest : List ℕ) → text ≡ front ++ mark ∷ rest → ⊥
uncut mark text none front rest same =
    let there : slice_index text (length front) ≡ mark = ap (λ (t : List ℕ). slice_index t (length front)) same ∙ get_or-append_seam front mark rest 0 in
    none (length front) (omega arith) (omega (arith, ap length same, length-append front (mark ∷ rest))) (eq-eqb (slice_index text (length front)) mark there)

-- no byte of a line ends a line, by a test
pub line_all : (line : List ℕ) → IsLine line → list_all (λ b. not (b == 10)) line ≡ true
line_all [] is = refl
line_all (b ∷ line) is = and_from _ _ (ap not (All-head (λ b. (b == 10) ≡ false) b line is)) (line_all line (All-tail (λ b. (b == 10) ≡ false) b line is))

-- a short line in UTF-8 is a text
pub text_from_line : {T E : Type 0} (P : T → Type 0) (N : E → Type 0) (r : Result T E) (line : List ℕ) → IsLine line → length line ≤ 65536 → MatchResult r (λ x. P x × IsUtf8 line) N → is_ok r ≡ true → IsText line
text_from_line P N (Ok x) line is short cases ok = IsText-from line cases.1 (line_all line is) short
text_from_line P N (Err e) line is short cases ok = absurd (true≢false (sym ok))

-- a text is in UTF-8
pub text_ok : {T E : Type 0} (P : T → Type 0) (N : E → Type 0) (r : Result T E) (line : List ℕ) → MatchResult r P (λ e. ¬ (IsUtf8 line) × N e) → IsText line → is_ok r ≡ true
text_ok P N (Ok x) line cases is = refl
text_ok P N (Err e) line cases is = absurd (cases.0 (IsUtf8-from_text line is))

-- the printed text of a number is read
pub no_fault : (fault : NumberError) (digits : List ℕ) (n : ℕ) → IsNumberFault 18446744073709551615 digits fault → n < 2 ^ 64 → digits ≡ decimal_text n → ⊥
no_fault NotNumber digits n is small shown = true≢false (sym (IsDecimal-decimal_text n small) ∙ ap (λ (d : List ℕ). is_decimal d) (sym shown) ∙ is)
no_fault (TooLarge limit) digits n is small shown = omega (arith, small, is.1, ap (λ (d : List ℕ). decimal_value d) shown ∙ decimal_value-decimal_text n small)

-- as that number
pub number_same : (number : ℕ) (digits : List ℕ) (n : ℕ) → IsDecimal digits × (number ≡ decimal_value digits) → n < 2 ^ 64 → digits ≡ decimal_text n → number ≡ n
number_same number digits n read small shown = read.1 ∙ ap (λ (d : List ℕ). decimal_value d) shown ∙ decimal_value-decimal_text n small

-- and is the printed text of what was read
pub shown_again : (number : ℕ) (printed digits : List ℕ) (n : ℕ) → printed ≡ decimal_text number → number ≡ n → digits ≡ decimal_text n → printed ≡ digits
shown_again number printed digits n text same shown = text ∙ ap (λ (m : ℕ). decimal_text m) same ∙ sym shown

-- the line of a key behind that key and a space
pub key_behind : (key value text behind rest more : List ℕ) → text ≡ key ++ behind → behind ≡ 32 ∷ rest → rest ≡ value ++ 10 ∷ more → text ≡ key_line key value ++ more
unfolding key_line
key_behind key value text behind rest more one two three =
    let spaced : behind ≡ (32 ∷ value) ++ 10 ∷ more = two ∙ ap (λ (t : List ℕ). 32 ∷ t) three in
    behind-both (key ++ 32 ∷ value) (10 ∷ []) text (10 ∷ more) more (behind-both key (32 ∷ value) text behind (10 ∷ more) one spaced) refl

-- behind the key there stands a space, and behind that the value
key_rest : (key value text behind more : List ℕ) → text ≡ key ++ behind → text ≡ key_line key value ++ more → behind ≡ 32 ∷ (value ++ 10 ∷ more)
key_rest key value text behind more one same = append-cancel key behind (32 ∷ (value ++ 10 ∷ more)) (sym one ∙ same ∙ key-cut key value more)

-- the line of a key begins with that key
pub key_lacks : (key value text more : List ℕ) → Lacks text key → text ≡ key_line key value ++ more → ⊥
key_lacks key value text more lacks same = lacks (32 ∷ (value ++ 10 ∷ more)) (same ∙ key-cut key value more)

-- and then with a space
pub space_lacks : (key value text behind more : List ℕ) → text ≡ key ++ behind → Lacks behind (32 ∷ []) → text ≡ key_line key value ++ more → ⊥
space_lacks key value text behind more one lacks same = lacks (value ++ 10 ∷ more) (key_rest key value text behind more one same)

-- and then with the value
pub value_behind : (key value text behind rest more : List ℕ) → text ≡ key ++ behind → behind ≡ 32 ∷ rest → text ≡ key_line key value ++ more → rest ≡ value ++ 10 ∷ more
value_behind key value text behind rest more one two same = append-cancel (32 ∷ []) rest (value ++ 10 ∷ more) (sym two ∙ key_rest key value text behind more one same)
