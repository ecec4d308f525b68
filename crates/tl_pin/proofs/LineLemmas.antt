-- The colon of a line, and what stands before and behind it.
use Rattle.std.proofs.Common.{◌≡◌, ℕ, ◌+◌, ◌-◌, ◌<◌, ◌≤◌, ◌==◌, Bool, true, false, cond, List, [], ◌∷◌, length, get_or, take, drop, map, Some, None, refl, sym, ap, ◌∙◌, arith}
use Rattle.std.specs.List.{list_all, position_or_len, before_first, after_first, slice_split}
use Rattle.std.proofs.lemmas.Bool.{false_from_ne_true, and_left, and_right, and_from}
use Rattle.std.proofs.lemmas.List.{take_rest, drop_all}
use Rattle.std.proofs.lemmas.List.Sums.{position_or_len_is}
use Rattle.memchr.specs.Find.{Nowhere, NoneBefore, Passes, is_byte}
use Rattle.tl_path.specs.Names.{is_tag}
use Rattle.tl_pin.specs.declared.line.PinLine.{PinLine}
use Rattle.tl_pin.specs.Form.{is_pin_glob, trimmed, globs_of}
use Rattle.tl_pin.specs.Reading.{pin_with, pin_of}

abbrev is_colon : ℕ → Bool
is_colon b = b == 58

apart : (text : List ℕ) (low high : ℕ) → Nowhere (Passes (is_byte 58) text) low high → (k : ℕ) → low ≤ k → k < high → is_colon (get_or text k 0) ≡ false
apart text low high none k le lt = false_from_ne_true _ (none k le lt)

colon_at : (line : List ℕ) (i : ℕ) → NoneBefore (Passes (is_byte 58) line) 0 (length line) i → Passes (is_byte 58) line i → position_or_len is_colon line ≡ i
colon_at line i none here =
    position_or_len_is is_colon line i 0 (omega (arith, none.high)) (λ k lt. apart line 0 i none.before k (omega arith) lt) (λ _. here)

-- what stands behind the colon of a line
abbrev pub behind_at : List ℕ → ℕ → List ℕ
behind_at line i = take (length line - (i + 1)) (drop (i + 1) line)

-- the globs of a line with a colon there
abbrev pub texts_at : List ℕ → ℕ → List (List ℕ)
texts_at line i = map trimmed (slice_split (λ b. b == 44) (behind_at line i))

parts_at : (line : List ℕ) (i : ℕ) → NoneBefore (Passes (is_byte 58) line) 0 (length line) i → Passes (is_byte 58) line i → pin_of line ≡ pin_with (trimmed (take i line)) (texts_at line i)
parts_at line i none here =
    ap (λ n. pin_with (trimmed (take n line)) (map trimmed (slice_split (λ b. b == 44) (drop (n + 1) line)))) (colon_at line i none here)
    ∙ ap (λ (rest : List ℕ). pin_with (trimmed (take i line)) (map trimmed (slice_split (λ b. b == 44) rest))) (sym (take_rest line (i + 1)))

some_globs : (texts globs : List (List ℕ)) (t : Bool) → cond t (Some texts) None ≡ Some globs → (t ≡ true) × (texts ≡ globs)
some_globs texts globs true is = (refl, cc)
some_globs texts globs false is = absurd (cc)

none_globs : (texts : List (List ℕ)) (t : Bool) → cond t (Some texts) None ≡ None → t ≡ false
none_globs texts true is = absurd (cc)
none_globs texts false is = refl

-- a line whose parts have their forms
pub pin_read : (line tag : List ℕ) (globs : List (List ℕ)) (i : ℕ) → NoneBefore (Passes (is_byte 58) line) 0 (length line) i → Passes (is_byte 58) line i
    → tag ≡ trimmed (take i line) → is_tag (trimmed (take i line)) ≡ true → globs_of (texts_at line i) ≡ Some globs → pin_of line ≡ Some (record { tag = tag; globs = globs })
pin_read line tag globs i none here is good read =
    let parts : (list_all is_pin_glob (texts_at line i) ≡ true) × (texts_at line i ≡ globs) = some_globs (texts_at line i) globs _ read in
    parts_at line i none here
    ∙ ap (λ t. cond t (Some (pin (trimmed (take i line)) (texts_at line i))) None) (and_from _ _ good parts.0)
    ∙ ap (λ (gs : List (List ℕ)). Some (pin (trimmed (take i line)) gs)) parts.1
    ∙ ap (λ (t : List ℕ). Some (pin t globs)) (sym is)
  where
    pin : List ℕ → List (List ℕ) → PinLine
    pin tag globs = record { tag = tag; globs = globs }

-- a line with a glob that hasn't its form
pub pin_no_globs : (line : List ℕ) (i : ℕ) → NoneBefore (Passes (is_byte 58) line) 0 (length line) i → Passes (is_byte 58) line i → globs_of (texts_at line i) ≡ None → pin_of line ≡ None
pin_no_globs line i none here read =
    parts_at line i none here ∙ ap (λ t. cond t (Some (record { tag = trimmed (take i line); globs = texts_at line i })) None) (and_right (is_tag (trimmed (take i line))) _ (none_globs (texts_at line i) _ read))

-- a line whose tag hasn't its form
pub pin_no_tag : (line : List ℕ) (i : ℕ) → NoneBefore (Passes (is_byte 58) line) 0 (length line) i → Passes (is_byte 58) line i → is_tag (trimmed (take i line)) ≡ false → pin_of line ≡ None
pin_no_tag line i none here bad =
    parts_at line i none here ∙ ap (λ t. cond t (Some (record { tag = trimmed (take i line); globs = texts_at line i })) None) (and_left _ (list_all is_pin_glob (texts_at line i)) bad)

-- a line without a colon
pub pin_no_colon : (line : List ℕ) → Nowhere (Passes (is_byte 58) line) 0 (length line) → pin_of line ≡ None
pin_no_colon line none =
    let at : position_or_len is_colon line ≡ length line =
    position_or_len_is is_colon line (length line) 0 (omega arith) (λ k lt. apart line 0 (length line) none k (omega arith) lt) (λ lt. absurd (omega arith)) in
    let rest : after_first is_colon line ≡ [] = drop_all (position_or_len is_colon line + 1) line (omega (arith, at)) in
    ap (λ (r : List ℕ). pin_with (trimmed (before_first is_colon line)) (map trimmed (slice_split (λ b. b == 44) r))) rest
    ∙ ap (λ t. cond t (Some (record { tag = trimmed (before_first is_colon line); globs = [] ∷ [] })) None) (and_right (is_tag (trimmed (before_first is_colon line))) false refl)
