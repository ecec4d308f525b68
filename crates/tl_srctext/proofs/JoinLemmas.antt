-- Lines and how they join, part by part.
use Rattle.std.proofs.Common.{◌≡◌, ℕ, zero, suc, ◌+◌, ◌-◌, ◌<◌, ◌≤◌, ◌==◌, true, false, cond, eqb, List, [], ◌∷◌, ◌++◌, length, get_or, take, drop, refl, sym, ap, ◌∙◌, arith, add-one}
use Rattle.std.specs.List.{onto_first, slice_split}
use Rattle.std.proofs.lemmas.Bool.{false_from_ne_true}
use Rattle.std.proofs.lemmas.List.{take_rest}
use Rattle.std.proofs.lemmas.List.Splits.{length-slice_split}
use Rattle.memchr.specs.Find.{Nowhere, NoneBefore, Passes, is_byte}
use Rattle.tl_srctext.specs.Joined.{less_last, less_return, is_continued, join_from}

-- the parts of a text between its lines' ends
abbrev pub parts_of : List ℕ → List (List ℕ)
parts_of text = slice_split (λ b. b == 10) text

-- a part behind which a line's end stands
join_more : (number next : ℕ) (text part : List ℕ) (parts : List (List ℕ)) → 0 < length parts → join_from number text next (part ∷ parts)
    ≡ cond (is_continued (less_return part)) (join_from number (text ++ less_last (less_return part)) (next + 1) parts)
    (record { number = number; text = text ++ less_return part } ∷ join_from (next + 1) [] (next + 1) parts)
join_more number next text part [] some = absurd (omega arith)
join_more number next text part (other ∷ others) some = refl

-- the same where further lines follow
pub join_step : (number next : ℕ) (text part : List ℕ) (parts : List (List ℕ)) (last : List ℕ) → join_from number text next (part ∷ (parts ++ last ∷ []))
    ≡ cond (is_continued (less_return part)) (join_from number (text ++ less_last (less_return part)) (next + 1) (parts ++ last ∷ []))
    (record { number = number; text = text ++ less_return part } ∷ join_from (next + 1) [] (next + 1) (parts ++ last ∷ []))
join_step number next text part [] last = refl
join_step number next text part (other ∷ others) last = refl

split_found : (text : List ℕ) (i : ℕ) → i < length text → eqb (get_or text i 0) 10 ≡ true → ((k : ℕ) → k < i → eqb (get_or text k 0) 10 ≡ false)
    → parts_of text ≡ take i text ∷ parts_of (drop (suc i) text)
split_found [] i lt here before = absurd (omega arith)
split_found (b ∷ text) zero lt here before = ap (λ t. cond t ([] ∷ parts_of text) (onto_first b (parts_of text))) here
split_found (b ∷ text) (suc i) lt here before =
    ap (λ t. cond t ([] ∷ parts_of text) (onto_first b (parts_of text))) (before 0 (omega arith))
    ∙ ap (onto_first b) (split_found text i (omega arith) here (λ k h. before (suc k) (omega arith)))

split_none : (text : List ℕ) → ((k : ℕ) → k < length text → eqb (get_or text k 0) 10 ≡ false) → parts_of text ≡ text ∷ []
split_none [] none = refl
split_none (b ∷ text) none =
    ap (λ t. cond t ([] ∷ parts_of text) (onto_first b (parts_of text))) (none 0 (omega arith))
    ∙ ap (onto_first b) (split_none text (λ k h. none (suc k) (omega arith)))

apart : (text : List ℕ) (low high : ℕ) → Nowhere (Passes (is_byte 10) text) low high → (k : ℕ) → low ≤ k → k < high → eqb (get_or text k 0) 10 ≡ false
apart text low high none k le lt = false_from_ne_true _ (none k le lt)

split_by : (text : List ℕ) (i : ℕ) → NoneBefore (Passes (is_byte 10) text) 0 (length text) i → Passes (is_byte 10) text i
    → parts_of text ≡ take i text ∷ parts_of (take (length text - (i + 1)) (drop (i + 1) text))
split_by text i none here =
    rw (take_rest, add-one) (split_found text i none.high here (λ k lt. apart text 0 i none.before k (omega arith) lt))

some_parts : (text : List ℕ) → 0 < length (parts_of text)
some_parts text = omega (arith, length-slice_split (λ b. b == 10) text)

joined : (number next : ℕ) (line text : List ℕ) (i : ℕ) → NoneBefore (Passes (is_byte 10) text) 0 (length text) i → Passes (is_byte 10) text i
    → join_from number line next (parts_of text)
    ≡ cond (is_continued (less_return (take i text))) (join_from number (line ++ less_last (less_return (take i text))) (next + 1) (parts_of (take (length text - (i + 1)) (drop (i + 1) text))))
    (record { number = number; text = line ++ less_return (take i text) } ∷ join_from (next + 1) [] (next + 1) (parts_of (take (length text - (i + 1)) (drop (i + 1) text))))
joined number next line text i none here =
    ap (join_from number line next) (split_by text i none here)
    ∙ join_more number next line (take i text) (parts_of (take (length text - (i + 1)) (drop (i + 1) text))) (some_parts (take (length text - (i + 1)) (drop (i + 1) text)))

-- a line goes on behind its first part
pub joined_on : (number next : ℕ) (line text part : List ℕ) (i : ℕ) → NoneBefore (Passes (is_byte 10) text) 0 (length text) i → Passes (is_byte 10) text i
    → part ≡ less_return (take i text) → is_continued part ≡ true
    → join_from number line next (parts_of text) ≡ join_from number (line ++ less_last part) (next + 1) (parts_of (take (length text - (i + 1)) (drop (i + 1) text)))
joined_on number next line text part i none here is goes =
    let rest = parts_of (take (length text - (i + 1)) (drop (i + 1) text)) in
    joined number next line text i none here
    ∙ ap (λ (p : List ℕ). cond (is_continued p) (join_from number (line ++ less_last p) (next + 1) rest) (record { number = number; text = line ++ p } ∷ join_from (next + 1) [] (next + 1) rest)) (sym is)
    ∙ ap (λ t. cond t (join_from number (line ++ less_last part) (next + 1) rest) (record { number = number; text = line ++ part } ∷ join_from (next + 1) [] (next + 1) rest)) goes

-- a line ends with its first part
pub joined_done : (number next : ℕ) (line text part : List ℕ) (i : ℕ) → NoneBefore (Passes (is_byte 10) text) 0 (length text) i → Passes (is_byte 10) text i
    → part ≡ less_return (take i text) → is_continued part ≡ false
    → join_from number line next (parts_of text) ≡ record { number = number; text = line ++ part } ∷ join_from (next + 1) [] (next + 1) (parts_of (take (length text - (i + 1)) (drop (i + 1) text)))
joined_done number next line text part i none here is goes =
    let rest = parts_of (take (length text - (i + 1)) (drop (i + 1) text)) in
    joined number next line text i none here
    ∙ ap (λ (p : List ℕ). cond (is_continued p) (join_from number (line ++ less_last p) (next + 1) rest) (record { number = number; text = line ++ p } ∷ join_from (next + 1) [] (next + 1) rest)) (sym is)
    ∙ ap (λ t. cond t (join_from number (line ++ less_last part) (next + 1) rest) (record { number = number; text = line ++ part } ∷ join_from (next + 1) [] (next + 1) rest)) goes

-- a text without a line's end ends its line
pub joined_last : (number next : ℕ) (line text : List ℕ) → Nowhere (Passes (is_byte 10) text) 0 (length text)
    → join_from number line next (parts_of text) ≡ record { number = number; text = line ++ text } ∷ []
joined_last number next line text none = ap (join_from number line next) (split_none text (λ k lt. apart text 0 (length text) none k (omega arith) lt))
