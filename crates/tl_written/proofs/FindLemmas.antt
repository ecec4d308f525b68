-- What stands at the front of a text, and what a text doesn't begin with.
use Rattle.std.proofs.Common.{◌≡◌, ◌⊎◌, ℕ, ◌==◌, not, true, false, List, [], ◌∷◌, ◌++◌, refl, sym, subst, ◌∙◌, ap, inl, inr, append_assoc}
use Rattle.std.specs.Prelude.{All}
use Rattle.std.specs.List.{list_all, flat_map}
use Rattle.std.proofs.lemmas.Bool.{and_parts, or_cases, eq-eqb, true≢false}
use Rattle.std.proofs.lemmas.List.{append_cancel_left}
use Rattle.std.proofs.lemmas.List.Elements.{All-head, All-tail}
use Rattle.tl_model.specs.Lines.{IsLine}
use Rattle.tl_object.specs.Writing.{key_line}
use Rattle.tl_written.specs.Found.{Lacks, LacksEach, is_apart}

-- lines are absent or begin with a word
abbrev pub Begins : List ℕ → List ℕ → Type 0
Begins word lines = (lines ≡ []) ⊎ ((more : List ℕ) × (lines ≡ word ++ more))

-- the same front can be left out
pub append-cancel : (front a b : List ℕ) → front ++ a ≡ front ++ b → a ≡ b
append-cancel front a b same = append_cancel_left front a b same

-- a byte that isn't the mark doesn't stand where the mark does
not_mark : (mark c : ℕ) → (c == mark) ≡ false → mark ≡ c → ⊥
not_mark mark c other same = true≢false (sym (eq-eqb c mark (sym same)) ∙ other)

cons_head : (c d : ℕ) (a b : List ℕ) → c ∷ a ≡ d ∷ b → c ≡ d
cons_head c d a b same = cc

cons_tail : (c d : ℕ) (a b : List ℕ) → c ∷ a ≡ d ∷ b → a ≡ b
cons_tail c d a b same = cc

-- a text is cut at its first mark in one way
pub cut-once : (mark : ℕ) (one two a b : List ℕ) → All (λ c. (c == mark) ≡ false) one → All (λ c. (c == mark) ≡ false) two → one ++ mark ∷ a ≡ two ++ mark ∷ b → (one ≡ two) × (a ≡ b)
cut-once mark [] [] a b is_one is_two same = (refl, cons_tail mark mark a b same)
cut-once mark [] (d ∷ two) a b is_one is_two same =
    absurd (not_mark mark d (All-head (λ c. (c == mark) ≡ false) d two is_two) (cons_head mark d a (two ++ mark ∷ b) same))
cut-once mark (c ∷ one) [] a b is_one is_two same =
    absurd (not_mark mark c (All-head (λ c. (c == mark) ≡ false) c one is_one) (sym (cons_head c mark (one ++ mark ∷ a) b same)))
cut-once mark (c ∷ one) (d ∷ two) a b is_one is_two same =
    let rest = cut-once mark one two a b (All-tail (λ c. (c == mark) ≡ false) c one is_one) (All-tail (λ c. (c == mark) ≡ false) d two is_two) (cons_tail c d (one ++ mark ∷ a) (two ++ mark ∷ b) same) in
    let first : c ≡ d = cons_head c d (one ++ mark ∷ a) (two ++ mark ∷ b) same in
    (ap (λ (e : ℕ). e ∷ one) first ∙ ap (λ (l : List ℕ). d ∷ l) rest.0, rest.1)

-- the line of a key, cut behind the key and behind its value
pub key-cut : (key value rest : List ℕ) → key_line key value ++ rest ≡ key ++ 32 ∷ (value ++ 10 ∷ rest)
unfolding key_line
key-cut key value rest = append_assoc (key ++ 32 ∷ value) (10 ∷ []) rest ∙ append_assoc key (32 ∷ value) (10 ∷ rest)

-- the line of a key is read in one way
pub key-once : (key one two a b : List ℕ) → IsLine one → IsLine two → key_line key one ++ a ≡ key_line key two ++ b → (one ≡ two) × (a ≡ b)
key-once key one two a b is_one is_two same =
    let spaced : 32 ∷ (one ++ 10 ∷ a) ≡ 32 ∷ (two ++ 10 ∷ b) = append-cancel key (32 ∷ (one ++ 10 ∷ a)) (32 ∷ (two ++ 10 ∷ b)) (sym (key-cut key one a) ∙ same ∙ key-cut key two b) in
    cut-once 10 one two a b is_one is_two (cons_tail 32 32 (one ++ 10 ∷ a) (two ++ 10 ∷ b) spaced)

-- the line of a key doesn't stand where a text doesn't begin with the key and a space
pub lacks-key : (key value text rest : List ℕ) → Lacks text (key ++ 32 ∷ []) → text ≡ key_line key value ++ rest → ⊥
lacks-key key value text rest lacks same = lacks (value ++ 10 ∷ rest) (same ∙ key-cut key value rest ∙ sym (append_assoc key (32 ∷ []) (value ++ 10 ∷ rest)))

-- a text that begins with a word begins with no word that is apart from it
pub apart-lacks : (word other more : List ℕ) → is_apart word other ≡ true → Lacks (word ++ more) other
apart-lacks [] other more apart = absurd (cc)
apart-lacks (a ∷ word) [] more apart = absurd (cc)
apart-lacks (a ∷ word) (b ∷ other) more apart = λ rest same. elim (or_cases (not (a == b)) (is_apart word other) apart) [
  | inl differs ↦ true≢false (sym differs ∙ ap not (eq-eqb a b (cons_head a b (word ++ more) (other ++ rest) same)))
  | inr behind ↦ apart-lacks word other more behind rest (cons_tail a b (word ++ more) (other ++ rest) same)
]

-- the same of several words
pub apart-lacks-each : (word more : List ℕ) (others : List (List ℕ)) → list_all (is_apart word) others ≡ true → LacksEach (word ++ more) others
apart-lacks-each word more [] apart = tt
apart-lacks-each word more (other ∷ others) apart =
    let parts = and_parts (is_apart word other) (list_all (is_apart word) others) apart in
    (apart-lacks word other more parts.0, apart-lacks-each word more others parts.1)

-- lines that may be absent, in front of what begins with none of some words
pub skip : (word lines rest : List ℕ) (others : List (List ℕ)) → Begins word lines → list_all (is_apart word) others ≡ true → LacksEach rest others → LacksEach (lines ++ rest) others
skip word lines rest others (inl none) apart lacks = subst (λ (l : List ℕ). LacksEach (l ++ rest) others) (sym none) lacks
skip word lines rest others (inr begun) apart lacks =
    let same : word ++ (begun.0 ++ rest) ≡ lines ++ rest = sym (append_assoc word begun.0 rest) ∙ ap (λ (l : List ℕ). l ++ rest) (sym begun.1) in
    subst (λ (l : List ℕ). LacksEach l others) same (apart-lacks-each word (begun.0 ++ rest) others apart)

-- the lines of several values each of which begins with a word
pub begins-all : {V : Type 0} (word : List ℕ) (lines : V → List ℕ) (values : List V) → ((v : V) → (more : List ℕ) × (lines v ≡ word ++ more)) → Begins word (flat_map lines values)
begins-all word lines [] each = inl refl
begins-all word lines (v ∷ values) each =
    let one = each v in
    inr (one.0 ++ flat_map lines values, ap (λ (l : List ℕ). l ++ flat_map lines values) one.1 ∙ append_assoc word one.0 (flat_map lines values))
