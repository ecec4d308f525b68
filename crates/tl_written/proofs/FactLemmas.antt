-- The lines of facts.
use Rattle.std.proofs.Common.{◌≡◌, ℕ, ◌==◌, ◌<◌, true, false, List, [], ◌∷◌, ◌++◌, length, inl, inr, refl, sym, subst, ◌∙◌, ap, append_assoc}
use Rattle.std.specs.Prelude.{codes, ⊤, All}
use Rattle.std.specs.List.{list_all, flat_map}
use Rattle.std.proofs.lemmas.Bool.{and_parts, cases_Bool, eqb-true, true≢false}
use Rattle.std.proofs.lemmas.List.Elements.{All-nil, All-cons, All-tail}
use Rattle.tl_model.specs.Lines.{IsLine}
use Rattle.tl_text.specs.Texts.{IsText, IsLine-from_text}
use Rattle.tl_entry.specs.Forms.{is_fact_byte, is_fact_key}
use Rattle.tl_entry.specs.Parts.{FactEntry}
use Rattle.tl_object.specs.Formed.{IsFormedFact}
use Rattle.tl_object.specs.Writing.{fact_line}
use Rattle.tl_object.proofs.LineLemmas.{fact_key-text}
use Rattle.tl_object.proofs.PlainLemmas.{plain_fact_line, line_append, line_spaced}
use Rattle.tl_written.specs.Stands.{Stands}
use Rattle.tl_written.specs.Found.{Lacks, LacksEach}
use Rattle.tl_written.proofs.StandLemmas.{behind-both}
use Rattle.tl_written.proofs.PathLemmas.{behind-shorter}
use Rattle.tl_written.proofs.FindLemmas.{append-cancel}
use Rattle.tl_written.proofs.LeftLemmas.{KeepsAll, all_left-next, all_left-none}

last_line : (front line : List ℕ) → IsLine (front ++ line) → IsLine line
last_line [] line is = is
last_line (b ∷ front) line is = last_line front line (All-tail (λ c. (c == 10) ≡ false) b (front ++ line) is)

-- what stands behind a byte of a line is a line
pub value_line : (line key value : List ℕ) (b : ℕ) → line ≡ key ++ b ∷ value → IsLine line → IsLine value
value_line line key value b same is = All-tail (λ c. (c == 10) ≡ false) b value (last_line key (b ∷ value) (subst (λ (l : List ℕ). IsLine l) same is))

-- a fact's line, piece by piece
pub fact_stands : (text behind line key value rest : List ℕ) → text ≡ codes "catalogue-" ++ behind → behind ≡ line ++ 10 ∷ rest → line ≡ key ++ 32 ∷ value → is_fact_key key ≡ true → IsText value
    → Stands fact_line IsFormedFact text rest
unfolding fact_line
fact_stands text behind line key value rest one two three named said =
    let front : codes "catalogue-" ++ line ≡ (codes "catalogue-" ++ key) ++ 32 ∷ value = ap (λ (l : List ℕ). codes "catalogue-" ++ l) three ∙ sym (append_assoc (codes "catalogue-") key (32 ∷ value)) in
    let begun : text ≡ ((codes "catalogue-" ++ key) ++ 32 ∷ value) ++ 10 ∷ rest = behind-both (codes "catalogue-") line text behind (10 ∷ rest) one two ∙ ap (λ (l : List ℕ). l ++ 10 ∷ rest) front in
    record {
      value = record { key = key; value = value };
      same = behind-both ((codes "catalogue-" ++ key) ++ 32 ∷ value) (10 ∷ []) text (10 ∷ rest) rest begun refl;
      plain = plain_fact_line (record { key = key; value = value }) (fact_key-text key named) said;
      is = record { key = named; value = said };
    }

-- what stands behind a fact's line is shorter
pub fact_shorter : (text rest : List ℕ) → Stands fact_line IsFormedFact text rest → length rest < length text
unfolding fact_line
fact_shorter text rest one = behind-shorter 99 (((codes "atalogue-" ++ one.value.key) ++ 32 ∷ one.value.value) ++ 10 ∷ []) text rest one.same

-- ---- a fact that is found

-- a byte of a fact's key is no space
no_space : (b : ℕ) → is_fact_byte b ≡ true → (b == 32) ≡ false
no_space b is = elim (cases_Bool (b == 32)) [
  | inl same ↦ absurd (true≢false (sym is ∙ ap is_fact_byte (eqb-true b 32 same)))
  | inr apart ↦ apart
]

each_no_space : (bytes : List ℕ) → list_all is_fact_byte bytes ≡ true → All (λ b. (b == 32) ≡ false) bytes
each_no_space [] is = All-nil (λ b. (b == 32) ≡ false)
each_no_space (b ∷ bytes) is =
    let parts = and_parts (is_fact_byte b) (list_all is_fact_byte bytes) is in
    All-cons (λ b. (b == 32) ≡ false) b bytes (no_space b parts.0) (each_no_space bytes parts.1)

-- a fact's key has no space
key_no_space : (key : List ℕ) → is_fact_key key ≡ true → All (λ b. (b == 32) ≡ false) key
key_no_space key is = each_no_space key (and_parts _ _ (and_parts _ _ is).1).1

-- the line of a fact begins with its word
fact_text : (fact : FactEntry) (rest : List ℕ) → fact_line fact ++ rest ≡ codes "catalogue-" ++ ((fact.key ++ 32 ∷ fact.value) ++ 10 ∷ rest)
unfolding fact_line
fact_text fact rest = append_assoc (codes "catalogue-" ++ fact.key ++ 32 ∷ fact.value) (10 ∷ []) rest

-- where the word doesn't stand, no fact does
pub unworded : (text : List ℕ) (fact : FactEntry) (rest : List ℕ) → Lacks text (codes "catalogue-") → text ≡ fact_line fact ++ rest → ⊥
unworded text fact rest lacks same = lacks ((fact.key ++ 32 ∷ fact.value) ++ 10 ∷ rest) (same ∙ fact_text fact rest)

-- the line of a fact behind its word
pub record FactCut (behind rest : List ℕ) (fact : FactEntry) : Type 0 where
  pub line : IsLine (fact.key ++ 32 ∷ fact.value)
  pub same : behind ≡ (fact.key ++ 32 ∷ fact.value) ++ 10 ∷ rest
  pub key : All (λ b. (b == 32) ≡ false) fact.key

-- where a fact stands, so do its key and its value behind the word
pub fact_cut : (text behind rest : List ℕ) (fact : FactEntry) → IsFormedFact fact → text ≡ codes "catalogue-" ++ behind → text ≡ fact_line fact ++ rest → FactCut behind rest fact
fact_cut text behind rest fact is worded same = record {
  line = line_append fact.key (32 ∷ fact.value) (IsLine-from_text fact.key (fact_key-text fact.key is.key)) (line_spaced fact.value (IsLine-from_text fact.value is.value));
  same = append-cancel (codes "catalogue-") behind ((fact.key ++ 32 ∷ fact.value) ++ 10 ∷ rest) (sym worded ∙ same ∙ fact_text fact rest);
  key = key_no_space fact.key is.key;
}

-- where the word has no line behind it, no fact stands
pub unlined : (text behind : List ℕ) → text ≡ codes "catalogue-" ++ behind → ((line rest : List ℕ) → IsLine line → behind ≡ line ++ 10 ∷ rest → ⊥)
    → (fact : FactEntry) (rest : List ℕ) → IsFormedFact fact → text ≡ fact_line fact ++ rest → ⊥
unlined text behind worded none fact rest is same =
    let cut = fact_cut text behind rest fact is worded same in
    none (fact.key ++ 32 ∷ fact.value) rest cut.line cut.same

-- where the line has no space, no fact stands
pub unspaced : (text behind line more : List ℕ) → text ≡ codes "catalogue-" ++ behind
    → ((other rest : List ℕ) → IsLine other → behind ≡ other ++ 10 ∷ rest → (line ≡ other) × (more ≡ rest))
    → ((front rest : List ℕ) → All (λ b. (b == 32) ≡ false) front → line ≡ front ++ 32 ∷ rest → ⊥)
    → (fact : FactEntry) (rest : List ℕ) → IsFormedFact fact → text ≡ fact_line fact ++ rest → ⊥
unspaced text behind line more worded one none fact rest is same =
    let cut = fact_cut text behind rest fact is worded same in
    none fact.key fact.value cut.key (one (fact.key ++ 32 ∷ fact.value) rest cut.line cut.same).0

-- the line, its key and its value are those of the fact
pub record IsFound (named said more rest : List ℕ) (fact : FactEntry) : Type 0 where
  pub key : named ≡ fact.key
  pub value : said ≡ fact.value
  pub behind : more ≡ rest

-- where a fact stands, it is the one that is found
pub fact-found : (text behind line key value more : List ℕ) → text ≡ codes "catalogue-" ++ behind
    → ((other rest : List ℕ) → IsLine other → behind ≡ other ++ 10 ∷ rest → (line ≡ other) × (more ≡ rest))
    → ((front rest : List ℕ) → All (λ b. (b == 32) ≡ false) front → line ≡ front ++ 32 ∷ rest → (key ≡ front) × (value ≡ rest))
    → (fact : FactEntry) (rest : List ℕ) → IsFormedFact fact → text ≡ fact_line fact ++ rest → IsFound key value more rest fact
fact-found text behind line key value more worded one two fact rest is same =
    let cut = fact_cut text behind rest fact is worded same in
    let lined = one (fact.key ++ 32 ∷ fact.value) rest cut.line cut.same in
    let keyed = two fact.key fact.value cut.key lined.0 in
    record { key = keyed.0; value = keyed.1; behind = lined.1 }

-- what fails the test is no fact's key
pub unkeyed : (key other : List ℕ) → is_fact_key key ≡ false → is_fact_key other ≡ true → key ≡ other → ⊥
unkeyed key other fails is same = true≢false (sym is ∙ ap is_fact_key (sym same) ∙ fails)

-- where a fact stands, the text begins with its word
not_worded : (current behind rest : List ℕ) → Stands fact_line IsFormedFact current behind → LacksEach rest (codes "catalogue-" ∷ []) → current ≡ rest → ⊥
not_worded current behind rest stands lacks same = unworded rest stands.value behind lacks.0 (sym same ∙ stands.same)

-- the next fact is found
pub facts-next : (text current behind : List ℕ) → KeepsAll fact_line IsFormedFact (codes "catalogue-" ∷ []) text current → Stands fact_line IsFormedFact current behind
    → ((fact : FactEntry) (rest : List ℕ) → IsFormedFact fact → ⊤ → current ≡ fact_line fact ++ rest → behind ≡ rest)
    → KeepsAll fact_line IsFormedFact (codes "catalogue-" ∷ []) text behind
facts-next text current behind kept stands one =
    all_left-next fact_line IsFormedFact (codes "catalogue-" ∷ []) text current behind kept (λ rest lacks same. not_worded current behind rest stands lacks same) (λ fact rest is same. one fact rest is tt same)

-- where no fact is found, none is left
pub facts-none : (text current : List ℕ) → KeepsAll fact_line IsFormedFact (codes "catalogue-" ∷ []) text current
    → ((fact : FactEntry) (rest : List ℕ) → IsFormedFact fact → ⊤ → current ≡ fact_line fact ++ rest → ⊥)
    → (facts : List FactEntry) (rest : List ℕ) → All IsFormedFact facts → Lacks rest (codes "catalogue-") → text ≡ flat_map fact_line facts ++ rest → current ≡ rest
facts-none text current kept none facts rest is lacks same =
    all_left-none fact_line IsFormedFact (codes "catalogue-" ∷ []) text current kept (λ fact rest is same. none fact rest is tt same) facts rest is (lacks, tt) same
