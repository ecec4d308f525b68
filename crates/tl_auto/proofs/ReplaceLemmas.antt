-- How the replacement of variables goes on.
use Rattle.std.proofs.Common.{◌≡◌, ℕ, zero, suc, ◌<◌, ◌≤◌, ◌+◌, ◌-◌, ◌==◌, ◌&&◌, Bool, true, false, cond, nat_lt, List, [], ◌∷◌, ◌++◌, length, get_or, take, drop, Option, None, Some, refl, ◌∙◌, ap, sym, append_assoc, append-nil, add-one, length-drop, arith}
use Rattle.std.specs.Option.{option_map}
use Rattle.std.specs.List.{position, position_or_len}
use Rattle.std.proofs.lemmas.List.Sums.{fails_before_first}
use Rattle.std.proofs.lemmas.Bool.Decides.{nat_tests}
use Rattle.std.proofs.lemmas.List.{take_rest}
use Rattle.std.proofs.lemmas.List.Quantifiers.{position-Some}
use Rattle.tl_auto.specs.Variables.{joined_texts, replaced_since}
use Rattle.tl_auto.specs.declared.setting.Part.{Part}
use Rattle.tl_auto.specs.declared.setting.Part.TheVariants.{End, Byte, Variable, Open}
use Rattle.tl_auto.specs.Parts.{begins_variable, IsVariable, IsByte, IsVariableFirst, IsVariableOf, IsPartOf}

-- a name ends at the first `}`
pub name_ends : (value : List ℕ → Option (List ℕ)) (name text : List ℕ) (k : ℕ) → k < length text → (get_or text k 0 == 125) ≡ true
    → ((j : ℕ) → j < k → (get_or text j 0 == 125) ≡ false)
    → replaced_since value (Some name) text ≡ joined_texts (value (name ++ take k text)) (replaced_since value None (drop (suc k) text))
unfolding replaced_since
name_ends value name [] k within at below = absurd (omega arith)
name_ends value name (b ∷ text) zero within at below = rw at (ap (λ n. joined_texts (value n) (replaced_since value None text)) (sym (append-nil name)))
name_ends value name (b ∷ text) (suc k) within at below =
    let first : (b == 125) ≡ false = below 0 (omega arith) in
    rw first (name_ends value (name ++ b ∷ []) text k (omega arith) at (λ j less. below (suc j) (omega arith))
    ∙ ap (λ n. joined_texts (value n) (replaced_since value None (drop (suc k) text))) (append_assoc name (b ∷ []) (take k text)))

-- without a `}` it has no end
pub name_open : (value : List ℕ → Option (List ℕ)) (name text : List ℕ) → ((j : ℕ) → j < length text → (get_or text j 0 == 125) ≡ false)
    → replaced_since value (Some name) text ≡ None
unfolding replaced_since
name_open value name [] below = refl
name_open value name (b ∷ text) below =
    let first : (b == 125) ≡ false = below 0 (omega arith) in
    rw first (name_open value (name ++ b ∷ []) text (λ j less. below (suc j) (omega arith)))

-- a byte that doesn't begin a variable stands for itself
pub byte_stands : (value : List ℕ → Option (List ℕ)) (b : ℕ) (text : List ℕ) → begins_variable (b ∷ text) ≡ false
    → replaced_since value None (b ∷ text) ≡ option_map (λ r. b ∷ r) (replaced_since value None text)
unfolding replaced_since
byte_stands value b [] is = refl
byte_stands value b (c ∷ text) is = rw is refl

-- a variable's name stands behind its `${`
pub variable_begins : (value : List ℕ → Option (List ℕ)) (text : List ℕ) → begins_variable text ≡ true
    → replaced_since value None text ≡ replaced_since value (Some []) (drop 2 text)
unfolding replaced_since
variable_begins value [] is = cc
variable_begins value (a ∷ []) is = cc
variable_begins value (a ∷ b ∷ text) is = rw is refl

pub variable_length : (text : List ℕ) → begins_variable text ≡ true → 2 + length (drop 2 text) ≡ length text
variable_length [] is = cc
variable_length (a ∷ []) is = cc
variable_length (a ∷ b ∷ text) is = omega arith

same_rest : (text behind : List ℕ) (n : ℕ) → behind ≡ take (length text - n) (drop n text) → behind ≡ drop n text
same_rest text behind n is = is ∙ take_rest text n

pub variable_found : (text behind : List ℕ) (k : ℕ) → Some k ≡ position (λ b. b == 125) text → behind ≡ take (length text - (k + 1)) (drop (k + 1) text)
    → IsVariable text (take k text) behind
variable_found text behind k found is =
    let at = position-Some (λ b. b == 125) text k 0 (sym found) in
    let same : behind ≡ drop (k + 1) text = same_rest text behind (k + 1) is in
    record {
      value = λ value. name_ends value [] text k at.0 at.1 at.2
          ∙ ap (λ bs. joined_texts (value (take k text)) (replaced_since value None bs)) (sym (same ∙ ap (λ n. drop n text) (add-one k)));
      shorter = let less : k < length text = at.0 in rw same (simp length-drop (omega arith));
    }

pub byte_first : (text behind : List ℕ) → 1 ≤ length text → begins_variable text ≡ false → behind ≡ take (length text - 1) (drop 1 text)
    → IsByte text (get_or text 0 0) behind
byte_first [] behind long is rest = absurd (omega arith)
byte_first (b ∷ text) behind long is rest =
    let same : behind ≡ text = same_rest (b ∷ text) behind 1 rest in
    record {
      value = λ value. byte_stands value b text is ∙ ap (λ bs. option_map (λ r. b ∷ r) (replaced_since value None bs)) (sym same);
      shorter = rw same (omega arith);
    }

-- what stands behind a `${` begins the whole
pub part_behind : (text behind : List ℕ) (part : Part) → begins_variable text ≡ true → behind ≡ take (length text - 2) (drop 2 text) → IsVariableOf behind part → IsPartOf text part
part_behind text behind End is rest of = absurd of
part_behind text behind (Byte b bs) is rest of = absurd of
part_behind text behind (Variable name bs) is rest of =
    let same : behind ≡ drop 2 text = same_rest text behind 2 rest in
    let long = variable_length text is in
    let short : length behind ≡ length (drop 2 text) = ap length same in
    let less : length bs.now < length behind = of.shorter in
    record {
      value = λ value. variable_begins value text is ∙ ap (replaced_since value (Some [])) (sym same) ∙ of.value value;
      shorter = omega arith;
    }
part_behind text behind Open is rest of = λ value. variable_begins value text is ∙ ap (replaced_since value (Some [])) (sym (same_rest text behind 2 rest)) ∙ of value

passed : (n m : ℕ) → None ≡ cond (nat_lt n m) (Some n) None → m ≤ n
passed n m is = grind (arith, nat_tests)

pub never_closed : (text : List ℕ) → None ≡ position (λ b. b == 125) text → (value : List ℕ → Option (List ℕ)) → replaced_since value (Some []) text ≡ None
never_closed text none value =
    let far : length text ≤ position_or_len (λ b. b == 125) text = passed _ _ none in
    name_open value [] text (λ j less. fails_before_first (λ b. b == 125) text j 0 (omega arith))

pub made_none : (o : Option (List ℕ)) → option_map (λ r. [] ++ r) o ≡ o
made_none None = refl
made_none (Some r) = refl

pub made_byte : (made : List ℕ) (b : ℕ) (o : Option (List ℕ)) → option_map (λ r. (made ++ b ∷ []) ++ r) o ≡ option_map (λ r. made ++ r) (option_map (λ r. b ∷ r) o)
made_byte made b None = refl
made_byte made b (Some r) = ap Some (append_assoc made (b ∷ []) r)

pub made_value : (made value : List ℕ) (o : Option (List ℕ)) → option_map (λ r. (made ++ value) ++ r) o ≡ option_map (λ r. made ++ r) (joined_texts (Some value) o)
made_value made value None = refl
made_value made value (Some r) = ap Some (append_assoc made value r)

pub made_end : (value : List ℕ → Option (List ℕ)) (made rest text : List ℕ) → rest ≡ []
    → option_map (λ r. made ++ r) (replaced_since value None rest) ≡ replaced_since value None text → Some made ≡ replaced_since value None text
unfolding replaced_since
made_end value made rest text is so =
    let end : option_map (λ r. made ++ r) (replaced_since value None []) ≡ Some made = ap Some (append-nil made) in
    sym end ∙ ap (λ xs. option_map (λ r. made ++ r) (replaced_since value None xs)) (sym is) ∙ so
