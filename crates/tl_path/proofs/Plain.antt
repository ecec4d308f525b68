-- A text whose components each begin with a byte other than '.' has no faulty component, if it is short.
use Rattle.std.proofs.Common.{◌≡◌, ◌||◌, ◌&&◌, ◌+◌, ◌*◌, ◌<◌, ◌≤◌, ◌∙◌, sym, ap, refl, ℕ, zero, suc, Bool, true, false, not, cond, nat_eq, List, [], ◌∷◌, fold, zip, drop, length, get_or, None, arith, ◌-◌, take}
use Rattle.std.specs.List.{list_all, onto_first}
use Rattle.std.proofs.lemmas.Bool.Decides.{nat_tests}
use Rattle.std.proofs.lemmas.List.Sums.{sum_by-cons}
use Rattle.std.proofs.lemmas.List.{take_all}
use Rattle.tl_path.specs.Components.{components, is_no_component}
use Rattle.tl_path.specs.Inside.{is_doubtful}
use Rattle.tl_path.specs.Path.{component_fault, component_fault_from}
use Rattle.tl_path.proofs.Scan.{known, second}
use Rattle.tl_path.proofs.Split.{slash, lengths, lengths-components}

-- whether a component has a first byte other than '.'
abbrev opens : List ℕ → Bool
opens [] = false
opens (b ∷ c) = not (nat_eq b 46)

-- whether no two bytes of a text that stand together leave room for a doubtful component, one before it and '/' after it
abbrev tame : ℕ → List ℕ → Bool
tame before [] = not (nat_eq before 47)
tame before (b ∷ text) = not (is_doubtful before b) && tame b text

-- the components that begin within a text
abbrev begun : Bool → List (List ℕ) → List (List ℕ)
begun true cs = cs
begun false [] = []
begun false (c ∷ cs) = cs

both : (a b : Bool) → (a && b) ≡ true → (a ≡ true) × (b ≡ true)
both true b is = (refl, is)
both false b is = absurd (cc)

and_true : (a b : Bool) → a ≡ true → b ≡ true → (a && b) ≡ true
and_true true b is also = also
and_true false b is also = absurd (cc)

calmed : (b : Bool) → b ≡ false → not b ≡ true
calmed false is = refl
calmed true is = absurd (cc)

step : (s t d : Bool) (b : ℕ) (cs : List (List ℕ)) → d ≡ nat_eq b 46 → not (s && (t || d)) ≡ true → list_all opens (begun t cs) ≡ true
    → list_all opens (begun s (cond t ([] ∷ cs) (onto_first b cs))) ≡ true
step true true d b cs is calm h = absurd (cc)
step true false true b cs is calm h = absurd (cc)
step true false false b [] is calm h = and_true _ _ (calmed _ (sym is)) refl
step true false false b (c ∷ cs) is calm h = and_true _ _ (calmed _ (sym is)) h
step false true d b cs is calm h = h
step false false d b [] is calm h = refl
step false false d b (c ∷ cs) is calm h = h

end : (s : Bool) → not s ≡ true → list_all opens (begun s ([] ∷ [])) ≡ true
end true is = absurd (cc)
end false is = refl

tame-begun : (before : ℕ) (text : List ℕ) → tame before text ≡ true → list_all opens (begun (nat_eq before 47) (components text)) ≡ true
tame-begun before [] is = end (nat_eq before 47) is
tame-begun before (b ∷ text) is =
    let parts = both _ _ is in step (nat_eq before 47) (slash b) (nat_eq b 46) b (components text) refl parts.0 (tame-begun b text parts.1)

opens_good : (c : List ℕ) → opens c ≡ true → is_no_component c ≡ false
opens_good [] is = absurd (cc)
opens_good (a ∷ []) is = grind (arith, nat_tests)
opens_good (a ∷ b ∷ []) is = grind (arith, nat_tests)
opens_good (a ∷ b ∷ c ∷ rest) is = refl

good : (at count : ℕ) (cs : List (List ℕ)) → list_all opens cs ≡ true → count + length cs ≤ 64 → component_fault_from at count cs ≡ None
good at count [] all few = refl
good at count (c ∷ cs) all few =
    let parts = both _ _ all in
    let fine : is_no_component c ≡ false = opens_good c parts.0 in
    let more : nat_eq count 64 ≡ false = grind (arith, nat_tests) in
    rw (fine, more) (good (at + length c + 1) (count + 1) cs parts.1 (omega (arith, few)))

opens_long : (c : List ℕ) → opens c ≡ true → 1 ≤ length c
opens_long [] is = absurd (cc)
opens_long (b ∷ c) is = omega arith

count-lengths : (cs : List (List ℕ)) → list_all opens cs ≡ true → 2 * length cs ≤ lengths cs
count-lengths [] all = omega arith
count-lengths (c ∷ cs) all =
    let parts : (opens c ≡ true) × (list_all opens cs ≡ true) = both (opens c) (list_all opens cs) all in
    let first : 1 ≤ length c = opens_long c parts.0 in
    let others : 2 * length cs ≤ lengths cs = count-lengths cs parts.1 in
    counted (length c) (length cs) (lengths cs) (lengths (c ∷ cs)) first others (sum_by-cons (λ d. length d + 1) c cs)
  where
    counted : (n m l k : ℕ) → 1 ≤ n → 2 * m ≤ l → k ≡ (n + 1) + l → 2 * suc m ≤ k
    counted n m l k first others is = omega (arith, first, others, is)

tame-good : (text : List ℕ) → tame 47 text ≡ true → length text < 128 → component_fault text ≡ None
tame-good text is short =
    let all : list_all opens (components text) ≡ true = tame-begun 47 text is in
    good 0 0 (components text) all (omega (arith, short, count-lengths (components text) all, lengths-components text))

abbrev pub found_in : Bool → List (ℕ × ℕ) → Bool
found_in found pairs = fold (λ found pair. found || is_doubtful pair.0 pair.1) found pairs

pairs-tame : (found : Bool) (b : ℕ) (text : List ℕ) (n : ℕ) → n ≡ length text → nat_eq (get_or (b ∷ text) n 0) 47 ≡ false
    → found_in found (zip (b ∷ text) text) ≡ false → tame b text ≡ true
pairs-tame found b [] zero is last none = calmed (nat_eq b 47) last
pairs-tame found b [] (suc n) is last none = absurd (omega (arith, is))
pairs-tame found b (c ∷ text) zero is last none = absurd (omega (arith, is))
pairs-tame found b (c ∷ text) (suc n) is last none =
    let first : is_doubtful b c ≡ false =
    second found (is_doubtful b c) (known (λ (p : ℕ × ℕ). is_doubtful p.0 p.1) (found || is_doubtful b c) (zip (c ∷ text) text) none) in
    and_true _ _ (calmed (is_doubtful b c) first) (pairs-tame (found || is_doubtful b c) c text n (omega (arith, is)) last none)

plain-none : (first : ℕ) (rest : List ℕ) → length (first ∷ rest) < 128 → is_doubtful 47 first ≡ false → nat_eq (get_or (first ∷ rest) (length rest) 0) 47 ≡ false
    → found_in false (zip (first ∷ rest) rest) ≡ false → component_fault (first ∷ rest) ≡ None
plain-none first rest short start last none =
    tame-good (first ∷ rest) (and_true _ _ (calmed (is_doubtful 47 first) start) (pairs-tame false first rest (length rest) refl last none)) short

neither : (a b c : Bool) → not ((a || b) || c) ≡ true → (a ≡ false) × ((b ≡ false) × (c ≡ false))
neither false false false is = (refl, (refl, refl))
neither false false true is = absurd (cc)
neither false true c is = absurd (cc)
neither true b c is = absurd (cc)

pub plain : (text : List ℕ) (start pairs : Bool) → 1 ≤ length text → length text < 128 → start ≡ is_doubtful 47 (get_or text 0 0)
    → pairs ≡ found_in false (zip text (take (length text - 1) (drop 1 text))) → not ((start || nat_eq (get_or text (length text - 1) 0) 47) || pairs) ≡ true
    → component_fault text ≡ None
plain [] start pairs some short first tested is = absurd (omega (arith, some))
plain (b ∷ text) start pairs some short first tested is =
    let len : length (b ∷ text) - 1 ≡ length text = omega arith in
    let tail : take (length (b ∷ text) - 1) text ≡ text = ap (λ n. take n text) len ∙ take_all (length text) text (omega arith) in
    let parts = neither _ _ _ is in
    plain-none b text short (sym first ∙ parts.0) (ap (λ n. nat_eq (get_or (b ∷ text) n 0) 47) (sym len) ∙ parts.1.0)
    (ap (λ rest. found_in false (zip (b ∷ text) rest)) (sym tail) ∙ sym tested ∙ parts.1.1)
