-- A word among the bytes of a text, as a search finds it.
use Rattle.std.proofs.Common.{◌≡◌, ◌+◌, ◌<◌, ◌≤◌, ◌&&◌, ◌⊎◌, ℕ, zero, suc, Bool, true, false, List, [], ◌∷◌, length, take, get_or, nat_eq, Option, Some, None, inl, inr, refl, sym, ◌∙◌, ap, arith}
use Rattle.std.specs.List.{starts_with}
use Rattle.std.specs.Prelude.{is_some}
use Rattle.std.specs.Cmp.Lexicographic.{pointwise}
use Rattle.std.proofs.lemmas.Bool.{cases_Bool, eqb-true, eq-eqb, and_parts, or_left, or_right, or_from}
use Rattle.memchr.specs.Find.{OccursAt, FindsNeedle}
use Rattle.tl_report.specs.Search.{has_bytes}

both : (a b : Bool) → a ≡ true → b ≡ true → (a && b) ≡ true
both a b is more = rw (is, more) refl

-- a word stands one byte further on where a byte comes in front
further : (b : ℕ) (text word : List ℕ) (k : ℕ) → OccursAt text word k → OccursAt (b ∷ text) word (suc k)
further b text word k occurs = record {
  fits = let fits : k + length word ≤ length text = occurs.fits in omega (arith, fits);
  reads = λ j lt. let next : suc k + j ≡ suc (k + j) = omega arith in ap (λ (n : ℕ). get_or (b ∷ text) n 0) next ∙ occurs.reads j lt;
}

-- and nearer where it goes
nearer : (b : ℕ) (text word : List ℕ) (k : ℕ) → OccursAt (b ∷ text) word (suc k) → OccursAt text word k
nearer b text word k occurs = record {
  fits = let fits : suc k + length word ≤ length (b ∷ text) = occurs.fits in omega (arith, fits);
  reads = λ j lt. let next : suc k + j ≡ suc (k + j) = omega arith in sym (ap (λ (n : ℕ). get_or (b ∷ text) n 0) next) ∙ occurs.reads j lt;
}

-- a word that stands at the front of a text
starts_from : (text word : List ℕ) → OccursAt text word 0 → starts_with nat_eq text word ≡ true
starts_from text [] occurs = refl
starts_from [] (w ∷ word) occurs = let fits : 0 + length (w ∷ word) ≤ 0 = occurs.fits in absurd (omega (arith, fits))
starts_from (b ∷ text) (w ∷ word) occurs =
    let first : b ≡ w = occurs.reads 0 (omega arith) in
    both (nat_eq w b) (pointwise nat_eq word (take (length word) text)) (eq-eqb w b (sym first)) (starts_from text word rest)
  where
    rest : OccursAt text word 0
    rest = record {
      fits = let fits : 0 + length (w ∷ word) ≤ length (b ∷ text) = occurs.fits in omega (arith, fits);
      reads = λ j lt.
          let far : 0 + suc j ≡ suc j = omega arith in
          let near : 0 + j ≡ j = omega arith in
          ap (λ (n : ℕ). get_or text n 0) near ∙ sym (ap (λ (n : ℕ). get_or (b ∷ text) n 0) far) ∙ occurs.reads (suc j) (omega arith);
    }

starts_to : (text word : List ℕ) → starts_with nat_eq text word ≡ true → OccursAt text word 0
starts_to text [] is = record { fits = omega arith; reads = λ j lt. absurd (omega (arith, lt)) }
starts_to [] (w ∷ word) is = absurd (cc)
starts_to (b ∷ text) (w ∷ word) is =
    let parts = and_parts (nat_eq w b) (pointwise nat_eq word (take (length word) text)) is in
    joined (eqb-true w b parts.0) (starts_to text word parts.1)
  where
    joined : w ≡ b → OccursAt text word 0 → OccursAt (b ∷ text) (w ∷ word) 0
    joined same rest = record {
      fits = let fits : 0 + length word ≤ length text = rest.fits in omega (arith, fits);
      reads = λ j lt. by j lt;
    }
      where
        by : (j : ℕ) → j < length (w ∷ word) → get_or (b ∷ text) (0 + j) 0 ≡ get_or (w ∷ word) j 0
        by zero lt = sym same
        by (suc j) lt =
            let far : 0 + suc j ≡ suc j = omega arith in
            let near : 0 + j ≡ j = omega arith in
            ap (λ (n : ℕ). get_or (b ∷ text) n 0) far ∙ sym (ap (λ (n : ℕ). get_or text n 0) near) ∙ rest.reads j (omega arith)

has-none : (word text : List ℕ) → ((k : ℕ) → k < length text + 1 → OccursAt text word k → ⊥) → has_bytes word text ≡ false
has-none word [] none = elim (cases_Bool (starts_with nat_eq [] word)) [
  | inl there ↦ absurd (none 0 (omega arith) (starts_to [] word there))
  | inr absent ↦ absent
]
has-none word (b ∷ text) none = by (cases_Bool (starts_with nat_eq (b ∷ text) word)) (has-none word text (λ k lt occurs. none (suc k) (omega arith) (further b text word k occurs)))
  where
    by : (starts_with nat_eq (b ∷ text) word ≡ true) ⊎ (starts_with nat_eq (b ∷ text) word ≡ false) → has_bytes word text ≡ false → has_bytes word (b ∷ text) ≡ false
    by (inl there) rest = absurd (none 0 (omega arith) (starts_to (b ∷ text) word there))
    by (inr absent) rest = or_from (starts_with nat_eq (b ∷ text) word) (has_bytes word text) absent rest

has-at : (word text : List ℕ) (k : ℕ) → OccursAt text word k → has_bytes word text ≡ true
has-at word [] zero occurs = starts_from [] word occurs
has-at word [] (suc k) occurs = let fits : suc k + length word ≤ 0 = occurs.fits in absurd (omega (arith, fits))
has-at word (b ∷ text) zero occurs = or_left (starts_with nat_eq (b ∷ text) word) (has_bytes word text) (starts_from (b ∷ text) word occurs)
has-at word (b ∷ text) (suc k) occurs = or_right (starts_with nat_eq (b ∷ text) word) (has_bytes word text) (has-at word text k (nearer b text word k occurs))

-- a search finds a word exactly where a text has its bytes
pub found-bytes : (word text : List ℕ) (found : Option ℕ) → FindsNeedle text word 0 found → is_some found ≡ has_bytes word text
found-bytes word text None none = sym (has-none word text (λ k lt occurs. none k (omega arith) lt occurs))
found-bytes word text (Some k) found = sym (has-at word text k found.1)
