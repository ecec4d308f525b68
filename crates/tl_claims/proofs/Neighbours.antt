-- Neighbours in a list, and the order of claims.
use Rattle.std.proofs.Common.{◌≡◌, ℕ, true, false, cond, List, ◌∷◌, Some, ap, sym, ◌∙◌}
use Rattle.std.specs.Ordering.{nat_cmp, ordering_then}
use Rattle.std.specs.declared.cmp.Ordering.{Ordering}
use Rattle.std.specs.declared.cmp.Ordering.TheVariants.{Less, Equal, Greater}
use Rattle.std.specs.Cmp.{IsTotalOrder, then_total, on_total, nat_cmp_total}
use Rattle.std.specs.Cmp.Lexicographic.{slice_cmp, nat_list_cmp_total}
use Rattle.std.specs.FinMap.{IsAntisymmetric, nat_cmp-IsAntisymmetric, slice_cmp-IsAntisymmetric}
use Rattle.std.specs.Str.{bytes_eq}
use Rattle.tl_claims.specs.Claims.{claim_cmp, clash_of, first_clash, first_twice}
use Rattle.tl_claims.specs.declared.claim.Claim.{Claim}

pub twice-same : (xs bs rest : List (List ℕ)) (a b : List ℕ) → xs ≡ a ∷ bs → bs ≡ b ∷ rest → bytes_eq a b ≡ true → first_twice xs ≡ Some a
twice-same xs bs rest a b e f same = ap first_twice (e ∙ ap (λ l. a ∷ l) f) ∙ ap (λ c. cond c (Some a) (first_twice (b ∷ rest))) same

pub twice-apart : (xs bs rest : List (List ℕ)) (a b : List ℕ) → xs ≡ a ∷ bs → bs ≡ b ∷ rest → bytes_eq a b ≡ false → first_twice xs ≡ first_twice bs
twice-apart xs bs rest a b e f apart = ap first_twice (e ∙ ap (λ l. a ∷ l) f) ∙ ap (λ c. cond c (Some a) (first_twice (b ∷ rest))) apart ∙ sym (ap first_twice f)

pub clash-same : (xs bs rest : List Claim) (a b : Claim) → xs ≡ a ∷ bs → bs ≡ b ∷ rest → bytes_eq a.path b.path ≡ true → first_clash xs ≡ Some (clash_of a b)
clash-same xs bs rest a b e f same = ap first_clash (e ∙ ap (λ l. a ∷ l) f) ∙ ap (λ c. cond c (Some (clash_of a b)) (first_clash (b ∷ rest))) same

pub clash-apart : (xs bs rest : List Claim) (a b : Claim) → xs ≡ a ∷ bs → bs ≡ b ∷ rest → bytes_eq a.path b.path ≡ false → first_clash xs ≡ first_clash bs
clash-apart xs bs rest a b e f apart = ap first_clash (e ∙ ap (λ l. a ∷ l) f) ∙ ap (λ c. cond c (Some (clash_of a b)) (first_clash (b ∷ rest))) apart ∙ sym (ap first_clash f)

-- the order of claims is total
pub claim_total : IsTotalOrder claim_cmp
claim_total = then_total (on_total (λ (c : Claim). c.path) nat_list_cmp_total)
    (then_total (on_total (λ (c : Claim). c.number) nat_cmp_total) (on_total (λ (c : Claim). c.by) nat_list_cmp_total))

then_equal : (r s : Ordering) → ordering_then r s ≡ Equal → (r ≡ Equal) × (s ≡ Equal)
then_equal Less s e = absurd (cc)
then_equal Equal s e = (λ i. Equal, e)
then_equal Greater s e = absurd (cc)

-- claims that no order tells apart are one
pub claim_antisymmetric : IsAntisymmetric claim_cmp
claim_antisymmetric a b e =
    let parts = then_equal (slice_cmp nat_cmp a.path b.path) (ordering_then (nat_cmp a.number b.number) (slice_cmp nat_cmp a.by b.by)) e in
    let more = then_equal (nat_cmp a.number b.number) (slice_cmp nat_cmp a.by b.by) parts.1 in
    let paths : a.path ≡ b.path = slice_cmp-IsAntisymmetric nat_cmp-IsAntisymmetric a.path b.path parts.0 in
    let numbers : a.number ≡ b.number = nat_cmp-IsAntisymmetric a.number b.number more.0 in
    let names : a.by ≡ b.by = slice_cmp-IsAntisymmetric nat_cmp-IsAntisymmetric a.by b.by more.1 in
    λ i. record { path = paths i; number = numbers i; by = names i }

-- the order of names is total, and names that it doesn't tell apart are one
pub name_antisymmetric : IsAntisymmetric (slice_cmp nat_cmp)
name_antisymmetric = slice_cmp-IsAntisymmetric nat_cmp-IsAntisymmetric
