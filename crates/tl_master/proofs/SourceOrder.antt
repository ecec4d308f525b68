-- The order of files of sources.
use Rattle.std.proofs.Common.{◌≡◌, refl}
use Rattle.std.specs.Ordering.{ordering_then, nat_cmp}
use Rattle.std.specs.declared.cmp.Ordering.{Ordering}
use Rattle.std.specs.declared.cmp.Ordering.TheVariants.{Less, Equal, Greater}
use Rattle.std.specs.Cmp.{IsTotalOrder, then_total, on_total, nat_cmp_total}
use Rattle.std.specs.Cmp.Lexicographic.{slice_cmp, nat_list_cmp_total}
use Rattle.std.specs.FinMap.{IsAntisymmetric, nat_cmp-IsAntisymmetric, slice_cmp-IsAntisymmetric}
use Rattle.tl_master.specs.Sources.{source_cmp}
use Rattle.tl_master.specs.declared.files.SourceFile.{SourceFile}

-- the order is total
pub source_total : IsTotalOrder source_cmp
source_total =
    then_total (on_total (λ (f : SourceFile). f.name) nat_list_cmp_total)
    (then_total (on_total (λ (f : SourceFile). f.mark) nat_cmp_total) (on_total (λ (f : SourceFile). f.path) nat_list_cmp_total))

then_equal : (r s : Ordering) → ordering_then r s ≡ Equal → (r ≡ Equal) × (s ≡ Equal)
then_equal Less s e = absurd (cc)
then_equal Equal s e = (refl, e)
then_equal Greater s e = absurd (cc)

-- files that no order tells apart are one
pub source_antisymmetric : IsAntisymmetric source_cmp
source_antisymmetric a b e =
    let parts = then_equal (slice_cmp nat_cmp a.name b.name) (ordering_then (nat_cmp a.mark b.mark) (slice_cmp nat_cmp a.path b.path)) e in
    let others = then_equal (nat_cmp a.mark b.mark) (slice_cmp nat_cmp a.path b.path) parts.1 in
    let names : a.name ≡ b.name = slice_cmp-IsAntisymmetric nat_cmp-IsAntisymmetric a.name b.name parts.0 in
    let marks : a.mark ≡ b.mark = nat_cmp-IsAntisymmetric a.mark b.mark others.0 in
    let paths : a.path ≡ b.path = slice_cmp-IsAntisymmetric nat_cmp-IsAntisymmetric a.path b.path others.1 in
    λ i. record { name = names i; mark = marks i; path = paths i }
