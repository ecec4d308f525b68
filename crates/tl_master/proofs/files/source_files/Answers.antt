use Rattle.std.proofs.Common.{◌≡◌, ◌<◌, ◌≤◌, ℕ, cond, length, Ok, Err, sym, ap, ◌∙◌, arith}
use Rattle.std.specs.List.{filter_map}
use Rattle.std.proofs.lemmas.Bool.{lt-ltb, le-ltb}
use Rattle.tl_kind.specs.declared.quantity.What.TheVariants.{Sources}
use Rattle.tl_backup.specs.Ordered.{in_order}
use Rattle.tl_backup.proofs.Orders.{sorted_in_order}
use Rattle.tl_master.specs.Sources.{source_at, source_cmp, within_sources}
use Rattle.tl_master.specs.declared.error.MasterError.TheVariants.{TooLarge}
use Rattle.tl_master.proofs.SourceOrder.{source_total, source_antisymmetric}
use Rattle.tl_master.proofs.files.source_files.Goals as goal

pub returns-then-len-limit-clause-files : goal.returns-then-len-limit-clause-files
returns-then-len-limit-clause-files c =
    let files = c.sort_unstable.new.self.items in
    let sorted : files ≡ in_order source_cmp (filter_map source_at c.args.listing.now) =
    sorted_in_order source_cmp source_total source_antisymmetric _ _ c.sort_unstable.ensures.permutation c.sort_unstable.ensures.sorted
    ∙ ap (in_order source_cmp) c.in_ok-files.ensures in
    let size : c.len.result ≡ length files = c.len.ensures ∙ c.sort_unstable.new.self.ok.0 in
    let limit : c.limit-limit.result ≡ 65536 = c.limit-limit.ensures in
    let past : 65536 < length files = omega (arith, c.if-len-limit.true, size, limit) in
    ap within_sources (sym sorted) ∙ ap (λ b. cond b (Err (TooLarge Sources 65536)) (Ok files)) (lt-ltb 65536 (length files) past)
    ∙ ap (λ (n : ℕ). Err (TooLarge Sources n)) (sym limit)

pub returns-clause-files : goal.returns-clause-files
returns-clause-files c =
    let files = c.sort_unstable.new.self.items in
    let sorted : files ≡ in_order source_cmp (filter_map source_at c.args.listing.now) =
    sorted_in_order source_cmp source_total source_antisymmetric _ _ c.sort_unstable.ensures.permutation c.sort_unstable.ensures.sorted
    ∙ ap (in_order source_cmp) c.in_ok-files.ensures in
    let size : c.len.result ≡ length files = c.len.ensures ∙ c.sort_unstable.new.self.ok.0 in
    let limit : c.limit-limit.result ≡ 65536 = c.limit-limit.ensures in
    let within : length files ≤ 65536 = omega (arith, c.if-len-limit.false, size, limit) in
    ap within_sources (sym sorted) ∙ ap (λ b. cond b (Err (TooLarge Sources 65536)) (Ok files)) (le-ltb 65536 (length files) within)
