use Rattle.std.proofs.Common.{◌≡◌, ◌-◌, ℕ, List, length, take, sym, ap, ◌∙◌}
use Rattle.std.specs.Prelude.{filter}
use Rattle.tl_backup.specs.Files.{backup_cmp, is_other}
use Rattle.tl_backup.specs.Ordered.{in_order}
use Rattle.tl_backup.specs.declared.names.Backup.{Backup}
use Rattle.tl_backup.proofs.Orders.{sorted_in_order, backup_total, backup_antisymmetric}
use Rattle.tl_backup.proofs.names.pruned.Goals as goal

pub returns : goal.returns
returns c =
    let others : List Backup = filter (is_other c.args.name.now c.args.coming) c.args.backups.now in
    let ordered : List Backup = in_order backup_cmp others in
    let sorted : c.sort_unstable.new.self.items ≡ ordered =
    sorted_in_order backup_cmp backup_total backup_antisymmetric _ _ c.sort_unstable.ensures.permutation c.sort_unstable.ensures.sorted
    ∙ ap (in_order backup_cmp) c.in_ok-others.ensures in
    let size : length c.sort_unstable.new.self.items ≡ c.len.result = sym (c.len.ensures ∙ c.sort_unstable.new.self.ok.0) in
    c.truncate.ensures.items
    ∙ ap (λ (n : ℕ). take n c.sort_unstable.new.self.items) (c.saturating_sub.ensures ∙ ap (λ (n : ℕ). n - (c.args.keep - 1)) (sym size))
    ∙ ap (λ (l : List Backup). take (length l - (c.args.keep - 1)) l) sorted
