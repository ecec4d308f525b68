-- Which files of a tree are backups.
use Rattle.std.specs.Prelude.{ℕ, ◌-◌, nat_eq, nat_le, not, Bool, ◌&&◌, ◌||◌, ◌==◌, if◌then◌else◌, List, ◌++◌, length, take, drop, slice_index, codes, Option, Some, None, filter}
use Rattle.std.specs.Char.{is_ascii_digit}
use Rattle.std.specs.Str.{bytes_eq}
use Rattle.std.specs.List.{starts_with, ends_with, suffix_len}
use Rattle.std.specs.Option.{option_and_then}
use Rattle.tl_model.specs.Decimal.{is_decimal, decimal_value, decimal_text}
use Rattle.std.specs.Ordering.{nat_cmp, ordering_then}
use Rattle.std.specs.Cmp.Lexicographic.{slice_cmp}
use Rattle.std.specs.declared.cmp.Ordering.{Ordering}
use Rattle.tl_path.specs.Names.{is_name}
use Rattle.tl_backup.specs.Ordered.{in_order}
use Rattle.tl_backup.specs.declared.names.Backup.{Backup}

-- what a text has behind a front; None where it begins otherwise
abbrev pub behind_front : List ℕ → List ℕ → Option (List ℕ)
behind_front front text = if starts_with nat_eq text front then Some (drop (length front) text) else None

-- what a text has before a back; None where it ends otherwise
abbrev pub before_back : List ℕ → List ℕ → Option (List ℕ)
before_back back text = if ends_with nat_eq text back then Some (take (length text - length back) text) else None

-- whether digits have no leading zero
abbrev pub is_plain_decimal : List ℕ → Bool
is_plain_decimal digits = (length digits == 1) || not (slice_index digits 0 == 48)

-- the revision that digits stand for: a u32 without leading zeros
abbrev pub revision_of : List ℕ → Option ℕ
revision_of digits = if is_decimal digits && (nat_le (decimal_value digits) 4294967295 && is_plain_decimal digits)
    then Some (decimal_value digits) else None

-- the backup of a package of this name at the revision of these digits
abbrev pub backup_with : List ℕ → Option ℕ → Option Backup
backup_with name None = None
backup_with name (Some revision) = if is_name name then Some (record { name = name; revision = revision }) else None

-- the backup that a text `NAME.rREV` names: its digits at the end are REV
abbrev pub backup_of : List ℕ → Option Backup
backup_of text =
    let size = length text - suffix_len is_ascii_digit text in
    option_and_then (λ name. backup_with name (revision_of (drop size text))) (before_back (codes ".r") (take size text))

-- the backup that a path is the name of: `tlpkg/backups/NAME.rREV.tlc`; None for any other
abbrev pub backup_at : List ℕ → Option Backup
backup_at path = option_and_then backup_of (option_and_then (before_back (codes ".tlc")) (behind_front (codes "tlpkg/backups/") path))

-- the path of a backup of a package at a revision
abbrev pub backup_path : List ℕ → ℕ → List ℕ
backup_path name revision = codes "tlpkg/backups/" ++ (name ++ (codes ".r" ++ (decimal_text revision ++ codes ".tlc")))

-- the order of backups: by name, then by revision
abbrev pub backup_cmp : Backup → Backup → Ordering
backup_cmp a b = ordering_then (slice_cmp nat_cmp a.name b.name) (nat_cmp a.revision b.revision)

-- whether a backup is one of this package at another revision
abbrev pub is_other : List ℕ → ℕ → Backup → Bool
is_other name coming backup = bytes_eq backup.name name && not (backup.revision == coming)

-- the backups of a package at other revisions than the one that comes, in order, but for the greatest, one fewer than are kept
abbrev pub pruned_from : List ℕ → ℕ → ℕ → List Backup → List Backup
pruned_from name coming keep backups =
    let others = in_order backup_cmp (filter (is_other name coming) backups) in take (length others - (keep - 1)) others
