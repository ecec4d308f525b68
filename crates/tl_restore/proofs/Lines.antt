-- The lines that say backups.
use Rattle.std.proofs.Common.{◌≡◌, ◌&&◌, ◌==◌, ◌+◌, ◌<◌, ◌^◌, ℕ, suc, Bool, true, false, cond, not, nat_le, nat_lt, List, [], ◌∷◌, ◌++◌, length, take, get_or, nat_eq, refl, sym, ap, subst, ◌∙◌, arith}
use Rattle.std.specs.Prelude.{IfOk, IfSome, Result, Ok, Err, codes, slice_index}
use Rattle.std.specs.Char.{is_ascii_digit}
use Rattle.std.specs.List.{before_first, list_all, position_or_len}
use Rattle.std.proofs.lemmas.Bool.{and_parts, and_right, eqb-true, true≢false}
use Rattle.std.proofs.lemmas.List.{flat_map_more, take_more}
use Rattle.tl_model.specs.Acks.{IsPlain, is_ack, plain-append, plain-line, plain-nil}
use Rattle.tl_model.specs.Decimal.{decimal_text, is_decimal}
use Rattle.tl_path.specs.Bytes.{is_letter_or_digit, is_of_name}
use Rattle.tl_path.specs.Names.{is_name}
use Rattle.tl_object.proofs.PlainLemmas.{line_append, line_of_number, line_tested}
use Rattle.tl_refusal.proofs.Plain.{line_of_name}
use Rattle.tl_backup.specs.Asked.{Answers}
use Rattle.tl_backup.specs.declared.error.BackupError.{BackupError}
use Rattle.tl_backup.specs.declared.error.BackupError.TheVariants as faults
use Rattle.tl_backup.specs.declared.names.Backup.{Backup}
use Rattle.tl_command.specs.Runs.{refused}
use Rattle.tl_backups.specs.Faults.{refusal_of}
use Rattle.tl_restore.specs.Listing.{backup_line, backup_lines, said_backups}

and_false : (b : Bool) → (b && false) ≡ false
and_false true = refl
and_false false = refl

no_space : (b : ℕ) → is_of_name b ≡ true → nat_eq 32 b ≡ false
no_space b is = by (nat_eq 32 b) refl
  where
    by : (t : Bool) → nat_eq 32 b ≡ t → t ≡ false
    by false same = refl
    by true same = absurd (true≢false (sym is ∙ ap is_of_name (sym (eqb-true 32 b same))))

name_bytes : (name : List ℕ) → is_name name ≡ true → list_all is_of_name name ≡ true
name_bytes name is =
    let first = is_letter_or_digit (slice_index name 0) in
    let some = and_parts (nat_le 1 (length name)) (nat_le (length name) 128 && (first && list_all is_of_name name)) is in
    let few = and_parts (nat_le (length name) 128) (first && list_all is_of_name name) some.1 in
    (and_parts first (list_all is_of_name name) few.1).1

-- a front up to a byte is not ended by another one
kept : (end : ℕ) (digits : List ℕ) → (114 == end) ≡ false → before_first (λ b. b == end) (114 ∷ digits) ≡ 114 ∷ before_first (λ b. b == end) digits
kept end digits other =
    ap (λ t. take (cond (not t) (1 + position_or_len (λ b. b == end) digits) 0) (114 ∷ digits)) other
    ∙ ap (λ n. take n (114 ∷ digits)) (one_more (position_or_len (λ b. b == end) digits))
  where
    one_more : (n : ℕ) → 1 + n ≡ suc n
    one_more n = omega arith

other_word : (digits : List ℕ) → is_decimal (before_first (λ b. b == 47) (before_first (λ b. b == 32) (114 ∷ digits))) ≡ false
other_word digits =
    ap (λ (l : List ℕ). is_decimal (before_first (λ b. b == 47) l)) (kept 32 digits refl)
    ∙ ap is_decimal (kept 47 (before_first (λ b. b == 32) digits) refl)
    ∙ and_right (nat_lt 0 (length (114 ∷ before_first (λ b. b == 47) (before_first (λ b. b == 32) digits)))) (list_all is_ascii_digit (114 ∷ before_first (λ b. b == 47) (before_first (λ b. b == 32) digits))) refl

-- what says a backup is no acknowledgement: its second word begins with an `r`
other_line : (name digits : List ℕ) → list_all is_of_name name ≡ true → is_ack (name ++ (32 ∷ 114 ∷ digits)) ≡ false
other_line [] digits are = refl
other_line (a ∷ []) digits are = simp and_false
other_line (a ∷ b ∷ []) digits are = simp and_false
other_line (a ∷ b ∷ c ∷ []) digits are = simp and_false
other_line (a ∷ b ∷ c ∷ d ∷ []) digits are = let none = other_word digits in rw none (simp and_false)
other_line (a ∷ b ∷ c ∷ d ∷ e ∷ name) digits are =
    let one = and_parts (is_of_name a) (list_all is_of_name (b ∷ c ∷ d ∷ e ∷ name)) are in
    let two = and_parts (is_of_name b) (list_all is_of_name (c ∷ d ∷ e ∷ name)) one.1 in
    let three = and_parts (is_of_name c) (list_all is_of_name (d ∷ e ∷ name)) two.1 in
    let four = and_parts (is_of_name d) (list_all is_of_name (e ∷ name)) three.1 in
    let five = and_parts (is_of_name e) (list_all is_of_name name) four.1 in
    let none = no_space e five.0 in rw none (simp and_false)

-- the line of a backup is plain
pub plain_backup : (name : List ℕ) (revision : ℕ) → is_name name ≡ true → revision < 2 ^ 64 → IsPlain (backup_line (record { name = name; revision = revision }))
plain_backup name revision is small =
    plain-line (name ++ (codes " r" ++ decimal_text revision)) []
    (line_append name (codes " r" ++ decimal_text revision) (line_of_name name is) (line_append (codes " r") (decimal_text revision) (line_tested (codes " r") refl) (line_of_number revision small)))
    (other_line name (decimal_text revision) (name_bytes name is)) plain-nil

-- one line more behind plain ones
pub plain_more : (lines line next : List ℕ) → next ≡ lines ++ line → IsPlain line → IsPlain lines → IsPlain next
plain_more lines line next is plain before = subst IsPlain (sym is) (plain-append lines line before plain)

-- the lines of one backup more
pub lines_more : (backups : List Backup) (i : ℕ) (d : Backup) → i < length backups → backup_lines (take (i + 1) backups) ≡ backup_lines (take i backups) ++ backup_line (get_or backups i d)
lines_more backups i d lt = ap backup_lines (take_more backups i d lt) ∙ sym (flat_map_more backup_line [] (take i backups) (get_or backups i d))

-- backups that weren't listed
pub listing_refused : (fault : BackupError) (given : Result (List Backup) BackupError) → Answers {X = List Backup} (λ l. l) (Err fault) given → IfSome (refusal_of fault) (λ refusal. said_backups given ≡ refused refusal)
listing_refused (faults.NotInstalled name) given is = ap said_backups is
listing_refused (faults.FileMissing path) given is = ap said_backups is
listing_refused (faults.TooLarge what limit) given is = ap said_backups is
listing_refused faults.HostFault given is = tt
listing_refused faults.NoMemory given is = tt

-- what holds of a text that was made holds of what was answered
pub plain_made : {V E : Type 0} (bytes : V → List ℕ) (made : Result V E) (text : List ℕ) → IfOk made (λ v. bytes v ≡ text) → IsPlain (text ++ 10 ∷ []) → IfOk made (λ v. IsPlain (bytes v ++ 10 ∷ []))
plain_made bytes (Ok v) text is plain = subst (λ (l : List ℕ). IsPlain (l ++ 10 ∷ [])) (sym is) plain
plain_made bytes (Err e) text is plain = tt
