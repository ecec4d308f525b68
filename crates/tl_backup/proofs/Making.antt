-- Calls that ask a tree, one after another, and the files that they read.
use Rattle.std.proofs.Common.{◌≡◌, ◌≤◌, ◌<◌, ◌+◌, ℕ, Bool, true, false, cond, ◌&&◌, ◌⊎◌, List, [], ◌∷◌, ◌++◌, length, map, take, drop, get_or, drop-cons, add-one, Option, Some, None, Result, Ok, Err, refl, sym, ap, ◌∙◌, arith, inl, inr}
use Rattle.std.specs.Prelude.{filter, nat_lt, min}
use Rattle.std.specs.Option.{is_some, is_none}
use Rattle.std.specs.List.{flat_map, list_any}
use Rattle.std.specs.Prelude.{sum_by, ◌||◌}
use Rattle.std.proofs.lemmas.List.Sums.{sum_by_more}
use Rattle.std.proofs.lemmas.List.Folds.{list_any_more}
use Rattle.std.proofs.lemmas.Bool.{cases_Bool, true≢false, lt-ltb, ltb-true}
use Rattle.std.proofs.lemmas.List.{length-append, map-append, take_more}
use Rattle.tl_model.specs.Seen.{Told, Quiet}
use Rattle.tl_model.specs.Pictures.{quiet_start, quiet_join}
use Rattle.tl_model.specs.Volume.{Name, Volume, at}
use Rattle.tl_kind.specs.Quantities.{limit_of}
use Rattle.tl_kind.specs.declared.quantity.What.TheVariants.{File, Frame}
use Rattle.tl_file.specs.declared.file.FileBytes.{FileBytes}
use Rattle.tl_journal_text.specs.Stand.{tree_of}
use Rattle.tl_frame.specs.Frames.{frame, framed_file, paths_rise, paths_rise_behind}
use Rattle.tl_frame.proofs.FrameLaws.{length-frame, length-framed_file}
use Rattle.tl_entry.specs.Rising.{comes_before, is_rising, is_rising_after}
use Rattle.tl_entry.proofs.RisingLemmas.{before_trans}
use Rattle.tl_tree.specs.Planted.{Planted}
use Rattle.tl_backup.specs.Asked.{IsAsked, IsCausedBy, IsFree, Answers, tree_in}
use Rattle.tl_backup.specs.Frames.{files_at, with_file, frame_within, frame_share, missing_path, size_at}
use Rattle.tl_backup.specs.declared.error.BackupError.{BackupError}
use Rattle.tl_backup.specs.declared.error.BackupError.TheVariants.{NotInstalled, FileMissing, TooLarge, HostFault, NoMemory}

pub asked_start : (tells : Bool) (tree : Planted) → IsAsked tells tree tree
asked_start tells tree = record { quiet = λ t. quiet_start tree.seen; db = refl; later = omega arith }

pub asked_join : (tells : Bool) (old mid new : Planted) → IsAsked tells old mid → IsAsked tells mid new → IsAsked tells old new
asked_join tells old mid new far near = record {
  quiet = λ t. quiet_join old.seen mid.seen new.seen (far.quiet t) (near.quiet t);
  db = near.db ∙ far.db;
  later = let a = far.later in let b = near.later in omega arith;
}

-- a fault that has a cause has it since before
pub caused_join : (tells : Bool) (old mid new : Planted) (e : BackupError) → IsAsked tells old mid → IsCausedBy mid new e → IsCausedBy old new e
caused_join tells old mid new e far near is = let a = far.later in let b = near is in omega arith

-- the tree is the same one
pub asked_tree : (tells : Bool) (old new : Planted) → IsAsked tells old new → Told tells (tree_in new ≡ tree_in old)
asked_tree tells old new asked t = ap (λ (m : _). tree_of m.held) (asked.quiet t).present

-- an answer that isn't one goes on to be the answer of a longer call
pub fault_on : {X Y Z W : Type 0} (view : X → Y) (far : Z → W) (e : BackupError) (given : Result Y BackupError) (more : Result W BackupError) → (given ≡ Err e → more ≡ Err e)
    → Answers view (Err e) given → Answers far (Err e) more
fault_on view far (NotInstalled name) given more goes is = goes is
fault_on view far (FileMissing path) given more goes is = goes is
fault_on view far (TooLarge what limit) given more goes is = goes is
fault_on view far HostFault given more goes is = tt
fault_on view far NoMemory given more goes is = tt

-- files in front of those that are read behind them
abbrev pub in_front : List FileBytes → Result (List FileBytes) BackupError → Result (List FileBytes) BackupError
in_front files (Ok others) = Ok (files ++ others)
in_front files (Err e) = Err e

pub in_front-nil : (others : Result (List FileBytes) BackupError) → in_front [] others ≡ others
in_front-nil (Ok others) = refl
in_front-nil (Err e) = refl

append_one : (files : List FileBytes) (file : FileBytes) (others : List FileBytes) → files ++ file ∷ others ≡ (files ++ file ∷ []) ++ others
append_one [] file others = refl
append_one (f ∷ files) file others = ap (λ (l : List FileBytes). f ∷ l) (append_one files file others)

pub in_front-push : (files : List FileBytes) (file : FileBytes) (others : Result (List FileBytes) BackupError) → in_front files (in_front (file ∷ []) others) ≡ in_front (files ++ file ∷ []) others
in_front-push files file (Ok others) = ap Ok (append_one files file others)
in_front-push files file (Err e) = refl

by_length : (long : Bool) (path : Name) (bytes : List ℕ) (others : Result (List FileBytes) BackupError) (file : FileBytes) → nat_lt (limit_of File) (length bytes) ≡ long
    → with_file path (Some bytes) (Ok []) ≡ Ok (file ∷ []) → with_file path (Some bytes) others ≡ in_front (file ∷ []) others
by_length true path bytes others file long is =
    absurd (let no : Err (TooLarge File (limit_of File)) ≡ Ok (file ∷ []) = ap (λ b. cond b (Err (TooLarge File (limit_of File))) (Ok (record { path = path; bytes = bytes } ∷ []))) (sym long) ∙ is in cc)
by_length false path bytes (Ok others) file long is =
    let same : Ok (record { path = path; bytes = bytes } ∷ []) ≡ Ok (file ∷ []) = ap (λ b. cond b (Err (TooLarge File (limit_of File))) (Ok (record { path = path; bytes = bytes } ∷ []))) (sym long) ∙ is in
    let one : record { path = path; bytes = bytes } ≡ file = cc in
    ap (λ b. cond b (Err (TooLarge File (limit_of File))) (Ok (record { path = path; bytes = bytes } ∷ others))) long ∙ ap (λ (f : FileBytes). Ok (f ∷ others)) one
by_length false path bytes (Err e) file long is = ap (λ b. cond b (Err (TooLarge File (limit_of File))) (Err e)) long

-- a file that is read stands in front of the others
pub first_file : (path : Name) (found : Option (List ℕ)) (others : Result (List FileBytes) BackupError) (file : FileBytes) → with_file path found (Ok []) ≡ Ok (file ∷ []) → with_file path found others ≡ in_front (file ∷ []) others
first_file path None others file is = absurd (cc)
first_file path (Some bytes) others file is = by_length (nat_lt (limit_of File) (length bytes)) path bytes others file refl is

-- one that isn't is the fault
pub first_fault : (path : Name) (found : Option (List ℕ)) (others : Result (List FileBytes) BackupError) (e : BackupError) → with_file path found (Ok []) ≡ Err e → with_file path found others ≡ Err e
first_fault path None others e is = is
first_fault path (Some bytes) others e is = elim (cases_Bool (nat_lt (limit_of File) (length bytes))) [
  | inl long ↦ past others long ∙ sym (ap (λ b. cond b (Err (TooLarge File (limit_of File))) (Ok (record { path = path; bytes = bytes } ∷ []))) long) ∙ is
  | inr short ↦ absurd (let no : Ok (record { path = path; bytes = bytes } ∷ []) ≡ Err e = sym (ap (λ b. cond b (Err (TooLarge File (limit_of File))) (Ok (record { path = path; bytes = bytes } ∷ []))) short) ∙ is in cc)
]
  where
    past : (others : Result (List FileBytes) BackupError) → nat_lt (limit_of File) (length bytes) ≡ true → with_file path (Some bytes) others ≡ Err (TooLarge File (limit_of File))
    past (Ok others) long = ap (λ b. cond b (Err (TooLarge File (limit_of File))) (Ok (record { path = path; bytes = bytes } ∷ others))) long
    past (Err f) long = ap (λ b. cond b (Err (TooLarge File (limit_of File))) (Err f)) long

-- paths that rise, as a frame asks it
rise_behind : (last : Name) (files : List FileBytes) → is_rising_after (λ (p : Name). p) last (map (λ (f : FileBytes). f.path) files) ≡ true → paths_rise_behind last files ≡ true
rise_behind last [] up = refl
rise_behind last (f ∷ files) up = both (comes_before last f.path) (is_rising_after (λ (p : Name). p) f.path (map (λ (g : FileBytes). g.path) files)) (paths_rise_behind f.path files) up (rise_behind f.path files)
  where
    both : (a b c : Bool) → (a && b) ≡ true → (b ≡ true → c ≡ true) → (a && c) ≡ true
    both true b c e goes = goes e
    both false b c e goes = absurd (true≢false (sym e))

pub rise_paths : (files : List FileBytes) → is_rising (λ (p : Name). p) (map (λ (f : FileBytes). f.path) files) ≡ true → paths_rise files ≡ true
rise_paths [] up = refl
rise_paths (f ∷ files) up = rise_behind f.path files up

parts : (a b : Bool) → (a && b) ≡ true → (a ≡ true) × (b ≡ true)
parts true b e = (refl, e)
parts false b e = absurd (true≢false (sym e))

-- those of some texts that pass a test rise where all do
rising_from : (first : Name) (test : Name → Bool) (names : List Name) → is_rising_after (λ (p : Name). p) first names ≡ true → is_rising_after (λ (p : Name). p) first (filter test names) ≡ true
rising_from first test [] up = refl
rising_from first test (n ∷ names) up = by (test n) (rising_from n test names both.1) (rising_from first test names (skip names both.0 both.1))
  where
    both : (comes_before first n ≡ true) × (is_rising_after (λ (p : Name). p) n names ≡ true)
    both = parts _ _ up

    skip : (names : List Name) → comes_before first n ≡ true → is_rising_after (λ (p : Name). p) n names ≡ true → is_rising_after (λ (p : Name). p) first names ≡ true
    skip [] a b = refl
    skip (m ∷ names) a b = ap (λ t. t && is_rising_after (λ (p : Name). p) m names) (before_trans first n m a (parts _ _ b).0) ∙ (parts _ _ b).1

    by : (passes : Bool) → is_rising_after (λ (p : Name). p) n (filter test names) ≡ true → is_rising_after (λ (p : Name). p) first (filter test names) ≡ true
        → is_rising_after (λ (p : Name). p) first (cond passes (n ∷ filter test names) (filter test names)) ≡ true
    by true kept left = ap (λ t. t && is_rising_after (λ (p : Name). p) n (filter test names)) both.0 ∙ kept
    by false kept left = left

pub rising-filter : (test : Name → Bool) (names : List Name) → is_rising (λ (p : Name). p) names ≡ true → is_rising (λ (p : Name). p) (filter test names) ≡ true
rising-filter test [] up = refl
rising-filter test (n ∷ names) up = by (test n) (rising_from n test names up) (rising-filter test names (tail names up))
  where
    tail : (names : List Name) → is_rising_after (λ (p : Name). p) n names ≡ true → is_rising (λ (p : Name). p) names ≡ true
    tail [] up = refl
    tail (m ∷ names) up = (parts _ _ up).1

    by : (passes : Bool) → is_rising_after (λ (p : Name). p) n (filter test names) ≡ true → is_rising (λ (p : Name). p) (filter test names) ≡ true → is_rising (λ (p : Name). p) (cond passes (n ∷ filter test names) (filter test names)) ≡ true
    by true kept left = kept
    by false kept left = left

many_files : (files : List FileBytes) → length files ≤ length (flat_map framed_file files)
many_files [] = omega arith
many_files (f ∷ files) = let rest = many_files files in omega (arith, rest, length-append (framed_file f) (flat_map framed_file files), length-framed_file f)

-- a frame is longer than its text, and has more bytes than files
pub long_frame : (text : List ℕ) (files : List FileBytes) → ((4294967296 ≤ length text) ⊎ (4294967296 ≤ length files)) → frame_within text files ≡ Err (TooLarge Frame 1073741824)
long_frame text files long =
    let many = many_files files in
    let size = length-frame text files in
    let past : 1073741824 < length (frame text files) = elim long [ inl l ↦ omega (arith, l, size) | inr l ↦ omega (arith, l, many, size) ] in
    ap (λ b. cond b (Err (TooLarge Frame 1073741824)) (Ok (frame text files))) (lt-ltb 1073741824 (length (frame text files)) past)

pub drop_one : {X : Type 0} (xs : List X) (i : ℕ) (d : X) → i < length xs → drop i xs ≡ get_or xs i d ∷ drop (i + 1) xs
drop_one xs i d within = rw add-one (drop-cons xs i d within)

-- a call that asks a tree
pub asked_of : (tells : Bool) (old new : Planted) → Told tells (Quiet old.seen new.seen) → new.db ≡ old.db → old.seen.faults ≤ new.seen.faults → IsAsked tells old new
asked_of tells old new quiet db later = record { quiet = quiet; db = db; later = later }

-- a path at which a file is is none of those that are missing
present_step : (found : Option (List ℕ)) (there : Bool) → there ≡ is_some found → there ≡ true → is_none found ≡ false
present_step None there is here = absurd (true≢false (sym here ∙ is))
present_step (Some bytes) there is here = refl

pub missing_step : (tree : Volume) (paths : List Name) (i : ℕ) (d : Name) (there : Bool) → i < length paths → there ≡ is_some (at tree (get_or paths i d)) → there ≡ true
    → missing_path tree (drop i paths) ≡ missing_path tree (drop (i + 1) paths)
missing_step tree paths i d there within is none =
    ap (missing_path tree) (drop_one paths i d within)
    ∙ ap (λ b. cond b (Some (get_or paths i d)) (missing_path tree (drop (i + 1) paths))) (present_step (at tree (get_or paths i d)) there is none)

-- one file more is read
pub files_step : (tree : Volume) (paths : List Name) (files : List FileBytes) (i : ℕ) (d : Name) (file : FileBytes) → i < length paths → files_at tree (get_or paths i d ∷ []) ≡ Ok (file ∷ [])
    → files_at tree paths ≡ in_front files (files_at tree (drop i paths)) → files_at tree paths ≡ in_front (files ++ file ∷ []) (files_at tree (drop (i + 1) paths))
files_step tree paths files i d file within one far =
    far ∙ ap (λ (l : List Name). in_front files (files_at tree l)) (drop_one paths i d within)
    ∙ ap (in_front files) (first_file (get_or paths i d) (at tree (get_or paths i d)) (files_at tree (drop (i + 1) paths)) file one)
    ∙ in_front-push files file (files_at tree (drop (i + 1) paths))

-- a file that isn't read is the fault of all
pub files_fault : (tree : Volume) (paths : List Name) (files : List FileBytes) (i : ℕ) (d : Name) (e : BackupError) → i < length paths → files_at tree (get_or paths i d ∷ []) ≡ Err e
    → files_at tree paths ≡ in_front files (files_at tree (drop i paths)) → files_at tree paths ≡ Err e
files_fault tree paths files i d e within one far =
    far ∙ ap (λ (l : List Name). in_front files (files_at tree l)) (drop_one paths i d within)
    ∙ ap (in_front files) (first_fault (get_or paths i d) (at tree (get_or paths i d)) (files_at tree (drop (i + 1) paths)) e one)

-- the sum of a frame's parts, which stands still at the greatest number, and the limit
pub past_limit : (n total : ℕ) → total ≡ min n 18446744073709551615 → 1073741824 < total → nat_lt 1073741824 n ≡ true
past_limit n total is past = lt-ltb 1073741824 n (omega (arith, is, past))

pub within_limit : (n total : ℕ) → total ≡ min n 18446744073709551615 → total ≤ 1073741824 → nat_lt 1073741824 n ≡ false
within_limit n total is le = elim (cases_Bool (nat_lt 1073741824 n)) [
  | inl past ↦ absurd (let less = ltb-true 1073741824 n past in omega (arith, is, le, less))
  | inr short ↦ short
]

-- the paths of files, with one more
pub paths_step : (paths : List Name) (files : List FileBytes) (i : ℕ) (d : Name) (file : FileBytes) → i < length paths → map (λ (f : FileBytes). f.path) files ≡ take i paths → file.path ≡ get_or paths i d
    → map (λ (f : FileBytes). f.path) (files ++ file ∷ []) ≡ take (i + 1) paths
paths_step paths files i d file within far one =
    map-append (λ (f : FileBytes). f.path) files (file ∷ []) ∙ ap (λ (l : List Name). l ++ file.path ∷ []) far
    ∙ ap (λ (n : Name). take i paths ++ n ∷ []) one ∙ sym (take_more paths i d within)

-- an answer that has no cause here
pub free_answer : {X Y : Type 0} (view : X → Y) (e : BackupError) (given : Result Y BackupError) → IsFree e → Answers view (Err e) given
free_answer view (NotInstalled name) given free = absurd free
free_answer view (FileMissing path) given free = absurd free
free_answer view (TooLarge what limit) given free = absurd free
free_answer view HostFault given free = tt
free_answer view NoMemory given free = tt

-- no file up to one more is too long
pub short_step : (tree : Volume) (paths : List Name) (i : ℕ) (d : Name) → i < length paths → list_any (λ path. nat_lt 268435456 (size_at tree path)) (take i paths) ≡ false → size_at tree (get_or paths i d) ≤ 268435456
    → list_any (λ path. nat_lt 268435456 (size_at tree path)) (take (i + 1) paths) ≡ false
short_step tree paths i d within none le =
    list_any_more (λ path. nat_lt 268435456 (size_at tree path)) paths i d within ∙ ap (λ b. b || nat_lt 268435456 (size_at tree (get_or paths i d))) none ∙ not_past
  where
    not_past : nat_lt 268435456 (size_at tree (get_or paths i d)) ≡ false
    not_past = elim (cases_Bool (nat_lt 268435456 (size_at tree (get_or paths i d)))) [
      | inl past ↦ absurd (let less = ltb-true 268435456 (size_at tree (get_or paths i d)) past in omega (arith, less, le))
      | inr short ↦ short
    ]

-- the sum of a frame's parts, with one more file
pub total_step : (tree : Volume) (paths : List Name) (front i : ℕ) (d : Name) (total a b c size : ℕ) → i < length paths → total ≡ min (front + sum_by (frame_share tree) (take i paths)) 18446744073709551615
    → a ≡ min (total + 10) 18446744073709551615 → b ≡ min (a + length (get_or paths i d)) 18446744073709551615 → c ≡ min (b + size) 18446744073709551615 → size ≡ size_at tree (get_or paths i d)
    → c ≡ min (front + sum_by (frame_share tree) (take (i + 1) paths)) 18446744073709551615
total_step tree paths front i d total a b c size within far one two three is =
    let more = sum_by_more (frame_share tree) paths i d within in omega (arith, far, one, two, three, is, more)
