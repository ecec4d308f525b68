-- How a step goes on, file by file.
use Rattle.std.proofs.Common.{◌≡◌, ◌≤◌, ◌-◌, ◌==◌, ℕ, Bool, true, false, ◌||◌, ◌&&◌, List, [], ◌∷◌, ◌++◌, length, Option, refl, sym, ◌∙◌, ap, subst, inl, inr, ◌⊎◌, arith, append_assoc, length-append}
use Rattle.std.specs.Prelude.{not, nat_le, replicate}
use Rattle.std.specs.Option.{unwrap_or}
use Rattle.std.specs.FinSet as set
use Rattle.std.specs.Ordering.{nat_cmp}
use Rattle.std.specs.Cmp.Lexicographic.{slice_cmp, nat_list_cmp_total}
use Rattle.std.proofs.lemmas.Bool.{cases_Bool, true≢false, false_from_ne_true, and_parts, eqb-true, leb-true}
use Rattle.std.proofs.lemmas.List.{append-nil, length-replicate, map-append}
use Rattle.std.proofs.lemmas.List.Sorted.{list_any-IsPermutation}
use Rattle.std.proofs.lemmas.List.Folds.{list_any-append}
use Rattle.tl_model.specs.Volume.{Name, Names, Volume, same_name, same_name-is}
use Rattle.tl_model.specs.Seen.{Seen}
use Rattle.tl_journal_text.specs.Records.{Record, Write, after, is_outside}
use Rattle.tl_journal_text.specs.Stand.{tree_of, bytes_at}
use Rattle.tl_journal.specs.States.{staged, spare_body, coming as staged_with}
use Rattle.tl_journal.specs.Spent.{Stages}
use Rattle.tl_journal.proofs.Stagings.{stages_again}
use Rattle.tl_journal_text.specs.Body.{records_of}
use Rattle.tl_entry.specs.declared.object.Object.{Object}
use Rattle.tl_db.specs.Reading.{IsRead}
use Rattle.tl_tree.specs.declared.change.Part.{Part}
use Rattle.tl_tree.specs.Planted.{database_text}
use Rattle.tl_tree.specs.Staged.{has_name, has_file, LeavesOut, HasStaged, writes_of, records_for, next_tree}
use Rattle.tl_tree.specs.Changes.{later, leaving, names_of, written, entries_after, changed}
use Rattle.tl_tree.specs.Filled.{filled}
use Rattle.tl_tree.specs.Opened.{Opened, with_bytes, less_bytes, files_at, given, may_begin, may_come, IsWhole}
use Rattle.tl_tree.specs.Under.{IsPlanned, IsUnderWay}
use Rattle.tl_tree.proofs.Distinct.{AreOnce, once-append, once-cons, once-nil}
use Rattle.tl_tree.proofs.Lookups.{File, has_name-names_of}
use Rattle.tl_tree.proofs.Sets.{contains-set_of}
use Rattle.tl_tree.proofs.Spoken.{late_unwritten, late_spoken, spoken_loose}
use Rattle.tl_tree.proofs.Givens.{with-nil, with-with, less-with, with-last, names-with, behind-records}
use Rattle.tl_tree.proofs.Whole.{whole}

-- a write of which nothing is to come
pub staged_now : (s : Seen) → staged_with (record { seen = s; left = 0 }) [] ≡ staged s
staged_now s = ap (λ (l : List ℕ). unwrap_or (records_of (l ++ 69 ∷ [])) []) (append-nil (bytes_at s.present.held (spare_body s.present.held)))

-- the files given are those that are staged behind the records of the change
pub given_is : (step : Opened) (entries : Option (List Object)) → IsPlanned step entries → (under : IsUnderWay step) → given step ≡ under.files
unfolding given
given_is step entries planned under =
    let zeros = replicate step.lacks 0 in
    let size : length zeros ≡ step.lacks = length-replicate step.lacks 0 in
    let names = later step.parts in
    ap (λ (rs : List Record). less_bytes step.lacks (files_at names rs)) (under.staged zeros size)
    ∙ ap (λ (fs : List File). less_bytes step.lacks fs) (behind-records names under.removes under.writes (with_bytes zeros under.files) others these)
    ∙ ap (λ (n : ℕ). less_bytes n (with_bytes zeros under.files)) (sym size)
    ∙ less-with zeros under.files
  where
    others : (name : Name) → has_file name under.writes ≡ true → has_name name (later step.parts) ≡ false
    others name here = false_from_ne_true _ (λ late. true≢false (sym (list_any-IsPermutation (λ (file : File). same_name name file.0) (written step.parts (entries_after step.parts step.db)) under.writes under.moved ∙ here)
        ∙ (sym (has_name-names_of name (written step.parts (entries_after step.parts step.db))) ∙ late_unwritten step.db step.parts step.label planned.change (entries_after step.parts step.db) name late)))

    these : (name : Name) → has_file name (with_bytes (replicate step.lacks 0) under.files) ≡ true → has_name name (later step.parts) ≡ true
    these name here =
        let same : has_file name (with_bytes (replicate step.lacks 0) under.files) ≡ has_file name under.files =
        sym (has_name-names_of name (with_bytes (replicate step.lacks 0) under.files)) ∙ ap (λ (l : List Name). has_name name l) (names-with (replicate step.lacks 0) under.files) ∙ has_name-names_of name under.files in
        (and_parts (has_name name (later step.parts)) (not (set.contains step.awaits name)) (sym (under.came name) ∙ sym same ∙ here)).0

-- the tree of a step goes on to read as its entries
still_read : (old new : Seen) (db : List Object) → Stages old new → IsRead (database_text (tree_of old.present.held)) db → IsRead (database_text (tree_of new.present.held)) db
still_read old new db stages read = subst (λ (v : Volume). IsRead (database_text v) db) (sym stages.tree) read

-- ---- as a step begins

pub under_begins : (db : List Object) (parts : List Part) (label : List ℕ) (awaits : Names) (astray : Bool) (first staging : Seen) → IsRead (database_text (tree_of first.present.held)) db → Stages first staging
    → HasStaged (written parts (entries_after parts db)) awaits (leaving db parts) staging → awaits ≡ set.from_list (later parts)
    → IsUnderWay (record { seen = staging; db = db; parts = parts; label = label; awaits = awaits; lacks = 0; astray = astray })
under_begins db parts label awaits astray first staging read stages all is = record {
  stages = stages_again first staging stages;
  read = still_read first staging db stages read;
  removes = all.removes;
  writes = all.writes;
  files = [];
  staged = λ bytes none.
      ap (λ (l : List ℕ). staged_with (record { seen = staging; left = 0 }) l) (empty bytes none) ∙ staged_now staging ∙ all.records ∙ sym (append-nil (records_for all.removes all.writes));
  moved = all.moved;
  left = subst (λ (s : Names). LeavesOut all.writes s (leaving db parts) all.removes) is all.left;
  apart = once-nil;
  came = λ name. by (has_name name (later parts)) ∙ ap (λ b. has_name name (later parts) && not b) (sym (ap (λ (s : Names). set.contains s name) is ∙ contains-set_of (later parts) name));
}
  where
    empty : (bytes : List ℕ) → length bytes ≡ 0 → bytes ≡ []
    empty [] none = refl
    empty (b ∷ bytes) none = absurd (omega arith)

    by : (b : Bool) → false ≡ (b && not b)
    by true = refl
    by false = refl

-- nothing has been given yet
pub begins_given : (db : List Object) (parts : List Part) (label : List ℕ) (awaits : Names) (astray : Bool) (first staging : Seen) (read : IsRead (database_text (tree_of first.present.held)) db) (stages : Stages first staging)
    (all : HasStaged (written parts (entries_after parts db)) awaits (leaving db parts) staging) (is : awaits ≡ set.from_list (later parts)) (entries : Option (List Object))
    → IsPlanned (record { seen = staging; db = db; parts = parts; label = label; awaits = awaits; lacks = 0; astray = astray }) entries
    → given (record { seen = staging; db = db; parts = parts; label = label; awaits = awaits; lacks = 0; astray = astray }) ≡ []
unfolding under_begins
begins_given db parts label awaits astray first staging read stages all is entries planned =
    given_is (record { seen = staging; db = db; parts = parts; label = label; awaits = awaits; lacks = 0; astray = astray }) entries planned (under_begins db parts label awaits astray first staging read stages all is)

-- what is awaited as a step begins comes later
pub awaits_begin : (parts : List Part) (awaits : Names) → awaits ≡ set.from_list (later parts) → (name : Name) → set.contains awaits name ≡ true → has_name name (later parts) ≡ true
awaits_begin parts awaits is name here = sym (ap (λ (s : Names). set.contains s name) is ∙ contains-set_of (later parts) name) ∙ here

-- ---- a file begins

-- what a file's path has to be
pub record MayBegin (path : Name) (step : Opened) : Type 0 where
  pub in_place : step.astray ≡ false
  pub lacks : step.lacks ≡ 0
  pub awaited : set.contains step.awaits path ≡ true

zero_of : (n : ℕ) → (n == 0) ≡ true → n ≡ 0
zero_of n e = eqb-true n 0 e

not_true : (b : Bool) → not b ≡ true → b ≡ false
not_true true e = absurd (cc)
not_true false e = refl

pub may_begin_parts : (path : Name) (step : Opened) → may_begin path step ≡ true → MayBegin path step
may_begin_parts path step may =
    let far = and_parts (not step.astray) ((step.lacks == 0) && set.contains step.awaits path) may in
    let near = and_parts (step.lacks == 0) (set.contains step.awaits path) far.1 in
    record { in_place = not_true step.astray far.0; lacks = zero_of step.lacks near.0; awaited = near.1 }

contains-taken : (step : Opened) (path : Name) (awaits : Names) → awaits ≡ set.remove step.awaits path → (name : Name) → set.contains awaits name ≡ (not (same_name name path) && set.contains step.awaits name)
contains-taken step path awaits taken name = ap (λ (s : Names). set.contains s name) taken ∙ set.contains-remove nat_list_cmp_total step.awaits path name

pub begun_planned : (step : Opened) (entries : Option (List Object)) → IsPlanned step entries → (path : Name) (seen : Seen) (awaits : Names) (lacks : ℕ) → awaits ≡ set.remove step.awaits path
    → IsPlanned (record { seen = seen; db = step.db; parts = step.parts; label = step.label; awaits = awaits; lacks = lacks; astray = step.astray }) entries
begun_planned step entries planned path seen awaits lacks taken = record {
  change = planned.change;
  next = planned.next;
  read = planned.read;
  awaits = λ name here. planned.awaits name (and_parts (not (same_name name path)) (set.contains step.awaits name) (sym (contains-taken step path awaits taken name) ∙ here)).1;
}

-- a path that is awaited may be written
pub awaited_outside : (step : Opened) (entries : Option (List Object)) → IsPlanned step entries → (path : Name) → set.contains step.awaits path ≡ true → is_outside path ≡ true
awaited_outside step entries planned path here =
    (spoken_loose step.db step.parts step.label planned.change path ((late_spoken step.parts).among path (planned.awaits path here))).outside

module _ (step : Opened) (entries : Option (List Object)) (planned : IsPlanned step entries) (under : IsUnderWay step) (path : Name) (size : ℕ) (may : MayBegin path step)
    (seen : Seen) (awaits : Names) (lacks : ℕ) (taken : awaits ≡ set.remove step.awaits path) (more : lacks ≡ size) where
  -- the path is new
  new_path : has_file path under.files ≡ false
  new_path = under.came path ∙ ap (λ b. has_name path (later step.parts) && not b) may.awaited ∙ by (has_name path (later step.parts))
    where
      by : (b : Bool) → (b && false) ≡ false
      by true = refl
      by false = refl

  now_came : (name : Name) → has_file name (under.files ++ (path, []) ∷ []) ≡ (has_name name (later step.parts) && not (set.contains awaits name))
  now_came name =
      list_any-append (λ (file : File). same_name name file.0) under.files ((path, []) ∷ [])
      ∙ ap (λ b. b || (same_name name path || false)) (under.came name)
      ∙ by (cases_Bool (same_name name path))
      ∙ ap (λ b. has_name name (later step.parts) && not b) (sym (contains-taken step path awaits taken name))
    where
      other : (a b : Bool) → ((a && not b) || false) ≡ (a && not b)
      other true true = refl
      other true false = refl
      other false b = refl

      or_true : (a : Bool) → (a || true) ≡ true
      or_true true = refl
      or_true false = refl

      by : (same_name name path ≡ true) ⊎ (same_name name path ≡ false)
          → ((has_name name (later step.parts) && not (set.contains step.awaits name)) || (same_name name path || false)) ≡ (has_name name (later step.parts) && not (not (same_name name path) && set.contains step.awaits name))
      by (inl e) =
          ap (λ b. (has_name name (later step.parts) && not (set.contains step.awaits name)) || (b || false)) e
          ∙ or_true (has_name name (later step.parts) && not (set.contains step.awaits name))
          ∙ sym (ap (λ b. has_name name (later step.parts) && not (not b && set.contains step.awaits name)) e
          ∙ ap (λ b. b && true) (ap (λ (n : Name). has_name n (later step.parts)) (same_name-is name path e) ∙ planned.awaits path may.awaited))
      by (inr e) =
          ap (λ b. (has_name name (later step.parts) && not (set.contains step.awaits name)) || (b || false)) e
          ∙ other (has_name name (later step.parts)) (set.contains step.awaits name)
          ∙ sym (ap (λ b. has_name name (later step.parts) && not (not b && set.contains step.awaits name)) e)

  -- what was staged before
  before : staged_with (record { seen = step.seen; left = 0 }) [] ≡ records_for under.removes under.writes ++ writes_of under.files
  before =
      ap (λ (n : ℕ). staged_with (record { seen = step.seen; left = n }) []) (sym may.lacks)
      ∙ under.staged [] (sym may.lacks)
      ∙ ap (λ (fs : List File). records_for under.removes under.writes ++ writes_of fs) (with-nil under.files)

  pub under_begun : Stages step.seen seen → ((bytes : List ℕ) → length bytes ≡ size → staged_with (record { seen = seen; left = lacks }) bytes ≡ staged_with (record { seen = step.seen; left = 0 }) [] ++ Write path bytes ∷ [])
      → IsUnderWay (record { seen = seen; db = step.db; parts = step.parts; label = step.label; awaits = awaits; lacks = lacks; astray = step.astray })
  under_begun stages staging = record {
    stages = stages_again step.seen seen stages;
    read = still_read step.seen seen step.db stages under.read;
    removes = under.removes;
    writes = under.writes;
    files = under.files ++ (path, []) ∷ [];
    staged = λ bytes long.
        staging bytes (long ∙ more)
        ∙ ap (λ (rs : List Record). rs ++ Write path bytes ∷ []) before
        ∙ append_assoc (records_for under.removes under.writes) (writes_of under.files) (Write path bytes ∷ [])
        ∙ ap (λ (rs : List Record). records_for under.removes under.writes ++ rs)
        (sym (map-append (λ (file : File). Write file.0 file.1) under.files ((path, bytes) ∷ [])) ∙ ap (λ (fs : List File). writes_of fs) (sym (with-last bytes under.files (path, []))));
    moved = under.moved;
    left = under.left;
    apart = subst (λ (l : List Name). AreOnce l) (sym (map-append (λ (file : File). file.0) under.files ((path, []) ∷ [])))
        (once-append (names_of under.files) (path ∷ []) under.apart (once-cons path [] refl once-nil)
        (λ name here. elim (cases_Bool (same_name name path)) [
          | inl e ↦ absurd (true≢false (sym (sym (has_name-names_of name under.files) ∙ here) ∙ (ap (λ (n : Name). has_file n under.files) (same_name-is name path e) ∙ new_path)))
          | inr e ↦ ap (λ b. b || false) e
        ]));
    came = now_came;
  }

  -- the file is the last of those given
  pub begun_given : (stages : Stages step.seen seen)
      → (staging : (bytes : List ℕ) → length bytes ≡ size → staged_with (record { seen = seen; left = lacks }) bytes ≡ staged_with (record { seen = step.seen; left = 0 }) [] ++ Write path bytes ∷ [])
      → given (record { seen = seen; db = step.db; parts = step.parts; label = step.label; awaits = awaits; lacks = lacks; astray = step.astray }) ≡ given step ++ (path, []) ∷ []
  unfolding under_begun
  begun_given stages staging =
      given_is (record { seen = seen; db = step.db; parts = step.parts; label = step.label; awaits = awaits; lacks = lacks; astray = step.astray }) entries (begun_planned step entries planned path seen awaits lacks taken) (under_begun stages staging)
      ∙ ap (λ (fs : List File). fs ++ (path, []) ∷ []) (sym (given_is step entries planned under))

-- ---- bytes come

pub more_planned : (step : Opened) (entries : Option (List Object)) → IsPlanned step entries → (seen : Seen) (lacks : ℕ)
    → IsPlanned (record { seen = seen; db = step.db; parts = step.parts; label = step.label; awaits = step.awaits; lacks = lacks; astray = step.astray }) entries
more_planned step entries planned seen lacks = record { change = planned.change; next = planned.next; read = planned.read; awaits = planned.awaits }

-- so many bytes may come only where the last file lacks them
pub may_come_few : (count : ℕ) (step : Opened) → may_come count step ≡ true → count ≤ step.lacks
may_come_few count step may = leb-true count step.lacks (and_parts (not step.astray) (nat_le count step.lacks) may).1

module _ (step : Opened) (under : IsUnderWay step) (bytes : List ℕ) (few : length bytes ≤ step.lacks) (seen : Seen) (lacks : ℕ) (less : lacks ≡ step.lacks - length bytes) where
  pub under_more : Stages step.seen seen → ((rest : List ℕ) → staged_with (record { seen = seen; left = lacks }) rest ≡ staged_with (record { seen = step.seen; left = step.lacks }) (bytes ++ rest))
      → IsUnderWay (record { seen = seen; db = step.db; parts = step.parts; label = step.label; awaits = step.awaits; lacks = lacks; astray = step.astray })
  under_more stages staging = record {
    stages = stages_again step.seen seen stages;
    read = still_read step.seen seen step.db stages under.read;
    removes = under.removes;
    writes = under.writes;
    files = with_bytes bytes under.files;
    staged = λ rest long.
        staging rest ∙ under.staged (bytes ++ rest) (omega (arith, length-append bytes rest, long, less, few))
        ∙ ap (λ (fs : List File). records_for under.removes under.writes ++ writes_of fs) (sym (with-with bytes rest under.files));
    moved = under.moved;
    left = under.left;
    apart = subst (λ (l : List Name). AreOnce l) (sym (names-with bytes under.files)) under.apart;
    came = λ name. sym (has_name-names_of name (with_bytes bytes under.files)) ∙ ap (λ (l : List Name). has_name name l) (names-with bytes under.files) ∙ has_name-names_of name under.files ∙ under.came name;
  }

  -- the bytes are the last of those given
  pub more_given : (entries : Option (List Object)) → IsPlanned step entries → (stages : Stages step.seen seen)
      → (staging : (rest : List ℕ) → staged_with (record { seen = seen; left = lacks }) rest ≡ staged_with (record { seen = step.seen; left = step.lacks }) (bytes ++ rest))
      → given (record { seen = seen; db = step.db; parts = step.parts; label = step.label; awaits = step.awaits; lacks = lacks; astray = step.astray }) ≡ with_bytes bytes (given step)
  unfolding under_more
  more_given entries planned stages staging =
      given_is (record { seen = seen; db = step.db; parts = step.parts; label = step.label; awaits = step.awaits; lacks = lacks; astray = step.astray }) entries (more_planned step entries planned seen lacks) (under_more stages staging)
      ∙ ap (λ (fs : List File). with_bytes bytes fs) (sym (given_is step entries planned under))

-- ---- a step ends

-- the tree that is staged is that of the change with the files given
pub under_whole : (step : Opened) (entries : Option (List Object)) → IsPlanned step entries → (under : IsUnderWay step) → IsWhole step → (staging : Seen) → staging ≡ step.seen
    → staged staging ≡ staged_with (record { seen = step.seen; left = 0 }) [] → next_tree staging ≡ changed step.db (filled (given step) step.parts) (tree_of step.seen.present.held)
under_whole step entries planned under is_whole staging same all =
    ap (λ (rs : List Record). after rs (tree_of staging.present.held)) (all ∙ now)
    ∙ ap (λ (s : Seen). after (records_for under.removes under.writes ++ writes_of under.files) (tree_of s.present.held)) same
    ∙ whole step.db step.parts step.label planned.change under.files under.writes under.removes under.moved under.left under.apart came (tree_of step.seen.present.held)
    ∙ ap (λ (fs : List File). changed step.db (filled fs step.parts) (tree_of step.seen.present.held)) (sym (given_is step entries planned under))
  where
    now : staged_with (record { seen = step.seen; left = 0 }) [] ≡ records_for under.removes under.writes ++ writes_of under.files
    now =
        ap (λ (n : ℕ). staged_with (record { seen = step.seen; left = n }) []) (sym is_whole.last)
        ∙ under.staged [] (sym is_whole.last)
        ∙ ap (λ (fs : List File). records_for under.removes under.writes ++ writes_of fs) (with-nil under.files)

    by : (b : Bool) → (b && not false) ≡ b
    by true = refl
    by false = refl

    came : (name : Name) → has_file name under.files ≡ has_name name (later step.parts)
    came name =
        under.came name ∙ ap (λ b. has_name name (later step.parts) && not b) (ap (λ (s : Names). set.contains s name) is_whole.all ∙ set.contains-empty (slice_cmp nat_cmp) name)
        ∙ by (has_name name (later step.parts))
