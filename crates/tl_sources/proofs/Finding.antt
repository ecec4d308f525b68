-- What is found in a master, and how a command ends by it.
use Rattle.std.proofs.Common.{◌≡◌, ◌≤◌, ℕ, nat_lt, Bool, true, false, cond, List, length, Option, Some, None, Result, Ok, Err, refl, sym, ap, subst, arith}
use Rattle.std.specs.Prelude.{IfErr, IfSome}
use Rattle.tl_model.specs.Causes.{Rose}
use Rattle.tl_model.specs.Devices.{Verdicts, RegexpsSeen}
use Rattle.tl_model.specs.Seen.{Seen, Told}
use Rattle.tl_model.specs.Volume.{Volume}
use Rattle.tl_journal_text.specs.Stand.{stand}
use Rattle.tl_tree.specs.Planted.{Planted}
use Rattle.tl_kind.specs.Quantities.{limit_of}
use Rattle.tl_kind.specs.declared.quantity.What.{What}
use Rattle.tl_kind.specs.declared.quantity.What.TheVariants.{Database, Packages}
use Rattle.tl_kind.specs.declared.kinds.RegexpKind.{RegexpKind}
use Rattle.tl_kind.specs.declared.kinds.RegexpKind.TheVariants.{Syntax, Size}
use Rattle.tl_entry.specs.declared.object.Object.{Object}
use Rattle.tl_object.specs.declared.fault.LineKind.{LineKind}
use Rattle.tl_db.specs.Reading.{db_of}
use Rattle.tl_auto.proofs.VerdictLemmas.{keeps_on, regexps_on}
use Rattle.tl_backup.specs.Asked.{tree_in}
use Rattle.tl_refusal.specs.declared.refusal.Refusal.{Refusal}
use Rattle.tl_refusal.specs.declared.refusal.Refusal.TheVariants as refusals
use Rattle.tl_command.specs.declared.ending.Ending.{Ending}
use Rattle.tl_command.specs.declared.ending.Ending.TheVariants as endings
use Rattle.tl_command.specs.Endings.{no_devices}
use Rattle.tl_command.specs.Performs.{IsActed, Performs}
use Rattle.tl_command.specs.Runs.{Run, finished, refused, limited, over_entries, over_database}
use Rattle.tl_backups.specs.Faults.{refused_by}
use Rattle.tl_master.specs.Answers.{Answers, IsHostCause, IsKindCause, IsSizeCause, Finds, Judges}
use Rattle.tl_master.specs.Sources.{then_read}
use Rattle.tl_master.specs.declared.error.MasterError.{MasterError}
use Rattle.tl_master.specs.declared.error.MasterError.TheVariants.{BadMarks, BadSource, UnsetVariable, BadPath, Regexp, NoSource, TooLarge, HostFault, NoMemory}
use Rattle.tl_sources.specs.Expand.{refusal_of, said_of}
use Rattle.tl_sources.specs.Performing.{IsSizeEnding}

-- ---- what is found in a master

risen : (a b c : ℕ) → a ≤ b → Rose b c → Rose a c
risen a b c le rose = omega (arith, le, rose)

kind_since : (a b c : ℕ) (kind : RegexpKind) → a ≤ b → IsKindCause b c kind → IsKindCause a c kind
kind_since a b c Syntax le cause = tt
kind_since a b c Size le cause = risen a b c le cause

size_since : {U : Type 0} (a b c : ℕ) (answer : Result U MasterError) → a ≤ b → IfErr answer (IsSizeCause b c) → IfErr answer (IsSizeCause a c)
size_since a b c (Ok u) le cause = tt
size_since a b c (Err (BadMarks line)) le cause = tt
size_since a b c (Err (BadSource source line kind)) le cause = tt
size_since a b c (Err (UnsetVariable source line)) le cause = tt
size_since a b c (Err (BadPath source line)) le cause = tt
size_since a b c (Err (Regexp source line kind)) le cause = kind_since a b c kind le cause
size_since a b c (Err NoSource) le cause = tt
size_since a b c (Err (TooLarge what limit)) le cause = tt
size_since a b c (Err HostFault) le cause = tt
size_since a b c (Err NoMemory) le cause = tt

no_cause : {U : Type 0} (old new : Planted) (answer : Result U MasterError) → IfErr answer (λ fault. fault ≡ HostFault → ⊥) → IfErr answer (IsHostCause old new)
no_cause old new (Ok u) own = tt
no_cause old new (Err fault) own = λ is. absurd (own is)

cut_short : {A B T U : Type 0} (view : T → A) (other : U → B) (next : A → Result B MasterError) (wanted : Result A MasterError) (fault : MasterError)
    → Answers view (Err fault) wanted → Answers other (Err fault) (then_read next wanted)
cut_short view other next wanted (BadMarks line) is = ap (then_read next) is
cut_short view other next wanted (BadSource source line kind) is = ap (then_read next) is
cut_short view other next wanted (UnsetVariable source line) is = ap (then_read next) is
cut_short view other next wanted (BadPath source line) is = ap (then_read next) is
cut_short view other next wanted (Regexp source line kind) is = ap (then_read next) is
cut_short view other next wanted NoSource is = ap (then_read next) is
cut_short view other next wanted (TooLarge what limit) is = ap (then_read next) is
cut_short view other next wanted HostFault is = tt
cut_short view other next wanted NoMemory is = tt

module _ {A B T U : Type 0} (tells : Bool) (view : T → A) (other : U → B) (wanted : Verdicts → Volume → Result A MasterError) (next : Verdicts → A → Result B MasterError)
    (old new : Planted) (before mid after : RegexpsSeen) where
  -- an answer in what was found
  pub finds_then : (found : T) (answer : Result U MasterError) → Finds tells view wanted old new before mid (Ok found) → Judges other (λ verdicts. next verdicts (view found)) mid after answer
      → Finds tells other (λ verdicts t. then_read (next verdicts) (wanted verdicts t)) old new before after answer
  finds_then found answer first behind = record {
    answered = λ told later keeps.
        subst (λ (w : Result B MasterError). Answers other answer w)
        (sym (ap (then_read (next later)) (first.answered told later (keeps_on mid.verdicts after.verdicts later behind.regexps.verdicts keeps))))
        (behind.answered later keeps);
    asked = first.asked;
    cause = no_cause old new answer behind.own;
    regexps = regexps_on before mid after first.regexps behind.regexps;
    size = size_since before.refusals mid.refusals after.refusals answer first.regexps.later behind.size;
  }

  -- nothing is found behind a fault
  pub finds_cut : (fault : MasterError) → Finds tells view wanted old new before after (Err fault) → Finds tells other (λ verdicts t. then_read (next verdicts) (wanted verdicts t)) old new before after (Err fault)
  finds_cut fault first = record {
    answered = λ told later keeps. cut_short view other (next later) (wanted later (tree_in old)) fault (first.answered told later keeps);
    asked = first.asked;
    cause = first.cause;
    regexps = first.regexps;
    size = first.size;
  }

-- ---- how a command ends

-- what wasn't found is refused
pub said_refused : (name : List ℕ) (fault : MasterError) (given : Result (List ℕ) MasterError) → Answers {V = List ℕ} {T = List ℕ} (λ text. text) (Err fault) given → IfSome (refusal_of name fault) (λ refusal. said_of name given ≡ refused refusal)
said_refused name (BadMarks line) given is = ap (said_of name) is
said_refused name (BadSource source line kind) given is = ap (said_of name) is
said_refused name (UnsetVariable source line) given is = ap (said_of name) is
said_refused name (BadPath source line) given is = ap (said_of name) is
said_refused name (Regexp source line kind) given is = ap (said_of name) is
said_refused name NoSource given is = ap (said_of name) is
said_refused name (TooLarge what limit) given is = ap (said_of name) is
said_refused name HostFault given is = tt
said_refused name NoMemory given is = tt

-- an ending is as that of the run
pub size_of_run : {T : Type 0} (before now : ℕ) (tells : Bool) (seen : T → Seen) (first : Seen) (ending : Ending) (state : Result Seen T) (command : Volume → Run) → ((tree : Volume) → IsSizeEnding before now (command tree).ending)
    → Performs tells seen command 0 first no_devices no_devices ending state → Told tells ((tree : Volume) → stand first.present.held ≡ Some tree → IsSizeEnding before now ending)
size_of_run {T} before now tells seen first ending state command each performs told tree stood = by ending state (performs.run told tree stood)
  where
    by : (ending : Ending) (state : Result Seen T) → IsActed seen (command tree) ending state first tree → IsSizeEnding before now ending
    by endings.Done state acted = tt
    by (endings.Refused refusal) (Ok last) acted = subst (λ (e : Ending). IsSizeEnding before now e) acted.0 (each tree)
    by (endings.Refused refusal) (Err host) acted = absurd acted
    by endings.HostFault state acted = tt
    by endings.ShelfFault state acted = tt
    by endings.InputFault state acted = tt
    by endings.NoMemory state acted = tt

-- the ending of a fault's run
pub size_of_fault : (before now : ℕ) (name : List ℕ) (fault : MasterError) → IsSizeCause before now fault → let run = refused_by (refusal_of name fault) in IsSizeEnding before now run.ending
size_of_fault before now name (BadMarks line) cause = tt
size_of_fault before now name (BadSource source line kind) cause = tt
size_of_fault before now name (UnsetVariable source line) cause = tt
size_of_fault before now name (BadPath source line) cause = tt
size_of_fault before now name (Regexp source line kind) cause = cause
size_of_fault before now name NoSource cause = tt
size_of_fault before now name (TooLarge what limit) cause = tt
size_of_fault before now name HostFault cause = tt
size_of_fault before now name NoMemory cause = tt

size_limited : (before now : ℕ) (quantity : What) (count : ℕ) (run : Run) → IsSizeEnding before now run.ending → IsSizeEnding before now (limited quantity count run).ending
size_limited before now quantity count run is = by (nat_lt (limit_of quantity) count)
  where
    by : (past : Bool) → let run' = cond past (refused (refusals.TooLarge quantity (limit_of quantity))) run in IsSizeEnding before now run'.ending
    by true = tt
    by false = is

-- the ending of a run over a database that is carried out where that reads
pub size_of_database : (before now : ℕ) (text : List ℕ) → IsSizeEnding before now (over_database (λ _. finished) text).ending
size_of_database before now text = size_limited before now Database (length text) (over_entries (λ _. finished) (db_of text)) (by (db_of text))
  where
    by : (read : Result (List Object) (ℕ × LineKind)) → IsSizeEnding before now (over_entries (λ _. finished) read).ending
    by (Ok entries) = size_limited before now Packages (length entries) finished tt
    by (Err fault) = tt

-- a fault is refused as it is
pub refused_self : (refusal : Option Refusal) → IfSome refusal (λ r. refused_by refusal ≡ refused r)
refused_self None = tt
refused_self (Some refusal) = refl
