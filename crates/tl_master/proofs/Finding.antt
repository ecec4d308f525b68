-- Calls that read a master, one after another.
use Rattle.std.proofs.Common.{◌≡◌, ◌≤◌, ℕ, Bool, Result, Ok, Err, sym, ap, subst, ◌∙◌, arith}
use Rattle.std.specs.Prelude.{IfErr}
use Rattle.tl_model.specs.Causes.{Rose}
use Rattle.tl_model.specs.Devices.{Verdicts, RegexpsSeen}
use Rattle.tl_model.specs.Seen.{Told}
use Rattle.tl_model.specs.Volume.{Volume}
use Rattle.tl_kind.specs.declared.kinds.RegexpKind.{RegexpKind}
use Rattle.tl_kind.specs.declared.kinds.RegexpKind.TheVariants.{Syntax, Size}
use Rattle.tl_tree.specs.Planted.{Planted}
use Rattle.tl_auto.specs.Pushing.{KeepsRegexps}
use Rattle.tl_auto.proofs.VerdictLemmas.{keeps_on, regexps_same, regexps_on}
use Rattle.tl_backup.specs.Asked.{IsAsked, tree_in}
use Rattle.tl_backup.proofs.Making.{asked_start, asked_join, asked_tree}
use Rattle.tl_master.specs.Answers.{Answers, IsHostCause, IsKindCause, IsSizeCause, IsOfRegexp, IsOwn, Asks, Finds, Judges}
use Rattle.tl_master.specs.Sources.{then_read}
use Rattle.tl_master.specs.declared.error.MasterError.{MasterError}
use Rattle.tl_master.specs.declared.error.MasterError.TheVariants.{BadMarks, BadSource, UnsetVariable, BadPath, Regexp, NoSource, TooLarge, HostFault, NoMemory}

risen : (a b c : ℕ) → a ≤ b → Rose b c → Rose a c
risen a b c le rose = omega (arith, le, rose)

kind_since : (a b c : ℕ) (kind : RegexpKind) → a ≤ b → IsKindCause b c kind → IsKindCause a c kind
kind_since a b c Syntax le cause = tt
kind_since a b c Size le cause = risen a b c le cause

-- a refusal for size has its cause since before
pub size_since : {U : Type 0} (a b c : ℕ) (answer : Result U MasterError) → a ≤ b → IfErr answer (IsSizeCause b c) → IfErr answer (IsSizeCause a c)
size_since a b c (Ok u) le cause = tt
size_since a b c (Err (BadMarks line)) le cause = tt
size_since a b c (Err (BadSource source line kind)) le cause = tt
size_since a b c (Err (UnsetVariable source line)) le cause = tt
size_since a b c (Err (BadPath source line)) le cause = tt
size_since a b c (Err (Regexp source line kind)) le cause = kind_since a b c kind le cause
size_since a b c (Err NoSource) le cause = tt
size_since a b c (Err (TooLarge what limit)) le cause = tt
size_since a b c (Err HostFault) le cause = tt
size_since a b c (Err NoMemory) le cause = tt

-- a fault of the host has its cause since before
host_since : {U : Type 0} (tells : Bool) (old mid new : Planted) (answer : Result U MasterError) → IsAsked tells old mid → IfErr answer (IsHostCause mid new) → IfErr answer (IsHostCause old new)
host_since tells old mid new (Ok u) asked cause = tt
host_since tells old mid new (Err fault) asked cause = λ is. risen old.seen.faults mid.seen.faults new.seen.faults asked.later (cause is)

-- nothing follows a fault
pub cut_short : {A B T U : Type 0} (view : T → A) (other : U → B) (next : A → Result B MasterError) (wanted : Result A MasterError) (fault : MasterError)
    → Answers view (Err fault) wanted → Answers other (Err fault) (then_read next wanted)
cut_short view other next wanted (BadMarks line) is = ap (then_read next) is
cut_short view other next wanted (BadSource source line kind) is = ap (then_read next) is
cut_short view other next wanted (UnsetVariable source line) is = ap (then_read next) is
cut_short view other next wanted (BadPath source line) is = ap (then_read next) is
cut_short view other next wanted (Regexp source line kind) is = ap (then_read next) is
cut_short view other next wanted NoSource is = ap (then_read next) is
cut_short view other next wanted (TooLarge what limit) is = ap (then_read next) is
cut_short view other next wanted HostFault is = tt
cut_short view other next wanted NoMemory is = tt

-- the same answer to what comes to the same
pub answers_to : {B U : Type 0} (other : U → B) (answer : Result U MasterError) (wanted given : Result B MasterError) → wanted ≡ given → Answers other answer given → Answers other answer wanted
answers_to {B} other answer wanted given is answers = subst (λ (w : Result B MasterError). Answers other answer w) (sym is) answers

module _ {A B T U : Type 0} (tells : Bool) (view : T → A) (other : U → B) where
  -- an answer in what was read
  pub asks_then : (wanted : Volume → Result A MasterError) (next : Volume → A → Result B MasterError) (old mid new : Planted) (found : T) (answer : Result U MasterError) → Asks tells view wanted old mid (Ok found)
      → Asks tells other (λ t. next t (view found)) mid new answer → Asks tells other (λ t. then_read (next t) (wanted t)) old new answer
  asks_then wanted next old mid new found answer first behind = record {
    answered = λ told. answers_to other answer (then_read (next (tree_in old)) (wanted (tree_in old))) (next (tree_in mid) (view found))
        (ap (then_read (next (tree_in old))) (first.answered told) ∙ ap (λ (t : Volume). next t (view found)) (sym (asked_tree tells old mid first.asked told)))
        (behind.answered told);
    asked = asked_join tells old mid new first.asked behind.asked;
    cause = host_since tells old mid new answer first.asked behind.cause;
    others = behind.others;
  }

  pub asks_cut : (wanted : Volume → Result A MasterError) (next : Volume → A → Result B MasterError) (old new : Planted) (fault : MasterError) → Asks tells view wanted old new (Err fault)
      → Asks tells other (λ t. then_read (next t) (wanted t)) old new (Err fault)
  asks_cut wanted next old new fault first = record {
    answered = λ told. cut_short view other (next (tree_in old)) (wanted (tree_in old)) fault (first.answered told);
    asked = first.asked;
    cause = first.cause;
    others = first.others;
  }

  module _ (wanted : Verdicts → Volume → Result A MasterError) (next : Verdicts → Volume → A → Result B MasterError) (old mid new : Planted) (r0 r1 r2 : RegexpsSeen) where
    -- an answer in what was found
    pub finds_then : (found : T) (answer : Result U MasterError) → Finds tells view wanted old mid r0 r1 (Ok found) → Finds tells other (λ verdicts t. next verdicts t (view found)) mid new r1 r2 answer
        → Finds tells other (λ verdicts t. then_read (next verdicts t) (wanted verdicts t)) old new r0 r2 answer
    finds_then found answer first behind = record {
      answered = λ told later keeps. answers_to other answer (then_read (next later (tree_in old)) (wanted later (tree_in old))) (next later (tree_in mid) (view found))
          (ap (then_read (next later (tree_in old))) (first.answered told later (keeps_on r1.verdicts r2.verdicts later behind.regexps.verdicts keeps))
          ∙ ap (λ (t : Volume). next later t (view found)) (sym (asked_tree tells old mid first.asked told)))
          (behind.answered told later keeps);
      asked = asked_join tells old mid new first.asked behind.asked;
      cause = host_since tells old mid new answer first.asked behind.cause;
      regexps = regexps_on r0 r1 r2 first.regexps behind.regexps;
      size = size_since r0.refusals r1.refusals r2.refusals answer first.regexps.later behind.size;
    }

  pub finds_cut : (wanted : Verdicts → Volume → Result A MasterError) (next : Verdicts → Volume → A → Result B MasterError) (old new : Planted) (r0 r1 : RegexpsSeen) (fault : MasterError)
      → Finds tells view wanted old new r0 r1 (Err fault) → Finds tells other (λ verdicts t. then_read (next verdicts t) (wanted verdicts t)) old new r0 r1 (Err fault)
  finds_cut wanted next old new r0 r1 fault first = record {
    answered = λ told later keeps. cut_short view other (next later (tree_in old)) (wanted later (tree_in old)) fault (first.answered told later keeps);
    asked = first.asked;
    cause = first.cause;
    regexps = first.regexps;
    size = first.size;
  }

module _ {B U : Type 0} (tells : Bool) (other : U → B) where
  no_size : (r : ℕ) (answer : Result U MasterError) → IfErr answer (λ fault. IsOfRegexp fault → ⊥) → IfErr answer (IsSizeCause r r)
  no_size r (Ok u) others = tt
  no_size r (Err (BadMarks line)) others = tt
  no_size r (Err (BadSource source line kind)) others = tt
  no_size r (Err (UnsetVariable source line)) others = tt
  no_size r (Err (BadPath source line)) others = tt
  no_size r (Err (Regexp source line kind)) others = absurd (others tt)
  no_size r (Err NoSource) others = tt
  no_size r (Err (TooLarge what limit)) others = tt
  no_size r (Err HostFault) others = tt
  no_size r (Err NoMemory) others = tt

  -- a call that reads finds no verdict
  pub asks_finds : (wanted : Volume → Result B MasterError) (old new : Planted) (r : RegexpsSeen) (answer : Result U MasterError) → Asks tells other wanted old new answer → Finds tells other (λ verdicts t. wanted t) old new r r answer
  asks_finds wanted old new r answer asks = record {
    answered = λ told later keeps. asks.answered told;
    asked = asks.asked;
    cause = asks.cause;
    regexps = regexps_same r;
    size = no_size r.refusals answer asks.others;
  }

  no_host : (old new : Planted) (answer : Result U MasterError) → IfErr answer (λ fault. fault ≡ HostFault → ⊥) → IfErr answer (IsHostCause old new)
  no_host old new (Ok u) own = tt
  no_host old new (Err fault) own = λ is. absurd (own is)

  -- a call that judges reads nothing
  pub judges_finds : (wanted : Verdicts → Result B MasterError) (tree : Planted) (r0 r1 : RegexpsSeen) (answer : Result U MasterError) → Judges other wanted r0 r1 answer → Finds tells other (λ verdicts t. wanted verdicts) tree tree r0 r1 answer
  judges_finds wanted tree r0 r1 answer judges = record {
    answered = λ told later keeps. judges.answered later keeps;
    asked = asked_start tells tree;
    cause = no_host tree tree answer judges.own;
    regexps = judges.regexps;
    size = judges.size;
  }

  -- what is known without asking
  pub asks_known : (wanted : Volume → Result B MasterError) (tree : Planted) (value : U) → Told tells (wanted (tree_in tree) ≡ Ok (other value)) → Asks tells other wanted tree tree (Ok value)
  asks_known wanted tree value is = record { answered = is; asked = asked_start tells tree; cause = tt; others = tt }

  pub asks_no_memory : (wanted : Volume → Result B MasterError) (old new : Planted) → IsAsked tells old new → Asks tells other wanted old new (Err NoMemory)
  asks_no_memory wanted old new asked = record { answered = λ told. tt; asked = asked; cause = λ is. absurd (cc); others = λ is. is }

  pub finds_known : (wanted : Verdicts → Volume → Result B MasterError) (tree : Planted) (r : RegexpsSeen) (value : U) → ((verdicts : Verdicts) → wanted verdicts (tree_in tree) ≡ Ok (other value)) → Finds tells other wanted tree tree r r (Ok value)
  finds_known wanted tree r value is = record { answered = λ told later keeps. is later; asked = asked_start tells tree; cause = tt; regexps = regexps_same r; size = tt }

  pub finds_no_memory : (wanted : Verdicts → Volume → Result B MasterError) (old new : Planted) (r0 r1 : RegexpsSeen) → IsAsked tells old new → KeepsRegexps r0 r1 → Finds tells other wanted old new r0 r1 (Err NoMemory)
  finds_no_memory wanted old new r0 r1 asked keeps = record { answered = λ told later k. tt; asked = asked; cause = λ is. absurd (cc); regexps = keeps; size = tt }

  own_size : (r : ℕ) (answer : Result U MasterError) → IfErr answer IsOwn → IfErr answer (IsSizeCause r r)
  own_size r (Ok u) own = tt
  own_size r (Err (BadMarks line)) own = tt
  own_size r (Err (BadSource source line kind)) own = tt
  own_size r (Err (UnsetVariable source line)) own = tt
  own_size r (Err (BadPath source line)) own = tt
  own_size r (Err (Regexp source line kind)) own = absurd own
  own_size r (Err NoSource) own = tt
  own_size r (Err (TooLarge what limit)) own = tt
  own_size r (Err HostFault) own = tt
  own_size r (Err NoMemory) own = tt

  own_host : (old new : Planted) (answer : Result U MasterError) → IfErr answer IsOwn → IfErr answer (IsHostCause old new)
  own_host old new (Ok u) own = tt
  own_host old new (Err (BadMarks line)) own = λ is. absurd (cc)
  own_host old new (Err (BadSource source line kind)) own = λ is. absurd (cc)
  own_host old new (Err (UnsetVariable source line)) own = λ is. absurd (cc)
  own_host old new (Err (BadPath source line)) own = λ is. absurd (cc)
  own_host old new (Err (Regexp source line kind)) own = absurd own
  own_host old new (Err NoSource) own = λ is. absurd (cc)
  own_host old new (Err (TooLarge what limit)) own = λ is. absurd (cc)
  own_host old new (Err HostFault) own = absurd own
  own_host old new (Err NoMemory) own = λ is. absurd (cc)

  -- what no device gave
  pub own_finds : (wanted : Result B MasterError) (tree : Planted) (r : RegexpsSeen) (answer : Result U MasterError) → Answers other answer wanted → IfErr answer IsOwn → Finds tells other (λ verdicts t. wanted) tree tree r r answer
  own_finds wanted tree r answer answers own = record {
    answered = λ told later keeps. answers;
    asked = asked_start tells tree;
    cause = own_host tree tree answer own;
    regexps = regexps_same r;
    size = own_size r.refusals answer own;
  }
