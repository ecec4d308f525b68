-- Answers that follow from one another.
use Rattle.std.proofs.Common.{◌≡◌, Bool, true, false, if◌then◌else◌, ℕ, zero, suc, ◌+◌, ◌-◌, ◌≤◌, ◌<◌, List, [], ◌∷◌, ◌++◌, Result, Ok, Err, refl, ap, sym, subst, add-one, arith}
use Rattle.tl_model.specs.Devices.{Verdicts, RegexpsSeen}
use Rattle.tl_index.specs.declared.hit.Hit.{Hit}
use Rattle.tl_auto.specs.declared.error.AutoError.{AutoError}
use Rattle.tl_auto.specs.declared.error.AutoError.TheVariants.{UnsetVariable, BadPath, Syntax, Size, NoMemory}
use Rattle.tl_auto.specs.Pushing.{KeepsRegexps, IsAnswered, Judges}
use Rattle.tl_auto.proofs.VerdictLemmas.{keeps_on, regexps_same, regexps_on}
use Rattle.tl_auto.proofs.JudgeLemmas.{moved, size_on}
use Rattle.tl_expand.specs.Choices.{with_answer, chosen_bins}

-- an answer that follows another
pub judges_then : {A B T U : Type 0} (view : T → A) (other : U → B) (wanted : Verdicts → Result A AutoError) (next : A → Verdicts → Result B AutoError)
    (r0 r1 r2 : RegexpsSeen) (value : T) (answer : Result U AutoError)
    → Judges view wanted r0 r1 (Ok value) → Judges other (next (view value)) r1 r2 answer
    → Judges other (λ v. with_answer (λ a. next a v) (wanted v)) r0 r2 answer
judges_then view other wanted next r0 r1 r2 value answer first behind = record {
  answered = λ later keeps. moved other (sym (ap (with_answer (λ a. next a later)) (first.answered later (keeps_on r1.verdicts r2.verdicts later behind.regexps.verdicts keeps))))
      answer (behind.answered later keeps);
  regexps = regexps_on r0 r1 r2 first.regexps behind.regexps;
  size = size_on r0.refusals r1.refusals r2.refusals answer first.regexps.later behind.size;
}

cut_answered : {A B T U : Type 0} (view : T → A) (other : U → B) (next : A → Result B AutoError) (wanted : Result A AutoError) (fault : AutoError)
    → IsAnswered view wanted (Err fault) → IsAnswered other (with_answer next wanted) (Err fault)
cut_answered view other next wanted (UnsetVariable line) h = ap (with_answer next) h
cut_answered view other next wanted (BadPath line) h = ap (with_answer next) h
cut_answered view other next wanted (Syntax line) h = ap (with_answer next) h
cut_answered view other next wanted (Size line) h = ap (with_answer next) h
cut_answered view other next wanted NoMemory h = tt

-- nothing follows a fault
pub judges_cut : {A B T U : Type 0} (view : T → A) (other : U → B) (wanted : Verdicts → Result A AutoError) (next : A → Verdicts → Result B AutoError)
    (r0 r1 : RegexpsSeen) (fault : AutoError) → Judges view wanted r0 r1 (Err fault) → Judges other (λ v. with_answer (λ a. next a v) (wanted v)) r0 r1 (Err fault)
judges_cut view other wanted next r0 r1 fault first = record {
  answered = λ later keeps. cut_answered view other (λ a. next a later) (wanted later) fault (first.answered later keeps);
  regexps = first.regexps;
  size = first.size;
}

-- an answer that needs no verdict
pub judges_known : {B U : Type 0} (other : U → B) (value : U) (b : B) (r : RegexpsSeen) → b ≡ other value → Judges other (λ v. Ok b) r r (Ok value)
judges_known other value b r is = record { answered = λ later keeps. ap Ok is; regexps = regexps_same r; size = tt }

pub judges_no_memory : {B U : Type 0} (other : U → B) (wanted : Verdicts → Result B AutoError) (r0 r1 : RegexpsSeen) → KeepsRegexps r0 r1 → Judges other wanted r0 r1 (Err NoMemory)
judges_no_memory other wanted r0 r1 keeps = record { answered = λ later k. tt; regexps = keeps; size = tt }

-- the binaries of the first platforms were chosen
abbrev pub BinsSoFar : (Verdicts → ℕ → Result (List Hit) AutoError) → ℕ → List (List Hit) → RegexpsSeen → RegexpsSeen → Type 0
BinsSoFar choose n bins r0 r1 = Judges {T = Unit {0}} (λ _. bins) (λ v. chosen_bins (choose v) n) r0 r1 (Ok tt)

pub bins_none : (choose : Verdicts → ℕ → Result (List Hit) AutoError) (r : RegexpsSeen) → BinsSoFar choose 0 [] r r
bins_none choose r = record { answered = λ later keeps. refl; regexps = regexps_same r; size = tt }

pub bins_more : {T : Type 0} (choose : Verdicts → ℕ → Result (List Hit) AutoError) (n : ℕ) (bins new : List (List Hit)) (view : T → List Hit) (value : T) (r0 r1 r2 : RegexpsSeen)
    → BinsSoFar choose n bins r0 r1 → Judges view (λ v. choose v n) r1 r2 (Ok value) → new ≡ bins ++ view value ∷ [] → BinsSoFar choose (n + 1) new r0 r2
bins_more choose n bins new view value r0 r1 r2 first behind is =
    let hits : Judges {T = Unit {0}} (λ _. new) (λ v. with_answer (λ hits. Ok (bins ++ hits ∷ [])) (choose v n)) r1 r2 (Ok tt)
    = judges_then view (λ _. new) (λ v. choose v n) (λ hits v. Ok (bins ++ hits ∷ [])) r1 r2 r2 value (Ok tt) behind (judges_known (λ _. new) tt (bins ++ view value ∷ []) r2 (sym is)) in
    let all : BinsSoFar choose (suc n) new r0 r2
    = judges_then (λ _. bins) (λ _. new) (λ v. chosen_bins (choose v) n) (λ before v. with_answer (λ hits. Ok (before ++ hits ∷ [])) (choose v n)) r0 r1 r2 tt (Ok tt) first hits in
    subst (λ m. BinsSoFar choose m new r0 r2) (sym (add-one n)) all

-- a fault among the first platforms is one among all
stays : (choose : ℕ → Result (List Hit) AutoError) (n k : ℕ) (fault : AutoError) → chosen_bins choose n ≡ Err fault → chosen_bins choose (k + n) ≡ Err fault
stays choose n zero fault is = let e : 0 + n ≡ n = omega arith in rw e is
stays choose n (suc k) fault is = let e : suc k + n ≡ suc (k + n) = omega arith in
    rw e (ap (with_answer (λ before. with_answer (λ hits. Ok (before ++ hits ∷ [])) (choose (k + n)))) (stays choose n k fault is))

stays_up_to : (choose : ℕ → Result (List Hit) AutoError) (n m : ℕ) (fault : AutoError) → n ≤ m → chosen_bins choose n ≡ Err fault → chosen_bins choose m ≡ Err fault
stays_up_to choose n m fault le is = let e : (m - n) + n ≡ m = omega arith in subst (λ j. chosen_bins choose j ≡ Err fault) e (stays choose n (m - n) fault is)

stays_answered : {T U : Type 0} (view : T → List (List Hit)) (other : U → List (List Hit)) (choose : ℕ → Result (List Hit) AutoError) (n m : ℕ) (fault : AutoError) → n ≤ m
    → IsAnswered view (chosen_bins choose n) (Err fault) → IsAnswered other (chosen_bins choose m) (Err fault)
stays_answered view other choose n m (UnsetVariable line) le h = stays_up_to choose n m (UnsetVariable line) le h
stays_answered view other choose n m (BadPath line) le h = stays_up_to choose n m (BadPath line) le h
stays_answered view other choose n m (Syntax line) le h = stays_up_to choose n m (Syntax line) le h
stays_answered view other choose n m (Size line) le h = stays_up_to choose n m (Size line) le h
stays_answered view other choose n m NoMemory le h = tt

pub bins_cut : {T U : Type 0} (choose : Verdicts → ℕ → Result (List Hit) AutoError) (n m : ℕ) (bins : List (List Hit)) (view : T → List Hit) (other : U → List (List Hit)) (fault : AutoError)
    (r0 r1 r2 : RegexpsSeen) → n < m → BinsSoFar choose n bins r0 r1 → Judges view (λ v. choose v n) r1 r2 (Err fault) → Judges other (λ v. chosen_bins (choose v) m) r0 r2 (Err fault)
bins_cut choose n m bins view other fault r0 r1 r2 lt first behind =
    let hits : Judges {T = Unit {0}} (λ _. bins) (λ v. with_answer (λ hits. Ok (bins ++ hits ∷ [])) (choose v n)) r1 r2 (Err fault)
    = judges_cut view (λ _. bins) (λ v. choose v n) (λ hits v. Ok (bins ++ hits ∷ [])) r1 r2 fault behind in
    let all : Judges {T = Unit {0}} (λ _. bins) (λ v. chosen_bins (choose v) (suc n)) r0 r2 (Err fault)
    = judges_then (λ _. bins) (λ _. bins) (λ v. chosen_bins (choose v) n) (λ before v. with_answer (λ hits. Ok (before ++ hits ∷ [])) (choose v n)) r0 r1 r2 tt (Err fault) first hits in
    record {
      answered = λ later keeps. stays_answered {T = Unit {0}} (λ _. bins) other (choose later) (suc n) m fault (omega arith) (all.answered later keeps);
      regexps = all.regexps;
      size = all.size;
    }

pub bins_done : {T : Type 0} (choose : Verdicts → ℕ → Result (List Hit) AutoError) (n m : ℕ) (view : T → List (List Hit)) (value : T) (r0 r1 : RegexpsSeen)
    → n ≡ m → BinsSoFar choose n (view value) r0 r1 → Judges view (λ v. chosen_bins (choose v) m) r0 r1 (Ok value)
bins_done choose n m view value r0 r1 is so =
    let all : BinsSoFar choose m (view value) r0 r1 = subst (λ k. BinsSoFar choose k (view value) r0 r1) is so in
    record { answered = all.answered; regexps = all.regexps; size = tt }

pub bin_within : (b : Bool) (n i : ℕ) → i < (if b then n else 0) → i < n
bin_within true n i lt = lt
bin_within false n i lt = absurd (omega arith)
