-- No fault of words stands past the limit on their number.
use Rattle.std.proofs.Common.{◌≡◌, ℕ, ◌+◌, ◌<◌, ◌≤◌, Bool, true, false, cond, not, ◌&&◌, ◌||◌, ◌==◌, nat_le, nat_lt, List, [], ◌∷◌, length, drop, Option, Some, None, refl, ap, sym, subst, ◌∙◌, arith, ⊎_elim, bytes_eq, codes, is_none, Vec, Result, Ok, Err, OnOk}
use Rattle.std.proofs.lemmas.Bool.Decides.{nat_tests}
use Rattle.tl_words.specs.declared.faults.Fault.{Fault}
use Rattle.tl_action.specs.declared.table.OptionName.{OptionName}
use Rattle.tl_action.specs.declared.table.OptionName.TheVariants.{Repository, Workers, Usermode, Usertree, Local, All}
use Rattle.tl_action.specs.declared.action_name.ActionName.{ActionName}
use Rattle.tl_action.specs.declared.form.Form.{Form}
use Rattle.tl_action.specs.declared.expected.Expected.{Expected}
use Rattle.tl_words.specs.Parts.{Part, given, plain, parts, own_value, is_option_word, option_name, option_value, is_valued}
use Rattle.tl_action.specs.Table.{takes_value, option_named, action_named_among, needs_local, operands_of, is_served}
use Rattle.std.specs.List.{list_any}
use Rattle.tl_words.specs.Order.{fault, or_else, earlier}
use Rattle.tl_words.specs.Operands.{operand_fault, operands_fault, form_kind}
use Rattle.tl_action.specs.Forms.{form_of, fits, after, is_needed}
use Rattle.tl_words.specs.Settings.{given_fault, setting_fault, options_fault, tags_after, tag_of, is_worker_count, has_option, is_option, repositories_of}
use Rattle.tl_words.specs.Faults.{size_fault, plains, is_foreign, foreign_fault, user_fault, required_fault, flags_fault, repository_fault, known_fault, action_fault, command_fault, forbidden_fault}
use Rattle.tl_words.specs.declared.error.WordKind.TheVariants as kinds
use Rattle.std.proofs.lemmas.Bool.{cases_lt}
use Rattle.std.specs.declared.alloc.Global.{Global}
use Rattle.tl_action.specs.Texts.{texts}
use Rattle.tl_action.specs.declared.command.Command.{Command}
use Rattle.tl_words.specs.declared.error.WordsError.{WordsError}
use Rattle.tl_words.proofs.Drops.{length_texts}
use Rattle.tl_words.specs.Places.{ValueWithin, PartsWithin, AreWithin}

-- a fault, if there is one, stands at most so far
abbrev pub FaultWithin : ℕ → Option Fault → Type 0
FaultWithin n None = Unit {0}
FaultWithin n (Some found) = found.at ≤ n

-- what holds of both values of a choice holds of it
either : {A : Type 0} (P : A → Type 0) (b : Bool) (x y : A) → P x → P y → P (cond b x y)
either P true x y p q = p
either P false x y p q = q

-- an option's own value stands where the option does
own-within : (n at : ℕ) (value : Option (List ℕ)) → at ≤ n → ValueWithin n (own_value at value)
own-within n at None h = tt
own-within n at (Some value) h = h

-- an option that takes the next word stands at most so far
abbrev OwedWithin : ℕ → Option (ℕ × Option OptionName) → Type 0
OwedWithin n None = Unit {0}
OwedWithin n (Some owed) = owed.0 ≤ n

-- the parts of words stand at most at their number, after a place
pub parts-within : (in_session : Bool) (owed : Option (ℕ × Option OptionName)) (ended : Bool) (at n : ℕ) (words : List (List ℕ))
    → OwedWithin n owed → at + length words ≤ n → PartsWithin n (parts in_session owed ended at words)
parts-within in_session (Some owed) ended at n [] o h = (o, (omega (arith, h), tt))
parts-within in_session (Some owed) ended at n (word ∷ words) o h =
    (o, (omega (arith, h), parts-within in_session None ended (at + 1) n words tt (omega (arith, h))))
parts-within in_session None ended at n [] o h = tt
parts-within in_session None ended at n (word ∷ words) o h =
    let here : at ≤ n = omega (arith, h) in
    let more : (at + 1) + length words ≤ n = omega (arith, h) in
    let rest : List Part = parts in_session None false (at + 1) words in
    let name : Option OptionName = option_named in_session (option_name word) in
    let own : List Part = given at name (own_value at (option_value word)) ∷ rest in
    let owing : List Part = parts in_session (Some (at, name)) false (at + 1) words in
    let owes : Bool = is_none (option_value word) && is_valued name in
    let ends : List Part = parts in_session None true (at + 1) words in
    let last : PartsWithin n (cond owes owing own)
    = either (PartsWithin n) owes owing own (parts-within in_session (Some (at, name)) false (at + 1) n words here more)
    (here, (own-within n at (option_value word) here, parts-within in_session None false (at + 1) n words tt more)) in
    let third : PartsWithin n (cond (not (is_option_word word)) (plain at word ∷ rest) (cond owes owing own))
    = either (PartsWithin n) (not (is_option_word word)) (plain at word ∷ rest) (cond owes owing own) (here, parts-within in_session None false (at + 1) n words tt more) last in
    let second : PartsWithin n (cond (bytes_eq word (codes "--")) ends (cond (not (is_option_word word)) (plain at word ∷ rest) (cond owes owing own)))
    = either (PartsWithin n) (bytes_eq word (codes "--")) ends (cond (not (is_option_word word)) (plain at word ∷ rest) (cond owes owing own)) (parts-within in_session None true (at + 1) n words tt more) third in
    either (PartsWithin n) ended (plain at word ∷ ends) (cond (bytes_eq word (codes "--")) ends (cond (not (is_option_word word)) (plain at word ∷ rest) (cond owes owing own)))
    (here, parts-within in_session None true (at + 1) n words tt more) second

-- each of two faults stands at most so far: so does the first of them
or_else-within : (n : ℕ) (a b : Option Fault) → FaultWithin n a → FaultWithin n b → FaultWithin n (or_else a b)
or_else-within n None b p q = q
or_else-within n (Some a) b p q = p

-- the fault of an option's value stands at the value
setting-within : (n : ℕ) (tags : List (List ℕ)) (option : OptionName) (at : ℕ) (value : List ℕ) → at ≤ n → FaultWithin n (setting_fault tags option at value)
setting-within n tags Repository at value h =
    either (FaultWithin n) (list_any (bytes_eq (tag_of value)) tags) (Some (fault kinds.Value at)) (cond (nat_le 16 (length tags)) (Some (fault kinds.Number at)) None) h
    (either (FaultWithin n) (nat_le 16 (length tags)) (Some (fault kinds.Number at)) None h (tt {0}))
setting-within n tags Workers at value h = either (FaultWithin n) (is_worker_count value) None (Some (fault kinds.Number at)) (tt {0}) h
setting-within n tags _ at value h = tt

-- the fault of an option stands at its word or at its value
given-within : (n : ℕ) (tags : List (List ℕ)) (at : ℕ) (option : Option OptionName) (value : Option (ℕ × List ℕ)) → at ≤ n → ValueWithin n value → FaultWithin n (given_fault tags at option value)
given-within n tags at None value h v = h
given-within n tags at (Some option) None h v = tt
given-within n tags at (Some option) (Some value) h v =
    either (FaultWithin n) (not (takes_value option)) (Some (fault kinds.Value at)) (cond (length value.1 == 0) (Some (fault kinds.Value value.0)) (setting_fault tags option value.0 value.1)) h
    (either (FaultWithin n) (length value.1 == 0) (Some (fault kinds.Value value.0)) (setting_fault tags option value.0 value.1) v (setting-within n tags option value.0 value.1 v))

-- the first fault of options
options-within : (n : ℕ) (tags : List (List ℕ)) (all : List Part) → PartsWithin n all → FaultWithin n (options_fault tags all)
options-within n tags [] w = tt
options-within n tags (plain at word ∷ others) w = options-within n tags others w.1
options-within n tags (given at option value ∷ others) w =
    or_else-within n (given_fault tags at option value) (options_fault (tags_after tags option value) others)
    (given-within n tags at option value w.0 w.1.0) (options-within n (tags_after tags option value) others w.1.1)

-- the first option that is refused
foreign-within : (n : ℕ) (action : ActionName) (usermode : Bool) (all : List Part) → PartsWithin n all → FaultWithin n (foreign_fault action usermode all)
foreign-within n action usermode [] w = tt
foreign-within n action usermode (plain at word ∷ others) w = foreign-within n action usermode others w.1
foreign-within n action usermode (given at option value ∷ others) w =
    either (FaultWithin n) (is_foreign action usermode option) (Some (fault kinds.Option at)) (foreign_fault action usermode others) w.0 (foreign-within n action usermode others w.1.1)

-- words that are no options stand at most so far
abbrev PlainsWithin : ℕ → List (ℕ × List ℕ) → Type 0
PlainsWithin n [] = Unit {0}
PlainsWithin n (first ∷ others) = (first.0 ≤ n) × PlainsWithin n others

-- the words that are no options are parts
plains-within : (n : ℕ) (all : List Part) → PartsWithin n all → PlainsWithin n (plains all)
plains-within n [] w = tt
plains-within n (plain at word ∷ others) w = (w.0, plains-within n others w.1)
plains-within n (given at option value ∷ others) w = plains-within n others w.1.1

-- the first fault of the options with an action
flags-within : (n end : ℕ) (action : ActionName) (all : List Part) → end ≤ n → PartsWithin n all → FaultWithin n (flags_fault action end all)
flags-within n end action all e w =
    or_else-within n (foreign_fault action (has_option Usermode all) all) (or_else (user_fault end all) (required_fault action end all))
    (foreign-within n action (has_option Usermode all) all w)
    (or_else-within n (user_fault end all) (required_fault action end all)
    (either (FaultWithin n) (has_option Usermode all && not (has_option Usertree all)) (Some (fault kinds.Value end)) None e (tt {0}))
    (either (FaultWithin n) (needs_local action && not (has_option Local all)) (Some (fault kinds.Option end)) None e (tt {0})))

-- the fault of an operand stands at it
operand-within : (n : ℕ) (form : Option Form) (operand : ℕ × List ℕ) → operand.0 ≤ n → FaultWithin n (operand_fault form operand)
operand-within n None operand h = h
operand-within n (Some form) operand h = either (FaultWithin n) (fits form operand.1) None (Some (fault (form_kind form) operand.0)) (tt {0}) h

-- the first fault of operands
operands-within : (n end : ℕ) (expected : Expected) (operands : List (ℕ × List ℕ)) → end ≤ n → PlainsWithin n operands → FaultWithin n (operands_fault expected end operands)
operands-within n end expected [] e w = either (FaultWithin n) (is_needed expected) (Some (fault kinds.Operand end)) None e (tt {0})
operands-within n end expected (operand ∷ others) e w =
    or_else-within n (operand_fault (form_of expected) operand) (operands_fault (after expected operand.1) end others)
    (operand-within n (form_of expected) operand w.0) (operands-within n end (after expected operand.1) others e w.1)

-- the first fault of an action's words
known-within : (n : ℕ) (in_session : Bool) (action : Option ActionName) (at end : ℕ) (all : List Part) (operands : List (ℕ × List ℕ))
    → at ≤ n → end ≤ n → PartsWithin n all → PlainsWithin n operands → FaultWithin n (known_fault in_session action at end all operands)
known-within n in_session None at end all operands a e w p = a
known-within n in_session (Some action) at end all operands a e w p =
    let expected : Expected = operands_of action (has_option All all) in
    let served : Option Fault = repository_fault in_session action end (length (repositories_of all)) in
    or_else-within n (flags_fault action end all) (or_else (operands_fault expected end operands) served) (flags-within n end action all e w)
    (or_else-within n (operands_fault expected end operands) served (operands-within n end expected operands e p)
    (either (FaultWithin n) (in_session || is_served action (length (repositories_of all))) None (Some (fault kinds.Repository end)) (tt {0}) e))

-- the first fault of the action and what goes with it
action-within : (n : ℕ) (on : List ActionName) (in_session : Bool) (end : ℕ) (all : List Part) (ps : List (ℕ × List ℕ)) → end ≤ n → PartsWithin n all → PlainsWithin n ps → FaultWithin n (action_fault on in_session end all ps)
action-within n on in_session end all [] e w p = e
action-within n on in_session end all (first ∷ operands) e w p = known-within n in_session (action_named_among on first.1) first.0 end all operands p.0 e w p.1

-- the first word past the limits
size-within : (at n : ℕ) (words : List (List ℕ)) → at + length words ≤ n → FaultWithin n (size_fault at words)
size-within at n [] h = tt
size-within at n (word ∷ words) h = either (FaultWithin n) (at == 4096 || nat_lt 65536 (length word)) (Some (fault kinds.Number at)) (size_fault (at + 1) words) (omega (arith, h)) (size-within (at + 1) n words (omega (arith, h)))

-- the earlier one of two faults
earlier-within : (n : ℕ) (a b : Option Fault) → FaultWithin n a → FaultWithin n b → FaultWithin n (earlier a b)
earlier-within n None b p q = q
earlier-within n (Some a) None p q = p
earlier-within n (Some a) (Some b) p q = either (λ (f : Fault). f.at ≤ n) (nat_le a.at b.at) a b p q

-- a place that is not past the limits has one behind it
less : (at len : ℕ) → at ≤ 4096 → (at == 4096 || nat_lt 65536 len) ≡ false → at + 1 ≤ 4096
less at len h is = grind (arith, nat_tests)

-- more words than the limit have a fault at it at the latest
first_over : (at : ℕ) (words : List (List ℕ)) → at ≤ 4096 → 4096 < at + length words → (found : Fault) × ((size_fault at words ≡ Some found) × (found.at ≤ 4096))
first_over at [] h over = absurd (omega (arith, h, over))
first_over at (word ∷ words) h over = step (at == 4096 || nat_lt 65536 (length word)) (λ is. first_over (at + 1) words (less at (length word) h is) (omega (arith, over)))
  where
    step : (b : Bool) → (b ≡ false → (found : Fault) × ((size_fault (at + 1) words ≡ Some found) × (found.at ≤ 4096)))
        → (found : Fault) × ((cond b (Some (fault kinds.Number at)) (size_fault (at + 1) words) ≡ Some found) × (found.at ≤ 4096))
    step true more = (fault kinds.Number at, (refl, h))
    step false more = more refl

-- a place that is not behind one up to the limit is not past it
not_past : (a b : ℕ) → nat_le a b ≡ true → b ≤ 4096 → a ≤ 4096
not_past a b is h = grind (arith, nat_tests)

-- a fault up to the limit: the earlier one of it and another
earlier_over : (x y : Option Fault) (found : Fault) → found.at ≤ 4096 → FaultWithin 4096 (or_else (earlier x (Some found)) y)
earlier_over None y found h = h
earlier_over (Some a) y found h = step (nat_le a.at found.at) (λ is. not_past a.at found.at is h)
  where
    step : (b : Bool) → (b ≡ true → a.at ≤ 4096) → (cond b a found).at ≤ 4096
    step true less_far = less_far refl
    step false less_far = h

-- no fault of words stands past 4,096
pub command-within : (on : List ActionName) (in_session : Bool) (words : List (List ℕ)) (all : List Part) → AreWithin words all → FaultWithin 4096 (command_fault on in_session words all)
command-within on in_session words all within = ⊎_elim
    (λ over.
    let first = first_over 0 words (omega arith) (omega (arith, over)) in
    subst (λ (x : Option Fault). FaultWithin 4096 (or_else (earlier (options_fault [] all) x) (action_fault on in_session (length words) all (plains all)))) (sym first.1.0)
    (earlier_over (options_fault [] all) (action_fault on in_session (length words) all (plains all)) first.0 first.1.1))
    (λ few.
    or_else-within 4096 (earlier (options_fault [] all) (size_fault 0 words)) (action_fault on in_session (length words) all (plains all))
    (earlier-within 4096 (options_fault [] all) (size_fault 0 words) (options-within 4096 [] all (within 4096 few)) (size-within 0 4096 words (omega (arith, few))))
    (action-within 4096 on in_session (length words) all (plains all) few (within 4096 few) (plains-within 4096 all (within 4096 few))))
    (cases_lt 4096 (length words))

-- so the first fault of a command stands at most at 4,096
pub fault-within : (on : List ActionName) (in_session : Bool) (words : List (List ℕ)) (all : List Part) (found : Fault) → AreWithin words all → command_fault on in_session words all ≡ Some found → found.at ≤ 4096
fault-within on in_session words all found within is = subst (FaultWithin 4096) is (command-within on in_session words all within)

some_fault : (x y : Option Fault) (found : Fault) → or_else (earlier x (Some found)) y ≡ None → ⊥
some_fault None y found none = cc
some_fault (Some a) y found none = cc

-- words without a fault are within the limit on their number
pub few_words : (on : List ActionName) (in_session : Bool) (words : List (List ℕ)) (all : List Part) → command_fault on in_session words all ≡ None → length words ≤ 4096
few_words on in_session words all none = ⊎_elim
    (λ over.
    let first = first_over 0 words (omega arith) (omega (arith, over)) in
    absurd (some_fault (options_fault [] all) (action_fault on in_session (length words) all (plains all)) first.0
    (subst (λ (x : Option Fault). or_else (earlier (options_fault [] all) x) (action_fault on in_session (length words) all (plains all)) ≡ None) first.1.0 none)))
    (λ few. few)
    (cases_lt 4096 (length words))

-- so are the words of a command that was read
pub read_few : (on : List ActionName) (in_session : Bool) (words : List (Vec ℕ Global)) (all : List Part) (result : Result Command WordsError)
    → OnOk result (command_fault on in_session (texts words) all ≡ None) → OnOk result (length words ≤ 4096)
read_few on in_session words all (Ok command) none = subst (λ n. n ≤ 4096) (length_texts words) (few_words on in_session (texts words) all none)
read_few on in_session words all (Err error) none = tt

-- where an option stands that words may not have
pub forbidden-within : (n : ℕ) (this : OptionName) (all : List Part) → PartsWithin n all → FaultWithin n (forbidden_fault this all)
forbidden-within n this [] w = tt
forbidden-within n this (plain at word ∷ others) w = forbidden-within n this others w.1
forbidden-within n this (given at option value ∷ others) w =
    either (FaultWithin n) (is_option this option) (Some (fault kinds.Option at)) (forbidden_fault this others) w.0 (forbidden-within n this others w.1.1)

-- the parts of the program's words
pub program-within : (words : List (List ℕ)) → AreWithin words (parts false None false 1 (drop 1 words))
program-within [] = λ n h. tt
program-within (root ∷ words) = λ n h. parts-within false None false 1 n words tt (omega (arith, h))

-- the parts of the words of a session's line
pub session-within : (words : List (List ℕ)) → AreWithin words (parts true None false 0 words)
session-within words = λ n h. parts-within true None false 0 n words tt (omega (arith, h))

-- where the first fault is one of the options or the sizes
pub options_place : (words : List (List ℕ)) (all : List Part) (found : Fault) → AreWithin words all → earlier (options_fault [] all) (size_fault 0 words) ≡ Some found → found.at ≤ 4096
options_place words all found within is =
    fault-within [] false words all found within (ap (λ (x : Option Fault). or_else x (action_fault [] false (length words) all (plains all))) is)

-- where it is one of the action
pub action_place : (on : List ActionName) (in_session : Bool) (words : List (List ℕ)) (all : List Part) (found : Fault) → AreWithin words all → earlier (options_fault [] all) (size_fault 0 words) ≡ None
    → action_fault on in_session (length words) all (plains all) ≡ Some found → found.at ≤ 4096
action_place on in_session words all found within none is =
    fault-within on in_session words all found within (ap (λ (x : Option Fault). or_else x (action_fault on in_session (length words) all (plains all))) none ∙ is)
