-- What operands without a fault are.
use Rattle.std.proofs.Common.{◌≡◌, ℕ, Bool, true, false, cond, List, [], ◌∷◌, ◌++◌, Option, Some, None, length, refl, subst, map, Bor, bytes_eq}
use Rattle.std.specs.List.{All, list_any}
use Rattle.std.proofs.lemmas.List.Elements.{All-nil, All-cons, All-head, All-tail, All-push}
use Rattle.tl_path.specs.Names.{is_name}
use Rattle.tl_action.specs.declared.expected.Expected.{Expected}
use Rattle.tl_action.specs.declared.expected.Expected.TheVariants.{SomeNames, AnyNames, MayNameAndRevision, MayRevision, Pins, PinsWithAll, TagAndGlobs, TagAndAnyGlobs}
use Rattle.tl_action.specs.declared.form.Form.{Form}
use Rattle.tl_action.specs.declared.form.Form.TheVariants as forms
use Rattle.tl_action.specs.declared.form.PinWord.{PinWord}
use Rattle.tl_action.specs.declared.form.PinWord.TheVariants.{Show, Add, Remove}
use Rattle.tl_action.specs.Forms.{fits, form_of, is_needed, pin_word, after_pin, after}
use Rattle.tl_action.specs.Table.{names_expected, operands_of}
use Rattle.tl_action.specs.declared.action_name.ActionName.TheVariants.{Pinning}
use Rattle.tl_action.specs.declared.action_name.ActionName.{ActionName}
use Rattle.tl_action.specs.declared.table.OptionName.TheVariants as options
use Rattle.tl_words.specs.Parts.{Part}
use Rattle.tl_words.specs.Settings.{has_option, repositories_of}
use Rattle.tl_words.specs.Faults.{flags_fault, repository_fault, asked_fault}
use Rattle.tl_words.specs.declared.faults.Fault.{Fault}
use Rattle.tl_words.specs.Order.{fault, or_else}
use Rattle.tl_words.specs.Operands.{form_kind, operand_fault, operands_fault}
use Rattle.tl_words.specs.Commands.{unplaced, first_word, later_words, with_word, distinct_after, distinct}
use Rattle.tl_words.specs.Fit.{AreFit, AreNames, MayBeginWithName, MayBeginWithRevision, TagFollows}
use Rattle.tl_words.specs.declared.error.WordKind.TheVariants as kinds

-- neither of two faults is there
neither : (a b : Option Fault) → or_else a b ≡ None → (a ≡ None) × (b ≡ None)
neither None b is = (refl, is)
neither (Some a) b is = absurd (cc)

chosen : (b : Bool) (found : Fault) → cond b None (Some found) ≡ None → b ≡ true
chosen true found is = refl
chosen false found is = absurd (cc)

-- the first operand has the form that is expected, and the others have no fault
begins : (expected : Expected) (form : Form) (end : ℕ) (first : ℕ × List ℕ) (others : List (ℕ × List ℕ)) → form_of expected ≡ Some form
    → operands_fault expected end (first ∷ others) ≡ None → (fits form first.1 ≡ true) × (operands_fault (after expected first.1) end others ≡ None)
begins expected form end first others is none =
    let both : (operand_fault (form_of expected) first ≡ None) × (operands_fault (after expected first.1) end others ≡ None)
    = neither (operand_fault (form_of expected) first) (operands_fault (after expected first.1) end others) none in
    let formed : operand_fault (Some form) first ≡ None = subst (λ (next : Option Form). operand_fault next first ≡ None) is both.0 in
    (chosen (fits form first.1) (fault (form_kind form) first.0) formed, both.1)

unneeded : (needed : Bool) (found : Fault) → needed ≡ true → cond needed (Some found) None ≡ None → ⊥
unneeded true found is none = cc
unneeded false found is none = cc

-- an operand that has to come
pub one-fits : (expected : Expected) (form : Form) (operands : List (ℕ × List ℕ)) → form_of expected ≡ Some form → is_needed expected ≡ true
    → AreFit expected operands → fits form (first_word (unplaced operands)) ≡ true
one-fits expected form [] is needed fit = absurd (unneeded (is_needed expected) (fault kinds.Operand fit.0) needed fit.1)
one-fits expected form (first ∷ others) is needed fit = (begins expected form fit.0 first others is fit.1).0

-- a name or none, whatever comes behind it
pub may_name-fits : (expected : Expected) (operands : List (ℕ × List ℕ)) → form_of expected ≡ Some forms.Name → AreFit expected operands
    → MayBeginWithName (unplaced operands)
may_name-fits expected [] is fit = tt
may_name-fits expected (first ∷ others) is fit = (begins expected forms.Name fit.0 first others is fit.1).0

may_revision : (end : ℕ) (operands : List (ℕ × List ℕ)) → operands_fault MayRevision end operands ≡ None → MayBeginWithRevision (unplaced operands)
may_revision end [] none = tt
may_revision end (first ∷ others) none = (begins MayRevision forms.Revision end first others refl none).0

-- a revision or none behind a name
pub revision-fits : (operands : List (ℕ × List ℕ)) → AreFit MayNameAndRevision operands → MayBeginWithRevision (later_words (unplaced operands))
revision-fits [] fit = tt
revision-fits (first ∷ others) fit = may_revision fit.0 others (begins MayNameAndRevision forms.Name fit.0 first others refl fit.1).1

any_names : (end : ℕ) (operands : List (ℕ × List ℕ)) → operands_fault AnyNames end operands ≡ None → AreNames (unplaced operands)
any_names end [] none = All-nil (λ (word : List ℕ). is_name word ≡ true)
any_names end (first ∷ others) none =
    let both : (is_name first.1 ≡ true) × (operands_fault AnyNames end others ≡ None) = begins AnyNames forms.Name end first others refl none in
    All-cons (λ (word : List ℕ). is_name word ≡ true) first.1 (unplaced others) both.0 (any_names end others both.1)

-- names, one at least
pub names-fit : (operands : List (ℕ × List ℕ)) → AreFit SomeNames operands → AreNames (unplaced operands)
names-fit [] fit = All-nil (λ (word : List ℕ). is_name word ≡ true)
names-fit (first ∷ others) fit =
    let both : (is_name first.1 ≡ true) × (operands_fault AnyNames fit.0 others ≡ None) = begins SomeNames forms.Name fit.0 first others refl fit.1 in
    All-cons (λ (word : List ℕ). is_name word ≡ true) first.1 (unplaced others) both.0 (any_names fit.0 others both.1)

-- names, with the flag `all` or without it
pub names_expected-fit : (with_all : Bool) (operands : List (ℕ × List ℕ)) → AreFit (names_expected with_all) operands → AreNames (unplaced operands)
names_expected-fit true operands fit = any_names fit.0 operands fit.1
names_expected-fit false operands fit = names-fit operands fit

tag-follows : (with_all : Bool) (pin : Option PinWord) (end : ℕ) (operands : List (ℕ × List ℕ)) → operands_fault (after_pin with_all pin) end operands ≡ None
    → TagFollows pin (unplaced operands)
tag-follows with_all None end operands none = tt
tag-follows with_all (Some Show) end operands none = tt
tag-follows with_all (Some Add) end operands none = one-fits TagAndGlobs forms.Tag operands refl refl (end, none)
tag-follows true (Some Remove) end operands none = one-fits TagAndAnyGlobs forms.Tag operands refl refl (end, none)
tag-follows false (Some Remove) end operands none = one-fits TagAndGlobs forms.Tag operands refl refl (end, none)

-- what `pinning` asks for
pub pins-fit : (with_all : Bool) (operands : List (ℕ × List ℕ)) → AreFit (operands_of Pinning with_all) operands
    → TagFollows (pin_word (first_word (unplaced operands))) (later_words (unplaced operands))
pins-fit with_all [] fit = tt
pins-fit true (first ∷ others) fit =
    tag-follows true (pin_word first.1) fit.0 others (begins PinsWithAll forms.Pin fit.0 first others refl fit.1).1
pins-fit false (first ∷ others) fit =
    tag-follows false (pin_word first.1) fit.0 others (begins Pins forms.Pin fit.0 first others refl fit.1).1

kept_names : (seen : Bool) (kept : List (List ℕ)) (word : List ℕ) → AreNames kept → is_name word ≡ true → AreNames (cond seen kept (kept ++ word ∷ []))
kept_names true kept word names is = names
kept_names false kept word names is = All-push (λ (other : List ℕ). is_name other ≡ true) kept word names is

distinct_names : (kept words : List (List ℕ)) → AreNames kept → AreNames words → AreNames (distinct_after kept words)
distinct_names kept [] names more = names
distinct_names kept (word ∷ words) names more =
    distinct_names (with_word kept word) words
    (kept_names (list_any (bytes_eq word) kept) kept word names (All-head (λ (other : List ℕ). is_name other ≡ true) word words more))
    (All-tail (λ (other : List ℕ). is_name other ≡ true) word words more)

-- each name once
pub distinct-names : (words : List (List ℕ)) → AreNames words → AreNames (distinct words)
distinct-names words names = distinct_names [] words (All-nil (λ (word : List ℕ). is_name word ≡ true)) names

-- borrowed words are names
pub borrowed-names : (words : List (Bor (List ℕ))) → AreNames (map (λ word. word.now) words) → All (λ word. is_name word.now ≡ true) words
borrowed-names [] names = All-nil (λ (word : Bor (List ℕ)). is_name word.now ≡ true)
borrowed-names (word ∷ words) names =
    All-cons (λ (other : Bor (List ℕ)). is_name other.now ≡ true) word words
    (All-head (λ (other : List ℕ). is_name other ≡ true) word.now (map (λ other. other.now) words) names)
    (borrowed-names words (All-tail (λ (other : List ℕ). is_name other ≡ true) word.now (map (λ other. other.now) words) names))

-- where an action's words have no fault, its operands have none
pub asked-fit : (in_session : Bool) (action : ActionName) (end : ℕ) (all : List Part) (operands : List (ℕ × List ℕ))
    → asked_fault in_session action end all operands ≡ None → AreFit (operands_of action (has_option options.All all)) operands
asked-fit in_session action end all operands none =
    let found : Option Fault = operands_fault (operands_of action (has_option options.All all)) end operands in
    let served : Option Fault = repository_fault in_session action end (length (repositories_of all)) in
    (end, (neither found served (neither (flags_fault action end all) (or_else found served) none).1).0)
