-- Where a list of operands fails to have the forms that its action takes.
use Rattle.std.specs.Prelude.{ℕ, if◌then◌else◌, List, [], ◌∷◌, Option, Some, None}
use Rattle.tl_action.specs.declared.form.Form.{Form}
use Rattle.tl_action.specs.declared.form.Form.TheVariants as forms
use Rattle.tl_action.specs.declared.expected.Expected.{Expected}
use Rattle.tl_action.specs.Forms.{fits, form_of, is_needed, after}
use Rattle.tl_words.specs.declared.error.WordKind.{WordKind}
use Rattle.tl_words.specs.declared.error.WordKind.TheVariants as kinds
use Rattle.tl_words.specs.declared.faults.Fault.{Fault}
use Rattle.tl_words.specs.Order.{fault, or_else}

-- the kind of an operand that hasn't its form
abbrev pub form_kind : Form → WordKind
form_kind forms.Name = kinds.Name
form_kind forms.Count = kinds.Number
form_kind forms.Revision = kinds.Number
form_kind _ = kinds.Operand

-- the fault of one operand: it is too many, or it hasn't its form
abbrev pub operand_fault : Option Form → ℕ × List ℕ → Option Fault
operand_fault None operand = Some (fault kinds.Operand operand.0)
operand_fault (Some form) operand = if fits form operand.1 then None else Some (fault (form_kind form) operand.0)

-- the fault of an operand that is missing, which stands at the words' end
abbrev pub missing_fault : Expected → ℕ → Option Fault
missing_fault expected end = if is_needed expected then Some (fault kinds.Operand end) else None

-- the first fault of some operands
abbrev pub operands_fault : Expected → ℕ → List (ℕ × List ℕ) → Option Fault
operands_fault expected end [] = missing_fault expected end
operands_fault expected end (operand ∷ others) =
    or_else (operand_fault (form_of expected) operand) (operands_fault (after expected operand.1) end others)
