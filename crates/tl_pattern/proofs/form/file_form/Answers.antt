use Rattle.std.proofs.Common.{◌≡◌, ℕ, List, [], sym, ◌∙◌, ap}
use Rattle.std.proofs.lemmas.Bool.{and_parts}
use Rattle.tl_path.specs.Components.{components}
use Rattle.tl_pattern.specs.Form.{last_of}
use Rattle.tl_pattern.proofs.FormLemmas.{last_has_byte}
use Rattle.tl_pattern.proofs.form.file_form.Goals as goal

pub returns-in-Err-Empty : goal.returns-in-Err-Empty
returns-in-Err-Empty c is =
    let none : c.in-Some.glob.now ≡ [] = rw c.in-Err-Empty.field-0-is at c.in-Err-Empty.ensures in
    last_has_byte c.args.text.now (and_parts _ _ is).0 (ap (λ (text : List ℕ). last_of (components text)) (sym c.in_ok-path.ensures.0) ∙ sym c.in-Some.ensures.1 ∙ none)
