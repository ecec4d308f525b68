use Rattle.std.proofs.Common.{◌||◌, Bool, true, false, cond, List, ℕ, ap, ◌≡◌, ◌∙◌, refl}
use Rattle.std.specs.Str.{bytes_eq}
use Rattle.std.specs.String.{string_bytes}
use Rattle.std.specs.HashSet.{contains_text}
use Rattle.std.proofs.lemmas.Map.Text.{hash_set_updates_text}
use Rattle.tl_trigger.proofs.known.add_name.Goals as goal

or_last : (t b : Bool) → cond t true b ≡ (b || t)
or_last true true = refl
or_last true false = refl
or_last false true = refl
or_last false false = refl

pub returns : goal.returns
returns c = λ text.
    let key = string_bytes c.in_ok-from_str.field-0 in
    hash_set_updates_text key c.args.names.now c.insert.new.self true c.in_ok-insert.ensures.updates text
    ∙ ap (λ (name : List ℕ). cond (bytes_eq name text) true (contains_text c.args.names.now text)) c.in_ok-from_str.ensures.ok
    ∙ or_last (bytes_eq c.args.name.now text) (contains_text c.args.names.now text)
