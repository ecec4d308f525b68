use Rattle.std.proofs.Common.{◌≡◌, ◌++◌, ◌∷◌, [], true, ◌∙◌, rules}
use Rattle.std.specs.String.{string_bytes}
use Rattle.std.specs.HashSet.{contains_text}
use Rattle.std.proofs.lemmas.Map.Text.{hash_set_updates_text}
use Rattle.tl_trigger.proofs.OnceLemmas.{seen_more}
use Rattle.tl_trigger.proofs.formats.Formats.add.Goals as goal

pub invariant_of-self-2 : goal.invariant_of-self-2
invariant_of-self-2 c = λ text.
    let key = string_bytes c.in_ok-from_str.field-0 in
    let pushed : c.push.new.self.items ≡ c.self.inside.names.items ++ c.in_ok-copy.copy ∷ [] = search rules in
    seen_more c.self.inside.names.items c.push.new.self.items key c.args.name.now c.in_ok-copy.copy text (contains_text c.self.inside.seen text) (contains_text c.insert.new.self text)
    (hash_set_updates_text key c.self.inside.seen c.insert.new.self true c.in_ok-insert.ensures.updates text)
    (c.self.invariant text)
    (c.in_ok-from_str.ensures.ok ∙ c.text-2.ensures.text)
    c.in_ok-copy.ensures.same
    pushed
