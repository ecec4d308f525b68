use Rattle.std.proofs.Common.{◌≡◌, ◌++◌, List, ℕ, true, ap, subst, sym, ◌∙◌}
use Rattle.tl_entry.specs.declared.object.Object.{Object}
use Rattle.tl_text.specs.Texts.{is_text}
use Rattle.tl_db.specs.Options.{option_prefix}
use Rattle.tl_db.proofs.OptionLemmas.{line_is_text}
use Rattle.tl_db.proofs.SettingLemmas.{kept_name}
use Rattle.tl_db.proofs.db.Db.option_entry.Goals as goal

pub line_of-requires : goal.line_of-requires
line_of-requires c =
    subst (λ (v : List ℕ). is_text (option_prefix c.in-Some.option ++ v) ≡ true) (sym c.as_slice.ensures.value)
    (line_is_text c.in-Some.option c.args.value.now c.in-Some-2.spelling.items (rw c.in-Some-2.is at c.in_ok-spelling.ensures))

pub returns-clause-name : goal.returns-clause-name
returns-clause-name c =
    ap (λ (o : Object). o.name) c.in_ok-keeping.ensures ∙ ap (λ (o : Object). o.name) c.in_ok-entry.ensures ∙ kept_name c.args.self.now
