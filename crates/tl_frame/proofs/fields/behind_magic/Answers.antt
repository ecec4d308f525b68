use Rattle.std.proofs.Common.{List, ℕ, sym, ◌∙◌, ap}
use Rattle.std.specs.Prelude.{bytes_eq}
use Rattle.tl_frame.proofs.MoveLaws.{moves_magic, moves_other_magic}
use Rattle.tl_frame.proofs.fields.behind_magic.Goals as goal

pub returns-then-eq : goal.returns-then-eq
returns-then-eq c events =
    moves_magic c.args.waiting c.behind.result c.args.field.now events c.requires.stage c.requires.field
    (sym (ap (λ (l : List ℕ). bytes_eq c.args.field.now l) c.as_slice.ensures) ∙ sym c.eq.ensures ∙ c.if-eq.true) c.behind.ensures

pub returns-else-eq : goal.returns-else-eq
returns-else-eq c events =
    moves_other_magic c.args.waiting c.at.result c.args.field.now events c.requires.stage c.requires.field
    (sym (ap (λ (l : List ℕ). bytes_eq c.args.field.now l) c.as_slice.ensures) ∙ sym c.eq.ensures ∙ c.if-eq.false) c.at.ensures
