use Rattle.std.proofs.Common.{◌≡◌, List, ◌++◌, ℕ, Bool, sym, ◌∙◌, ap}
use Rattle.tl_frame.specs.Scan.{is_later_path}
use Rattle.tl_frame.proofs.MoveLaws.{moves_path, moves_other_path}
use Rattle.tl_frame.proofs.fields.behind_path.Goals as goal

told : (a b name : List ℕ) (r : Bool) → a ≡ b → r ≡ is_later_path a name → is_later_path b name ≡ r
told a b name r same is = ap (λ (l : List ℕ). is_later_path l name) (sym same) ∙ sym is

pub returns-then-not-is_later_path : goal.returns-then-not-is_later_path
returns-then-not-is_later_path c events =
    moves_other_path c.args.waiting c.at.result c.args.last.now.items c.args.field.now events c.requires.stage c.requires.short
    (told _ _ c.args.field.now _ c.as_slice.ensures.value c.is_later_path.ensures ∙ c.if-not-is_later_path.true) c.at.ensures

pub returns : goal.returns
returns c events =
    moves_path c.args.waiting c.behind.result c.args.last.now.items c.extend_from_slice.new.self.items c.args.field.now events c.requires.stage c.requires.short
    (told _ _ c.args.field.now _ c.as_slice.ensures.value c.is_later_path.ensures ∙ c.if-not-is_later_path.false)
    (c.in_ok-extend_from_slice.ensures.items ∙ ap (λ (l : List ℕ). l ++ c.args.field.now) c.clear.ensures.items) c.behind.ensures
