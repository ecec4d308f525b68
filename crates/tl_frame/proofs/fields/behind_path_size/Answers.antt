use Rattle.std.proofs.Common.{◌≡◌, ◌<◌, ◌⊎◌, ℕ, arith, inl, inr}
use Rattle.tl_frame.proofs.MoveLaws.{moves_path_size, moves_no_path}
use Rattle.tl_frame.proofs.fields.behind_path_size.Goals as goal

wrong : (size : ℕ) → (size ≡ 0) ⊎ ((size ≡ 0 → ⊥) × (1024 < size)) → (size ≡ 0) ⊎ (1024 < size)
wrong size (inl none) = inl none
wrong size (inr many) = inr many.1

pub returns-then-size-gt-LONGEST_PATH : goal.returns-then-size-gt-LONGEST_PATH
returns-then-size-gt-LONGEST_PATH c last events =
    moves_no_path c.args.waiting c.behind.result c.number_16-size.result last c.args.field.now events c.requires.stage c.requires.field c.number_16-size.ensures (wrong _ c.if-size-gt-LONGEST_PATH.either) c.behind.ensures

pub returns-else-size-gt-LONGEST_PATH : goal.returns-else-size-gt-LONGEST_PATH
returns-else-size-gt-LONGEST_PATH c last events =
    let some : 0 < c.number_16-size.result = omega (arith, c.if-size-gt-LONGEST_PATH.false.0) in
    moves_path_size c.args.waiting c.behind-else-size-gt-LONGEST_PATH.result c.number_16-size.result last c.args.field.now events c.requires.stage c.requires.field c.number_16-size.ensures some c.if-size-gt-LONGEST_PATH.false.1 c.behind-else-size-gt-LONGEST_PATH.ensures
