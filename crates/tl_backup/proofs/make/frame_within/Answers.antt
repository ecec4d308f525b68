use Rattle.std.proofs.Common.{◌∙◌, ap, sym, ℕ, Err, inl, inr}
use Rattle.tl_kind.specs.declared.quantity.What.TheVariants.{Frame}
use Rattle.tl_backup.specs.declared.error.BackupError.TheVariants.{TooLarge}
use Rattle.tl_backup.proofs.Making.{long_frame}
use Rattle.tl_backup.proofs.make.frame_within.Goals as goal
use Rattle.tl_backup.proofs.make.frame_within.Goals.{then-text-ge-TOO_MANY-via-then-text-ge-TOO_MANY, then-text-ge-TOO_MANY-via-else-text-ge-TOO_MANY+then-files-ge-TOO_MANY}

pub returns-then-text-ge-TOO_MANY-clause-answer : goal.returns-then-text-ge-TOO_MANY-clause-answer
returns-then-text-ge-TOO_MANY-clause-answer c =
    long_frame c.args.text.now c.args.files.now (elim c.then-text-ge-TOO_MANY.branch [
      | then-text-ge-TOO_MANY-via-then-text-ge-TOO_MANY w ↦ inl w.if-text-ge-TOO_MANY.true
      | then-text-ge-TOO_MANY-via-else-text-ge-TOO_MANY+then-files-ge-TOO_MANY w ↦ inr w.if-files-ge-TOO_MANY.true
    ]) ∙ ap (λ (n : ℕ). Err (TooLarge Frame n)) (sym c.limit-limit.ensures)
