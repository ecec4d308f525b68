use Rattle.std.proofs.Common.{◌≤◌, ◌∙◌, ap, sym, subst, ℕ, Option, List}
use Rattle.tl_action.specs.Texts.{texts}
use Rattle.tl_words.specs.declared.faults.Fault.{Fault}
use Rattle.tl_words.specs.Faults.{forbidden_fault}
use Rattle.tl_words.specs.Parts.{Part}
use Rattle.tl_words.proofs.Drops.{length_texts}
use Rattle.tl_words.proofs.Places.{FaultWithin, forbidden-within, program-within}
use Rattle.tl_words.proofs.read.refuse_option.Goals as goal

pub refused-requires : goal.refused-requires
refused-requires c =
    let few = subst (λ (n : ℕ). n ≤ 4096) (sym (length_texts c.args.words.now)) c.requires in
    subst (FaultWithin 4096)
    (ap (λ (all : List Part). forbidden_fault c.args.option all) (sym c.of_program.ensures) ∙ sym c.in-Some.ensures)
    (forbidden-within 4096 c.args.option _ (program-within (texts c.args.words.now) 4096 few))
