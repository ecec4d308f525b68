use Rattle.std.proofs.Common.{[], ap, ◌∙◌, subst, sym, ℕ, ◌≤◌, length}
use Rattle.tl_words.specs.declared.faults.Fault.{Fault}
use Rattle.tl_words.specs.declared.faults.ReadError.{ReadError}
use Rattle.tl_words.specs.Errors.{IsReadError}
use Rattle.tl_words.specs.Order.{earlier}
use Rattle.tl_words.specs.Settings.{options_fault}
use Rattle.tl_words.specs.Faults.{size_fault, action_fault, plains}
use Rattle.tl_action.specs.Texts.{texts}
use Rattle.tl_words.specs.Inside.{parts_left}
use Rattle.tl_words.proofs.Drops.{length_texts}
use Rattle.tl_words.proofs.Places.{options_place, action_place}
use Rattle.tl_words.proofs.read.command.Goals as goal

pub refused-requires : goal.refused-requires
refused-requires c =
    subst (λ (f : Fault). f.at ≤ 4096) (sym c.in-Err-Bad.fault-is)
    (options_place (texts c.args.words.now) (parts_left c.args.parts) c.in-Err-Bad.fault c.requires
    (subst (λ (e : ReadError). IsReadError (earlier (options_fault [] (parts_left c.args.parts)) (size_fault 0 (texts c.args.words.now))) e)
    c.in-Err-Bad.field-0-is c.in-Err-Bad.ensures.fault))

pub refused-requires-in-Err-Bad-read_asked : goal.refused-requires-in-Err-Bad-read_asked
refused-requires-in-Err-Bad-read_asked c =
    action_place c.args.on.now c.args.in_session (texts c.args.words.now) (parts_left c.args.parts) c.in-Err-Bad-read_asked.fault c.requires c.in-Ok.ensures.none
    (ap (λ (n : ℕ). action_fault c.args.on.now c.args.in_session n (parts_left c.args.parts) (plains (parts_left c.args.parts))) (length_texts c.args.words.now)
    ∙ subst (λ (e : ReadError). IsReadError (action_fault c.args.on.now c.args.in_session (length c.args.words.now) (parts_left c.args.parts) (plains (parts_left c.args.parts))) e)
    c.in-Err-Bad-read_asked.field-0-is c.in-Err-Bad-read_asked.ensures.fault)
