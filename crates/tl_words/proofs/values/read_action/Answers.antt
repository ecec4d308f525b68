use Rattle.std.proofs.Common.{◌≡◌, ℕ, Bool, true, List, refl, sym, subst}
use Rattle.tl_path.specs.Names.{is_name}
use Rattle.tl_action.specs.declared.action_name.ActionName.{ActionName}
use Rattle.tl_action.specs.declared.action_name.ActionName.TheVariants.{Info, Candidates, Check, Install, Update, Remove, Backup, Restore, Setting, Pinning, Expand, GenerateMaster}
use Rattle.tl_action.specs.declared.table.OptionName.TheVariants.{All}
use Rattle.tl_action.specs.declared.expected.Expected.TheVariants.{MayName, OneName, OneCheck, OneCount, MayNameAndRevision, MayNameAndWords}
use Rattle.tl_action.specs.declared.form.Form.TheVariants as forms
use Rattle.tl_action.specs.Forms.{is_number_within, fits}
use Rattle.tl_action.specs.Table.{operands_of}
use Rattle.tl_words.specs.Settings.{has_option}
use Rattle.tl_words.specs.Inside.{parts_left, plains_left}
use Rattle.tl_words.specs.Fit.{AreFit}
use Rattle.tl_words.proofs.Fit.{one-fits, may_name-fits, revision-fits, names-fit, names_expected-fit, pins-fit}
use Rattle.tl_words.proofs.values.read_action.Goals as goal

-- the operands of this action have no fault
fit_for : (action name : ActionName) (with_all : Bool) (operands : List (ℕ × List ℕ)) → action ≡ name → AreFit (operands_of action with_all) operands
    → AreFit (operands_of name with_all) operands
fit_for action name with_all operands is fit = subst (λ (other : ActionName). AreFit (operands_of other with_all) operands) is fit

pub first_name-requires : goal.first_name-requires
first_name-requires c =
    may_name-fits MayName (plains_left c.args.operands) refl
    (fit_for c.args.action Info (has_option All (parts_left c.args.parts)) (plains_left c.args.operands) c.in-Info.is c.requires)

pub read_name-requires : goal.read_name-requires
read_name-requires c =
    subst (λ (word : List ℕ). is_name word ≡ true) (sym c.first_word-first.ensures)
    (one-fits OneName forms.Name (plains_left c.args.operands) refl refl
    (fit_for c.args.action Candidates (has_option All (parts_left c.args.parts)) (plains_left c.args.operands) c.in-Candidates.is c.requires))

pub read_check-requires : goal.read_check-requires
read_check-requires c =
    subst (λ (word : List ℕ). fits forms.Check word ≡ true) (sym c.first_word-first.ensures)
    (one-fits OneCheck forms.Check (plains_left c.args.operands) refl refl
    (fit_for c.args.action Check (has_option All (parts_left c.args.parts)) (plains_left c.args.operands) c.in-Check.is c.requires))

pub read_install-requires : goal.read_install-requires
read_install-requires c =
    names-fit (plains_left c.args.operands)
    (fit_for c.args.action Install (has_option All (parts_left c.args.parts)) (plains_left c.args.operands) c.in-Install.is c.requires)

pub read_update-requires : goal.read_update-requires
read_update-requires c =
    names_expected-fit (has_option All (parts_left c.args.parts)) (plains_left c.args.operands)
    (fit_for c.args.action Update (has_option All (parts_left c.args.parts)) (plains_left c.args.operands) c.in-Update.is c.requires)

pub read_remove-requires : goal.read_remove-requires
read_remove-requires c =
    names-fit (plains_left c.args.operands)
    (fit_for c.args.action Remove (has_option All (parts_left c.args.parts)) (plains_left c.args.operands) c.in-Remove.is c.requires)

pub read_backup-requires : goal.read_backup-requires
read_backup-requires c =
    names_expected-fit (has_option All (parts_left c.args.parts)) (plains_left c.args.operands)
    (fit_for c.args.action Backup (has_option All (parts_left c.args.parts)) (plains_left c.args.operands) c.in-Backup.is c.requires)

pub read_restore-requires : goal.read_restore-requires
read_restore-requires c =
    let fit : AreFit MayNameAndRevision (plains_left c.args.operands)
    = fit_for c.args.action Restore (has_option All (parts_left c.args.parts)) (plains_left c.args.operands) c.in-Restore.is c.requires in record {
      name = may_name-fits MayNameAndRevision (plains_left c.args.operands) refl fit;
      revision = revision-fits (plains_left c.args.operands) fit;
    }

pub read_setting-requires : goal.read_setting-requires
read_setting-requires c =
    may_name-fits MayNameAndWords (plains_left c.args.operands) refl
    (fit_for c.args.action Setting (has_option All (parts_left c.args.parts)) (plains_left c.args.operands) c.in-Setting.is c.requires)

pub read_pinning-requires : goal.read_pinning-requires
read_pinning-requires c =
    pins-fit (has_option All (parts_left c.args.parts)) (plains_left c.args.operands)
    (fit_for c.args.action Pinning (has_option All (parts_left c.args.parts)) (plains_left c.args.operands) c.in-Pinning.is c.requires)

pub read_name-requires-in-Expand : goal.read_name-requires-in-Expand
read_name-requires-in-Expand c =
    subst (λ (word : List ℕ). is_name word ≡ true) (sym c.first_word-first.ensures)
    (one-fits OneName forms.Name (plains_left c.args.operands) refl refl
    (fit_for c.args.action Expand (has_option All (parts_left c.args.parts)) (plains_left c.args.operands) c.in-Expand.is c.requires))

pub read_number-requires : goal.read_number-requires
read_number-requires c =
    subst (λ (word : List ℕ). is_number_within 1 1000 word ≡ true) (sym c.first_word-first.ensures)
    (one-fits OneCount forms.Count (plains_left c.args.operands) refl refl
    (fit_for c.args.action GenerateMaster (has_option All (parts_left c.args.parts)) (plains_left c.args.operands) c.in-GenerateMaster.is c.requires))
