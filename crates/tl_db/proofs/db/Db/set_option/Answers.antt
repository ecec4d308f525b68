use Rattle.std.proofs.Common.{ap, sym, ◌∙◌, Result, Ok, List}
use Rattle.tl_entry.specs.declared.object.Object.{Object}
use Rattle.tl_db.specs.declared.options.OptionError.{OptionError}
use Rattle.tl_db.specs.Options.{with_made}
use Rattle.tl_db.proofs.SettingLemmas.{set_kept, set_others}
use Rattle.tl_db.proofs.db.Db.set_option.Goals as goal

pub returns-clause-kept : goal.returns-clause-kept
returns-clause-kept c =
    set_kept c.args.option.now c.args.value.now c.args.self.now c.with.new.self
    (ap (λ (r : Result Object OptionError). with_made r c.args.self.now) c.in_ok-entry.ensures.entry ∙ ap (λ (objects : List Object). Ok objects) (sym c.in_ok-with.ensures.ok))

pub returns-clause-others : goal.returns-clause-others
returns-clause-others c =
    set_others c.args.option.now c.args.value.now c.args.self.now c.with.new.self
    (ap (λ (r : Result Object OptionError). with_made r c.args.self.now) c.in_ok-entry.ensures.entry ∙ ap (λ (objects : List Object). Ok objects) (sym c.in_ok-with.ensures.ok))
