use Rattle.std.proofs.Common.{◌≡◌, Option, Some, None, Bor, refl, ap, ◌∙◌}
use Rattle.std.specs.Prelude.{is_some, option_copied}
use Rattle.tl_entry.specs.declared.object.Object.{Object}
use Rattle.tl_report.proofs.packages.is_installed.Goals as goal

some_copied : (found : Option (Bor Object)) → is_some found ≡ is_some (option_copied found)
some_copied None = refl
some_copied (Some entry) = refl

pub returns : goal.returns
returns c = c.is_some.ensures ∙ some_copied c.get.result ∙ ap (λ (o : Option Object). is_some o) c.get.ensures
