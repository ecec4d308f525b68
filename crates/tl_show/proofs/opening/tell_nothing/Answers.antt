use Rattle.std.proofs.Common.{◌≡◌, List, ℕ, Option, None, sym, subst}
use Rattle.tl_command.specs.Endings.{no_devices}
use Rattle.tl_command.specs.Performs.{Performs}
use Rattle.tl_report.specs.Offers.{IsUnreported}
use Rattle.tl_report.specs.declared.error.ReportError.{ReportError}
use Rattle.tl_show.specs.Opening.{told_run}
use Rattle.tl_show.proofs.opening.tell_nothing.Goals as goal

pub returns-in-UnknownPackage : goal.returns-in-UnknownPackage
returns-in-UnknownPackage g c said unknown =
    let none : said ≡ None = subst (λ (e : ReportError). IsUnreported said e) c.in-UnknownPackage.is unknown in
    subst (λ (o : Option (List ℕ)). Performs g.H.Host.tells g.H.Host.seen (λ _. told_run c.args.name o) 0 c.args.session no_devices no_devices c.refuse.result.ending c.refuse.result.state) (sym none) c.refuse.ensures.performs

pub returns-in_default : goal.returns-in_default
returns-in_default g c said unknown = c.give_up.ensures (λ _. told_run c.args.name said)
