use Rattle.std.proofs.Common.{ap, subst, sym, ◌∙◌, Some}
use Rattle.std.specs.Prelude.{List, ℕ}
use Rattle.tl_path.specs.Errors.{IsPlatformsErrorOf}
use Rattle.tl_db.proofs.PlatformLemmas.{spelled_listed, spelled_refused}
use Rattle.tl_db.proofs.options.spelled_platforms.Goals as goal

pub returns-in_ok-joined-in-Ok : goal.returns-in_ok-joined-in-Ok
returns-in_ok-joined-in-Ok c =
    spelled_listed c.args.value.now c.in-Ok.platforms c.in-Ok.ensures ∙ ap (λ (text : List ℕ). Some text) (sym c.in_ok-joined-in-Ok.ensures)

pub returns-in-Err-BadPlatforms : goal.returns-in-Err-BadPlatforms
returns-in-Err-BadPlatforms c =
    spelled_refused c.args.value.now c.in-Err-BadPlatforms.field-0-0
    (subst (IsPlatformsErrorOf c.args.value.now) c.in-Err-BadPlatforms.field-0-is c.in-Err-BadPlatforms.ensures)
