use Rattle.std.proofs.Common.{List, ℕ, Option, Bor, subst}
use Rattle.std.specs.Prelude.{option_copied}
use Rattle.tl_marks.specs.Form.{ArePlatformsOf}
use Rattle.tl_marks.proofs.PlatformLemmas.{platforms_bad}
use Rattle.tl_marks.proofs.line.platforms_of.Goals as goal

pub returns-in-Err-BadPlatforms : goal.returns-in-Err-BadPlatforms
returns-in-Err-BadPlatforms c names are =
    platforms_bad c.in-Some.text.now c.in-Err-BadPlatforms.field-0 _ names c.in-Err-BadPlatforms.field-0-is c.in-Err-BadPlatforms.ensures
    (subst (λ (o : Option (Bor (List ℕ))). ArePlatformsOf (option_copied o) names) c.in-Some.is are)
