-- What the steps of a plan by which packages come are called where they are acknowledged.
use Rattle.std.specs.Prelude.{ℕ, codes, List, [], ◌∷◌, ◌++◌, Option, Some, None}
use Rattle.std.specs.List.{flat_map}
use Rattle.tl_model.specs.Decimal.{decimal_text}
use Rattle.tl_entry.specs.declared.object.Object.{Object}
use Rattle.tl_db.specs.declared.repo.Repo.{Repo}
use Rattle.tl_coming.specs.Parts.{part_entry, part_name}
use Rattle.tl_coming.specs.declared.part.PlanPart.{PlanPart}
use Rattle.tl_coming.specs.declared.part.PlanPart.TheVariants.{Install, Update, Remove}

-- what is said of the revision of an entry; nothing where there is none
abbrev pub revision_text : Option Object → List ℕ
revision_text None = []
revision_text (Some entry) = codes " r" ++ decimal_text entry.revision

-- what a part of a plan does to its package
abbrev pub verb_of : PlanPart → List ℕ
verb_of (Install name repo) = codes "install"
verb_of (Update name repo) = codes "update"
verb_of (Remove name) = codes "remove"

-- what a part of a plan is called: what it does, the package, and the revision that comes
abbrev pub coming_text : List Repo → PlanPart → List ℕ
coming_text repos part = verb_of part ++ (codes " " ++ (part_name part ++ revision_text (part_entry repos part)))

-- what a step is called: its parts, with a comma and a space between two
abbrev pub coming_texts : List Repo → List PlanPart → List ℕ
coming_texts repos [] = []
coming_texts repos (part ∷ more) = coming_text repos part ++ flat_map (λ next. codes ", " ++ coming_text repos next) more
