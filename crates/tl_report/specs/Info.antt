-- What `info` says of a package, and of all.
use Rattle.std.specs.Prelude.{ℕ, Bool, if◌then◌else◌, List, [], ◌∷◌, ◌++◌, codes, map}
use Rattle.std.specs.Prelude.{Option, Some, None, is_some, option_map, slice_get, unwrap_or}
use Rattle.tl_model.specs.Decimal.{decimal_text}
use Rattle.tl_model.specs.Lines.{text_of}
use Rattle.tl_path.specs.Kinds.{category_text}
use Rattle.tl_entry.specs.declared.object.Object.{Object}
use Rattle.tl_db.specs.declared.repo.Repo.{Repo}
use Rattle.tl_db.specs.Entries.{entry_of}
use Rattle.tl_pin.specs.declared.line.PinLine.{PinLine}
use Rattle.tl_pin.specs.Candidates.{candidate_of, view_entry}
use Rattle.tl_report.specs.declared.facts.Fact.{Fact}
use Rattle.tl_report.specs.declared.facts.Fact.TheVariants.{Package, Category, Shortdesc, Installed, Candidate}
use Rattle.tl_report.specs.View.{view_entries}

-- the word with which the line of a fact begins
abbrev pub fact_word : Fact → List ℕ
fact_word Package = codes "package"
fact_word Category = codes "category"
fact_word Shortdesc = codes "shortdesc"
fact_word Installed = codes "installed"
fact_word Candidate = codes "candidate"

-- the line that says what is known of a package
abbrev pub known_line : Fact → List ℕ → List ℕ
known_line fact about = fact_word fact ++ 32 ∷ about

-- a revision as it is said
abbrev pub revision_text : ℕ → List ℕ
revision_text revision = 114 ∷ decimal_text revision

-- what is said of an installed entry, if there is one: its revision
abbrev pub installed_text : Option Object → List ℕ
installed_text None = codes "no"
installed_text (Some entry) = revision_text entry.revision

-- the tag of the repository at a place
abbrev pub repo_tag : List Repo → ℕ → List ℕ
repo_tag repos place = unwrap_or (option_map (λ (repo : Repo). repo.tag) (slice_get repos place)) []

-- what is said of a candidate, if there is one: the tag of its repository, and its revision
abbrev pub candidate_text : List Repo → Option (ℕ × Object) → List ℕ
candidate_text repos None = codes "none"
candidate_text repos (Some candidate) = repo_tag repos candidate.0 ++ 32 ∷ revision_text candidate.1.revision

-- the line of a short description, where there is one
abbrev pub shortdesc_lines : Option (List ℕ) → List (List ℕ)
shortdesc_lines None = []
shortdesc_lines (Some shortdesc) = known_line Shortdesc shortdesc ∷ []

-- what is said of a package whose entry in the view is this one: what it is there, what is installed, and the candidate
abbrev pub package_lines : List PinLine → List Repo → List Object → List ℕ → Object → List (List ℕ)
package_lines pins repos installed name entry =
    known_line Package name ∷ known_line Category (category_text entry.category) ∷ shortdesc_lines entry.shortdesc
    ++ known_line Installed (installed_text (entry_of name installed))
    ∷ known_line Candidate (candidate_text repos (candidate_of pins repos name)) ∷ []

-- what `info` says of a package; nothing where it is neither installed nor has a candidate
abbrev pub package_text : List PinLine → List Repo → List Object → List ℕ → Option (List ℕ)
package_text pins repos installed name =
    option_map (λ entry. text_of (package_lines pins repos installed name entry)) (view_entry pins repos installed name)

-- the short description of an entry, empty where it has none
abbrev pub shortdesc_or_empty : Object → List ℕ
shortdesc_or_empty entry = unwrap_or entry.shortdesc []

-- whether a package is installed, as it is said among all
abbrev pub standing_text : Bool → List ℕ
standing_text installed = if installed then codes "i" else codes "-"

-- the line of a package among all: whether it is installed, its name, a colon and its short description
abbrev pub listing_line : List Object → Object → List ℕ
listing_line installed entry =
    standing_text (is_some (entry_of entry.name installed)) ++ 32 ∷ entry.name ++ 58 ∷ 32 ∷ shortdesc_or_empty entry

-- what `info` says of all packages: a line for each entry of the view
abbrev pub listing_text : List PinLine → List Repo → List Object → List ℕ
listing_text pins repos installed = text_of (map (listing_line installed) (view_entries pins repos installed))

-- what `info` says of a package, or of all
abbrev pub info_text : List PinLine → List Repo → List Object → Option (List ℕ) → Option (List ℕ)
info_text pins repos installed None = Some (listing_text pins repos installed)
info_text pins repos installed (Some name) = package_text pins repos installed name
