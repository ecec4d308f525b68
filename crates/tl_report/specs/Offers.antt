-- What `candidates` says, and why a report isn't made.
use Rattle.std.specs.Prelude.{◌≡◌, ℕ, ◌+◌, ◌==◌, Bool, false, if◌then◌else◌, List, [], ◌∷◌, ◌++◌, codes, Option, Some, None, option_map}
use Rattle.std.specs.List.{cons_option}
use Rattle.tl_model.specs.Lines.{text_of}
use Rattle.tl_entry.specs.declared.object.Object.{Object}
use Rattle.tl_db.specs.declared.repo.Repo.{Repo}
use Rattle.tl_db.specs.Entries.{entry_of}
use Rattle.tl_pin.specs.declared.line.PinLine.{PinLine}
use Rattle.tl_pin.specs.Candidates.{candidate_of}
use Rattle.tl_report.specs.Info.{revision_text}
use Rattle.tl_report.specs.declared.error.ReportError.{ReportError}
use Rattle.tl_report.specs.declared.error.ReportError.TheVariants.{UnknownPackage, HostFault, NoMemory}

-- what stands behind the line of a repository: a mark, or nothing
abbrev pub chosen_mark : Bool → List ℕ
chosen_mark marked = if marked then codes " *" else []

-- the line of a repository that has a package: its tag, its revision, and a mark where it is the candidate's
abbrev pub offer_line : List ℕ → ℕ → Bool → List ℕ
offer_line tag revision marked = tag ++ 32 ∷ revision_text revision ++ chosen_mark marked

-- whether a choice, if there is one, is at a place
abbrev pub is_chosen : {A : Type 0} → Option (ℕ × A) → ℕ → Bool
is_chosen None place = false
is_chosen (Some choice) place = choice.0 == place

-- a line for each repository that has a package, where so many stand before these
abbrev pub offers_from : Option (ℕ × Object) → ℕ → List Repo → List ℕ → List (List ℕ)
offers_from chosen place [] name = []
offers_from chosen place (repo ∷ repos) name =
    cons_option (option_map (λ (entry : Object). offer_line repo.tag entry.revision (is_chosen chosen place)) (entry_of name repo.db))
    (offers_from chosen (place + 1) repos name)

-- the text of some lines; nothing where there is none
abbrev pub text_if_any : List (List ℕ) → Option (List ℕ)
text_if_any [] = None
text_if_any (line ∷ lines) = Some (text_of (line ∷ lines))

-- what `candidates` says of a package; nothing where no repository has it
abbrev pub candidates_text : List PinLine → List Repo → List ℕ → Option (List ℕ)
candidates_text pins repos name = text_if_any (offers_from (candidate_of pins repos name) 0 repos name)

-- an error of a report that asks no host: no package has the name only where nothing is said of it
abbrev pub IsUnreported : Option (List ℕ) → ReportError → Type 0
IsUnreported text UnknownPackage = text ≡ None
IsUnreported text HostFault = ⊥
IsUnreported text NoMemory = Unit {0}
