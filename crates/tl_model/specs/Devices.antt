-- What a shelf of repositories, a source of input and a maker of patterns are seen as, and what a run is given of them.
use Rattle.std.specs.Prelude.{◌≡◌, ℕ, zero, suc, ◌≤◌, List, Option, slice_get, refl}
use Rattle.std.specs.Option.{option_and_then}
use Rattle.std.specs.Ordering.{nat_cmp}
use Rattle.std.specs.Cmp.Lexicographic.{slice_cmp}
use Rattle.std.specs.FinMap as map
use Rattle.std.specs.Coded.{Coded, code_by, coded×, coded_ℕ, coded_list}
use Rattle.tl_model.specs.Volume.{Name, Volume, at, volume_code}

-- a shelf: what each repository holds, by its number, with its counts of faults and of answers that a name is absent
pub record ShelfSeen : Type 0 where
  pub repositories : List Volume
  pub faults : ℕ
  pub absences : ℕ

-- what a name of a repository holds; None where it is absent
abbrev pub in_repository : ShelfSeen → ℕ → Name → Option (List ℕ)
in_repository shelf number name = option_and_then (λ (volume : Volume). at volume name) (slice_get shelf.repositories number)

-- no call changes what a shelf holds, and its count of absences never falls
pub record SameShelf (old new : ShelfSeen) : Type 0 where
  pub repositories : new.repositories ≡ old.repositories
  pub absences : old.absences ≤ new.absences

-- a source: the bytes that are left, with its count of faults
pub record SourceSeen : Type 0 where
  pub left : List ℕ
  pub faults : ℕ

-- by which a shelf can be the value of a type
abbrev pub shelf_code : Coded ShelfSeen
shelf_code = code_by (List Volume × (ℕ × ℕ)) (coded× (coded_list volume_code) (coded× coded_ℕ coded_ℕ)) (λ s. (s.repositories, (s.faults, s.absences))) (λ p. record { repositories = p.0; faults = p.1.0; absences = p.1.1 }) (λ _. refl)

-- by which a source can be the value of a type
abbrev pub source_code : Coded SourceSeen
source_code = code_by (List ℕ × ℕ) (coded× (coded_list coded_ℕ) coded_ℕ) (λ s. (s.left, s.faults)) (λ p. record { left = p.0; faults = p.1 }) (λ _. refl)

-- what came of a pattern by the grammar of regular expressions
pub data Verdict : Type 0 where
  Read : Verdict
  Syntax : Verdict
  Size : Verdict

-- a verdict as a number
abbrev pub verdict_number : Verdict → ℕ
verdict_number Read = 0
verdict_number Syntax = 1
verdict_number Size = 2

-- the verdict of a number
abbrev pub verdict_of : ℕ → Verdict
verdict_of zero = Read
verdict_of (suc zero) = Syntax
verdict_of (suc (suc n)) = Size

-- how a verdict is coded
abbrev pub verdict_code : Coded Verdict
verdict_code = code_by ℕ coded_ℕ verdict_number verdict_of (λ v. elim v as (λ u. verdict_of (verdict_number u) ≡ u) [ Read ↦ refl | Syntax ↦ refl | Size ↦ refl ])

-- verdicts, each by the text of its pattern
abbrev pub Verdicts : Type 0
Verdicts = map.FinMap (slice_cmp nat_cmp) Verdict

-- a maker of patterns: its verdicts so far, with the count of patterns that were refused for their size
pub record RegexpsSeen : Type 0 where
  pub verdicts : Verdicts
  pub refusals : ℕ

-- by which a maker of patterns can be the value of a type
abbrev pub regexps_code : Coded RegexpsSeen
regexps_code = code_by (Verdicts × ℕ) (coded× (map.code (coded_list coded_ℕ) verdict_code) coded_ℕ) (λ r. (r.verdicts, r.refusals)) (λ p. record { verdicts = p.0; refusals = p.1 }) (λ _. refl)

-- what a run is given beside its words and its tree: what each repository holds, the input, and the verdicts on patterns
pub record Outside : Type 0 where
  pub repositories : List Volume
  pub input : List ℕ
  pub verdicts : Verdicts
