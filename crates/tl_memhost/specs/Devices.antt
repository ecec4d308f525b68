-- What a shelf and a source in memory are seen as.
use Rattle.std.specs.Prelude.{◌≡◌, ℕ, Bool, not, nat_eq, if◌then◌else◌, List, refl}
use Rattle.std.specs.List.{list_any}
use Rattle.std.specs.Coded.{Coded, code_by, coded×, coded_ℕ, coded_list}
use Rattle.tl_model.specs.Causes.{one_more}
use Rattle.tl_model.specs.Devices.{ShelfSeen, SourceSeen, shelf_code, source_code}

-- a source in memory: what is left, the number of its calls, and the numbers of the calls that are to fail
pub record SourceMemory : Type 0 where
  pub source : SourceSeen
  pub calls : ℕ
  pub failing : List ℕ

-- a shelf in memory: what it holds, the number of its calls, and the numbers of the calls that are to fail
pub record ShelfMemory : Type 0 where
  pub shelf : ShelfSeen
  pub calls : ℕ
  pub failing : List ℕ

-- the number of the next call is named
abbrev pub names_next : List ℕ → ℕ → Bool
names_next failing calls = list_any (λ n. nat_eq n calls) failing

-- a call is counted, and it fails exactly where it is named
pub record CountsSource (ok : Bool) (old new : SourceMemory) : Type 0 where
  pub calls : new.calls ≡ one_more old.calls
  pub failing : new.failing ≡ old.failing
  pub fails : ok ≡ not (names_next old.failing old.calls)
  pub faults : new.source.faults ≡ (if ok then old.source.faults else one_more old.source.faults)

-- a call is counted, and it fails exactly where it is named; no other count but that of absences changes
pub record CountsShelf (ok : Bool) (old new : ShelfMemory) : Type 0 where
  pub calls : new.calls ≡ one_more old.calls
  pub failing : new.failing ≡ old.failing
  pub fails : ok ≡ not (names_next old.failing old.calls)
  pub faults : new.shelf.faults ≡ (if ok then old.shelf.faults else one_more old.shelf.faults)

-- by which a source in memory can be the value of a type
abbrev pub source_memory_code : Coded SourceMemory
source_memory_code = code_by (SourceSeen × (ℕ × List ℕ)) (coded× source_code (coded× coded_ℕ (coded_list coded_ℕ))) (λ s. (s.source, (s.calls, s.failing))) (λ p. record { source = p.0; calls = p.1.0; failing = p.1.1 }) (λ _. refl)

-- by which a shelf in memory can be the value of a type
abbrev pub shelf_memory_code : Coded ShelfMemory
shelf_memory_code = code_by (ShelfSeen × (ℕ × List ℕ)) (coded× shelf_code (coded× coded_ℕ (coded_list coded_ℕ))) (λ s. (s.shelf, (s.calls, s.failing))) (λ p. record { shelf = p.0; calls = p.1.0; failing = p.1.1 }) (λ _. refl)
