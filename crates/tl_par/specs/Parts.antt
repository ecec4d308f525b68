-- What parts of some work hold.
use Rattle.std.specs.Prelude.{List, [], Result, Ok, Err}

-- what a result holds: nothing where it is an error
abbrev pub held : {T X E : Type 0} → (T → List X) → Result T E → List X
held view (Ok part) = view part
held view (Err _) = []
