-- Words as lists of bytes.
use Rattle.std.specs.Prelude.{ℕ, List, map, Vec}
use Rattle.std.specs.declared.alloc.Global.{Global}

-- the bytes of some words
abbrev pub texts : List (Vec ℕ Global) → List (List ℕ)
texts words = map (λ word. word.items) words
