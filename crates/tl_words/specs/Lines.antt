-- The words of a session's line.
use Rattle.std.specs.Prelude.{ℕ, ◌==◌, not, List, filter}

-- a word without its double quotes
abbrev pub unquoted : List ℕ → List ℕ
unquoted word = filter (λ b. not (b == 34)) word
