-- What a call leaves, whichever way it ended.
use Rattle.std.specs.Prelude.{Result, Ok, Err}

-- what a call leaves is seen as: the next state, or what its error hands back
abbrev pub left : {S T V : Type 0} → (S → V) → (T → V) → Result S T → V
left kept spent (Ok state) = kept state
left kept spent (Err lost) = spent lost
