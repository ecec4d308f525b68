-- The texts that words stand for.
use Rattle.std.proofs.Common.{ℕ, List, Bor, map}

abbrev pub texts : List (Bor (List ℕ)) → List (List ℕ)
texts words = map (λ (w : Bor (List ℕ)). w.now) words
