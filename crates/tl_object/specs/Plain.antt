-- What begins a line that is no acknowledgement.
use Rattle.std.specs.Prelude.{ℕ, ◌==◌, ◌&&◌, not, Bool, false, List, [], ◌∷◌}
use Rattle.std.specs.List.{list_all}

-- whether bytes have no line end, and their second byte isn't `t`, as it is in every `step K/N .. done`
abbrev pub is_key : List ℕ → Bool
is_key [] = false
is_key (a ∷ []) = false
is_key (a ∷ b ∷ bytes) = not (116 == b) && list_all (λ c. not (c == 10)) (a ∷ b ∷ bytes)
