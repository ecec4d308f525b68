-- The components of a text, and what they say of two paths.
use Rattle.std.specs.Prelude.{ℕ, ◌==◌, ◌&&◌, ◌||◌, Bool, true, false, List, [], ◌∷◌, bytes_eq}
use Rattle.std.specs.List.{slice_split}

-- the components of a text: what the byte '/' parts; a text without it has one
abbrev pub components : List ℕ → List (List ℕ)
components text = slice_split (λ b. b == 47) text

-- what no component may be: empty, "." or ".."
abbrev pub is_no_component : List ℕ → Bool
is_no_component [] = true
is_no_component (a ∷ []) = a == 46
is_no_component (a ∷ b ∷ []) = a == 46 && b == 46
is_no_component (a ∷ b ∷ c ∷ rest) = false

-- whether the first list of components is a front of the second and shorter than it
abbrev pub is_proper_front : List (List ℕ) → List (List ℕ) → Bool
is_proper_front [] [] = false
is_proper_front [] (d ∷ ds) = true
is_proper_front (c ∷ cs) [] = false
is_proper_front (c ∷ cs) (d ∷ ds) = bytes_eq c d && is_proper_front cs ds

-- whether a path is below a directory
abbrev pub is_below : List ℕ → List ℕ → Bool
is_below path dir = is_proper_front (components dir) (components path)

-- whether two paths are equal or one is below the other
abbrev pub is_touching : List ℕ → List ℕ → Bool
is_touching a b = bytes_eq a b || (is_below a b || is_below b a)
