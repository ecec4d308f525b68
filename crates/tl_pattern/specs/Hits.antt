-- Which paths a pattern hits, by their components.
use Rattle.std.specs.Prelude.{ℕ, ◌&&◌, Bool, true, false, if◌then◌else◌, List, [], ◌∷◌, bytes_eq}
use Rattle.std.specs.List.{list_any}
use Rattle.tl_path.specs.Components.{components, is_below, is_proper_front}
use Rattle.tl_glob.specs.Matches.{is_match}
use Rattle.tl_regexp.specs.Finds.{finds}
use Rattle.tl_pattern.specs.declared.kind.PatternKind.{PatternKind}
use Rattle.tl_pattern.specs.declared.kind.PatternKind.TheVariants.{F, D, T, R}
use Rattle.tl_pattern.specs.declared.pattern.PlacedPattern.{PlacedPattern}
use Rattle.tl_pattern.specs.Form.{PatternSeen, folder_of, words_of, name_of, without_last, last_of}

-- whether two lists are equal but for the last component
abbrev pub is_beside : List (List ℕ) → List (List ℕ) → Bool
is_beside [] cs = false
is_beside (p ∷ []) [] = false
is_beside (p ∷ []) (c ∷ []) = true
is_beside (p ∷ []) (c ∷ d ∷ cs) = false
is_beside (p ∷ q ∷ ps) [] = false
is_beside (p ∷ q ∷ ps) (c ∷ cs) = bytes_eq c p && is_beside (q ∷ ps) cs

-- the same, and the pattern's last component globs the other
abbrev pub hits_file : List (List ℕ) → List (List ℕ) → Bool
hits_file ps cs = is_beside ps cs && is_match (last_of ps) (last_of cs)

-- whether a component other than the last is this
abbrev pub stands_before_last : List ℕ → List (List ℕ) → Bool
stands_before_last name cs = list_any (λ c. bytes_eq c name) (without_last cs)

-- whether the components begin with some words, and a later one other than the last is this
abbrev pub hits_tree : List (List ℕ) → List ℕ → List (List ℕ) → Bool
hits_tree [] name cs = stands_before_last name cs
hits_tree (w ∷ ws) name [] = false
hits_tree (w ∷ ws) name (c ∷ cs) = bytes_eq c w && hits_tree ws name cs

-- whether a pattern of this kind and text hits a path
abbrev pub hits_of : PatternKind → List ℕ → List ℕ → Bool
hits_of F text path = hits_file (components text) (components path)
hits_of D text path = is_below path (folder_of text)
hits_of T text path = hits_tree (words_of text) (name_of text) (components path)
hits_of R text path = finds text path

-- whether a pattern hits a path
abbrev pub hits : PatternSeen → List ℕ → Bool
hits pattern path = hits_of pattern.kind pattern.text path

-- whether a path is in the range of a pattern: directly in its folder, below it, below the folder of its first words, or anywhere
abbrev pub is_in_range_of : PatternKind → List ℕ → List ℕ → Bool
is_in_range_of F text path = is_beside (components text) (components path)
is_in_range_of D text path = is_below path (folder_of text)
is_in_range_of T text path = is_proper_front (words_of text) (components path)
is_in_range_of R text path = true

-- the same for a pattern
abbrev pub is_in_range : PatternSeen → List ℕ → Bool
is_in_range pattern path = is_in_range_of pattern.kind pattern.text path

-- whether the last of some patterns that hits a path is positive; where none does, this
abbrev pub chosen_after : Bool → List PlacedPattern → List ℕ → Bool
chosen_after before [] path = before
chosen_after before (p ∷ ps) path = chosen_after (if hits p.pattern path then p.positive else before) ps path

-- whether some pattern hits a path, and the last one that does is positive
unfoldable pub chosen : List PlacedPattern → List ℕ → Bool
chosen patterns path = chosen_after false patterns path
