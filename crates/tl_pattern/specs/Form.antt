-- What a pattern is seen as, and the form of each kind.
use Rattle.std.specs.Prelude.{◌≡◌, ℕ, ◌-◌, ◌==◌, ◌&&◌, ◌||◌, nat_le, Bool, true, not, if◌then◌else◌, List, [], ◌∷◌, length, take, drop, bytes_eq}
use Rattle.std.specs.Option.{is_none}
use Rattle.std.specs.List.{list_all, list_any}
use Rattle.std.specs.Str.{IsUtf8}
use Rattle.tl_model.specs.Words.{fields}
use Rattle.tl_path.specs.Components.{components}
use Rattle.tl_path.specs.Path.{path_fault}
use Rattle.tl_pattern.specs.declared.kind.PatternKind.{PatternKind}
use Rattle.tl_pattern.specs.declared.kind.PatternKind.TheVariants.{F, D, T, R}

-- a pattern: its kind and its text
pub record PatternSeen : Type 0 where
  pub kind : PatternKind
  pub text : List ℕ

-- a text without one '/' at its end
abbrev pub folder_of : List ℕ → List ℕ
folder_of text = if bytes_eq (drop (length text - 1) text) (47 ∷ []) then take (length text - 1) text else text

-- some words without the last
abbrev pub without_last : List (List ℕ) → List (List ℕ)
without_last [] = []
without_last (w ∷ []) = []
without_last (w ∷ v ∷ ws) = w ∷ without_last (v ∷ ws)

-- the last of some words
abbrev pub last_of : List (List ℕ) → List ℕ
last_of [] = []
last_of (w ∷ []) = w
last_of (w ∷ v ∷ ws) = last_of (v ∷ ws)

-- the words of a text but its last
abbrev pub words_of : List ℕ → List (List ℕ)
words_of text = without_last (fields text)

-- the last word of a text
abbrev pub name_of : List ℕ → List ℕ
name_of text = last_of (fields text)

-- whether a text is a path
abbrev pub is_path : List ℕ → Bool
is_path text = is_none (path_fault text)

-- whether a byte stands for others in a glob
abbrev pub is_wild : ℕ → Bool
is_wild b = b == 42 || b == 63

-- whether no component but the last has such a byte
abbrev pub has_plain_folder : List (List ℕ) → Bool
has_plain_folder [] = true
has_plain_folder (c ∷ []) = true
has_plain_folder (c ∷ d ∷ cs) = not (list_any is_wild c) && has_plain_folder (d ∷ cs)

-- whether a text is a component of a path
abbrev pub is_component : List ℕ → Bool
is_component text = is_path text && not (list_any (λ b. b == 47) text)

-- a text has the form of a kind: a path with `*` and `?` in its last component alone; a path, one '/' at its end dropped; at least two
-- words, each a component of a path; a text
abbrev pub HasForm : PatternKind → List ℕ → Type 0
HasForm F text = (is_path text && has_plain_folder (components text)) ≡ true
HasForm D text = is_path (folder_of text) ≡ true
HasForm T text = (nat_le 2 (length (fields text)) && list_all is_component (fields text)) ≡ true
HasForm R text = IsUtf8 text
