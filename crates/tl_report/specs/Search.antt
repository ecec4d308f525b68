-- What `search` says.
use Rattle.std.specs.Prelude.{ℕ, Bool, ◌||◌, List, [], ◌∷◌, ◌++◌, map, filter, nat_eq}
use Rattle.std.specs.List.{starts_with}
use Rattle.tl_model.specs.Lines.{text_of}
use Rattle.tl_entry.specs.declared.object.Object.{Object}
use Rattle.tl_db.specs.declared.repo.Repo.{Repo}
use Rattle.tl_pin.specs.declared.line.PinLine.{PinLine}
use Rattle.tl_report.specs.Info.{shortdesc_or_empty}
use Rattle.tl_report.specs.View.{view_entries}

-- whether a text has the bytes of a word, one behind the other
abbrev pub has_bytes : List ℕ → List ℕ → Bool
has_bytes word [] = starts_with nat_eq [] word
has_bytes word (b ∷ text) = starts_with nat_eq (b ∷ text) word || has_bytes word text

-- whether the name or the short description of an entry has them
abbrev pub is_about : List ℕ → Object → Bool
is_about word entry = has_bytes word entry.name || has_bytes word (shortdesc_or_empty entry)

-- the line of an entry that was found: its name, a dash and its short description
abbrev pub found_line : Object → List ℕ
found_line entry = entry.name ++ 32 ∷ 45 ∷ 32 ∷ shortdesc_or_empty entry

-- what `search` says: a line for each entry of the view that has the word
abbrev pub search_text : List PinLine → List Repo → List Object → List ℕ → List ℕ
search_text pins repos installed word = text_of (map found_line (filter (is_about word) (view_entries pins repos installed)))
