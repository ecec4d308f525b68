-- The text of marks.
use Rattle.std.specs.Prelude.{ℕ, Bool, true, false, List, [], ◌∷◌, ◌++◌, codes, Option, Some, None}
use Rattle.std.specs.List.{flat_map}
use Rattle.tl_model.specs.Decimal.{decimal_text}
use Rattle.tl_marks.specs.declared.marks.MarkedPath.{MarkedPath}
use Rattle.tl_marks.specs.declared.marks.MarkedPlatforms.{MarkedPlatforms}
use Rattle.tl_marks.specs.Form.{MarksEntry}

-- the line of the counter
abbrev pub counter_line : ℕ → List ℕ
counter_line counter = codes "counter " ++ decimal_text counter

-- the line of the platforms with their mark, a space in front of each
abbrev pub platforms_line : MarkedPlatforms → List ℕ
platforms_line marked = codes "platforms " ++ decimal_text marked.mark ++ flat_map (λ platform. 32 ∷ platform) marked.platforms

-- the word of a marked path
abbrev pub lives_word : Bool → List ℕ
lives_word true = codes "lives "
lives_word false = codes "gone "

-- the line of a marked path
unfoldable pub path_line : MarkedPath → List ℕ
path_line marked = lives_word marked.lives ++ decimal_text marked.mark ++ 32 ∷ marked.path

-- a line with its end
abbrev pub ended : List ℕ → List ℕ
ended line = line ++ 10 ∷ []

-- the line of the platforms, where there is one
abbrev pub platforms_text : Option MarkedPlatforms → List ℕ
platforms_text None = []
platforms_text (Some marked) = ended (platforms_line marked)

-- the lines of marked paths
abbrev pub paths_text : List MarkedPath → List ℕ
paths_text paths = flat_map (λ marked. ended (path_line marked)) paths

-- the text of marks
abbrev pub marks_text : MarksEntry → List ℕ
marks_text marks = ended (counter_line marks.counter) ++ platforms_text marks.platforms ++ paths_text marks.paths
