-- Where a pattern can hit.
use Rattle.std.specs.Prelude.{◌≡◌}
use Rattle.tl_pattern.specs.declared.kind.PatternKind.TheVariants.{F, D, T, R}
use Rattle.tl_pattern.specs.declared.pattern.Reach.{Reach}
use Rattle.tl_pattern.specs.declared.pattern.Reach.TheVariants.{File, Folder, Tree, All}
use Rattle.tl_pattern.specs.Form.{PatternSeen, HasForm, folder_of, words_of, name_of}

-- it is what the pattern's text says, by its kind
abbrev pub Reaches : PatternSeen → Reach → Type 0
Reaches pattern (File path) = (pattern.kind ≡ F) × (path.now ≡ pattern.text)
Reaches pattern (Folder path) = (pattern.kind ≡ D) × (path.now ≡ folder_of pattern.text)
Reaches pattern (Tree words name) = (pattern.kind ≡ T) × (words.now ≡ words_of pattern.text) × (name.now ≡ name_of pattern.text) × HasForm T pattern.text
Reaches pattern All = pattern.kind ≡ R
