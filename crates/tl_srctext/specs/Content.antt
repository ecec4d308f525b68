-- What of a line counts, and the parts before and behind its first blanks.
use Rattle.std.specs.Prelude.{ℕ, ◌-◌, ◌==◌, ◌&&◌, Bool, true, not, if◌then◌else◌, List, [], ◌∷◌, length, take, drop}
use Rattle.std.specs.List.{prefix_len, suffix_len}
use Rattle.tl_model.specs.Words.{is_blank}

-- a text up to where a comment begins: at a `#` behind a blank, and at its front where a comment may open there
abbrev pub less_comment : Bool → List ℕ → List ℕ
less_comment opens [] = []
less_comment opens (b ∷ text) = if opens && b == 35 then [] else b ∷ less_comment (is_blank b) text

-- a text without the blanks at its front
abbrev pub less_blanks_before : List ℕ → List ℕ
less_blanks_before text = drop (prefix_len is_blank text) text

-- a text without the blanks at its end
abbrev pub less_blanks_behind : List ℕ → List ℕ
less_blanks_behind text = take (length text - suffix_len is_blank text) text

-- what of a line counts: what stands before its comment, without blanks at its ends
abbrev pub line_content : List ℕ → List ℕ
line_content line = less_blanks_behind (less_blanks_before (less_comment true line))

-- how many bytes stand before the first blank
abbrev pub word_len : List ℕ → ℕ
word_len text = prefix_len (λ b. not (is_blank b)) text

-- what stands before the first blank
abbrev pub before_blank : List ℕ → List ℕ
before_blank text = take (word_len text) text

-- what stands behind the first blanks
abbrev pub behind_blank : List ℕ → List ℕ
behind_blank text = less_blanks_before (drop (word_len text) text)
