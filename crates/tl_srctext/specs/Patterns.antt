-- The patterns of a source.
use Rattle.std.specs.Prelude.{ℕ, ◌==◌, ◌&&◌, Bool, true, false, not, nat_le, if◌then◌else◌, List, [], ◌∷◌, length, drop, option_map, Option, Some, None, Result, Ok, Err}
use Rattle.std.specs.List.{list_all, list_any, slice_split}
use Rattle.tl_kind.specs.declared.kinds.SourceKind.{SourceKind}
use Rattle.tl_kind.specs.declared.kinds.SourceKind.TheVariants as kinds
use Rattle.tl_model.specs.Words.{is_blank}
use Rattle.tl_text.specs.Texts.{is_text}
use Rattle.tl_path.specs.Names.{is_platform}
use Rattle.tl_srctext.specs.Content.{before_blank, behind_blank}
use Rattle.tl_srctext.specs.declared.key.Section.{Section}
use Rattle.tl_srctext.specs.declared.key.Section.TheVariants.{Run, Src, Doc, Bin}
use Rattle.tl_pattern.specs.declared.kind.PatternKind.{PatternKind}
use Rattle.tl_pattern.specs.declared.kind.PatternKind.TheVariants.{F, D, T, R}
use Rattle.tl_srctext.specs.declared.pattern.Limit.{Limit}
use Rattle.tl_srctext.specs.declared.pattern.Limit.TheVariants.{All as Everywhere, Only, Except}
use Rattle.tl_srctext.specs.declared.pattern.SourcePattern.{SourcePattern}

-- whether a text begins with a byte
abbrev pub begins_with : ℕ → List ℕ → Bool
begins_with byte [] = false
begins_with byte (b ∷ text) = b == byte

-- a text without its first byte, where that is to go
abbrev pub less_first : Bool → List ℕ → List ℕ
less_first goes text = if goes then drop 1 text else text

-- the kind that a letter at the front stands for
abbrev pub kind_of : List ℕ → Option PatternKind
kind_of [] = None
kind_of (b ∷ text) = if b == 102 then Some F else (if b == 100 then Some D else (if b == 116 then Some T
    else (if b == 114 then Some R else None)))

-- some platforms, where each has the form of one
abbrev pub platforms_of : List (List ℕ) → Option (List (List ℕ))
platforms_of platforms = if list_all is_platform platforms then Some platforms else None

-- the limit to some platforms that commas part, or behind a `!` to all others
abbrev pub limit_to : List ℕ → Option Limit
limit_to text = if begins_with 33 text
    then option_map Except (platforms_of (slice_split (λ b. b == 44) (drop 1 text)))
    else option_map Only (platforms_of (slice_split (λ b. b == 44) text))

-- the limit of a pattern by what stands directly behind its letter: for binaries a '/' and platforms may stand there, else nothing
abbrev pub pattern_limit : Section → List ℕ → Option Limit
pattern_limit section [] = Some Everywhere
pattern_limit Run (b ∷ text) = None
pattern_limit Src (b ∷ text) = None
pattern_limit Doc (b ∷ text) = None
pattern_limit Bin (b ∷ text) = if b == 47 then limit_to text else None

-- whether a text without blanks at its ends has as many words as the kind wants: one for files and directories, two or more for trees
abbrev pub has_words : PatternKind → List ℕ → Bool
has_words F text = not (list_any is_blank text)
has_words D text = not (list_any is_blank text)
has_words T text = list_any is_blank text
has_words R text = true

-- whether a text may be a pattern's: it isn't empty, has 4,096 bytes at most, and as many words as the kind wants
abbrev pub has_form : PatternKind → List ℕ → Bool
has_form kind text = nat_le 1 (length text) && (nat_le (length text) 4096 && has_words kind text)

-- the text of a pattern, where it has its form
abbrev pub pattern_text : PatternKind → List ℕ → Option (List ℕ)
pattern_text kind text = if has_form kind text && is_text text then Some text else None

-- a pattern with the text that was found for it
abbrev pub pattern_with_text : (List ℕ → SourcePattern) → Option (List ℕ) → Result SourcePattern SourceKind
pattern_with_text pattern None = Err kinds.Pattern
pattern_with_text pattern (Some text) = Ok (pattern text)

-- a pattern by its signs, the kind and the limit that were found, and its text
abbrev pub pattern_with : ℕ → Bool → Bool → Option PatternKind → Option Limit → List ℕ → Result SourcePattern SourceKind
pattern_with line adds takes_out None limit text = Err kinds.Pattern
pattern_with line adds takes_out (Some kind) None text = Err kinds.Pattern
pattern_with line adds takes_out (Some kind) (Some limit) text = pattern_with_text
    (λ t. record { line = line; adds = adds; takes_out = takes_out; kind = kind; limit = limit; text = t }) (pattern_text kind text)

-- a pattern by its signs and what stands behind them: a letter, a limit up to the first blank, and a text behind the first blanks
abbrev pub pattern_from : Section → ℕ → Bool → Bool → List ℕ → Result SourcePattern SourceKind
pattern_from section line adds takes_out rest =
    pattern_with line adds takes_out (kind_of rest) (pattern_limit section (before_blank (drop 1 rest))) (behind_blank (drop 1 rest))

-- the pattern that a value of a section's line is: an optional `+`, an optional `!`, a letter, a limit, blanks and a text
abbrev pub pattern_of : Section → ℕ → List ℕ → Result SourcePattern SourceKind
pattern_of section line value =
    let adds = begins_with 43 value in
    let signless = less_first adds value in
    let takes_out = begins_with 33 signless in
    pattern_from section line adds takes_out (less_first takes_out signless)
