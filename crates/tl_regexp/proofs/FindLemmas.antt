-- What a compiled pattern finds is what the regular expression of its text finds.
use Rattle.std.proofs.Common.{◌≡◌, ◌≢◌, ℕ, ◌<◌, ◌≤◌, inl, inr, subst, IfSome, List, Option, None, Some, IsSomeAnd, All, is_some, ◌∙◌, ap, sym}
use Rattle.regex_hir.specs.declared.hir.Hir.{Hir}
use Rattle.regex_hir.specs.Meaning.{meaning}
use Rattle.regex_syntax.specs.Grammar.{Names}
use Rattle.regex_syntax.specs.Brackets.{Nested}
use Rattle.regex_syntax.specs.Captures.{SameCaptures}
use Rattle.regex_syntax.specs.Verdict.{Reads, Refuses}
use Rattle.regex_syntax.specs.declared.error.Error as parser
use Rattle.regex_syntax.specs.declared.error.ErrorKind.TheVariants.{OutOfMemory}
use Rattle.regex_syntax.proofs.CapturesLemmas.{find_str_alike, spans}
use Rattle.regex_syntax.proofs.Written.{is_some-option_map}
use Rattle.regex.specs.Patterns.{Re, find_str, default_config}
use Rattle.regex.specs.Strings.{regex_pattern}
use Rattle.regex.specs.Names.{names_of}
use Rattle.regex.specs.declared.string.regex.Regex.{Regex}
use Rattle.tl_regexp.specs.Finds.{anchored, reading, is_found, finds, IsRead, IsNotRead, IsOf}

-- a tree that was read: no deeper than the limit, and with the groups of the pattern
abbrev IsSameAs : Re → Nested Re × Names → Type 0
IsSameAs a found = (found.0.depth ≤ default_config.nest_limit) × SameCaptures a found.0.value

both : {A : Type 0} (o : Option A) (P Q : A → Type 0) → ((x : A) → P x → Q x) → IsSomeAnd o P → IsSomeAnd o Q
both None P Q f p = p
both (Some x) P Q f p = f x p

is_same : (text : List ℕ) (hir : Hir) (names : Names) → Reads default_config (anchored text) hir names → IsSomeAnd (reading text) (IsSameAs (meaning hir))
unfolding Reads
is_same text hir names reads = both (reading text) _ _ (λ found h. (h.0, h.1)) reads

as_found : (o : Option (Nested Re × Names)) (a : Re) → IsSomeAnd o (IsSameAs a) → (path : List ℕ) → All (λ b. b < 256) path → is_some (find_str a path 0) ≡ is_found o path
as_found None a same path bytes = absurd same
as_found (Some found) a same path bytes =
    sym (is_some-option_map spans _) ∙ ap is_some (find_str_alike a found.0.value same.1 path bytes 0) ∙ is_some-option_map spans _

module _ (text : List ℕ) (regex : Regex) (is : IsOf text regex) where
  same : IsSomeAnd (reading text) (IsSameAs (regex_pattern regex))
  same = is_same text regex.pattern.program.hir (names_of regex.pattern.names.items) (rw (is.source, is.config) at is.read)

  pub is_read : IsRead text
  is_read = both (reading text) _ _ (λ found h. h.0) same

  pub finds_as : (path : List ℕ) → All (λ b. b < 256) path → is_some (find_str (regex_pattern regex) path 0) ≡ finds text path
  unfolding finds
  finds_as path bytes = as_found (reading text) (regex_pattern regex) same path bytes

-- an error of syntax of the text between `^` and `$`
pub is_not_read : (text source : List ℕ) (e : parser.Error) → source ≡ anchored text → Refuses default_config source e.kind → e.kind ≢ OutOfMemory → IsNotRead text
unfolding Refuses
is_not_read text source e is refuses other = elim (subst (λ (s : List ℕ). Refuses default_config s e.kind) is refuses) [
  | inl memory ↦ absurd (other memory)
  | inr (inl none) ↦ subst (λ o. IfSome o (λ found. default_config.nest_limit < found.0.depth)) (sym none) tt
  | inr (inr deep) ↦ deep.1
]
