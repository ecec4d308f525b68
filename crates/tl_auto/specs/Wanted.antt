-- Which patterns a section has: automatic ones, and its own.
use Rattle.std.specs.Prelude.{◌≡◌, ℕ, ◌<◌, Bool, true, not, ◌&&◌, if◌then◌else◌, List, [], ◌∷◌, ◌++◌, map, length, codes, bytes_eq, Option, None, Some, slice_get}
use Rattle.std.specs.List.{list_all, list_any, flat_map}
use Rattle.tl_path.specs.declared.kinds.Category.{Category}
use Rattle.tl_path.specs.declared.kinds.Category.TheVariants as categories
use Rattle.tl_pattern.specs.declared.kind.PatternKind.{PatternKind}
use Rattle.tl_pattern.specs.declared.kind.PatternKind.TheVariants.{F, D, T, R}
use Rattle.tl_srctext.specs.declared.fields.SourceFields.{SourceFields}
use Rattle.tl_srctext.specs.declared.pattern.SourcePattern.{SourcePattern}
use Rattle.tl_srctext.specs.declared.pattern.Limit.{Limit}
use Rattle.tl_srctext.specs.declared.pattern.Limit.TheVariants.{All, Only, Except}
use Rattle.tl_auto.specs.declared.section.Section.{Section}
use Rattle.tl_auto.specs.declared.section.Section.TheVariants.{Run, Doc, Src, Bin}
use Rattle.tl_auto.specs.Variables.{Setting}

-- a pattern before its variables are replaced: its line, 0 for an automatic one, its sign, its kind, its text, and what comes behind that
pub record Wanted : Type 0 where
  pub line : ℕ
  pub positive : Bool
  pub kind : PatternKind
  pub text : List ℕ
  pub suffix : List ℕ

-- the texts of the automatic patterns of what a package needs at work
unfoldable pub run_texts : List (List ℕ)
run_texts = codes "texmf-dist bibtex ${PKGNAME}" ∷ codes "texmf-dist context ${PKGNAME}" ∷ codes "texmf-dist dvips ${PKGNAME}"
    ∷ codes "texmf-dist fonts ${PKGNAME}" ∷ codes "texmf-dist makeindex ${PKGNAME}" ∷ codes "texmf-dist metafont ${PKGNAME}"
    ∷ codes "texmf-dist metapost ${PKGNAME}" ∷ codes "texmf-dist mft ${PKGNAME}" ∷ codes "texmf-dist omega ${PKGNAME}"
    ∷ codes "texmf-dist scripts ${PKGNAME}" ∷ codes "texmf-dist tex ${PKGNAME}" ∷ codes "texmf-dist vtex ${PKGNAME}" ∷ []

-- that of the folder of its documentation
abbrev pub doc_texts : List (List ℕ)
doc_texts = codes "texmf-dist doc ${PKGNAME}" ∷ []

-- that of its pages of the manual
abbrev pub manual_texts : List (List ℕ)
manual_texts = codes "texmf-dist/doc/man/man1/${PKGNAME}.*" ∷ []

-- that of the folder of its sources
abbrev pub source_texts : List (List ℕ)
source_texts = codes "texmf-dist source ${PKGNAME}" ∷ []

-- a pattern that no line has
abbrev pub automatic : PatternKind → List ℕ → Wanted
automatic kind text = record { line = 0; positive = true; kind = kind; text = text; suffix = [] }

-- the automatic patterns of documentation
abbrev pub automatic_docs : List Wanted
automatic_docs = map (automatic T) doc_texts ++ map (automatic F) manual_texts

-- the automatic patterns of a section of a package of a category
abbrev pub automatic_of : Section → Category → List Wanted
automatic_of Run categories.Package = map (automatic T) run_texts
automatic_of Doc categories.Package = automatic_docs
automatic_of Doc categories.TLCore = automatic_docs
automatic_of Src categories.Package = map (automatic T) source_texts
automatic_of section category = []

-- a source's own patterns of a section
abbrev pub own_patterns : SourceFields → Section → List SourcePattern
own_patterns source Run = source.run
own_patterns source Doc = source.doc
own_patterns source Src = source.src
own_patterns source (Bin i) = source.bin

-- the platform of a section: that of some binaries
abbrev pub platform_in : Section → List (List ℕ) → Option (List ℕ)
platform_in Run platforms = None
platform_in Doc platforms = None
platform_in Src platforms = None
platform_in (Bin i) platforms = slice_get platforms i

-- whether a limit allows a platform; each allows files that are of no platform
abbrev pub allows : Limit → Option (List ℕ) → Bool
allows limit None = true
allows All (Some platform) = true
allows (Only names) (Some platform) = list_any (λ name. bytes_eq name platform) names
allows (Except names) (Some platform) = not (list_any (λ name. bytes_eq name platform) names)

-- nothing, and what ends the names of programs on Windows
abbrev pub windows_suffixes : List (List ℕ)
windows_suffixes = [] ∷ codes ".exe" ∷ codes ".dll" ∷ codes ".bat" ∷ codes ".cmd" ∷ codes ".texlua" ∷ []

-- whether a platform is Windows
abbrev pub is_windows : Option (List ℕ) → Bool
is_windows None = not true
is_windows (Some platform) = bytes_eq platform (codes "windows")

-- what comes behind the text of a pattern of a kind, each time in a pattern of its own
abbrev pub suffixes_of : PatternKind → Option (List ℕ) → List (List ℕ)
suffixes_of F platform = if is_windows platform then windows_suffixes else [] ∷ []
suffixes_of D platform = [] ∷ []
suffixes_of T platform = [] ∷ []
suffixes_of R platform = [] ∷ []

-- a source's pattern with something behind its text
abbrev pub with_suffix : SourcePattern → List ℕ → Wanted
with_suffix p suffix = record { line = p.line; positive = not p.takes_out; kind = p.kind; text = p.text; suffix = suffix }

-- what a source's own pattern wants on a platform
abbrev pub wanted_of : Option (List ℕ) → SourcePattern → List Wanted
wanted_of platform p = if allows p.limit platform then map (with_suffix p) (suffixes_of p.kind platform) else []

-- what a section wants: automatic patterns where it has none of its own or all of its own begin with `+`, and its own in order
abbrev pub wanted_in : SourceFields → Section → Option (List ℕ) → List Wanted
wanted_in source section platform =
    (if list_all (λ (p : SourcePattern). p.adds) (own_patterns source section) then automatic_of section source.category else [])
    ++ flat_map (wanted_of platform) (own_patterns source section)

-- the binaries of a section are those of one of so many platforms
abbrev pub IsSectionOf : Section → ℕ → Type 0
IsSectionOf Run count = Unit {0}
IsSectionOf Doc count = Unit {0}
IsSectionOf Src count = Unit {0}
IsSectionOf (Bin i) count = i < count
