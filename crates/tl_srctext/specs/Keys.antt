-- The keys of a source's lines.
use Rattle.std.specs.Prelude.{ℕ, Bool, true, false, not, if◌then◌else◌, List, [], ◌∷◌, Option, Some, None, codes}
use Rattle.std.specs.Str.{bytes_eq}
use Rattle.tl_srctext.specs.declared.key.Section.TheVariants.{Run, Src, Doc, Bin}
use Rattle.tl_srctext.specs.declared.key.Key.{Key}
use Rattle.tl_srctext.specs.declared.key.Key.TheVariants.{Name, Category, Catalogue, Shortdesc, Longdesc, Depend, Execute, Postaction, Variable, Pattern}

-- what a word stands for as the key of a pattern's line
abbrev pub pattern_key_of : List ℕ → Option Key
pattern_key_of word =
    if bytes_eq word (codes "runpattern") then Some (Pattern Run)
    else (if bytes_eq word (codes "srcpattern") then Some (Pattern Src)
    else (if bytes_eq word (codes "docpattern") then Some (Pattern Doc)
    else (if bytes_eq word (codes "binpattern") then Some (Pattern Bin)
    else None)))

-- what a word stands for as the key of a line
unfoldable pub source_key_of : List ℕ → Option Key
source_key_of word =
    if bytes_eq word (codes "name") then Some Name
    else (if bytes_eq word (codes "category") then Some Category
    else (if bytes_eq word (codes "catalogue") then Some Catalogue
    else (if bytes_eq word (codes "shortdesc") then Some Shortdesc
    else (if bytes_eq word (codes "longdesc") then Some Longdesc
    else (if bytes_eq word (codes "depend") then Some Depend
    else (if bytes_eq word (codes "execute") then Some Execute
    else (if bytes_eq word (codes "postaction") then Some Postaction
    else (if bytes_eq word (codes "tlpsetvar") then Some Variable
    else pattern_key_of word))))))))

-- whether the value of a key may be empty
abbrev pub may_be_empty : Key → Bool
may_be_empty Name = false
may_be_empty Category = false
may_be_empty Catalogue = false
may_be_empty Shortdesc = true
may_be_empty Longdesc = true
may_be_empty Depend = false
may_be_empty Execute = false
may_be_empty Postaction = false
may_be_empty Variable = false
may_be_empty (Pattern section) = false

-- whether a value is empty and its key wants one
abbrev pub is_missing : Key → List ℕ → Bool
is_missing key [] = not (may_be_empty key)
is_missing key (b ∷ value) = false
