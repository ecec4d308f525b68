-- The keys of an entry's lines.
use Rattle.std.specs.Prelude.{ℕ, if◌then◌else◌, List, codes, Option, Some, None}
use Rattle.std.specs.Str.{bytes_eq}
use Rattle.tl_object.specs.declared.key.Part.TheVariants.{Run, Doc, Src}
use Rattle.tl_object.specs.declared.key.Key.{Key}
use Rattle.tl_object.specs.declared.key.Key.TheVariants.{Name, Category, Revision, Catalogue, Shortdesc, Relocated, Longdesc, Depend, Execute, Postaction, Size, Digest, Files, Binfiles}

-- what a word stands for as the key of a line; None where it is no key of the table
abbrev pub key_of : List ℕ → Option Key
key_of word =
    if bytes_eq word (codes "name") then Some Name
    else if bytes_eq word (codes "category") then Some Category
    else if bytes_eq word (codes "revision") then Some Revision
    else if bytes_eq word (codes "catalogue") then Some Catalogue
    else if bytes_eq word (codes "shortdesc") then Some Shortdesc
    else if bytes_eq word (codes "relocated") then Some Relocated
    else if bytes_eq word (codes "longdesc") then Some Longdesc
    else if bytes_eq word (codes "depend") then Some Depend
    else if bytes_eq word (codes "execute") then Some Execute
    else if bytes_eq word (codes "postaction") then Some Postaction
    else if bytes_eq word (codes "containersize") then Some (Size Run)
    else if bytes_eq word (codes "doccontainersize") then Some (Size Doc)
    else if bytes_eq word (codes "srccontainersize") then Some (Size Src)
    else if bytes_eq word (codes "containerchecksum") then Some (Digest Run)
    else if bytes_eq word (codes "doccontainerchecksum") then Some (Digest Doc)
    else if bytes_eq word (codes "srccontainerchecksum") then Some (Digest Src)
    else if bytes_eq word (codes "runfiles") then Some (Files Run)
    else if bytes_eq word (codes "docfiles") then Some (Files Doc)
    else if bytes_eq word (codes "srcfiles") then Some (Files Src)
    else if bytes_eq word (codes "binfiles") then Some Binfiles
    else None
