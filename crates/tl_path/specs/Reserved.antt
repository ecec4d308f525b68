-- The paths that the program keeps for itself.
use Rattle.std.specs.Prelude.{ℕ, Bool, List, [], ◌∷◌, codes}
use Rattle.std.specs.List.{list_any}
use Rattle.tl_path.specs.Components.{is_touching}

-- the reserved paths
unfoldable pub reserved_paths : List (List ℕ)
reserved_paths = codes "tlpkg/journal" ∷ codes "tlpkg/backups" ∷ codes "tlpkg/tlpsrc" ∷ codes "repository"
    ∷ codes "tlpkg/texlive.tlpdb" ∷ codes "tlpkg/marks" ∷ codes "tlpkg/pinning.txt"
    ∷ codes "texmf-dist/web2c/updmap.cfg" ∷ codes "texmf-dist/web2c/fmtutil.cnf"
    ∷ codes "texmf-var/tex/generic/config/language.dat" ∷ codes "texmf-var/tex/generic/config/language.def"
    ∷ codes "texmf-var/tex/generic/config/language.dat.lua" ∷ []

-- whether a path touches a reserved one
unfoldable pub is_reserved : List ℕ → Bool
is_reserved path = list_any (is_touching path) reserved_paths
