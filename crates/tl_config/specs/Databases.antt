-- The five files of a database.
use Rattle.std.specs.Prelude.{ℕ, List}
use Rattle.std.specs.List.{flat_map}
use Rattle.tl_entry.specs.declared.object.Object.{Object}
use Rattle.tl_config.specs.Files.{file_of}
use Rattle.tl_config.specs.declared.file.ConfigFile.TheVariants.{Updmap, Fmtutil, LanguageDat, LanguageDef, LanguageLua}

-- the executes of one entry
abbrev pub entry_executes : Object → List (List ℕ)
entry_executes entry = entry.executes

-- the executes of a database: those of its entries in name order, each entry's in order
abbrev pub executes_of : List Object → List (List ℕ)
executes_of entries = flat_map entry_executes entries

-- updmap.cfg of a database
abbrev pub updmap_of : List Object → List ℕ
updmap_of entries = file_of Updmap (executes_of entries)

-- fmtutil.cnf of a database
abbrev pub fmtutil_of : List Object → List ℕ
fmtutil_of entries = file_of Fmtutil (executes_of entries)

-- language.dat of a database
abbrev pub langdat_of : List Object → List ℕ
langdat_of entries = file_of LanguageDat (executes_of entries)

-- language.def of a database
abbrev pub langdef_of : List Object → List ℕ
langdef_of entries = file_of LanguageDef (executes_of entries)

-- language.dat.lua of a database
abbrev pub langlua_of : List Object → List ℕ
langlua_of entries = file_of LanguageLua (executes_of entries)
