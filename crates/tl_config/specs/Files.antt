-- The five files that are made from the executes of a database.
use Rattle.std.specs.Prelude.{ℕ, ◌==◌, Bool, true, false, ◌||◌, if◌then◌else◌, List, [], ◌∷◌, ◌++◌, Option, Some, None, unwrap_or, Result, Ok, Err, codes}
use Rattle.std.specs.List.{flat_map}
use Rattle.tl_model.specs.Decimal.{decimal_text}
use Rattle.tl_execute.specs.Executes.{read_execute}
use Rattle.tl_execute.specs.declared.execute.Execute.{Execute}
use Rattle.tl_execute.specs.declared.execute.Execute.TheVariants.{Map, Format, Hyphen}
use Rattle.tl_execute.specs.declared.execute.ExecuteKind.{ExecuteKind}
use Rattle.tl_execute.specs.declared.execute.MapKind.{MapKind}
use Rattle.tl_execute.specs.declared.execute.MapKind.TheVariants.{Plain, Mixed, Kanji}
use Rattle.tl_config.specs.declared.file.ConfigFile.{ConfigFile}
use Rattle.tl_config.specs.declared.file.ConfigFile.TheVariants.{Updmap, Fmtutil, LanguageDat, LanguageDef, LanguageLua}

-- a line with its end
abbrev pub line : List ℕ → List ℕ
line text = text ++ 10 ∷ []

-- the word that begins a map's line
abbrev pub map_word : MapKind → List ℕ
map_word Plain = codes "Map "
map_word Mixed = codes "MixedMap "
map_word Kanji = codes "KanjiMap "

-- the line of a map in updmap.cfg
abbrev pub updmap_lines : Execute → List ℕ
updmap_lines (Map kind file) = map_word kind ++ file ++ 10 ∷ []
updmap_lines (Format name engine options patterns disabled triggers) = []
updmap_lines (Hyphen name file left right synonyms dat def lua patterns exceptions special) = []

-- the options at the end of a format's line
abbrev pub options_end : Option (List ℕ) → List ℕ
options_end None = 10 ∷ []
options_end (Some options) = codes " " ++ options ++ 10 ∷ []

-- what stands before the line of a format
abbrev pub format_mark : Bool → List ℕ
format_mark true = codes "#! "
format_mark false = []

-- the line of a format in fmtutil.cnf
abbrev pub fmtutil_lines : Execute → List ℕ
fmtutil_lines (Map kind file) = []
fmtutil_lines (Format name engine options patterns disabled triggers) =
    format_mark disabled ++ name ++ codes " " ++ engine ++ codes " " ++ unwrap_or patterns (codes "-") ++ options_end options
fmtutil_lines (Hyphen name file left right synonyms dat def lua patterns exceptions special) = []

-- the line of another name in language.dat
abbrev pub synonym_line : List ℕ → List ℕ
synonym_line synonym = codes "=" ++ synonym ++ 10 ∷ []

-- the lines of a hyphenation in language.dat
abbrev pub dat_lines : Execute → List ℕ
dat_lines (Map kind file) = []
dat_lines (Format name engine options patterns disabled triggers) = []
dat_lines (Hyphen name file left right synonyms true def lua patterns exceptions special) =
    name ++ codes " " ++ file ++ 10 ∷ [] ++ flat_map synonym_line synonyms
dat_lines (Hyphen name file left right synonyms false def lua patterns exceptions special) = []

-- a text in braces
abbrev pub braced : List ℕ → List ℕ
braced text = codes "{" ++ text ++ codes "}"

-- the line of a name in language.def
abbrev pub def_line : List ℕ → ℕ → ℕ → List ℕ → List ℕ
def_line file left right name =
    codes "\\addlanguage" ++ braced name ++ braced file ++ codes "{}" ++ braced (decimal_text left) ++ braced (decimal_text right) ++ 10 ∷ []

-- the lines of a hyphenation in language.def
abbrev pub def_lines : Execute → List ℕ
def_lines (Map kind file) = []
def_lines (Format name engine options patterns disabled triggers) = []
def_lines (Hyphen name file left right synonyms dat true lua patterns exceptions special) =
    def_line file left right name ++ flat_map (def_line file left right) synonyms
def_lines (Hyphen name file left right synonyms dat false lua patterns exceptions special) = []

-- a byte within single quotes
abbrev pub quoted_byte : ℕ → List ℕ
quoted_byte b = if b == 39 || b == 92 then 92 ∷ b ∷ [] else b ∷ []

-- a value in single quotes; a backslash stands before each single quote and each backslash
abbrev pub quoted : List ℕ → List ℕ
quoted value = codes "'" ++ flat_map quoted_byte value ++ codes "'"

-- another name behind the first one
abbrev pub more_synonym : List ℕ → List ℕ
more_synonym synonym = codes ", " ++ quoted synonym

-- the other names of a hyphenation
abbrev pub synonym_list : List (List ℕ) → List ℕ
synonym_list [] = codes "{ }"
synonym_list (synonym ∷ others) = codes "{ " ++ quoted synonym ++ flat_map more_synonym others ++ codes " }"

-- the line of a value that may be absent
abbrev pub option_line : List ℕ → Option (List ℕ) → List ℕ
option_line key None = []
option_line key (Some value) = codes "\t\t" ++ key ++ codes " = " ++ quoted value ++ codes ",\n"

-- the name and file of a hyphenation
abbrev pub lua_head : List ℕ → List ℕ → List ℕ
lua_head name file = codes "\t[" ++ quoted name ++ codes "] = {\n\t\tloader = " ++ quoted file ++ codes ",\n"

-- the least numbers of letters of a hyphenation
abbrev pub lua_least : ℕ → ℕ → List ℕ
lua_least left right = codes "\t\tlefthyphenmin = " ++ decimal_text left ++ codes ",\n\t\trighthyphenmin = " ++ decimal_text right ++ codes ",\n"

-- the other names of a hyphenation, in their line
abbrev pub lua_synonyms : List (List ℕ) → List ℕ
lua_synonyms synonyms = codes "\t\tsynonyms = " ++ synonym_list synonyms ++ codes ",\n"

-- the patterns, exceptions and special file of a hyphenation, where they are there
abbrev pub lua_options : Option (List ℕ) → Option (List ℕ) → Option (List ℕ) → List ℕ
lua_options patterns exceptions special = option_line (codes "patterns") patterns ++ option_line (codes "hyphenation") exceptions ++ option_line (codes "special") special

-- the first lines of a hyphenation
abbrev pub lua_first : List ℕ → List ℕ → ℕ → ℕ → List ℕ
lua_first name file left right = lua_head name file ++ lua_least left right

-- the last lines of a hyphenation
abbrev pub lua_last : List (List ℕ) → Option (List ℕ) → Option (List ℕ) → Option (List ℕ) → List ℕ
lua_last synonyms patterns exceptions special = lua_synonyms synonyms ++ lua_options patterns exceptions special ++ codes "\t},\n"

-- the lines of a hyphenation in language.dat.lua
abbrev pub lua_lines : Execute → List ℕ
lua_lines (Map kind file) = []
lua_lines (Format name engine options patterns disabled triggers) = []
lua_lines (Hyphen name file left right synonyms dat def true patterns exceptions special) =
    lua_first name file left right ++ lua_last synonyms patterns exceptions special
lua_lines (Hyphen name file left right synonyms dat def false patterns exceptions special) = []

-- the lines of an execute in a file
abbrev pub execute_lines : ConfigFile → Execute → List ℕ
execute_lines Updmap execute = updmap_lines execute
execute_lines Fmtutil execute = fmtutil_lines execute
execute_lines LanguageDat execute = dat_lines execute
execute_lines LanguageDef execute = def_lines execute
execute_lines LanguageLua execute = lua_lines execute

-- the lines of what an execute's text says; one that doesn't read gives none
abbrev pub reading_lines : ConfigFile → Result Execute ExecuteKind → List ℕ
reading_lines file (Ok execute) = execute_lines file execute
reading_lines file (Err kind) = []

-- the lines of an execute's text in a file
abbrev pub lines_of : ConfigFile → List ℕ → List ℕ
lines_of file text = reading_lines file (read_execute text)

-- the lines at the head of a file
abbrev pub head_of : ConfigFile → List ℕ
head_of Updmap = codes "# updmap.cfg, written by tlmgr\n"
head_of Fmtutil = codes "# fmtutil.cnf, written by tlmgr\n"
head_of LanguageDat = codes "% language.dat, written by tlmgr\n"
head_of LanguageDef = codes "% language.def, written by tlmgr\n"
head_of LanguageLua = codes "-- language.dat.lua, written by tlmgr\nreturn {\n"

-- the lines at the end of a file
abbrev pub end_of : ConfigFile → List ℕ
end_of Updmap = []
end_of Fmtutil = []
end_of LanguageDat = []
end_of LanguageDef = []
end_of LanguageLua = codes "}\n"

-- a file made from the texts of executes in order
abbrev pub file_of : ConfigFile → List (List ℕ) → List ℕ
file_of file executes = head_of file ++ flat_map (lines_of file) executes ++ end_of file
