-- Executes whose first bytes show that they give a file nothing.
use Rattle.std.specs.Prelude.{◌≡◌, ℕ, Bool, true, false, not, ◌||◌, if◌then◌else◌, IsTrue, List, [], ◌∷◌, ◌++◌, length, take, drop, filter, Option, is_some, Result, Ok, Err, codes, nat_eq}
use Rattle.std.specs.List.{list_all, onto_first, starts_with}
use Rattle.std.specs.Str.{bytes_eq}
use Rattle.std.proofs.Common.{refl, sym, ◌∙◌, ap}
use Rattle.std.specs.Cmp.Lexicographic.{same_text}
use Rattle.std.proofs.lemmas.List.{take-append-drop}
use Rattle.tl_model.specs.Words.{is_full, is_open_after, quoted_parts}
use Rattle.tl_execute.specs.Values.{unquoted, value_of}
use Rattle.tl_execute.specs.Executes.{and_then, read_map, read_full, read_option, read_list, read_mode, required, is_format_word, is_format_repeated, format_from, read_format, is_hyphen_word, is_hyphen_repeated, some_full, is_listed, least_of, hyphen_from, read_hyphen, read_words}
use Rattle.tl_execute.specs.declared.execute.Execute.{Execute}
use Rattle.tl_execute.specs.declared.execute.Execute.TheVariants.{Map, Format, Hyphen}
use Rattle.tl_execute.specs.declared.execute.MapKind.{MapKind}
use Rattle.tl_execute.specs.declared.execute.MapKind.TheVariants.{Plain, Mixed, Kanji}
use Rattle.tl_execute.specs.declared.execute.ExecuteKind.{ExecuteKind}
use Rattle.tl_execute.specs.declared.execute.ExecuteKind.TheVariants.{Quote, Word, Key, Repeated}
use Rattle.tl_config.specs.declared.file.ConfigFile.{ConfigFile}
use Rattle.tl_config.specs.declared.file.ConfigFile.TheVariants.{Updmap, Fmtutil, LanguageDat, LanguageDef, LanguageLua}
use Rattle.tl_config.specs.Files.{execute_lines, reading_lines, lines_of}

-- a file that lists no maps
abbrev pub HasNoMaps : ConfigFile → Type 0
HasNoMaps file = (kind : MapKind) (name : List ℕ) → execute_lines file (Map kind name) ≡ []

-- a file that lists no formats
abbrev pub HasNoFormats : ConfigFile → Type 0
HasNoFormats file =
    (name engine : List ℕ) (options patterns : Option (List ℕ)) (disabled : Bool) (triggers : List (List ℕ))
    → execute_lines file (Format name engine options patterns disabled triggers) ≡ []

-- a file that lists no hyphenations
abbrev pub HasNoHyphens : ConfigFile → Type 0
HasNoHyphens file =
    (name text : List ℕ) (left right : ℕ) (synonyms : List (List ℕ)) (dat def lua : Bool) (patterns exceptions special : Option (List ℕ))
    → execute_lines file (Hyphen name text left right synonyms dat def lua patterns exceptions special) ≡ []

none_then : {A : Type 0} (file : ConfigFile) (reading : Result A ExecuteKind) (next : A → Result Execute ExecuteKind)
    → ((value : A) → reading_lines file (next value) ≡ []) → reading_lines file (and_then reading next) ≡ []
none_then file (Ok value) next each = each value
none_then file (Err kind) next each = refl

none_either : (file : ConfigFile) (test : Bool) (this that : Result Execute ExecuteKind)
    → reading_lines file this ≡ [] → reading_lines file that ≡ [] → reading_lines file (if test then this else that) ≡ []
none_either file true this that this_none that_none = this_none
none_either file false this that this_none that_none = that_none

none-map : (file : ConfigFile) → HasNoMaps file → (kind : MapKind) (words : List (List ℕ)) → reading_lines file (read_map kind words) ≡ []
none-map file maps kind [] = refl
none-map file maps kind (word ∷ []) = none_then file (read_full (unquoted word)) (λ name. Ok (Map kind name)) (λ name. maps kind name)
none-map file maps kind (word ∷ next ∷ others) = refl

none-format_from : (file : ConfigFile) → HasNoFormats file → (name engine : List ℕ) (words : List (List ℕ)) → reading_lines file (format_from name engine words) ≡ []
none-format_from file formats name engine words =
    none_then file (read_full name) _ (λ name. none_then file (read_full engine) _ (λ engine.
    none_then file (read_option (value_of (codes "options=") words)) _ (λ options. none_then file (read_option (value_of (codes "patterns=") words)) _ (λ patterns.
    none_then file (read_mode (value_of (codes "mode=") words)) _ (λ disabled. none_then file (read_list (value_of (codes "fmttriggers=") words))
    (λ triggers. Ok (Format name engine options patterns disabled triggers)) (λ triggers. formats name engine options patterns disabled triggers))))))

none-format : (file : ConfigFile) → HasNoFormats file → (words : List (List ℕ)) → reading_lines file (read_format words) ≡ []
none-format file formats words =
    none_either file (not (list_all is_format_word words)) (Err Key) _ refl (none_either file (is_format_repeated words) (Err Repeated) _ refl
    (none_then file (required (value_of (codes "name=") words)) _ (λ name. none_then file (required (value_of (codes "engine=") words))
    (λ engine. format_from name engine words) (λ engine. none-format_from file formats name engine words))))

none-hyphen_from : (file : ConfigFile) → HasNoHyphens file → (name text : List ℕ) (left right : ℕ) (words : List (List ℕ))
    → reading_lines file (hyphen_from name text left right words) ≡ []
none-hyphen_from file hyphens name text left right words =
    none_then file (read_full name) _ (λ name. none_then file (read_full text) _ (λ text. none_then file (read_list (value_of (codes "synonyms=") words)) _ (λ synonyms.
    none_then file (read_option (some_full (value_of (codes "file_patterns=") words))) _ (λ patterns.
    none_then file (read_option (some_full (value_of (codes "file_exceptions=") words))) _ (λ exceptions.
    none_then file (read_option (some_full (value_of (codes "luaspecial=") words)))
    (λ special. let databases = value_of (codes "databases=") words in
    Ok (Hyphen name text left right synonyms (is_listed (codes "dat") true databases) (is_listed (codes "def") true databases)
    (is_listed (codes "lua") (is_some patterns || is_some exceptions || is_some special) databases) patterns exceptions special))
    (λ special. let databases = value_of (codes "databases=") words in
    hyphens name text left right synonyms (is_listed (codes "dat") true databases) (is_listed (codes "def") true databases)
    (is_listed (codes "lua") (is_some patterns || is_some exceptions || is_some special) databases) patterns exceptions special))))))

none-hyphen : (file : ConfigFile) → HasNoHyphens file → (words : List (List ℕ)) → reading_lines file (read_hyphen words) ≡ []
none-hyphen file hyphens words =
    none_either file (not (list_all is_hyphen_word words)) (Err Key) _ refl (none_either file (is_hyphen_repeated words) (Err Repeated) _ refl
    (none_then file (required (value_of (codes "name=") words)) _ (λ name. none_then file (required (value_of (codes "file=") words)) _ (λ text.
    none_then file (least_of words) (λ least. hyphen_from name text least.0 least.1 words) (λ least. none-hyphen_from file hyphens name text least.0 least.1 words)))))

-- an execute with a capital at its front is no map
none-capital : (file : ConfigFile) → HasNoFormats file → HasNoHyphens file → (parts : List (List ℕ))
    → reading_lines file (read_words (filter is_full (onto_first 65 parts))) ≡ []
none-capital file formats hyphens [] = refl
none-capital file formats hyphens (part ∷ parts) =
    let words = filter is_full parts in
    none_either file (bytes_eq (65 ∷ part) (codes "AddFormat")) (read_format words) _ (none-format file formats words)
    (none_either file (bytes_eq (65 ∷ part) (codes "AddHyphen")) (read_hyphen words) (Err Word) (none-hyphen file hyphens words) refl)

-- an execute with a small letter at its front is a map at most
none-small : (file : ConfigFile) → HasNoMaps file → (parts : List (List ℕ))
    → reading_lines file (read_words (filter is_full (onto_first 97 parts))) ≡ []
none-small file maps [] = refl
none-small file maps (part ∷ parts) =
    let words = filter is_full parts in
    none_either file (bytes_eq (97 ∷ part) (codes "addMap")) (read_map Plain words) _ (none-map file maps Plain words)
    (none_either file (bytes_eq (97 ∷ part) (codes "addMixedMap")) (read_map Mixed words) _ (none-map file maps Mixed words)
    (none_either file (bytes_eq (97 ∷ part) (codes "addKanjiMap")) (read_map Kanji words) (Err Word) (none-map file maps Kanji words) refl))

-- what begins with `AddF` is a format at most
none-addf : (file : ConfigFile) → HasNoFormats file → (parts : List (List ℕ))
    → reading_lines file (read_words (filter is_full (onto_first 65 (onto_first 100 (onto_first 100 (onto_first 70 parts)))))) ≡ []
none-addf file formats [] = refl
none-addf file formats (part ∷ parts) =
    let words = filter is_full parts in
    none_either file (bytes_eq (65 ∷ 100 ∷ 100 ∷ 70 ∷ part) (codes "AddFormat")) (read_format words) (Err Word) (none-format file formats words) refl

-- what begins with `AddH` is a hyphenation at most
none-addh : (file : ConfigFile) → HasNoHyphens file → (parts : List (List ℕ))
    → reading_lines file (read_words (filter is_full (onto_first 65 (onto_first 100 (onto_first 100 (onto_first 72 parts)))))) ≡ []
none-addh file hyphens [] = refl
none-addh file hyphens (part ∷ parts) =
    let words = filter is_full parts in
    none_either file (bytes_eq (65 ∷ 100 ∷ 100 ∷ 72 ∷ part) (codes "AddHyphen")) (read_hyphen words) (Err Word) (none-hyphen file hyphens words) refl

-- updmap.cfg gets nothing from a text with a capital at its front
pub capital_gives_none : (file : ConfigFile) → HasNoFormats file → HasNoHyphens file → (rest : List ℕ) → lines_of file (65 ∷ rest) ≡ []
capital_gives_none file formats hyphens rest =
    none_either file (is_open_after false rest) (Err Quote) _ refl (none-capital file formats hyphens (quoted_parts false rest))

-- a file without maps gets nothing from a text with a small letter at its front
pub small_gives_none : (file : ConfigFile) → HasNoMaps file → (rest : List ℕ) → lines_of file (97 ∷ rest) ≡ []
small_gives_none file maps rest =
    none_either file (is_open_after false rest) (Err Quote) _ refl (none-small file maps (quoted_parts false rest))

-- a file without formats gets nothing from a text that begins with `AddF`
pub addf_gives_none : (file : ConfigFile) → HasNoFormats file → (rest : List ℕ) → lines_of file (65 ∷ 100 ∷ 100 ∷ 70 ∷ rest) ≡ []
addf_gives_none file formats rest =
    none_either file (is_open_after false rest) (Err Quote) _ refl (none-addf file formats (quoted_parts false rest))

-- a file without hyphenations gets nothing from a text that begins with `AddH`
pub addh_gives_none : (file : ConfigFile) → HasNoHyphens file → (rest : List ℕ) → lines_of file (65 ∷ 100 ∷ 100 ∷ 72 ∷ rest) ≡ []
addh_gives_none file hyphens rest =
    none_either file (is_open_after false rest) (Err Quote) _ refl (none-addh file hyphens (quoted_parts false rest))

-- a test of a text's front
same_front : (front text : List ℕ) (test : Bool) → test ≡ starts_with nat_eq text front → IsTrue test → text ≡ front ++ drop (length front) text
same_front front text test is front_same =
    sym (ap (λ t. t ++ drop (length front) text) (same_text front (take (length front) text) (sym front_same ∙ is)) ∙ take-append-drop (length front) text)

-- what `starts_with(b"A")` says
pub none_by-capital : (file : ConfigFile) → HasNoFormats file → HasNoHyphens file → (text : List ℕ) (test : Bool)
    → test ≡ starts_with nat_eq text (codes "A") → IsTrue test → lines_of file text ≡ []
none_by-capital file formats hyphens text test is front_same =
    ap (lines_of file) (same_front (codes "A") text test is front_same) ∙ capital_gives_none file formats hyphens (drop 1 text)

-- what `starts_with(b"a")` says
pub none_by-small : (file : ConfigFile) → HasNoMaps file → (text : List ℕ) (test : Bool)
    → test ≡ starts_with nat_eq text (codes "a") → IsTrue test → lines_of file text ≡ []
none_by-small file maps text test is front_same =
    ap (lines_of file) (same_front (codes "a") text test is front_same) ∙ small_gives_none file maps (drop 1 text)

-- what `starts_with(b"AddF")` says
pub none_by-addf : (file : ConfigFile) → HasNoFormats file → (text : List ℕ) (test : Bool)
    → test ≡ starts_with nat_eq text (codes "AddF") → IsTrue test → lines_of file text ≡ []
none_by-addf file formats text test is front_same =
    ap (lines_of file) (same_front (codes "AddF") text test is front_same) ∙ addf_gives_none file formats (drop 4 text)

-- what `starts_with(b"AddH")` says
pub none_by-addh : (file : ConfigFile) → HasNoHyphens file → (text : List ℕ) (test : Bool)
    → test ≡ starts_with nat_eq text (codes "AddH") → IsTrue test → lines_of file text ≡ []
none_by-addh file hyphens text test is front_same =
    ap (lines_of file) (same_front (codes "AddH") text test is front_same) ∙ addh_gives_none file hyphens (drop 4 text)

pub updmap-no_formats : HasNoFormats Updmap
updmap-no_formats name engine options patterns disabled triggers = refl

pub updmap-no_hyphens : HasNoHyphens Updmap
updmap-no_hyphens name text left right synonyms dat def lua patterns exceptions special = refl

pub others-no_maps : (file : ConfigFile) → (file ≡ Updmap → ⊥) → HasNoMaps file
others-no_maps Updmap other kind name = absurd (other refl)
others-no_maps Fmtutil other kind name = refl
others-no_maps LanguageDat other kind name = refl
others-no_maps LanguageDef other kind name = refl
others-no_maps LanguageLua other kind name = refl

pub others-no_formats : (file : ConfigFile) → (file ≡ Fmtutil → ⊥) → HasNoFormats file
others-no_formats Updmap other name engine options patterns disabled triggers = refl
others-no_formats Fmtutil other name engine options patterns disabled triggers = absurd (other refl)
others-no_formats LanguageDat other name engine options patterns disabled triggers = refl
others-no_formats LanguageDef other name engine options patterns disabled triggers = refl
others-no_formats LanguageLua other name engine options patterns disabled triggers = refl

pub fmtutil-no_maps : HasNoMaps Fmtutil
fmtutil-no_maps kind name = refl

pub fmtutil-no_hyphens : HasNoHyphens Fmtutil
fmtutil-no_hyphens name text left right synonyms dat def lua patterns exceptions special = refl
