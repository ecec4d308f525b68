-- What an execute says, and its first fault.
use Rattle.std.specs.Prelude.{◌≡◌, ℕ, ◌==◌, nat_lt, Bool, true, false, not, ◌||◌, ◌&&◌, if◌then◌else◌, List, [], ◌∷◌, Option, Some, None, is_some, unwrap_or, Result, Ok, Err, codes}
use Rattle.std.specs.List.{list_all, list_any, slice_split}
use Rattle.std.specs.Str.{bytes_eq}
use Rattle.tl_model.specs.Decimal.{is_decimal, decimal_value}
use Rattle.tl_model.specs.Words.{is_full, is_open_after, quoted_words}
use Rattle.tl_text.specs.Texts.{is_text}
use Rattle.tl_execute.specs.Values.{unquoted, has_key, value_of, is_repeated, parts}
use Rattle.tl_execute.specs.declared.execute.Execute.{Execute}
use Rattle.tl_execute.specs.declared.execute.Execute.TheVariants.{Map, Format, Hyphen}
use Rattle.tl_execute.specs.declared.execute.MapKind.{MapKind}
use Rattle.tl_execute.specs.declared.execute.MapKind.TheVariants.{Plain, Mixed, Kanji}
use Rattle.tl_execute.specs.declared.execute.ExecuteKind.{ExecuteKind}
use Rattle.tl_execute.specs.declared.execute.ExecuteKind.TheVariants.{Quote, Word, Key, Repeated, Missing, Number, Value}
use Rattle.tl_execute.specs.declared.execute.ExecuteError.{ExecuteError}
use Rattle.tl_execute.specs.declared.execute.ExecuteError.TheVariants.{BadExecute, NoMemory}

-- a reading, and what goes on with its value
abbrev pub and_then : {A B : Type 0} → Result A ExecuteKind → (A → Result B ExecuteKind) → Result B ExecuteKind
and_then (Ok value) next = next value
and_then (Err kind) next = Err kind

-- an answer is that of a reading; want of memory is no answer
abbrev pub Gives : {A : Type 0} → Result A ExecuteKind → Result A ExecuteError → Type 0
Gives reading (Ok value) = reading ≡ Ok value
Gives reading (Err (BadExecute kind)) = reading ≡ Err kind
Gives reading (Err NoMemory) = Unit {0}

-- a value that is kept is a Text
abbrev pub read_text : List ℕ → Result (List ℕ) ExecuteKind
read_text value = if is_text value then Ok value else Err Value

-- a value that may be absent
abbrev pub read_option : Option (List ℕ) → Result (Option (List ℕ)) ExecuteKind
read_option None = Ok None
read_option (Some value) = and_then (read_text value) (λ text. Ok (Some text))

-- some values, each of them a Text
abbrev pub read_texts : List (List ℕ) → Result (List (List ℕ)) ExecuteKind
read_texts values = if list_all is_text values then Ok values else Err Value

-- the parts of a list between commas; an absent list has none
abbrev pub read_list : Option (List ℕ) → Result (List (List ℕ)) ExecuteKind
read_list value = read_texts (parts (unwrap_or value []))

-- a value that must be there
abbrev pub required : Option (List ℕ) → Result (List ℕ) ExecuteKind
required None = Err Missing
required (Some value) = Ok value

-- a value that must have a byte
abbrev pub read_full : List ℕ → Result (List ℕ) ExecuteKind
read_full value = if is_full value then read_text value else Err Value

-- a map: one word, its file
abbrev pub read_map : MapKind → List (List ℕ) → Result Execute ExecuteKind
read_map kind [] = Err Missing
read_map kind (word ∷ []) = and_then (read_full (unquoted word)) (λ file. Ok (Map kind file))
read_map kind (word ∷ next ∷ others) = Err Value

-- whether a word begins with a key of a format
abbrev pub is_format_word : List ℕ → Bool
is_format_word word = has_key (codes "name=") word || has_key (codes "engine=") word || has_key (codes "options=") word || has_key (codes "patterns=") word || has_key (codes "mode=") word || has_key (codes "fmttriggers=") word

-- whether a key of a format comes twice
abbrev pub is_format_repeated : List (List ℕ) → Bool
is_format_repeated words = is_repeated (codes "name=") words || is_repeated (codes "engine=") words || is_repeated (codes "options=") words || is_repeated (codes "patterns=") words || is_repeated (codes "mode=") words || is_repeated (codes "fmttriggers=") words

-- whether a format is disabled: an absent mode is `enabled`
abbrev pub read_mode : Option (List ℕ) → Result Bool ExecuteKind
read_mode None = Ok false
read_mode (Some mode) = if bytes_eq mode (codes "disabled") then Ok true else (if bytes_eq mode (codes "enabled") then Ok false else Err Value)

-- a format whose name and engine are given
abbrev pub format_from : List ℕ → List ℕ → List (List ℕ) → Result Execute ExecuteKind
format_from name engine words =
    and_then (read_full name) (λ name. and_then (read_full engine) (λ engine.
    and_then (read_option (value_of (codes "options=") words)) (λ options. and_then (read_option (value_of (codes "patterns=") words)) (λ patterns.
    and_then (read_mode (value_of (codes "mode=") words)) (λ disabled. and_then (read_list (value_of (codes "fmttriggers=") words)) (λ triggers.
    Ok (Format name engine options patterns disabled triggers)))))))

-- a format by the words behind its first
abbrev pub read_format : List (List ℕ) → Result Execute ExecuteKind
read_format words =
    if not (list_all is_format_word words) then Err Key else (if is_format_repeated words then Err Repeated else
    and_then (required (value_of (codes "name=") words)) (λ name. and_then (required (value_of (codes "engine=") words)) (λ engine. format_from name engine words)))

-- whether a word begins with a key of a hyphenation
abbrev pub is_hyphen_word : List ℕ → Bool
is_hyphen_word word = has_key (codes "name=") word || has_key (codes "lefthyphenmin=") word || has_key (codes "righthyphenmin=") word || has_key (codes "synonyms=") word || has_key (codes "file=") word || has_key (codes "file_patterns=") word || has_key (codes "file_exceptions=") word || has_key (codes "luaspecial=") word || has_key (codes "databases=") word || has_key (codes "comment=") word

-- whether a key of a hyphenation comes twice
abbrev pub is_hyphen_repeated : List (List ℕ) → Bool
is_hyphen_repeated words = is_repeated (codes "name=") words || is_repeated (codes "lefthyphenmin=") words || is_repeated (codes "righthyphenmin=") words || is_repeated (codes "synonyms=") words || is_repeated (codes "file=") words || is_repeated (codes "file_patterns=") words || is_repeated (codes "file_exceptions=") words || is_repeated (codes "luaspecial=") words || is_repeated (codes "databases=") words || is_repeated (codes "comment=") words

-- a least number of letters; an absent or empty one is the default
abbrev pub read_least : ℕ → Option (List ℕ) → Result ℕ ExecuteKind
read_least default None = Ok default
read_least default (Some []) = Ok default
read_least default (Some (digit ∷ digits)) = if is_decimal (digit ∷ digits) && nat_lt (decimal_value (digit ∷ digits)) 4294967296 then Ok (decimal_value (digit ∷ digits)) else Err Number

-- a value that counts only where it has a byte
abbrev pub some_full : Option (List ℕ) → Option (List ℕ)
some_full None = None
some_full (Some []) = None
some_full (Some (b ∷ value)) = Some (b ∷ value)

-- whether a hyphenation stands in a database, by the list of its databases or by the default
abbrev pub is_listed : List ℕ → Bool → Option (List ℕ) → Bool
is_listed name default None = default
is_listed name default (Some databases) = list_any (λ word. bytes_eq word name || bytes_eq word (codes "all")) (slice_split (λ b. b == 44) databases)

-- a hyphenation whose name, file and least numbers are given
abbrev pub hyphen_from : List ℕ → List ℕ → ℕ → ℕ → List (List ℕ) → Result Execute ExecuteKind
hyphen_from name file left right words =
    and_then (read_full name) (λ name. and_then (read_full file) (λ file. and_then (read_list (value_of (codes "synonyms=") words)) (λ synonyms.
    and_then (read_option (some_full (value_of (codes "file_patterns=") words))) (λ patterns.
    and_then (read_option (some_full (value_of (codes "file_exceptions=") words))) (λ exceptions.
    and_then (read_option (some_full (value_of (codes "luaspecial=") words))) (λ special.
    let databases = value_of (codes "databases=") words in
    Ok (Hyphen name file left right synonyms (is_listed (codes "dat") true databases) (is_listed (codes "def") true databases)
    (is_listed (codes "lua") (is_some patterns || is_some exceptions || is_some special) databases) patterns exceptions special)))))))

-- the least numbers of letters at the left and at the right
abbrev pub least_of : List (List ℕ) → Result (ℕ × ℕ) ExecuteKind
least_of words =
    and_then (read_least 2 (value_of (codes "lefthyphenmin=") words)) (λ left. and_then (read_least 3 (value_of (codes "righthyphenmin=") words)) (λ right. Ok (left, right)))

-- a hyphenation by the words behind its first
abbrev pub read_hyphen : List (List ℕ) → Result Execute ExecuteKind
read_hyphen words =
    if not (list_all is_hyphen_word words) then Err Key else (if is_hyphen_repeated words then Err Repeated else
    and_then (required (value_of (codes "name=") words)) (λ name. and_then (required (value_of (codes "file=") words)) (λ file.
    and_then (least_of words) (λ least. hyphen_from name file least.0 least.1 words))))

-- an execute by its first word and those behind it
abbrev pub read_first : List ℕ → List (List ℕ) → Result Execute ExecuteKind
read_first first words =
    if bytes_eq first (codes "addMap") then read_map Plain words else
    (if bytes_eq first (codes "addMixedMap") then read_map Mixed words else
    (if bytes_eq first (codes "addKanjiMap") then read_map Kanji words else
    (if bytes_eq first (codes "AddFormat") then read_format words else
    (if bytes_eq first (codes "AddHyphen") then read_hyphen words else Err Word))))

-- an execute by its words
abbrev pub read_words : List (List ℕ) → Result Execute ExecuteKind
read_words [] = Err Word
read_words (first ∷ words) = read_first first words

-- what an execute says, or the first kind of fault that it has
abbrev pub read_execute : List ℕ → Result Execute ExecuteKind
read_execute text = if is_open_after false text then Err Quote else read_words (quoted_words text)

-- a refusal for a double quote without partner; want of memory has no cause
abbrev pub IsUnquoted : List ℕ → ExecuteError → Type 0
IsUnquoted text (BadExecute kind) = (kind ≡ Quote) × (is_open_after false text ≡ true)
IsUnquoted text NoMemory = Unit {0}
