-- The forms of operands, and which operands may come.
use Rattle.std.specs.Prelude.{ℕ, ◌==◌, ◌&&◌, Bool, true, false, not, if◌then◌else◌, List, length, codes, Option, Some, None, is_some, is_none, find, nat_le, bytes_eq}
use Rattle.std.specs.List.{list_any, list_all}
use Rattle.tl_model.specs.Decimal.{is_decimal, decimal_value}
use Rattle.tl_path.specs.Names.{is_name, is_tag}
use Rattle.tl_path.specs.Path.{path_fault}
use Rattle.tl_path.specs.Kinds.{check_word, all_checks}
use Rattle.tl_action.specs.declared.form.Form.{Form}
use Rattle.tl_action.specs.declared.form.Form.TheVariants as forms
use Rattle.tl_action.specs.declared.form.PinWord.{PinWord}
use Rattle.tl_action.specs.declared.form.PinWord.TheVariants.{Show, Add, Remove}
use Rattle.tl_action.specs.declared.expected.Expected.{Expected}
use Rattle.tl_action.specs.declared.expected.Expected.TheVariants.{Nothing, MayName, SomeNames, AnyNames, OneWord, OneCheck, OneComponent, OneCount, MayNameAndRevision, MayRevision, MayNameAndWords, AnyWords, Pins, PinsWithAll, TagAndGlobs, TagAndAnyGlobs, SomeGlobs, AnyGlobs}

-- whether a text is a decimal number within bounds
abbrev pub is_number_within : ℕ → ℕ → List ℕ → Bool
is_number_within least most text = is_decimal text && (nat_le least (decimal_value text) && nat_le (decimal_value text) most)

-- a component of a path: a path without a '/'
abbrev pub is_component : List ℕ → Bool
is_component text = is_none (path_fault text) && not (list_any (λ b. b == 47) text)

-- whether a glob of pins may have the byte: from 0x21 to 0x7E, but for ',' and ':'
abbrev pub is_of_glob : ℕ → Bool
is_of_glob b = (nat_le 33 b && nat_le b 126) && not (b == 44) && not (b == 58)

-- a glob of pins: 1 to 128 such bytes
abbrev pub is_glob : List ℕ → Bool
is_glob text = nat_le 1 (length text) && (nat_le (length text) 128 && list_all is_of_glob text)

-- what the first operand of `pinning` asks for
abbrev pub pin_word : List ℕ → Option PinWord
pin_word text = if bytes_eq text (codes "show") then Some Show
    else (if bytes_eq text (codes "add") then Some Add
    else (if bytes_eq text (codes "remove") then Some Remove else None))

-- whether an operand has a form
abbrev pub fits : Form → List ℕ → Bool
fits forms.Name text = is_name text
fits forms.Word text = true
fits forms.Check text = is_some (find (λ check. bytes_eq (check_word check) text) all_checks)
fits forms.Component text = is_component text
fits forms.Count text = is_number_within 1 1000 text
fits forms.Revision text = is_number_within 0 4294967295 text
fits forms.Pin text = is_some (pin_word text)
fits forms.Tag text = is_tag text
fits forms.Glob text = is_glob text

-- the form of the next operand, if one may come
abbrev pub form_of : Expected → Option Form
form_of Nothing = None
form_of OneWord = Some forms.Word
form_of AnyWords = Some forms.Word
form_of OneCheck = Some forms.Check
form_of OneComponent = Some forms.Component
form_of OneCount = Some forms.Count
form_of MayRevision = Some forms.Revision
form_of Pins = Some forms.Pin
form_of PinsWithAll = Some forms.Pin
form_of TagAndGlobs = Some forms.Tag
form_of TagAndAnyGlobs = Some forms.Tag
form_of SomeGlobs = Some forms.Glob
form_of AnyGlobs = Some forms.Glob
form_of _ = Some forms.Name

-- whether one more operand has to come
abbrev pub is_needed : Expected → Bool
is_needed Nothing = false
is_needed MayName = false
is_needed AnyNames = false
is_needed MayNameAndRevision = false
is_needed MayRevision = false
is_needed MayNameAndWords = false
is_needed AnyWords = false
is_needed AnyGlobs = false
is_needed _ = true

-- what comes after the first operand of `pinning`
abbrev pub after_pin : Bool → Option PinWord → Expected
after_pin with_all (Some Add) = TagAndGlobs
after_pin with_all (Some Remove) = if with_all then TagAndAnyGlobs else TagAndGlobs
after_pin with_all _ = Nothing

-- what comes after an operand
abbrev pub after : Expected → List ℕ → Expected
after SomeNames word = AnyNames
after AnyNames word = AnyNames
after MayNameAndRevision word = MayRevision
after MayNameAndWords word = AnyWords
after AnyWords word = AnyWords
after Pins word = after_pin false (pin_word word)
after PinsWithAll word = after_pin true (pin_word word)
after TagAndGlobs word = SomeGlobs
after TagAndAnyGlobs word = AnyGlobs
after SomeGlobs word = AnyGlobs
after AnyGlobs word = AnyGlobs
after _ word = Nothing
