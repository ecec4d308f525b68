-- What the written lines of an entry say.
use Rattle.std.proofs.Common.{◌≡◌, ℕ, ◌==◌, ◌^◌, ◌<◌, ◌≤◌, Bool, true, false, cond, not, ◌&&◌, ltb, List, [], ◌∷◌, ◌++◌, length, Option, Some, Result, Ok, Err, refl, ◌∙◌, ap, arith, length-append}
use Rattle.std.specs.Prelude.{codes}
use Rattle.std.specs.List.{list_all}
use Rattle.std.specs.Str.{IsUtf8}
use Rattle.std.proofs.lemmas.Bool.Decides.{nat_tests}
use Rattle.std.proofs.lemmas.Str.{IsUtf8-append, IsUtf8-from_ascii, is_utf8-from_IsUtf8}
use Rattle.tl_model.specs.Decimal.{decimal_text}
use Rattle.tl_model.specs.Lines.{IsLine}
use Rattle.hex.specs.Hex.{encode_lower}
use Rattle.tl_text.specs.Texts.{is_text, IsText, IsUtf8-from_text, IsLine-from_text, length-text}
use Rattle.tl_path.proofs.Words.{name_utf8, platform_bytes, platform_short, word_all, word_short}
use Rattle.tl_path.specs.Bytes.{is_letter_or_digit, is_of_name}
use Rattle.tl_path.specs.Names.{is_name}
use Rattle.tl_path.specs.declared.kinds.Category.{Category}
use Rattle.tl_path.specs.declared.kinds.Category.TheVariants.{Package, TLCore, ConTeXt, Collection, Scheme}
use Rattle.tl_object.specs.Cuts.{cut}
use Rattle.tl_path.specs.Bytes.{is_of_platform}
use Rattle.tl_path.specs.Names.{is_platform}
use Rattle.tl_entry.specs.Forms.{is_fact_byte}
use Rattle.tl_entry.specs.Parts.{FactEntry}
use Rattle.tl_object.specs.Keys.{key_of}
use Rattle.tl_object.specs.Values.{◌>>=◌, formed, number_value, blocks_value, blocks_after, bin_value, bin_parts, arch_in_either, digest_value, stripped}
use Rattle.tl_object.specs.Grammar.{line_value, line_form, head_value, head_from, head_by, keyed, fact_of, fact_with}
use Rattle.tl_object.specs.Writing.{category_word}
use Rattle.tl_object.specs.Formed.{IsDigest, IsFormedFact}
use Rattle.tl_object.specs.Again.{IsFull}
use Rattle.tl_object.specs.declared.fault.LineKind.{LineKind}
use Rattle.tl_object.specs.declared.fault.LineKind.TheVariants as kinds
use Rattle.tl_object.specs.declared.key.Part.{Part}
use Rattle.tl_object.specs.declared.key.Part.TheVariants.{Run, Doc, Src}
use Rattle.tl_object.specs.declared.head.Head.{Head}
use Rattle.tl_object.specs.declared.head.Head.TheVariants as heads
use Rattle.tl_object.specs.Line as lines
use Rattle.tl_object.proofs.PlainLemmas.{line_append, line_spaced, line_of_number, line_of_platform, line_of_digest, line_tested}
use Rattle.tl_object.proofs.ValueLemmas.{both, not_nil, ascii_by, ascii_tested, utf8_of_number, utf8_spaced, utf8_of_digest, cut_at, stripped_front, short_number, number_again, length-digest, digest_again}

-- a byte of a key: no space, no `#` and no line end
abbrev pub is_key_byte : ℕ → Bool
is_key_byte b = ltb 35 b && ltb b 128

-- whether bytes are the key of a line
abbrev pub is_word : List ℕ → Bool
is_word [] = false
is_word (b ∷ word) = list_all is_key_byte (b ∷ word)

-- a line that a key begins, and what it says
pub record IsHead (line : List ℕ) (head : Head) : Type 0 where
  pub full : IsFull line
  pub says : line_value line ≡ Ok (lines.Head head)

key_byte : (b : ℕ) → is_key_byte b ≡ true → (b < 128) × ((b == 32) ≡ false) × ((b == 35) ≡ false) × ((b == 10) ≡ false)
key_byte b is = (grind (arith, nat_tests), grind (arith, nat_tests), grind (arith, nat_tests), grind (arith, nat_tests))

to_not : (a : Bool) → a ≡ false → not a ≡ true
to_not a is = ap not is

without : (at : ℕ) (word : List ℕ) → ((b : ℕ) → is_key_byte b ≡ true → (b == at) ≡ false) → list_all is_key_byte word ≡ true → list_all (λ b. not (b == at)) word ≡ true
without at [] apart is = refl
without at (b ∷ word) apart is =
    let parts = both (is_key_byte b) (list_all is_key_byte word) is in
    ap (λ t. t && list_all (λ c. not (c == at)) word) (to_not (b == at) (apart b parts.0)) ∙ without at word apart parts.1

line_of_word : (word : List ℕ) → list_all is_key_byte word ≡ true → IsLine word
line_of_word word is = line_tested word (without 10 word (λ b e. (key_byte b e).3) is)

-- what a key and a value say together
word_says : (word value : List ℕ) (head : Head) → is_word word ≡ true → IsUtf8 value → length value ≤ 65536 → head_by (key_of word) word value ≡ Ok head → line_value (word ++ 32 ∷ value) ≡ Ok (lines.Head head)
word_says [] value head is utf8 short by_key = absurd (cc)
word_says (b ∷ word) value head is utf8 short by_key =
    let whole : IsUtf8 ((b ∷ word) ++ 32 ∷ value) =
    IsUtf8-append (b ∷ word) (32 ∷ value) (IsUtf8-from_ascii (b ∷ word) (ascii_by is_key_byte (λ c e. (key_byte c e).0) (b ∷ word) is)) (utf8_spaced value utf8) in
    let parts = both (is_key_byte b) (list_all is_key_byte word) is in
    let parted : cut 32 ((b ∷ word) ++ 32 ∷ value) ≡ Some (b ∷ word, value) = cut_at 32 (b ∷ word) value (without 32 (b ∷ word) (λ c e. (key_byte c e).1) is) refl in
    let in_room : keyed (b ∷ word) value ≡ head_by (key_of (b ∷ word)) (b ∷ word) value =
    ap (λ t. cond t (Err kinds.TooLong) (head_by (key_of (b ∷ word)) (b ∷ word) value)) (not_long value short) in
    let head_is : head_value ((b ∷ word) ++ 32 ∷ value) ≡ Ok head = ap (head_from ((b ∷ word) ++ 32 ∷ value)) parted ∙ in_room ∙ by_key in
    ap (λ t. cond t (line_form ((b ∷ word) ++ 32 ∷ value)) (Err kinds.Utf8)) (is_utf8-from_IsUtf8 _ whole)
    ∙ form b (word ++ 32 ∷ value) ((key_byte b parts.0).1)
    ∙ ap (λ (r : Result Head LineKind). r >>= λ h. Ok (lines.Head h)) head_is
  where
    not_long : (value : List ℕ) → length value ≤ 65536 → ltb 65536 (length value) ≡ false
    not_long value short = grind (arith, nat_tests)

    form : (b : ℕ) (text : List ℕ) → (b == 32) ≡ false → line_form (b ∷ text) ≡ (head_value (b ∷ text) >>= λ h. Ok (lines.Head h))
    form b text other = rw other refl

word_full : (word value : List ℕ) → is_word word ≡ true → IsLine value → IsFull (word ++ 32 ∷ value)
word_full [] value is line = absurd (cc)
word_full (b ∷ word) value is line = record {
  ended = line_append (b ∷ word) (32 ∷ value) (line_of_word (b ∷ word) is) (line_spaced value line);
  counts = (key_byte b (both (is_key_byte b) (list_all is_key_byte word) is).0).2;
  full = not_nil b (word ++ 32 ∷ value);
}

pub word_head : (word value : List ℕ) (head : Head) → is_word word ≡ true → IsLine value → IsUtf8 value → length value ≤ 65536 → head_by (key_of word) word value ≡ Ok head → IsHead (word ++ 32 ∷ value) head
word_head word value head is line utf8 short by_key = record { full = word_full word value is line; says = word_says word value head is utf8 short by_key }

-- ---- each kind of line

-- a text under a key
pub text_head : (word text : List ℕ) (head : Head) → is_word word ≡ true → IsText text → head_by (key_of word) word text ≡ Ok head → IsHead (word ++ 32 ∷ text) head
text_head word text head is text_is by_key = word_head word text head is (IsLine-from_text text text_is) (IsUtf8-from_text text text_is) (length-text text text_is) by_key

-- a form that a value has
pub formed_by : (form : Bool) (value : List ℕ) (kind : LineKind) (make : List ℕ → Head) → form ≡ true → (formed form value kind >>= λ x. Ok (make x)) ≡ Ok (make value)
formed_by form value kind make is = ap (λ t. formed t value kind >>= λ x. Ok (make x)) is

name_short : (name : List ℕ) → is_name name ≡ true → length name ≤ 65536
name_short name is =
    let short = word_short is_letter_or_digit is_of_name 128 name is in omega arith

name_line : (name : List ℕ) → is_name name ≡ true → IsLine name
name_line name is = line_tested name (each name (word_all is_letter_or_digit is_of_name 128 name is))
  where
    byte : (b : ℕ) → is_of_name b ≡ true → not (b == 10) ≡ true
    byte b is = grind (arith, nat_tests)

    each : (bytes : List ℕ) → list_all is_of_name bytes ≡ true → list_all (λ b. not (b == 10)) bytes ≡ true
    each [] is = refl
    each (b ∷ bytes) is = let parts = both (is_of_name b) (list_all is_of_name bytes) is in ap (λ t. t && list_all (λ c. not (c == 10)) bytes) (byte b parts.0) ∙ each bytes parts.1

pub name_head : (name : List ℕ) → is_name name ≡ true → IsHead (codes "name" ++ 32 ∷ name) (heads.Name name)
name_head name is =
    word_head (codes "name") name (heads.Name name) refl (name_line name is) (name_utf8 name is) (name_short name is) (formed_by (is_name name) name kinds.Value heads.Name is)

literal_head : (word value : List ℕ) (head : Head) → is_word word ≡ true → list_all (λ b. ltb b 128 && not (b == 10)) value ≡ true → length value ≤ 65536 → head_by (key_of word) word value ≡ Ok head → IsHead (word ++ 32 ∷ value) head
literal_head word value head is plain short by_key =
    word_head word value head is (line_tested value (lined value plain)) (IsUtf8-from_ascii value (ascii_by (λ b. ltb b 128 && not (b == 10)) (λ b e. grind (arith, nat_tests)) value plain)) short by_key
  where
    lined : (bytes : List ℕ) → list_all (λ b. ltb b 128 && not (b == 10)) bytes ≡ true → list_all (λ b. not (b == 10)) bytes ≡ true
    lined [] is = refl
    lined (b ∷ bytes) is =
        let parts = both (ltb b 128 && not (b == 10)) (list_all (λ c. ltb c 128 && not (c == 10)) bytes) is in
        ap (λ t. t && list_all (λ c. not (c == 10)) bytes) (both (ltb b 128) (not (b == 10)) parts.0).1 ∙ lined bytes parts.1

pub category_head : (category : Category) → IsHead (codes "category" ++ 32 ∷ category_word category) (heads.Category category)
category_head Package = literal_head (codes "category") (codes "Package") (heads.Category Package) refl refl (omega arith) refl
category_head TLCore = literal_head (codes "category") (codes "TLCore") (heads.Category TLCore) refl refl (omega arith) refl
category_head ConTeXt = literal_head (codes "category") (codes "ConTeXt") (heads.Category ConTeXt) refl refl (omega arith) refl
category_head Collection = literal_head (codes "category") (codes "Collection") (heads.Category Collection) refl refl (omega arith) refl
category_head Scheme = literal_head (codes "category") (codes "Scheme") (heads.Category Scheme) refl refl (omega arith) refl

pub relocated_head : IsHead (codes "relocated" ++ 32 ∷ codes "1") (heads.Relocated true)
relocated_head = literal_head (codes "relocated") (codes "1") (heads.Relocated true) refl refl (omega arith) refl

number_head : (word : List ℕ) (limit n : ℕ) (make : ℕ → Head) → is_word word ≡ true → n < limit → n < 2 ^ 64
    → head_by (key_of word) word (decimal_text n) ≡ (number_value limit (decimal_text n) >>= λ m. Ok (make m)) → IsHead (word ++ 32 ∷ decimal_text n) (make n)
number_head word limit n make is below small by_key =
    let short = short_number n small in
    word_head word (decimal_text n) (make n) is (line_of_number n small) (utf8_of_number n small) (omega arith)
    (by_key ∙ ap (λ (r : Result ℕ LineKind). r >>= λ m. Ok (make m)) (number_again limit n below small))

pub revision_head : (n : ℕ) → n < 2 ^ 32 → IsHead (codes "revision" ++ 32 ∷ decimal_text n) (heads.Revision n)
revision_head n small = number_head (codes "revision") (2 ^ 32) n heads.Revision refl small (omega arith) refl

-- the key of the line that states a container's size
abbrev pub size_key : Part → List ℕ
size_key Run = codes "containersize"
size_key Doc = codes "doccontainersize"
size_key Src = codes "srccontainersize"

pub size_head : (part : Part) (n : ℕ) → n < 2 ^ 64 → IsHead (size_key part ++ 32 ∷ decimal_text n) (heads.Size part n)
size_head Run n small = number_head (size_key Run) (2 ^ 64) n (heads.Size Run) refl small small refl
size_head Doc n small = number_head (size_key Doc) (2 ^ 64) n (heads.Size Doc) refl small small refl
size_head Src n small = number_head (size_key Src) (2 ^ 64) n (heads.Size Src) refl small small refl

-- the key of the line that states a container's SHA-512
abbrev pub digest_key : Part → List ℕ
digest_key Run = codes "containerchecksum"
digest_key Doc = codes "doccontainerchecksum"
digest_key Src = codes "srccontainerchecksum"

digest_by : (word digest : List ℕ) (make : List ℕ → Head) → is_word word ≡ true → IsDigest digest
    → head_by (key_of word) word (encode_lower digest) ≡ (digest_value (encode_lower digest) >>= λ d. Ok (make d)) → IsHead (word ++ 32 ∷ encode_lower digest) (make digest)
digest_by word digest make is form by_key =
    let len = length-digest digest form in
    word_head word (encode_lower digest) (make digest) is (line_of_digest digest) (utf8_of_digest digest) (omega arith)
    (by_key ∙ ap (λ (r : Result (List ℕ) LineKind). r >>= λ d. Ok (make d)) (digest_again digest form))

pub digest_head : (part : Part) (digest : List ℕ) → IsDigest digest → IsHead (digest_key part ++ 32 ∷ encode_lower digest) (heads.Digest part digest)
digest_head Run digest is = digest_by (digest_key Run) digest (heads.Digest Run) refl is refl
digest_head Doc digest is = digest_by (digest_key Doc) digest (heads.Digest Doc) refl is refl
digest_head Src digest is = digest_by (digest_key Src) digest (heads.Digest Src) refl is refl

-- ---- sections

-- the blocks that a section states
abbrev pub sized : ℕ → List ℕ
sized blocks = codes "size=" ++ decimal_text blocks

blocks_again : (blocks : ℕ) → blocks < 2 ^ 64 → blocks_value (sized blocks) ≡ Ok blocks
blocks_again blocks small = ap blocks_after (stripped_front (codes "size=") (decimal_text blocks) refl) ∙ number_again (2 ^ 64) blocks small small

utf8_of_sized : (blocks : ℕ) → blocks < 2 ^ 64 → IsUtf8 (sized blocks)
utf8_of_sized blocks small = IsUtf8-append (codes "size=") (decimal_text blocks) (ascii_tested (codes "size=") refl) (utf8_of_number blocks small)

line_of_sized : (blocks : ℕ) → blocks < 2 ^ 64 → IsLine (sized blocks)
line_of_sized blocks small = line_append (codes "size=") (decimal_text blocks) (line_tested (codes "size=") refl) (line_of_number blocks small)

short_sized : (blocks : ℕ) → blocks < 2 ^ 64 → length (sized blocks) ≤ 25
short_sized blocks small = let short = short_number blocks small in omega (arith, length-append (codes "size=") (decimal_text blocks))

-- the key of the line that begins a section
abbrev pub files_key : Part → List ℕ
files_key Run = codes "runfiles"
files_key Doc = codes "docfiles"
files_key Src = codes "srcfiles"

files_by : (word : List ℕ) (part : Part) (blocks : ℕ) → is_word word ≡ true → blocks < 2 ^ 64
    → head_by (key_of word) word (sized blocks) ≡ (blocks_value (sized blocks) >>= λ n. Ok (heads.Files part n)) → IsHead (word ++ 32 ∷ sized blocks) (heads.Files part blocks)
files_by word part blocks is small by_key =
    let short = short_sized blocks small in
    word_head word (sized blocks) (heads.Files part blocks) is (line_of_sized blocks small) (utf8_of_sized blocks small) (omega arith)
    (by_key ∙ ap (λ (r : Result ℕ LineKind). r >>= λ n. Ok (heads.Files part n)) (blocks_again blocks small))

pub files_head : (part : Part) (blocks : ℕ) → blocks < 2 ^ 64 → IsHead (files_key part ++ 32 ∷ sized blocks) (heads.Files part blocks)
files_head Run blocks small = files_by (files_key Run) Run blocks refl small refl
files_head Doc blocks small = files_by (files_key Doc) Doc blocks refl small refl
files_head Src blocks small = files_by (files_key Src) Src blocks refl small refl

-- the platform and the blocks that a section of binaries states
abbrev pub arched : List ℕ → ℕ → List ℕ
arched platform blocks = (codes "arch=" ++ platform) ++ 32 ∷ sized blocks

platform_byte : (b : ℕ) → is_of_platform b ≡ true → (b < 128) × (not (b == 32) ≡ true)
platform_byte b is = (grind (arith, nat_tests), grind (arith, nat_tests))

no_space : (bytes : List ℕ) → list_all is_of_platform bytes ≡ true → list_all (λ b. not (b == 32)) bytes ≡ true
no_space [] is = refl
no_space (b ∷ bytes) is = let parts = both (is_of_platform b) (list_all is_of_platform bytes) is in ap (λ t. t && list_all (λ c. not (c == 32)) bytes) (platform_byte b parts.0).1 ∙ no_space bytes parts.1

abbrev pair_of : List ℕ → ℕ → Result (List ℕ × ℕ) LineKind
pair_of platform blocks = Ok (platform, blocks)

arched_again : (platform : List ℕ) (blocks : ℕ) → is_platform platform ≡ true → blocks < 2 ^ 64 → bin_value (arched platform blocks) ≡ Ok (platform, blocks)
arched_again platform blocks is small =
    let parted : cut 32 (arched platform blocks) ≡ Some (codes "arch=" ++ platform, sized blocks) = cut_at 32 (codes "arch=" ++ platform) (sized blocks) (no_space platform (platform_bytes platform is)) refl in
    let arch : stripped (codes "arch=") (codes "arch=" ++ platform) ≡ Some platform = stripped_front (codes "arch=") platform refl in
    ap bin_parts parted
    ∙ ap (λ (o : Option (List ℕ)). arch_in_either o (stripped (codes "arch=") (sized blocks)) (codes "arch=" ++ platform) (sized blocks)) arch
    ∙ ap (λ t. formed t platform kinds.Value >>= λ name. blocks_value (sized blocks) >>= λ n. pair_of name n) is
    ∙ ap (λ (r : Result ℕ LineKind). r >>= λ n. pair_of platform n) (blocks_again blocks small)

pub bin_head : (platform : List ℕ) (blocks : ℕ) → is_platform platform ≡ true → blocks < 2 ^ 64 → IsHead (codes "binfiles" ++ 32 ∷ arched platform blocks) (heads.Binfiles platform blocks)
bin_head platform blocks is small =
    let utf8 = IsUtf8-append (codes "arch=") platform (ascii_tested (codes "arch=") refl) (IsUtf8-from_ascii platform (ascii_by is_of_platform (λ b e. (platform_byte b e).0) platform (platform_bytes platform is))) in
    let line = line_append (codes "arch=") platform (line_tested (codes "arch=") refl) (line_of_platform platform is) in
    let short = short_sized blocks small in
    let named = platform_short platform is in
    word_head (codes "binfiles") (arched platform blocks) (heads.Binfiles platform blocks) refl
    (line_append (codes "arch=" ++ platform) (32 ∷ sized blocks) line (line_spaced (sized blocks) (line_of_sized blocks small)))
    (IsUtf8-append (codes "arch=" ++ platform) (32 ∷ sized blocks) utf8 (utf8_spaced (sized blocks) (utf8_of_sized blocks small)))
    (omega (arith, length-append (codes "arch=" ++ platform) (32 ∷ sized blocks), length-append (codes "arch=") platform))
    (ap (λ (r : Result (List ℕ × ℕ) LineKind). r >>= λ bin. Ok (heads.Binfiles bin.0 bin.1)) (arched_again platform blocks is small))

-- ---- facts

fact_word_byte : (b : ℕ) → is_fact_byte b ≡ true → is_key_byte b ≡ true
fact_word_byte b is = grind (arith, nat_tests)

fact_word_bytes : (bytes : List ℕ) → list_all is_fact_byte bytes ≡ true → list_all is_key_byte bytes ≡ true
fact_word_bytes [] is = refl
fact_word_bytes (b ∷ bytes) is = let parts = both (is_fact_byte b) (list_all is_fact_byte bytes) is in ap (λ t. t && list_all is_key_byte bytes) (fact_word_byte b parts.0) ∙ fact_word_bytes bytes parts.1

fact_again : (fact : FactEntry) → IsFormedFact fact → fact_of (codes "catalogue-" ++ fact.key) fact.value ≡ Ok (heads.Fact fact)
fact_again fact is =
    ap (λ (o : Option (List ℕ)). fact_with o fact.value) (stripped_front (codes "catalogue-") fact.key refl)
    ∙ ap (λ t. cond t (formed (is_text fact.value) fact.value kinds.Value >>= λ text. Ok (heads.Fact (record { key = fact.key; value = text }))) (Err kinds.Key)) is.key
    ∙ formed_by (is_text fact.value) fact.value kinds.Value (λ (text : List ℕ). heads.Fact (record { key = fact.key; value = text })) is.value

pub fact_head : (fact : FactEntry) → IsFormedFact fact → IsHead ((codes "catalogue-" ++ fact.key) ++ 32 ∷ fact.value) (heads.Fact fact)
fact_head fact is =
    text_head (codes "catalogue-" ++ fact.key) fact.value (heads.Fact fact) (fact_word_bytes fact.key (both _ _ (both _ _ is.key).1).1) is.value (fact_again fact is)
