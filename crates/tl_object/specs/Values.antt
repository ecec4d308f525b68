-- What the values of an entry's lines stand for.
use Rattle.std.specs.Prelude.{◌≡◌, ℕ, ◌^◌, ◌&&◌, nat_lt, Bool, true, false, if◌then◌else◌, List, take, drop, codes, length, Option, Some, None, is_none, Result, Ok, Err}
use Rattle.std.specs.Str.{bytes_eq}
use Rattle.std.specs.Result.{result_ok}
use Rattle.hex.specs.Hex.{decode_sized}
use Rattle.tl_model.specs.Decimal.{is_decimal, decimal_value}
use Rattle.tl_text.specs.Texts.{is_text}
use Rattle.tl_path.specs.declared.kinds.Category.{Category}
use Rattle.tl_path.specs.declared.kinds.Category.TheVariants.{Package, TLCore, ConTeXt, Collection, Scheme}
use Rattle.tl_path.specs.Names.{is_name}
use Rattle.tl_path.specs.Path.{path_fault}
use Rattle.tl_object.specs.Cuts.{cut}
use Rattle.tl_path.specs.Names.{is_platform}
use Rattle.tl_object.specs.declared.fault.LineKind.{LineKind}
use Rattle.tl_object.specs.declared.fault.LineKind.TheVariants as kinds
use Rattle.tl_object.specs.declared.fault.LineFault.{LineFault}
use Rattle.tl_object.specs.declared.fault.LineFault.TheVariants as faults

infixl 10 ◌>>=◌
-- the second step of a reading, where the first gave a value; else the fault of the first
abbrev pub ◌>>=◌ : {A B : Type 0} → Result A LineKind → (A → Result B LineKind) → Result B LineKind
(Ok x) >>= f = f x
(Err e) >>= f = Err e

-- a fault that a reader answered is that of the reading; want of memory says nothing
abbrev pub Fails : {A : Type 0} → LineFault → Result A LineKind → Type 0
Fails faults.NoMemory reading = Unit {0}
Fails (faults.Bad kind) reading = reading ≡ Err kind

-- what a reader answered is the reading, unless memory ran out
abbrev pub Gives : {A : Type 0} → Result A LineFault → Result A LineKind → Type 0
Gives (Ok x) reading = reading ≡ Ok x
Gives (Err e) reading = Fails e reading

-- the value, where it has its form
abbrev pub formed : Bool → List ℕ → LineKind → Result (List ℕ) LineKind
formed form bytes kind = if form then Ok bytes else Err kind

-- a text of one line
abbrev pub text_value : List ℕ → Result (List ℕ) LineKind
text_value value = formed (is_text value) value kinds.Value

-- the name of a package
abbrev pub name_value : List ℕ → Result (List ℕ) LineKind
name_value value = formed (is_name value) value kinds.Value

-- a file's path
abbrev pub path_value : List ℕ → Result (List ℕ) LineKind
path_value value = formed (is_none (path_fault value)) value kinds.File

-- a number below a limit, from its decimal digits
abbrev pub number_value : ℕ → List ℕ → Result ℕ LineKind
number_value limit value =
    if is_decimal value && nat_lt (decimal_value value) limit then Ok (decimal_value value) else Err kinds.Value

-- the category of a word
abbrev pub category_value : List ℕ → Result Category LineKind
category_value value =
    if bytes_eq value (codes "Package") then Ok Package
    else if bytes_eq value (codes "TLCore") then Ok TLCore
    else if bytes_eq value (codes "ConTeXt") then Ok ConTeXt
    else if bytes_eq value (codes "Collection") then Ok Collection
    else if bytes_eq value (codes "Scheme") then Ok Scheme
    else Err kinds.Value

-- whether an entry is relocated
abbrev pub flag_value : List ℕ → Result Bool LineKind
flag_value value =
    if bytes_eq value (codes "1") then Ok true
    else if bytes_eq value (codes "0") then Ok false
    else Err kinds.Value

-- the bytes of a digest, where its digits read
abbrev pub or_value : Option (List ℕ) → Result (List ℕ) LineKind
or_value None = Err kinds.Value
or_value (Some digest) = Ok digest

-- the bytes that 128 hexadecimal digits of either case stand for
abbrev pub digest_value : List ℕ → Result (List ℕ) LineKind
digest_value value = or_value (result_ok (decode_sized value 64))

-- what stands after a word at the front of a text; None where another front stands there
abbrev pub stripped : List ℕ → List ℕ → Option (List ℕ)
stripped word text = if bytes_eq (take (length word) text) word then Some (drop (length word) text) else None

-- the number of blocks behind `size=`
abbrev pub blocks_after : Option (List ℕ) → Result ℕ LineKind
blocks_after None = Err kinds.Value
blocks_after (Some digits) = number_value (2 ^ 64) digits

-- the number of blocks that a section states, as in `size=3`
abbrev pub blocks_value : List ℕ → Result ℕ LineKind
blocks_value value = blocks_after (stripped (codes "size=") value)

-- a platform and the number of blocks that a text states
abbrev pub platform_with : List ℕ → List ℕ → Result (List ℕ × ℕ) LineKind
platform_with platform sized = do
  name ← formed (is_platform platform) platform kinds.Value
  blocks ← blocks_value sized
  Ok (name, blocks)

-- the platform and the number of blocks, whichever of the two parts begins with `arch=`
abbrev pub arch_in_either : Option (List ℕ) → Option (List ℕ) → List ℕ → List ℕ → Result (List ℕ × ℕ) LineKind
arch_in_either (Some platform) other first second = platform_with platform second
arch_in_either None (Some platform) first second = platform_with platform first
arch_in_either None None first second = Err kinds.Value

-- the platform and the number of blocks of a value, cut at its first space
abbrev pub bin_parts : Option (List ℕ × List ℕ) → Result (List ℕ × ℕ) LineKind
bin_parts None = Err kinds.Value
bin_parts (Some parts) =
    arch_in_either (stripped (codes "arch=") parts.0) (stripped (codes "arch=") parts.1) parts.0 parts.1

-- the platform and the number of blocks of a section of binaries, as in `arch=linux size=3`, in either order
abbrev pub bin_value : List ℕ → Result (List ℕ × ℕ) LineKind
bin_value value = bin_parts (cut 32 value)
