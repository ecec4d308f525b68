-- Short texts of one line.
use Rattle.std.specs.Prelude.{◌≡◌, ℕ, ◌≤◌, ◌==◌, Bool, true, false, not, ◌&&◌, nat_le, List, length}
use Rattle.std.specs.List.{list_all}
use Rattle.std.specs.Str.{is_utf8, IsUtf8}
use Rattle.std.proofs.Common.{refl, sym}
use Rattle.std.proofs.lemmas.Bool.{true≢false, false_from_ne_true, le-leb, leb-true}
use Rattle.std.proofs.lemmas.Str.{IsUtf8-from_is_utf8, is_utf8-from_IsUtf8}
use Rattle.std.proofs.lemmas.List.Elements.{All-weaker}
use Rattle.std.proofs.lemmas.List.Sums.{AllPass-from_list_all}
use Rattle.tl_model.specs.Lines.{IsLine}
use Rattle.tl_text.specs.declared.text.TextError.{TextError}
use Rattle.tl_text.specs.declared.text.TextError.TheVariants.{NotText, NoMemory}

-- whether bytes are a Text: UTF-8 without a line end, of 65,536 bytes at most
abbrev pub is_text : List ℕ → Bool
is_text bytes = is_utf8 bytes && (list_all (λ b. not (b == 10)) bytes && nat_le (length bytes) 65536)

-- bytes are a Text: UTF-8 without a line end, of 65,536 bytes at most
abbrev pub IsText : List ℕ → Type 0
IsText bytes = is_text bytes ≡ true

both_true : (a b : Bool) → a ≡ true → b ≡ true → (a && b) ≡ true
both_true a b is more = rw (is, more) refl

from_both : (a b : Bool) → (a && b) ≡ true → (a ≡ true) × (b ≡ true)
from_both true b is = (refl, is)
from_both false b is = absurd (true≢false (sym is))

from_not : (a : Bool) → not a ≡ true → a ≡ false
from_not true is = sym is
from_not false is = refl

-- bytes that aren't UTF-8 are no Text
pub not_text-utf8 : (bytes : List ℕ) → ¬ (IsUtf8 bytes) → is_text bytes ≡ false
not_text-utf8 bytes none = false_from_ne_true _ (λ is. none (IsUtf8-from_is_utf8 bytes (from_both _ _ is).0))

-- what makes bytes a Text
pub IsText-from : (bytes : List ℕ) → IsUtf8 bytes → list_all (λ b. not (b == 10)) bytes ≡ true → length bytes ≤ 65536 → IsText bytes
IsText-from bytes utf8 line short =
    both_true _ _ (is_utf8-from_IsUtf8 bytes utf8) (both_true _ _ line (le-leb (length bytes) 65536 short))

-- a Text is UTF-8
pub IsUtf8-from_text : (bytes : List ℕ) → IsText bytes → IsUtf8 bytes
IsUtf8-from_text bytes is = IsUtf8-from_is_utf8 bytes (from_both _ _ is).0

-- a Text has no line end
pub IsLine-from_text : (bytes : List ℕ) → IsText bytes → IsLine bytes
IsLine-from_text bytes is =
    All-weaker (λ b. not (b == 10) ≡ true) (λ b. (b == 10) ≡ false) (λ b h. from_not (b == 10) h) bytes (AllPass-from_list_all (λ b. not (b == 10)) bytes (from_both _ _ (from_both _ _ is).1).0)

-- a Text has 65,536 bytes at most
pub length-text : (bytes : List ℕ) → IsText bytes → length bytes ≤ 65536
length-text bytes is = leb-true (length bytes) 65536 (from_both _ _ (from_both _ _ is).1).1

-- the cause of each refusal of a Text; want of memory has none
abbrev pub IsTextFault : List ℕ → TextError → Type 0
IsTextFault bytes NotText = is_text bytes ≡ false
IsTextFault bytes NoMemory = Unit {0}
