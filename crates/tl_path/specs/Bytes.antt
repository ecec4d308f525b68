-- The bytes that the forms allow.
use Rattle.std.specs.Prelude.{ℕ, ◌==◌, ◌&&◌, ◌||◌, nat_le, Bool}

-- a digit of ASCII
abbrev pub is_digit : ℕ → Bool
is_digit b = nat_le 48 b && nat_le b 57

-- a lower case letter of ASCII
abbrev pub is_lower : ℕ → Bool
is_lower b = nat_le 97 b && nat_le b 122

-- an upper case letter of ASCII
abbrev pub is_upper : ℕ → Bool
is_upper b = nat_le 65 b && nat_le b 90

-- a letter or digit of ASCII
abbrev pub is_letter_or_digit : ℕ → Bool
is_letter_or_digit b = is_lower b || (is_upper b || is_digit b)

-- a byte of a name: a letter, a digit, '.', '_', '-' or '+'
abbrev pub is_of_name : ℕ → Bool
is_of_name b = is_letter_or_digit b || (b == 46 || (b == 95 || (b == 45 || b == 43)))

-- a byte of a tag: a letter, a digit, '_' or '-'
abbrev pub is_of_tag : ℕ → Bool
is_of_tag b = is_letter_or_digit b || (b == 95 || b == 45)

-- a lower case letter or digit
abbrev pub is_lower_or_digit : ℕ → Bool
is_lower_or_digit b = is_lower b || is_digit b

-- a byte of a platform: a lower case letter, a digit, '_' or '-'
abbrev pub is_of_platform : ℕ → Bool
is_of_platform b = is_lower_or_digit b || (b == 95 || b == 45)

-- a space or a tab
abbrev pub is_blank : ℕ → Bool
is_blank b = b == 32 || b == 9

-- a byte that no path has: 0x20 and less, 0x7F, '"' and '\'
abbrev pub is_barred : ℕ → Bool
is_barred b = nat_le b 32 || (b == 127 || (b == 34 || b == 92))
