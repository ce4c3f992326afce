-- Classes of bytes (RFC 5802, section 7).
use Rattle.std.specs.Prelude.{ℕ, ◌==◌, nat_le, Bool, ◌&&◌, ◌||◌, not}

abbrev pub is_within : ℕ → ℕ → ℕ → Bool
is_within low high b = nat_le low b && nat_le b high

-- printable: %x21-2B / %x2D-7E
abbrev pub is_printable : ℕ → Bool
is_printable b = is_within 0x21 0x2B b || is_within 0x2D 0x7E b

abbrev pub is_letter : ℕ → Bool
is_letter b = is_within 65 90 b || is_within 97 122 b

abbrev pub is_digit : ℕ → Bool
is_digit b = is_within 48 57 b

-- a digit that is no 0
abbrev pub is_count_start : ℕ → Bool
is_count_start b = is_within 49 57 b

-- what the name of a channel binding has: letters, digits, `.` and `-`
abbrev pub is_binding : ℕ → Bool
is_binding b = is_letter b || is_digit b || b == 45 || b == 46

-- the character of one byte that a value may have: any but 0 and the comma
abbrev pub is_value_ascii : ℕ → Bool
is_value_ascii b = is_within 1 127 b && not (b == 44)
