-- Parts that are in normal form as they stand: what the quick tests of `parse` say.
use Rattle.std.specs.Prelude.{ℕ, Bool, true, false, not, ◌&&◌, ◌||◌, ◌==◌, List, [], ◌∷◌, if◌then◌else◌}
use Rattle.std.specs.Char.{is_ascii_lowercase, is_ascii_digit}
use Rattle.std.specs.Int.{is_in_range}

-- a lower-case letter, a digit or a full stop
abbrev pub is_plain_byte : ℕ → Bool
is_plain_byte b = is_ascii_lowercase b || is_ascii_digit b || (b == 0x2E)

-- Such bytes and single hyphens alone, so that no label begins with `xn--`. The first argument says whether a
-- hyphen stands before.
abbrev pub is_plain_name : Bool → List ℕ → Bool
is_plain_name hyphen [] = true
is_plain_name hyphen (b ∷ bs) = if b == 0x2D then not hyphen && is_plain_name true bs else is_plain_byte b && is_plain_name false bs

-- printable ASCII and spaces
abbrev pub is_printable : ℕ → Bool
is_printable b = is_in_range 0x20 0x7E b
