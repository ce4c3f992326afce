-- Classes of bytes and characters (XML 1.0, fifth edition, sections 2.2 and 2.3; Namespaces in XML 1.0, section 4).
-- A text is the list of its UTF-8 bytes. Each byte from 128 on is part of a character from U+0080 on.
-- Names are wider than those of XML beyond ASCII: there each of XML's characters may begin a name and go on one, where
-- XML 1.0 has some of them only (2.3, NameStartChar and NameChar): U+00D7 and U+2028 are in no name of XML's.
use Rattle.std.specs.Prelude.{ℕ, Bool, true, false, not, ◌&&◌, ◌||◌, ◌==◌, nat_lt, nat_le, List, [], ◌∷◌}
use Rattle.std.specs.Int.{is_in_range}
use Rattle.std.specs.List.{list_all}

-- white space (XML 1.0, 2.3, S): a space, a tab, a line feed or a carriage return
abbrev pub is_white : ℕ → Bool
is_white b = b == 32 || (b == 9 || (b == 10 || b == 13))

abbrev pub is_digit : ℕ → Bool
is_digit b = is_in_range 48 57 b

abbrev pub is_letter : ℕ → Bool
is_letter b = is_in_range 97 122 b || is_in_range 65 90 b

-- what a name may begin with: an ASCII letter, `_`, and each character from U+0080 on
abbrev pub is_name_start : ℕ → Bool
is_name_start b = is_letter b || (b == 95 || nat_le 128 b)

-- what a name may go on with: a digit, `-` and `.` too
abbrev pub is_name_byte : ℕ → Bool
is_name_byte b = is_name_start b || (is_digit b || (b == 45 || b == 46))

-- one of ASCII
abbrev pub is_ascii_name_byte : ℕ → Bool
is_ascii_name_byte b = is_name_byte b && nat_lt b 128

abbrev pub begins_as_name : List ℕ → Bool
begins_as_name [] = false
begins_as_name (b ∷ bs) = is_name_start b

-- the characters of XML (2.2, Char)
abbrev pub is_character : ℕ → Bool
is_character c = c == 9 || (c == 10 || (c == 13 || (is_in_range 32 55295 c || (is_in_range 57344 65533 c || is_in_range 65536 1114111 c))))

-- a control character that is none of XML's
abbrev pub is_control : ℕ → Bool
is_control b = nat_lt b 32 && not (b == 9 || (b == 10 || b == 13))

-- Behind the bytes a and b, the byte c ends a character of UTF-8 that is none of XML's: a control character, or
-- U+FFFE or U+FFFF, whose bytes are EF BF BE and EF BF BF.
abbrev pub ends_forbidden : ℕ → ℕ → ℕ → Bool
ends_forbidden a b c = is_control c || ((a == 239 && b == 191) && (c == 190 || c == 191))

-- behind the bytes a and b, each character of a text is one of XML's
abbrev pub are_characters_after : ℕ → ℕ → List ℕ → Bool
are_characters_after a b [] = true
are_characters_after a b (c ∷ cs) = not (ends_forbidden a b c) && are_characters_after b c cs

-- each character of a text is one of XML's
unfoldable pub are_characters : List ℕ → Bool
are_characters bs = are_characters_after 0 0 bs

-- each byte can go on a name
abbrev pub go_on : List ℕ → Bool
go_on bs = list_all is_name_byte bs

-- begins as a name does, and goes on so
abbrev pub is_named : List ℕ → Bool
is_named [] = false
is_named (b ∷ bs) = is_name_start b && go_on bs

-- a name without a colon (Namespaces in XML 1.0, section 3, NCName), wider than XML's beyond ASCII as the head says
abbrev pub is_name : List ℕ → Bool
is_name bs = is_named bs && are_characters bs
