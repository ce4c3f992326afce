-- Archive ids: an entry's number as 16 lower-case hexadecimal digits. XEP-0313 leaves the form of an id to the
-- server, and asks that it be unique in the archive.
use Rattle.std.specs.Prelude.{ℕ, ◌+◌, ◌-◌, ◌*◌, ◌==◌, ◌&&◌, nat_le, nat_lt, List, [], ◌∷◌, length, Option, Some, None, if◌then◌else◌}
use Rattle.base_lemmas.specs.Hexadecimal.{hex16_of}

abbrev pub id_of : ℕ → List ℕ
id_of n = hex16_of n

-- the value of a lower-case hexadecimal digit, and 16 where the byte is none
abbrev pub digit_value : ℕ → ℕ
digit_value c = if nat_le 48 c && nat_le c 57 then c - 48 else (if nat_le 97 c && nat_le c 102 then c - 87 else 16)

-- the number that digits spell behind those of `n`
abbrev pub digits_read : ℕ → List ℕ → Option ℕ
digits_read n [] = Some n
digits_read n (c ∷ cs) = if nat_lt (digit_value c) 16 then digits_read (n * 16 + digit_value c) cs else None

abbrev pub unless_zero : Option ℕ → Option ℕ
unless_zero None = None
unless_zero (Some n) = if nat_lt 0 n then Some n else None

-- the number of the entry whose id a text is: entries are numbered from 1
unfoldable pub number_read : List ℕ → Option ℕ
number_read id = if length id == 16 then unless_zero (digits_read 0 id) else None
