-- References (XML 1.0, sections 4.1 and 4.6): what stands between `&` and `;`.
use Rattle.std.specs.Prelude.{ℕ, ◌+◌, ◌-◌, ◌*◌, ◌==◌, nat_lt, Bool, true, false, not, ◌&&◌, ◌||◌, if◌then◌else◌, List, [], ◌∷◌, ◌++◌, codes, fold, slice_index}
use Rattle.std.specs.Int.{is_in_range}
use Rattle.std.specs.List.{list_all}
use Rattle.std.specs.Str.{bytes_eq}
use Rattle.xml_tokens.specs.Characters.{is_digit, is_name_start, is_name_byte, is_name, is_character, ends_forbidden}
use Rattle.xml_tokens.specs.declared.references.Reference.{Reference}
use Rattle.xml_tokens.specs.declared.references.Reference.TheVariants.{Character, Unknown, Malformed}

abbrev pub is_hex_digit : ℕ → Bool
is_hex_digit b = is_digit b || (is_in_range 97 102 b || is_in_range 65 70 b)

-- the number of a digit, in either case
abbrev pub digit_number : ℕ → ℕ
digit_number b = if nat_lt b 65 then b - 48 else (if nat_lt b 97 then b - 55 else b - 87)

-- the number that digits stand for in a base, the highest first
abbrev pub number_of : ℕ → List ℕ → ℕ
number_of base digits = fold (λ n d. n * base + digit_number d) 0 digits

-- the character with a number, where it is one of XML's (4.1, Legal Character)
abbrev pub character_numbered : ℕ → Reference
character_numbered n = if is_character n then Character n else Malformed

-- at least one digit, and digits alone
abbrev pub are_digits : (ℕ → Bool) → List ℕ → Bool
are_digits is_one [] = false
are_digits is_one (b ∷ bs) = is_one b && list_all is_one bs

abbrev pub decimal_reference : List ℕ → Reference
decimal_reference ds = if are_digits is_digit ds then character_numbered (number_of 10 ds) else Malformed

abbrev pub hexadecimal_reference : List ℕ → Reference
hexadecimal_reference ds = if are_digits is_hex_digit ds then character_numbered (number_of 16 ds) else Malformed

-- behind `#`: `x` and hexadecimal digits, or decimal digits (CharRef)
abbrev pub character_reference : List ℕ → Reference
character_reference [] = Malformed
character_reference (b ∷ bs) = if b == 120 then hexadecimal_reference bs else decimal_reference (b ∷ bs)

-- one of the five predefined entities (4.6), another name, or no name (EntityRef)
abbrev pub entity_reference : List ℕ → Reference
entity_reference name =
    if bytes_eq name (codes "amp") then Character 38
    else (if bytes_eq name (codes "lt") then Character 60
    else (if bytes_eq name (codes "gt") then Character 62
    else (if bytes_eq name (codes "apos") then Character 39
    else (if bytes_eq name (codes "quot") then Character 34
    else (if is_name name then Unknown else Malformed)))))

-- what a reference stands for
unfoldable pub referred : List ℕ → Reference
referred [] = Malformed
referred (b ∷ bs) = if b == 35 then character_reference bs else entity_reference (b ∷ bs)

-- the last two of two bytes and more
abbrev pub last_two : ℕ → ℕ → List ℕ → List ℕ
last_two a b [] = a ∷ b ∷ []
last_two a b (c ∷ cs) = last_two b c cs

-- a byte ends a character that is none of XML's, behind the last two of a list
abbrev pub ends_forbidden_after : List ℕ → ℕ → Bool
ends_forbidden_after bs c = ends_forbidden (slice_index (last_two 0 0 bs) 0) (slice_index (last_two 0 0 bs) 1) c

abbrev pub number_goes_on : List ℕ → ℕ → Bool
number_goes_on [] b = b == 120 || is_digit b
number_goes_on (x ∷ xs) b = if x == 120 then is_hex_digit b else is_digit b

-- Behind `&` and the bytes so far, a byte other than `;` goes on a reference.
unfoldable pub reference_goes_on : List ℕ → ℕ → Bool
reference_goes_on [] b = b == 35 || is_name_start b
reference_goes_on (x ∷ xs) b = if x == 35 then number_goes_on xs b else is_name_byte b && not (ends_forbidden_after (x ∷ xs) b)

-- each byte goes on the reference that those before it began
abbrev pub each_goes_on : List ℕ → List ℕ → Bool
each_goes_on so_far [] = true
each_goes_on so_far (b ∷ bs) = reference_goes_on so_far b && each_goes_on (so_far ++ b ∷ []) bs
