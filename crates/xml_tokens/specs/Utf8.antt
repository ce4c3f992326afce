-- UTF-8 a byte at a time, by the table of RFC 3629, section 4 (table 3-7 of Unicode).
use Rattle.std.specs.Prelude.{ℕ, ◌≤◌, Bool, true, false, ◌==◌, nat_lt, if◌then◌else◌, List, [], ◌∷◌, ◌++◌, Option, Some, None, IsTrue, unwrap_or}
use Rattle.std.specs.Int.{is_in_range}
use Rattle.std.specs.Option.{is_some, option_and_then}
use Rattle.xml_tokens.specs.Characters.{ends_forbidden}

-- UTF8-tail
abbrev pub is_tail : ℕ → Bool
is_tail b = is_in_range 128 191 b

-- the first byte of a character of two to four bytes
abbrev pub is_lead : ℕ → Bool
is_lead b = is_in_range 194 244 b

-- the bytes that may follow the first byte x: no overlong form, no surrogate, nothing past U+10FFFF
abbrev pub is_second : ℕ → ℕ → Bool
is_second x b =
    if x == 224 then is_in_range 160 191 b
    else (if x == 237 then is_in_range 128 159 b
    else (if x == 240 then is_in_range 144 191 b
    else (if x == 244 then is_in_range 128 143 b else is_tail b)))

-- The bytes of the character in hand after one more byte, none of them where it ends the character. `None` where the
-- byte can't continue it.
unfoldable pub utf8_next : List ℕ → ℕ → Option (List ℕ)
utf8_next [] b = if nat_lt b 128 then Some [] else (if is_lead b then Some (b ∷ []) else None)
utf8_next (x ∷ []) b = if is_second x b then (if nat_lt x 224 then Some [] else Some (x ∷ b ∷ [])) else None
utf8_next (x ∷ y ∷ []) b = if is_tail b then (if nat_lt x 240 then Some [] else Some (x ∷ y ∷ b ∷ [])) else None
utf8_next (x ∷ y ∷ z ∷ more) b = if is_tail b then Some [] else None

-- the bytes of the character in hand after more bytes
abbrev pub utf8_run : List ℕ → List ℕ → Option (List ℕ)
utf8_run held [] = Some held
utf8_run held (b ∷ bs) = option_and_then (λ next. utf8_run next bs) (utf8_next held b)

-- a byte can continue the character in hand, or begin one
abbrev pub continues : List ℕ → ℕ → Bool
continues held b = is_some (utf8_next held b)

-- the bytes of the character in hand after one more byte, which may be none of them
abbrev pub held_after : List ℕ → ℕ → List ℕ
held_after held b = unwrap_or (utf8_next held b) held

abbrev pub is_nothing : Option (List ℕ) → Bool
is_nothing None = false
is_nothing (Some []) = true
is_nothing (Some (x ∷ xs)) = false

-- a byte ends a character
abbrev pub ends_character : List ℕ → ℕ → Bool
ends_character held b = is_nothing (utf8_next held b)

-- the character that a byte ends, or nothing
abbrev pub ended_character : List ℕ → ℕ → List ℕ
ended_character held b = if ends_character held b then held ++ b ∷ [] else []

-- bytes that begin a character and don't end it
abbrev pub IsPending : List ℕ → Type 0
IsPending [] = Unit {0}
IsPending (x ∷ []) = IsTrue (is_lead x)
IsPending (x ∷ y ∷ []) = (224 ≤ x) × IsTrue (is_lead x) × IsTrue (is_second x y)
IsPending (x ∷ y ∷ z ∷ []) = (240 ≤ x) × IsTrue (is_lead x) × IsTrue (is_second x y) × IsTrue (is_tail z)
IsPending (x ∷ y ∷ z ∷ w ∷ more) = ⊥

-- behind the bytes of the character in hand, a byte ends a character that is none of XML's (XML 1.0, section 2.2)
abbrev pub ends_forbidden_character : List ℕ → ℕ → Bool
ends_forbidden_character (x ∷ y ∷ []) b = ends_forbidden x y b
ends_forbidden_character held b = ends_forbidden 0 0 b
