-- The first bytes of references (XML 1.0, section 4.1): what `reference_goes_on` has to let through.
use Rattle.std.specs.Prelude.{ℕ, ◌≡◌, ◌≢◌, ◌⊎◌, true, List, [], ◌∷◌}
use Rattle.xml_tokens.specs.Characters.{is_digit}
use Rattle.xml_tokens.specs.References.{are_digits, is_hex_digit, referred}
use Rattle.xml_tokens.specs.declared.references.Reference.TheVariants as reference

-- `#`, `#x`, or one of them with digits behind it. Which number they are is told at the `;`.
pub data IsNumberPart : List ℕ → Type 0 where
  sharp : (part : List ℕ) → part ≡ 35 ∷ [] → IsNumberPart part
  sharp_x : (part : List ℕ) → part ≡ 35 ∷ 120 ∷ [] → IsNumberPart part
  decimal : (part digits : List ℕ) → part ≡ 35 ∷ digits → are_digits is_digit digits ≡ true → IsNumberPart part
  hexadecimal : (part digits : List ℕ) → part ≡ 35 ∷ 120 ∷ digits → are_digits is_hex_digit digits ≡ true → IsNumberPart part

-- nothing, a part of a number, or a name, known or unknown
abbrev pub IsReferencePart : List ℕ → Type 0
IsReferencePart part = (part ≡ []) ⊎ (IsNumberPart part ⊎ (referred part ≢ reference.Malformed))
