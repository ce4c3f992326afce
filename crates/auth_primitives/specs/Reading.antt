-- Base64 as it is read, byte by byte (RFC 4648, section 4).
use Rattle.std.specs.Prelude.{ℕ, ◌+◌, ◌-◌, ◌%◌, ◌==◌, nat_le, Bool, true, false, ◌&&◌, List, [], ◌∷◌, Option, Some, None, if◌then◌else◌}
use Rattle.std.specs.Option.{option_and_then, option_map}
use Rattle.auth_primitives.specs.declared.text.Base64Text.{Base64Text}
use Rattle.auth_primitives.specs.declared.text.Base64Text.TheVariants.{Whole, One, Two, Three, Padding, Padded}

abbrev pub is_within : ℕ → ℕ → ℕ → Bool
is_within low high b = nat_le low b && nat_le b high

-- the number of a base64 symbol
abbrev pub sextet : ℕ → Option ℕ
sextet b =
    if is_within 65 90 b then Some (b - 65)
    else (if is_within 97 122 b then Some (b - 71)
    else (if is_within 48 57 b then Some (b + 4)
    else (if b == 43 then Some 62
    else (if b == 47 then Some 63
    else None))))

-- in groups of four: before `=` the bits that are no byte's are 0
abbrev pub base64_goes_on : Base64Text → ℕ → Option Base64Text
base64_goes_on Whole b = option_map (λ v. One) (sextet b)
base64_goes_on One b = option_map (λ v. Two (v % 16 == 0)) (sextet b)
base64_goes_on (Two zero_bits) b =
    if zero_bits && b == 61 then Some Padding else option_map (λ v. Three (v % 4 == 0)) (sextet b)
base64_goes_on (Three zero_bits) b =
    if zero_bits && b == 61 then Some Padded else option_map (λ v. Whole) (sextet b)
base64_goes_on Padding b = if b == 61 then Some Padded else None
base64_goes_on Padded b = None

abbrev pub base64_may_end : Base64Text → Bool
base64_may_end Whole = true
base64_may_end Padded = true
base64_may_end _ = false

-- what stands behind bytes more
abbrev pub base64_after : Base64Text → List ℕ → Option Base64Text
base64_after s [] = Some s
base64_after s (b ∷ bytes) = option_and_then (λ t. base64_after t bytes) (base64_goes_on s b)

abbrev pub is_at_end : Option Base64Text → Bool
is_at_end None = false
is_at_end (Some s) = base64_may_end s

-- the text is read, and may end where it ends
abbrev pub is_accepted : List ℕ → Bool
is_accepted text = is_at_end (base64_after Whole text)
