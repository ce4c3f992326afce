-- The text of a payload of SASL's elements as it is read, byte by byte (RFC 6120, section 6.4; RFC 4648, section 4).
use Rattle.std.specs.Prelude.{ℕ, ◌==◌, Bool, true, false, List, [], ◌∷◌, Option, Some, None, if◌then◌else◌}
use Rattle.auth_primitives.specs.Reading.{base64_goes_on, base64_may_end}
use Rattle.auth_primitives.specs.declared.text.Base64Text.{Base64Text}
use Rattle.auth_primitives.specs.declared.text.Base64Text.TheVariants.{Whole}
use Rattle.im_bad_fields.specs.declared.payload.PayloadText.{PayloadText}
use Rattle.im_bad_fields.specs.declared.payload.PayloadText.TheVariants.{Empty, Equals, Base64, Neither}

-- base64, as far as it is
abbrev pub as_base64 : Option Base64Text → PayloadText
as_base64 None = Neither
as_base64 (Some text) = Base64 text

-- behind a byte more
abbrev pub payload_goes_on : PayloadText → ℕ → PayloadText
payload_goes_on Empty b = if b == 61 then Equals else as_base64 (base64_goes_on Whole b)
payload_goes_on Equals b = Neither
payload_goes_on (Base64 text) b = as_base64 (base64_goes_on text b)
payload_goes_on Neither b = Neither

-- behind bytes more
abbrev pub payload_after : PayloadText → List ℕ → PayloadText
payload_after p [] = p
payload_after p (b ∷ bytes) = payload_after (payload_goes_on p b) bytes

abbrev pub payload_may_end : PayloadText → Bool
payload_may_end Empty = true
payload_may_end Equals = true
payload_may_end (Base64 text) = base64_may_end text
payload_may_end Neither = false
