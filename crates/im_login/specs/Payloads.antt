-- The bytes that a SASL element carries (RFC 6120, section 6.4; RFC 4648, section 4).
use Rattle.std.specs.Prelude.{◌≡◌, ℕ, ◌⊎◌, List, [], codes}
use Rattle.base64.specs.Engines.{standard}
use Rattle.base64.specs.GeneralPurpose.{IsBytes, encode_of}
use Rattle.im_payload.specs.declared.fault.Field.{Field}
use Rattle.im_payload.specs.declared.fault.Field.TheVariants.{Payload}

-- base64 with its padding, in its one canonical form
unfoldable pub base64_of : List ℕ → List ℕ
base64_of bytes = encode_of standard bytes

-- the text stands for these bytes: it is their base64, or it is a lone `=`, which stands for none
abbrev pub IsPayload : List ℕ → List ℕ → Type 0
IsPayload text bytes = (IsBytes bytes × (text ≡ base64_of bytes)) ⊎ ((text ≡ codes "=") × (bytes ≡ []))

-- the field that is wrong where the text stands for no bytes
abbrev pub HasNoPayload : List ℕ → Field → Type 0
HasNoPayload text Payload = (payload : List ℕ) → ¬ (IsPayload text payload)
HasNoPayload text _ = ⊥
