-- Base64 in its one canonical form (RFC 4648, sections 3.2, 3.5 and 4): padded, and the bits that are no byte's are 0.
use Rattle.std.specs.Prelude.{◌≡◌, ℕ, Bool, List, is_ok}
use Rattle.base64.specs.Engines.{standard}
use Rattle.base64.specs.GeneralPurpose.{IsBytes, decode_of, encode_of}

-- the text is the base64 of some bytes
abbrev pub IsBase64 : List ℕ → Type 0
IsBase64 text = (bytes : List ℕ) × IsBytes bytes × (text ≡ encode_of standard bytes)

-- the text is decoded
unfoldable pub is_base64 : List ℕ → Bool
is_base64 text = is_ok (decode_of standard text)
