-- The id of a stream is in hexadecimal digits.
use Rattle.std.proofs.Common.{◌≡◌, ℕ, ◌-◌, List, [], ◌∷◌, ◌++◌, drop, take, length, length-drop, take_all, ap, ◌∙◌, refl, arith}
use Rattle.std.proofs.lemmas.Str.{IsAscii-append, IsUtf8-from_ascii}
use Rattle.std.specs.Str.{IsAscii, IsUtf8}
use Rattle.base_lemmas.proofs.HexDigits.{hex_digits-IsAscii}
use Rattle.base_lemmas.specs.Hexadecimal.{hex_digits, hex16_of}
use Rattle.im_replies.specs.Streams.{hex_of, stream_id}

-- the last two of a byte's 16 digits
pub two_digits : (b : ℕ) → drop 14 (hex16_of b) ≡ hex_digits 2 b
unfolding hex16_of
two_digits b = refl

-- what is behind the first 18 of 24 bytes is 6 bytes
pub last_six : (bytes : List ℕ) → length bytes ≡ 24 → take 6 (drop 18 bytes) ≡ drop 18 bytes
last_six bytes all =
    let size : length (drop 18 bytes) ≡ 6 = length-drop 18 bytes ∙ ap (λ n. n - 18) all in
    take_all 6 (drop 18 bytes) (omega (arith, size))

hex_of-IsAscii : (bs : List ℕ) → IsAscii (hex_of bs)
hex_of-IsAscii [] = λ i. omega arith
hex_of-IsAscii (b ∷ bs) = IsAscii-append (hex_digits 2 b) (hex_of bs) (hex_digits-IsAscii 2 b) (hex_of-IsAscii bs)

pub stream_id-IsUtf8 : (connection : ℕ) (entropy : List ℕ) → IsUtf8 (stream_id connection entropy)
unfolding hex16_of
stream_id-IsUtf8 connection entropy =
    IsUtf8-from_ascii (stream_id connection entropy)
    (IsAscii-append (hex_of (drop 18 entropy)) (hex_digits 16 connection) (hex_of-IsAscii (drop 18 entropy)) (hex_digits-IsAscii 16 connection))
