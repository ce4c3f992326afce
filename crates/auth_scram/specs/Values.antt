-- What the parts of a message stand for.
use Rattle.std.specs.Prelude.{ℕ, zero, suc, ◌+◌, ◌-◌, ◌*◌, ◌==◌, List, [], ◌∷◌, Option, Some, None, length, fold, if◌then◌else◌}
use Rattle.base64.specs.Engines.{standard}
use Rattle.base64.specs.GeneralPurpose.{decoded_bytes_of}

-- a name as it is spelled, behind the first bytes of an escape of which so many are to come: `=2C` is a comma, `=3D`
-- an equals sign
abbrev pub unescaped : ℕ → List ℕ → List ℕ
unescaped left [] = []
unescaped zero (b ∷ bytes) = if b == 61 then unescaped 2 bytes else b ∷ unescaped 0 bytes
unescaped (suc zero) (b ∷ bytes) = (if b == 67 then 44 else 61) ∷ unescaped 0 bytes
unescaped (suc (suc left)) (b ∷ bytes) = unescaped 1 bytes

abbrev pub name_of : List ℕ → List ℕ
name_of text = unescaped 0 text

-- the value of decimal digits
abbrev pub value_of : List ℕ → ℕ
value_of digits = fold (λ value digit. value * 10 + (digit - 48)) 0 digits

abbrev pub most_told : ℕ
most_told = 4294967295

-- the bytes that a base64 text is the text of
unfoldable pub base64_bytes : List ℕ → List ℕ
base64_bytes text = decoded_bytes_of standard text

-- the bytes of a hash, which are 32
abbrev pub hash_of : List ℕ → Option (List ℕ)
hash_of bytes = if length bytes == 32 then Some bytes else None
