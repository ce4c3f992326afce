-- One byte of ASCII.
use Rattle.std.proofs.Common.{ℕ, ◌<◌, [], ◌∷◌, zero, suc, arith}
use Rattle.std.proofs.lemmas.Str.{IsUtf8-from_ascii}
use Rattle.std.specs.Str.{IsAscii, IsUtf8}

pub IsAscii-one : (b : ℕ) → b < 128 → IsAscii (b ∷ [])
IsAscii-one b low zero = low
IsAscii-one b low (suc i) = omega arith

pub IsUtf8-one : (b : ℕ) → b < 128 → IsUtf8 (b ∷ [])
IsUtf8-one b low = IsUtf8-from_ascii (b ∷ []) (IsAscii-one b low)
