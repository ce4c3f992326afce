-- The base64 of bytes is printable ASCII, and not much longer.
use Rattle.std.proofs.Common.{◌≡◌, ℕ, suc, ◌+◌, ◌*◌, ◌/◌, ◌%◌, ◌<◌, ◌≤◌, true, List, [], ◌∷◌, length, refl, arith}
use Rattle.std.specs.List.{list_all}
use Rattle.base64.proofs.EngineFacts.{encode_of-nil}
use Rattle.base64.specs.Engines.{standard}
use Rattle.base64.specs.GeneralPurpose.{IsBytes, encode_of}
use Rattle.auth_primitives.proofs.GroupRuns.{below, more_text, one_text, symbol, two_text}
use Rattle.law_limits.proofs.Ascii.{is_printable}

symbol_printable : (v : ℕ) → v < 64 → is_printable (symbol v) ≡ true
symbol_printable v low = below 64 (λ k. is_printable (symbol k)) refl v low

pub encoded_printable : (bytes : List ℕ) → IsBytes bytes → list_all is_printable (encode_of standard bytes) ≡ true
encoded_printable [] fits = rw (encode_of-nil standard) refl
encoded_printable (a ∷ []) fits =
    let la : a < 256 = fits 0 in
    rw (one_text a, symbol_printable (a / 4) (omega arith), symbol_printable (a % 4 * 16) (omega arith)) refl
encoded_printable (a ∷ b ∷ []) fits =
    let la : a < 256 = fits 0 in
    let lb : b < 256 = fits 1 in
    rw (two_text a b, symbol_printable (a / 4) (omega arith), symbol_printable (a % 4 * 16 + b / 16) (omega arith), symbol_printable (b % 16 * 4) (omega arith)) refl
encoded_printable (a ∷ b ∷ c ∷ bytes) fits =
    let la : a < 256 = fits 0 in
    let lb : b < 256 = fits 1 in
    let lc : c < 256 = fits 2 in
    rw (
      more_text a b c bytes,
      symbol_printable (a / 4) (omega arith),
      symbol_printable (a % 4 * 16 + b / 16) (omega arith),
      symbol_printable (b % 16 * 4 + c / 64) (omega arith),
      symbol_printable (c % 64) (omega arith),
    ) (encoded_printable bytes (λ i. fits (suc (suc (suc i)))))

pub encoded_short : (bytes : List ℕ) → length (encode_of standard bytes) ≤ 2 * length bytes + 2
encoded_short [] = rw (encode_of-nil standard) (omega arith)
encoded_short (a ∷ []) = rw (one_text a) (omega arith)
encoded_short (a ∷ b ∷ []) = rw (two_text a b) (omega arith)
encoded_short (a ∷ b ∷ c ∷ bytes) = rw (more_text a b c bytes) (omega (arith, encoded_short bytes))
