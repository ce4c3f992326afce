-- What a nonce is, and that the base64 of 18 bytes is one.
use Rattle.std.proofs.Common.{◌≡◌, ℕ, suc, ◌+◌, ◌*◌, ◌/◌, ◌%◌, ◌<◌, true, List, [], ◌∷◌, length, refl, ◌∙◌, arith}
use Rattle.std.specs.List.{list_all}
use Rattle.base64.specs.Engines.{standard}
use Rattle.base64.specs.GeneralPurpose.{IsBytes, encode_of}
use Rattle.auth_scram.specs.Classes.{is_printable}
use Rattle.auth_scram.specs.Grammar.{is_nonce}
use Rattle.auth_scram.proofs.Base64.{length_of}
use Rattle.base64.proofs.EngineFacts.{encode_of-nil}
use Rattle.auth_primitives.proofs.GroupRuns.{below, more_text, one_text, symbol, two_text}

-- each byte of a base64 text may stand in a nonce

symbol-printable : (v : ℕ) → v < 64 → is_printable (symbol v) ≡ true
symbol-printable v lt = below 64 (λ k. is_printable (symbol k)) refl v lt

encoded_printable : (bytes : List ℕ) → IsBytes bytes → list_all is_printable (encode_of standard bytes) ≡ true
encoded_printable [] fits = rw (encode_of-nil standard) refl
encoded_printable (a ∷ []) fits =
    let la : a < 256 = fits 0 in
    rw (one_text a, symbol-printable (a / 4) (omega arith), symbol-printable (a % 4 * 16) (omega arith)) refl
encoded_printable (a ∷ b ∷ []) fits =
    let la : a < 256 = fits 0 in
    let lb : b < 256 = fits 1 in
    rw (
      two_text a b,
      symbol-printable (a / 4) (omega arith),
      symbol-printable (a % 4 * 16 + b / 16) (omega arith),
      symbol-printable (b % 16 * 4) (omega arith),
    ) refl
encoded_printable (a ∷ b ∷ c ∷ bytes) fits =
    let la : a < 256 = fits 0 in
    let lb : b < 256 = fits 1 in
    let lc : c < 256 = fits 2 in
    rw (
      more_text a b c bytes,
      symbol-printable (a / 4) (omega arith),
      symbol-printable (a % 4 * 16 + b / 16) (omega arith),
      symbol-printable (b % 16 * 4 + c / 64) (omega arith),
      symbol-printable (c % 64) (omega arith),
    ) (encoded_printable bytes (λ i. fits (suc (suc (suc i)))))

pub is_nonce-some : (text : List ℕ) → 0 < length text → is_nonce text ≡ list_all is_printable text
is_nonce-some [] some = absurd (omega arith)
is_nonce-some (b ∷ text) some = refl

pub length-drawn : (drawn : List ℕ) → length drawn ≡ 18 → length (encode_of standard drawn) ≡ 24
length-drawn drawn e = length_of drawn ∙ rw e refl

pub drawn_is_nonce : (drawn : List ℕ) → IsBytes drawn → length drawn ≡ 18 → is_nonce (encode_of standard drawn) ≡ true
drawn_is_nonce drawn fits e =
    let size = length-drawn drawn e in
    is_nonce-some (encode_of standard drawn) (omega arith) ∙ encoded_printable drawn fits
