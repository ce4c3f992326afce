-- Nonces are told apart by the bytes that were drawn for them.
use Rattle.std.proofs.Common.{◌≡◌, ℕ, List, take, refl, sym, ap, ◌∙◌}
use Rattle.base64.specs.GeneralPurpose.{IsBytes}
use Rattle.auth_scram.specs.Exchange.{added_nonce, base64_of}
use Rattle.auth_scram.specs.Values.{base64_bytes}
use Rattle.auth_scram.proofs.Base64.{bytes_again}

drawn_again : (bytes : List ℕ) → IsBytes bytes → base64_bytes (base64_of bytes) ≡ bytes
unfolding base64_of
drawn_again bytes fits = bytes_again _ bytes fits refl

pub told_apart : (a b : List ℕ) → IsBytes (take 18 a) → IsBytes (take 18 b) → added_nonce a ≡ added_nonce b → take 18 a ≡ take 18 b
told_apart a b fits_a fits_b same = sym (drawn_again (take 18 a) fits_a) ∙ ap base64_bytes same ∙ drawn_again (take 18 b) fits_b
