-- The messages of a login are ASCII (RFC 5802, section 7).
use Rattle.std.proofs.Common.{◌≡◌, ℕ, zero, suc, ◌==◌, ◌<◌, ◌^◌, Bool, true, false, List, [], ◌∷◌, ◌++◌, codes, arith, refl, if◌then◌else◌}
use Rattle.std.proofs.lemmas.Bool.{and_parts}
use Rattle.std.proofs.lemmas.Bool.Decides.{nat_tests}
use Rattle.std.proofs.lemmas.Fmt.{IsAscii-decimal}
use Rattle.std.proofs.lemmas.Str.{IsAscii-append}
use Rattle.std.proofs.lemmas.Str.Ascii.{IsAscii-nil}
use Rattle.std.specs.Fmt.{decimal}
use Rattle.std.specs.List.{list_all}
use Rattle.std.specs.Str.{IsAscii}
use Rattle.base64.proofs.EngineFacts.{IsAscii-encode_of}
use Rattle.base64.specs.Engines.{standard}
use Rattle.base64.specs.GeneralPurpose.{IsBytes, encode_of}
use Rattle.auth_scram.specs.Classes as class
use Rattle.auth_scram.specs.Exchange.{base64_of, client_final_without_proof, client_first_message, is_printable_ascii, server_final_message, server_first_message, with_proof}
use Rattle.auth_scram.specs.Grammar.{escaped, escaped_byte, is_nonce}
use Rattle.base_lemmas.proofs.Utf8.{IsAscii-one as one_byte}

bytes_from : (t : List ℕ) → IsAscii t → IsBytes t
bytes_from t h i = let low = h i in omega (arith, low)

ascii_by : (P : ℕ → Bool) (low : (b : ℕ) → P b ≡ true → b < 128) (t : List ℕ) → list_all P t ≡ true → IsAscii t
ascii_by P low [] h i = IsAscii-nil i
ascii_by P low (b ∷ t) h zero = low b (and_parts (P b) (list_all P t) h).0
ascii_by P low (b ∷ t) h (suc i) = ascii_by P low t (and_parts (P b) (list_all P t) h).1 i

plain_low : (b : ℕ) → is_printable_ascii b ≡ true → b < 128
plain_low b h = grind (arith, nat_tests)

literal : (t : List ℕ) → list_all is_printable_ascii t ≡ true → IsAscii t
literal t h = ascii_by is_printable_ascii plain_low t h

nonce_ascii : (nonce : List ℕ) → is_nonce nonce ≡ true → IsAscii nonce
nonce_ascii [] h = IsAscii-nil
nonce_ascii (b ∷ bs) h = ascii_by class.is_printable (λ c low. grind (arith, nat_tests)) (b ∷ bs) h

-- ---- names

escaped_byte_ascii : (b : ℕ) → b < 128 → IsAscii (escaped_byte b)
escaped_byte_ascii b low = either (b == 44) (codes "=2C") _ (literal (codes "=2C") refl) (either (b == 61) (codes "=3D") (b ∷ []) (literal (codes "=3D") refl) (one_byte b low))
  where
    either : (c : Bool) (x y : List ℕ) → IsAscii x → IsAscii y → IsAscii (if c then x else y)
    either true x y here there = here
    either false x y here there = there

escaped_ascii : (name : List ℕ) → list_all is_printable_ascii name ≡ true → IsAscii (escaped name)
escaped_ascii [] h = IsAscii-nil
escaped_ascii (b ∷ bs) h =
    let p = and_parts (is_printable_ascii b) (list_all is_printable_ascii bs) h in
    IsAscii-append (escaped_byte b) (escaped bs) (escaped_byte_ascii b (plain_low b p.0)) (escaped_ascii bs p.1)

-- ---- messages

pub auth_bytes : (name nonce : List ℕ) → list_all is_printable_ascii name ≡ true → is_nonce nonce ≡ true → IsBytes (client_first_message name nonce)
auth_bytes name nonce printable random =
    let front = codes "n=" ++ escaped name in
    let middle = front ++ codes ",r=" in
    let front_is = IsAscii-append (codes "n=") (escaped name) (literal (codes "n=") refl) (escaped_ascii name printable) in
    let middle_is = IsAscii-append front (codes ",r=") front_is (literal (codes ",r=") refl) in
    bytes_from (client_first_message name nonce)
    (IsAscii-append (codes "n,,") (middle ++ nonce) (literal (codes "n,,") refl) (IsAscii-append middle nonce middle_is (nonce_ascii nonce random)))

pub challenge_bytes : (nonce salt : List ℕ) (i : ℕ) → is_nonce nonce ≡ true → i < 2 ^ 64 → IsBytes (server_first_message nonce salt i)
unfolding base64_of
challenge_bytes nonce salt i random small =
    let a = codes "r=" ++ nonce in
    let b = a ++ codes ",s=" in
    let c = b ++ encode_of standard salt in
    let d = c ++ codes ",i=" in
    let a_is = IsAscii-append (codes "r=") nonce (literal (codes "r=") refl) (nonce_ascii nonce random) in
    let b_is = IsAscii-append a (codes ",s=") a_is (literal (codes ",s=") refl) in
    let c_is = IsAscii-append b (encode_of standard salt) b_is (IsAscii-encode_of standard salt) in
    let d_is = IsAscii-append c (codes ",i=") c_is (literal (codes ",i=") refl) in
    bytes_from (d ++ decimal i) (IsAscii-append d (decimal i) d_is (IsAscii-decimal i small))

pub response_bytes : (nonce proof : List ℕ) → is_nonce nonce ≡ true → IsBytes (with_proof (client_final_without_proof nonce) proof)
unfolding base64_of
response_bytes nonce proof random =
    let b = codes "c=" ++ codes "biws" ++ codes ",r=" in
    let c = b ++ nonce in
    let d = c ++ codes ",p=" in
    let c_is = IsAscii-append b nonce (literal b refl) (nonce_ascii nonce random) in
    let d_is = IsAscii-append c (codes ",p=") c_is (literal (codes ",p=") refl) in
    bytes_from (d ++ encode_of standard proof) (IsAscii-append d (encode_of standard proof) d_is (IsAscii-encode_of standard proof))

pub success_bytes : (verifier : List ℕ) → IsBytes (server_final_message verifier)
unfolding base64_of
success_bytes verifier =
    bytes_from (codes "v=" ++ encode_of standard verifier)
    (IsAscii-append (codes "v=") (encode_of standard verifier) (literal (codes "v=") refl) (IsAscii-encode_of standard verifier))
