-- The messages of a login are short (RFC 5802, section 5).
use Rattle.std.proofs.Common.{◌≡◌, ℕ, ◌+◌, ◌*◌, ◌/◌, ◌%◌, ◌==◌, ◌<◌, ◌≤◌, Bool, true, false, List, [], ◌∷◌, ◌++◌, length, codes, Ok, refl, ap, ⊎_elim, arith, length-append, if◌then◌else◌}
use Rattle.std.proofs.lemmas.Bool.{and_parts, cases_lt, ltb-true}
use Rattle.std.proofs.lemmas.Bool.Decides.{nat_tests}
use Rattle.std.proofs.lemmas.List.{get_or_past}
use Rattle.std.specs.List.{list_all}
use Rattle.std.specs.Prelude.{nat_lt}
use Rattle.base64.proofs.EngineFacts.{encode_of-nil}
use Rattle.base64.specs.Engines.{standard}
use Rattle.base64.specs.GeneralPurpose.{IsBytes, encode_of}
use Rattle.auth_primitives.proofs.ByteSteps.{IsBytes-append, IsBytes-cons, IsBytes-nil}
use Rattle.auth_primitives.proofs.GroupRuns.{below, more_text, one_text, symbol, two_text}
use Rattle.auth_primitives.specs.Hashes.{client_key, client_signature, proof_of}
use Rattle.law_limits.proofs.Ascii.{is_printable}
use Rattle.law_limits.proofs.Base64.{encoded_printable, encoded_short}
use Rattle.auth_scram.proofs.Digests.{IsBytes-hmac_of, IsBytes-xor_bytes, length-hmac_of, length-xor_bytes}
use Rattle.auth_scram.proofs.MessageLaws.{server_first_found}
use Rattle.auth_scram.specs.Classes as class
use Rattle.auth_scram.specs.Exchange.{base64_of, client_first_message, client_final_without_proof, is_printable_ascii, with_proof}
use Rattle.auth_scram.specs.Grammar.{escaped, escaped_byte, is_nonce}
use Rattle.auth_scram.specs.Messages.{ServerFirstView, server_first_of}

-- ---- texts of bytes

bytes_by : (P : ℕ → Bool) (low : (b : ℕ) → P b ≡ true → b < 256) (t : List ℕ) → list_all P t ≡ true → IsBytes t
bytes_by P low [] h = IsBytes-nil
bytes_by P low (b ∷ bs) h = let p = and_parts (P b) _ h in IsBytes-cons b bs (low b p.0) (bytes_by P low bs p.1)

printable_low : (b : ℕ) → is_printable b ≡ true → b < 256
printable_low b h = grind (arith, nat_tests)

ascii_low : (b : ℕ) → is_printable_ascii b ≡ true → b < 256
ascii_low b h = grind (arith, nat_tests)

class_low : (b : ℕ) → class.is_printable b ≡ true → b < 256
class_low b h = grind (arith, nat_tests)

literal_bytes : (t : List ℕ) → list_all is_printable t ≡ true → IsBytes t
literal_bytes t h = bytes_by is_printable printable_low t h

nonce_bytes : (nonce : List ℕ) → is_nonce nonce ≡ true → IsBytes nonce
nonce_bytes [] h = IsBytes-nil
nonce_bytes (b ∷ bs) h = bytes_by class.is_printable class_low (b ∷ bs) h

-- ---- the client's first message

escaped_byte_short : (b : ℕ) → length (escaped_byte b) ≤ 3
escaped_byte_short b = either (b == 44) (codes "=2C") _ (omega arith) (either (b == 61) (codes "=3D") (b ∷ []) (omega arith) (omega arith))
  where
    either : (c : Bool) (x y : List ℕ) → length x ≤ 3 → length y ≤ 3 → length (if c then x else y) ≤ 3
    either true x y here there = here
    either false x y here there = there

pub escaped_short : (name : List ℕ) → length (escaped name) ≤ 3 * length name
escaped_short [] = omega arith
escaped_short (b ∷ bs) = omega (arith, length-append (escaped_byte b) (escaped bs), escaped_byte_short b, escaped_short bs)

escaped_byte_bytes : (b : ℕ) → b < 256 → IsBytes (escaped_byte b)
escaped_byte_bytes b low = either (b == 44) (codes "=2C") _ (literal_bytes (codes "=2C") refl) (either (b == 61) (codes "=3D") (b ∷ []) (literal_bytes (codes "=3D") refl) (IsBytes-cons b [] low IsBytes-nil))
  where
    either : (c : Bool) (x y : List ℕ) → IsBytes x → IsBytes y → IsBytes (if c then x else y)
    either true x y here there = here
    either false x y here there = there

escaped_bytes : (name : List ℕ) → list_all is_printable_ascii name ≡ true → IsBytes (escaped name)
escaped_bytes [] h = IsBytes-nil
escaped_bytes (b ∷ bs) h = let p = and_parts (is_printable_ascii b) _ h in IsBytes-append (escaped_byte b) (escaped bs) (escaped_byte_bytes b (ascii_low b p.0)) (escaped_bytes bs p.1)

pub record IsShortMessage (message : List ℕ) : Type 0 where
  pub bytes : IsBytes message
  pub short : length message ≤ 6000

pub first_short : (name nonce : List ℕ) → list_all is_printable_ascii name ≡ true → length name ≤ 1023 → IsBytes nonce → length nonce ≤ 38 → IsShortMessage (client_first_message name nonce)
first_short name nonce printable name_short bytes short =
    let e = escaped name in
    let front = codes "n=" ++ e in
    let middle = front ++ codes ",r=" in
    let front_bytes = IsBytes-append (codes "n=") e (literal_bytes (codes "n=") refl) (escaped_bytes name printable) in
    let middle_bytes = IsBytes-append front (codes ",r=") front_bytes (literal_bytes (codes ",r=") refl) in
    record {
      bytes = IsBytes-append (codes "n,,") (middle ++ nonce) (literal_bytes (codes "n,,") refl) (IsBytes-append middle nonce middle_bytes bytes);
      short = omega (arith, length-append (codes "n,,") (middle ++ nonce), length-append middle nonce, length-append front (codes ",r="), length-append (codes "n=") e, escaped_short name, name_short, short);
    }

-- ---- the client's reply

record IsShortNonce (nonce bytes : List ℕ) : Type 0 where
  fits : IsBytes nonce
  short : length nonce ≤ length bytes

nonce_read : (bytes : List ℕ) (m : ServerFirstView) → server_first_of bytes ≡ Ok m → IsShortNonce m.nonce bytes
nonce_read bytes m is =
    let found = server_first_found bytes m is in
    let g = found.1 in
    let salt = encode_of standard m.salt in
    let a = codes "r=" ++ m.nonce in
    let b = a ++ codes ",s=" in
    let c = b ++ salt in
    let d = c ++ codes ",i=" in
    let e = d ++ g.digits in
    let spelled = ap length g.spelled in
    record {
      fits = nonce_bytes m.nonce g.random;
      short = omega (arith, spelled, length-append e g.extensions, length-append d g.digits, length-append c (codes ",i="), length-append b salt, length-append a (codes ",s="), length-append (codes "r=") m.nonce);
    }

proof_bytes : (salted auth stored : List ℕ) → IsBytes (proof_of (client_key salted) (client_signature stored auth))
proof_bytes salted auth stored = IsBytes-xor_bytes (client_key salted) (client_signature stored auth) (IsBytes-hmac_of salted (codes "Client Key")) (IsBytes-hmac_of stored auth)

proof_long : (salted auth stored : List ℕ) → length (proof_of (client_key salted) (client_signature stored auth)) ≡ 32
proof_long salted auth stored = length-xor_bytes (client_key salted) (client_signature stored auth) 32 (length-hmac_of salted (codes "Client Key")) (length-hmac_of stored auth)

final_short : (nonce proof bytes : List ℕ) → IsShortNonce nonce bytes → length bytes ≤ 4096 → IsBytes proof → length proof ≡ 32 → IsShortMessage (with_proof (client_final_without_proof nonce) proof)
unfolding base64_of
final_short nonce proof bytes h few proof_fits long =
    let a = codes "c=" ++ codes "biws" in
    let b = a ++ codes ",r=" in
    let c = b ++ nonce in
    let d = c ++ codes ",p=" in
    let text = encode_of standard proof in
    let c_bytes = IsBytes-append b nonce (literal_bytes b refl) h.fits in
    let d_bytes = IsBytes-append c (codes ",p=") c_bytes (literal_bytes (codes ",p=") refl) in
    let nonce_short = h.short in
    record {
      bytes = IsBytes-append d text d_bytes (literal_bytes text (encoded_printable proof proof_fits));
      short = omega (arith, length-append d text, length-append c (codes ",p="), length-append b nonce, encoded_short proof, long, nonce_short, few);
    }

pub reply_short : (bytes : List ℕ) (m : ServerFirstView) (salted auth stored : List ℕ) → server_first_of bytes ≡ Ok m → length bytes ≤ 4096
    → IsShortMessage (with_proof (client_final_without_proof m.nonce) (proof_of (client_key salted) (client_signature stored auth)))
reply_short bytes m salted auth stored is few = final_short m.nonce _ bytes (nonce_read bytes m is) few (proof_bytes salted auth stored) (proof_long salted auth stored)

-- ---- the nonce of a connection

pub drawn_short : (drawn : List ℕ) → length drawn ≤ 18 → length (encode_of standard drawn) ≤ 38
drawn_short drawn few = omega (arith, encoded_short drawn, few)

-- behind the table there is a 0
symbol_low : (v : ℕ) → symbol v < 256
symbol_low v = ⊎_elim (λ (low : v < 64). ltb-true (symbol v) 256 (below 64 (λ k. nat_lt (symbol k) 256) refl v low)) past (cases_lt v 64)
  where
    past : 64 ≤ v → symbol v < 256
    past high = let none = get_or_past standard.encode_table v 0 high in omega (arith, none)

symbol_more : (v : ℕ) (bytes : List ℕ) → IsBytes bytes → IsBytes (symbol v ∷ bytes)
symbol_more v bytes h = IsBytes-cons (symbol v) bytes (symbol_low v) h

pub drawn_bytes : (drawn : List ℕ) → IsBytes (encode_of standard drawn)
drawn_bytes [] = rw (encode_of-nil standard) IsBytes-nil
drawn_bytes (a ∷ []) =
    let one = symbol (a % 4 * 16) ∷ 61 ∷ 61 ∷ [] in
    rw (one_text a) (symbol_more (a / 4) one (symbol_more (a % 4 * 16) (61 ∷ 61 ∷ []) (literal_bytes (61 ∷ 61 ∷ []) refl)))
drawn_bytes (a ∷ b ∷ []) =
    let one = symbol (b % 16 * 4) ∷ 61 ∷ [] in
    let two = symbol (a % 4 * 16 + b / 16) ∷ one in
    rw (two_text a b) (symbol_more (a / 4) two (symbol_more (a % 4 * 16 + b / 16) one (symbol_more (b % 16 * 4) (61 ∷ []) (literal_bytes (61 ∷ []) refl))))
drawn_bytes (a ∷ b ∷ c ∷ bytes) =
    let rest = encode_of standard bytes in
    let one = symbol (c % 64) ∷ rest in
    let two = symbol (b % 16 * 4 + c / 64) ∷ one in
    let three = symbol (a % 4 * 16 + b / 16) ∷ two in
    rw (more_text a b c bytes)
    (symbol_more (a / 4) three (symbol_more (a % 4 * 16 + b / 16) two (symbol_more (b % 16 * 4 + c / 64) one (symbol_more (c % 64) rest (drawn_bytes bytes)))))
