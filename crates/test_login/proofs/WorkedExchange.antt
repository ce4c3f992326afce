-- The definitions, evaluated at values from outside: RFC 4231 (HMAC), RFC 7914, section 11 (PBKDF2) and the exchange of
-- RFC 7677, section 3.
use Rattle.std.proofs.Common.{◌≡◌, ℕ, List, [], ◌∷◌, codes, replicate, refl}
use Rattle.std.specs.Fmt.{digits}
use Rattle.base64.specs.Rfc4648.{encode_symbols}
use Rattle.sha2.specs.Sha256.{compress, digest_bytes, first_words, hash_after, rounds, schedule, sha256}
use Rattle.auth_scram.specs.Grammar.{escaped}
use Rattle.auth_scram.specs.Exchange.{base64_of, client_final_message, client_final_without_proof, client_first_bare, client_first_message, server_final_message, server_first_message}
use Rattle.auth_primitives.specs.Hashes.{auth_message, client_key, client_signature, hi_of, hmac_of, proof_of, server_key, stored_key, u_of, verifier_of, xor_to}

-- RFC 4231, test case 1
short_key : hmac_of (replicate 20 0x0B) (codes "Hi There") ≡
    0xB0 ∷ 0x34 ∷ 0x4C ∷ 0x61 ∷ 0xD8 ∷ 0xDB ∷ 0x38 ∷ 0x53 ∷ 0x5C ∷ 0xA8 ∷ 0xAF ∷ 0xCE ∷
    0xAF ∷ 0x0B ∷ 0xF1 ∷ 0x2B ∷ 0x88 ∷ 0x1D ∷ 0xC2 ∷ 0x00 ∷ 0xC9 ∷ 0x83 ∷ 0x3D ∷ 0xA7 ∷
    0x26 ∷ 0xE9 ∷ 0x37 ∷ 0x6C ∷ 0x2E ∷ 0x32 ∷ 0xCF ∷ 0xF7 ∷ []
unfolding first_words schedule rounds compress hash_after digest_bytes sha256 hmac_of
short_key = refl

-- RFC 7914, section 11: the first block of the first vector
one_iteration : hi_of (codes "passwd") (codes "salt") 1 ≡
    0x55 ∷ 0xAC ∷ 0x04 ∷ 0x6E ∷ 0x56 ∷ 0xE3 ∷ 0x08 ∷ 0x9F ∷ 0xEC ∷ 0x16 ∷ 0x91 ∷ 0xC2 ∷
    0x25 ∷ 0x44 ∷ 0xB6 ∷ 0x05 ∷ 0xF9 ∷ 0x41 ∷ 0x85 ∷ 0x21 ∷ 0x6D ∷ 0xDE ∷ 0x04 ∷ 0x65 ∷
    0xE6 ∷ 0x8B ∷ 0x9D ∷ 0x57 ∷ 0xC2 ∷ 0x0D ∷ 0xAC ∷ 0xBC ∷ []
unfolding first_words schedule rounds compress hash_after digest_bytes sha256 hmac_of u_of xor_to hi_of
one_iteration = refl

-- ---- RFC 7677, section 3

abbrev client_nonce : List ℕ
client_nonce = codes "rOprNGfwEbeRWgbNEkqO"

abbrev whole_nonce : List ℕ
whole_nonce = codes "rOprNGfwEbeRWgbNEkqO%hvYDpWUa2RaTCAfuxFIlj)hNlF$k0"

abbrev salt : List ℕ
salt =
    0x5B ∷ 0x6D ∷ 0x99 ∷ 0x68 ∷ 0x9D ∷ 0x12 ∷ 0x35 ∷ 0x8E ∷ 0xEC ∷ 0xA0 ∷ 0x4B ∷ 0x14 ∷
    0x12 ∷ 0x36 ∷ 0xFA ∷ 0x81 ∷ []

-- Hi of "pencil" under that salt and 4,096 iterations
abbrev salted : List ℕ
salted =
    0xC4 ∷ 0xA4 ∷ 0x95 ∷ 0x10 ∷ 0x32 ∷ 0x3A ∷ 0xB4 ∷ 0xF9 ∷ 0x52 ∷ 0xCA ∷ 0xC1 ∷ 0xFA ∷
    0x99 ∷ 0x44 ∷ 0x19 ∷ 0x39 ∷ 0xE7 ∷ 0x8E ∷ 0xA7 ∷ 0x4D ∷ 0x6B ∷ 0xE8 ∷ 0x1D ∷ 0xDF ∷
    0x70 ∷ 0x96 ∷ 0xE8 ∷ 0x75 ∷ 0x13 ∷ 0xDC ∷ 0x61 ∷ 0x5D ∷ []

first : client_first_message (codes "user") client_nonce ≡ codes "n,,n=user,r=rOprNGfwEbeRWgbNEkqO"
first = refl

challenge : server_first_message whole_nonce salt 4096
    ≡ codes "r=rOprNGfwEbeRWgbNEkqO%hvYDpWUa2RaTCAfuxFIlj)hNlF$k0,s=W22ZaJ0SNY7soEsUEjb6gQ==,i=4096"
unfolding base64_of encode_symbols digits
challenge = refl

abbrev auth : List ℕ
auth = auth_message (client_first_bare (codes "user") client_nonce)
    (codes "r=rOprNGfwEbeRWgbNEkqO%hvYDpWUa2RaTCAfuxFIlj)hNlF$k0,s=W22ZaJ0SNY7soEsUEjb6gQ==,i=4096")
    (client_final_without_proof whole_nonce)

final : client_final_message whole_nonce
    (proof_of (client_key salted) (client_signature (stored_key (client_key salted)) auth))
    ≡ codes "c=biws,r=rOprNGfwEbeRWgbNEkqO%hvYDpWUa2RaTCAfuxFIlj)hNlF$k0,p=dHzbZapWIk4jUhN+Ute9ytag9zjfMHgsqmmiz7AndVQ="
unfolding first_words schedule rounds compress hash_after digest_bytes sha256 hmac_of base64_of encode_symbols
final = refl

last : server_final_message (verifier_of (server_key salted) auth)
    ≡ codes "v=6rriTRBi23WpRR/wtup+mMhUZUn/dB5nLTJRsjl95G4="
unfolding first_words schedule rounds compress hash_after digest_bytes sha256 hmac_of base64_of encode_symbols
last = refl

-- ---- names

commas_and_equals : escaped (codes "a=b,c") ≡ codes "a=3Db=2Cc"
commas_and_equals = refl
