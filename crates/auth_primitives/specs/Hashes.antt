-- The functions of SCRAM over SHA-256 on lists of bytes: HMAC (RFC 2104 section 2), and Hi and the keys of
-- RFC 5802 section 3, under the names that they have there.
use Rattle.std.specs.Prelude.{ℕ, zero, suc, ◌-◌, List, [], ◌∷◌, ◌++◌, length, map, replicate, bit_xor, nat_lt, if◌then◌else◌, codes}
use Rattle.sha2.specs.Sha256.{sha256}

-- the exclusive or of two texts, byte by byte, up to the shorter one's end
abbrev pub xor_bytes : List ℕ → List ℕ → List ℕ
xor_bytes [] ys = []
xor_bytes (x ∷ xs) [] = []
xor_bytes (x ∷ xs) (y ∷ ys) = bit_xor x y ∷ xor_bytes xs ys

-- a key in a block of 64 bytes: a key that is longer is hashed first, and zeros fill the rest
abbrev pub key_block : List ℕ → List ℕ
key_block key =
    if nat_lt 64 (length key) then sha256 key ++ replicate 32 0 else key ++ replicate (64 - length key) 0

-- a block with a byte xor-ed to each byte of it
abbrev pub masked : ℕ → List ℕ → List ℕ
masked mask block = map (λ x. bit_xor x mask) block

-- HMAC(key, text): H(K xor opad, H(K xor ipad, text))
unfoldable pub hmac_of : List ℕ → List ℕ → List ℕ
hmac_of key text =
    sha256 (masked 0x5C (key_block key) ++ sha256 (masked 0x36 (key_block key) ++ text))

-- U(n + 1) of Hi: U1 = HMAC(password, salt + INT(1)), and each later one is the HMAC of the one before it
unfoldable pub u_of : List ℕ → List ℕ → ℕ → List ℕ
u_of password salt zero = hmac_of password (salt ++ 0 ∷ 0 ∷ 0 ∷ 1 ∷ [])
u_of password salt (suc n) = hmac_of password (u_of password salt n)

-- U1 xor U2 xor .. xor U(n + 1)
unfoldable pub xor_to : List ℕ → List ℕ → ℕ → List ℕ
xor_to password salt zero = u_of password salt 0
xor_to password salt (suc n) = xor_bytes (xor_to password salt n) (u_of password salt (suc n))

-- Hi(password, salt, i), for a count i of 1 or more
unfoldable pub hi_of : List ℕ → List ℕ → ℕ → List ℕ
hi_of password salt i = xor_to password salt (i - 1)

-- SaltedPassword := Hi(Normalize(password), salt, i), where a password of printable ASCII is its own normal form
abbrev pub salted_password : List ℕ → List ℕ → ℕ → List ℕ
salted_password password salt i = hi_of password salt i

-- ClientKey := HMAC(SaltedPassword, "Client Key")
abbrev pub client_key : List ℕ → List ℕ
client_key salted = hmac_of salted (codes "Client Key")

-- StoredKey := H(ClientKey)
abbrev pub stored_key : List ℕ → List ℕ
stored_key client = sha256 client

-- ServerKey := HMAC(SaltedPassword, "Server Key")
abbrev pub server_key : List ℕ → List ℕ
server_key salted = hmac_of salted (codes "Server Key")

-- AuthMessage := client-first-message-bare + "," + server-first-message + "," + client-final-message-without-proof
abbrev pub auth_message : List ℕ → List ℕ → List ℕ → List ℕ
auth_message bare server_first without_proof =
    bare ++ codes "," ++ server_first ++ codes "," ++ without_proof

-- ClientSignature := HMAC(StoredKey, AuthMessage)
abbrev pub client_signature : List ℕ → List ℕ → List ℕ
client_signature stored auth = hmac_of stored auth

-- ClientProof := ClientKey XOR ClientSignature
abbrev pub proof_of : List ℕ → List ℕ → List ℕ
proof_of client signature = xor_bytes client signature

-- ServerSignature := HMAC(ServerKey, AuthMessage), which the server's final message carries as its verifier
abbrev pub verifier_of : List ℕ → List ℕ → List ℕ
verifier_of server auth = hmac_of server auth
