-- One exchange of SCRAM-SHA-256: the four messages as its two ends make them (RFC 5802 sections 3, 5 and 7, without
-- extensions), and what each end holds.
use Rattle.std.specs.Prelude.{◌≡◌, ℕ, Bool, false, nat_eq, drop, ◌&&◌, nat_le, nat_lt, if◌then◌else◌, List, ◌++◌, length, take, codes, decimal, Option, Some, None, Result, Ok, Err, IsOk}
use Rattle.std.specs.List.{list_all, starts_with}
use Rattle.std.specs.Str.{bytes_eq}
use Rattle.sha2.specs.Sha256.{sha256}
use Rattle.base64.specs.Engines.{standard}
use Rattle.base64.specs.GeneralPurpose.{encode_of}
use Rattle.auth_scram.specs.declared.fault.ScramFault.{ScramFault}
use Rattle.auth_scram.specs.declared.fault.ScramFault.TheVariants.{BadName, BadNonce, BadProof, BadVerifier, Iterations, NoMemory}
use Rattle.auth_scram.specs.declared.binding_flag.BindingFlag.{BindingFlag}
use Rattle.auth_scram.specs.declared.client_first.ClientFirst.{ClientFirst}
use Rattle.auth_scram.specs.Grammar.{escaped, gs2_header}
use Rattle.auth_scram.specs.Messages as reading
use Rattle.auth_scram.specs.Messages.{gs2_base64}
use Rattle.auth_scram.specs.declared.binding_flag.BindingFlag.TheVariants.{Unsupported}
use Rattle.auth_primitives.specs.Hashes.{auth_message, client_key, client_signature, proof_of, salted_password, server_key, stored_key, verifier_of, xor_bytes}

-- printable ASCII: U+20 to U+7E
abbrev pub is_printable_ascii : ℕ → Bool
is_printable_ascii b = nat_le 32 b && nat_le b 126

-- a name or a password that this profile takes: printable ASCII, and not empty
abbrev pub is_plain : List ℕ → Bool
is_plain text = nat_lt 0 (length text) && list_all is_printable_ascii text

-- what the server keeps for an account in place of its password (RFC 5802 section 3)
pub record CredentialsView : Type 0 where
  pub salt : List ℕ
  pub iterations : ℕ
  pub stored_key : List ℕ
  pub server_key : List ℕ

abbrev pub credentials_of : List ℕ → List ℕ → ℕ → CredentialsView
credentials_of password salt i = record {
  salt = salt;
  iterations = i;
  stored_key = stored_key (client_key (salted_password password salt i));
  server_key = server_key (salted_password password salt i);
}

-- ---- the messages

-- base64 (RFC 4648 section 4)
unfoldable pub base64_of : List ℕ → List ℕ
base64_of bytes = encode_of standard bytes

-- the nonce that an end adds, of the bytes that were drawn for it
abbrev pub nonce_of : List ℕ → List ℕ
nonce_of drawn = base64_of drawn

-- the nonce that an end adds, of the first 18 bytes that were drawn for its connection
abbrev pub added_nonce : List ℕ → List ℕ
added_nonce entropy = nonce_of (take 18 entropy)

-- the salt of an account, by its bare address
abbrev pub salt_of : List ℕ → List ℕ
salt_of bare = take 16 (sha256 bare)

-- client-first-message-bare
abbrev pub client_first_bare : List ℕ → List ℕ → List ℕ
client_first_bare name nonce = codes "n=" ++ escaped name ++ codes ",r=" ++ nonce

-- client-first-message, of a client that knows no channel binding
abbrev pub client_first_message : List ℕ → List ℕ → List ℕ
client_first_message name nonce = gs2_header Unsupported ++ client_first_bare name nonce

-- server-first-message
abbrev pub server_first_message : List ℕ → List ℕ → ℕ → List ℕ
server_first_message nonce salt i = codes "r=" ++ nonce ++ codes ",s=" ++ base64_of salt ++ codes ",i=" ++ decimal i

-- client-final-message-without-proof, with the base64 of the GS2 header
abbrev pub client_final_without_proof : List ℕ → List ℕ
client_final_without_proof nonce = codes "c=" ++ gs2_base64 Unsupported ++ codes ",r=" ++ nonce

-- client-final-message
abbrev pub with_proof : List ℕ → List ℕ → List ℕ
with_proof without_proof proof = without_proof ++ codes ",p=" ++ base64_of proof

abbrev pub client_final_message : List ℕ → List ℕ → List ℕ
client_final_message nonce proof = with_proof (client_final_without_proof nonce) proof

-- server-final-message
abbrev pub server_final_message : List ℕ → List ℕ
server_final_message verifier = codes "v=" ++ base64_of verifier

-- ---- the ends

-- the server behind its first message: the flag and the bare message of the client's first one, the whole nonce,
-- its own first message, and the account's keys
pub record ServerView : Type 0 where
  pub flag : BindingFlag
  pub bare : List ℕ
  pub nonce : List ℕ
  pub message : List ℕ
  pub stored_key : List ℕ
  pub server_key : List ℕ

-- the server's nonce is the client's with a tail of its own
abbrev pub begun_server : ClientFirst → CredentialsView → List ℕ → ServerView
begun_server client credentials tail = record {
  flag = client.flag;
  bare = client.bare;
  nonce = client.nonce ++ tail;
  message = server_first_message (client.nonce ++ tail) credentials.salt credentials.iterations;
  stored_key = credentials.stored_key;
  server_key = credentials.server_key;
}

-- the client: its password and nonce, its first message, and once it has replied the verifier that it expects
pub record ClientView : Type 0 where
  pub password : List ℕ
  pub nonce : List ℕ
  pub message : List ℕ
  pub expected : Option (List ℕ)

abbrev pub begun_client : List ℕ → List ℕ → List ℕ → Result ClientView ScramFault
begun_client name password nonce =
    if is_plain name && is_plain password
    then Ok (record { password = password; nonce = nonce; message = client_first_message name nonce; expected = None })
    else Err BadName

-- ---- judging

-- H(ClientProof XOR ClientSignature) is the StoredKey. `None` stands for a proof that has not 32 bytes
abbrev pub is_proof : List ℕ → List ℕ → Option (List ℕ) → Bool
is_proof stored auth None = false
is_proof stored auth (Some proof) =
    bytes_eq (stored_key (xor_bytes proof (client_signature stored auth))) stored

-- AuthMessage, as the server has it
abbrev pub server_auth : ServerView → List ℕ → List ℕ
server_auth server without_proof = auth_message server.bare server.message without_proof

-- the server's verifier, for a final message of these parts: first the nonce is judged and then the proof
abbrev pub verifier_for : ServerView → List ℕ → List ℕ → Option (List ℕ) → Result (List ℕ) ScramFault
verifier_for server without_proof nonce proof =
    if bytes_eq nonce server.nonce
    then (if is_proof server.stored_key (server_auth server without_proof) proof
    then Ok (verifier_of server.server_key (server_auth server without_proof))
    else Err BadProof)
    else Err BadNonce

-- the client's final message, and the verifier that it then expects
pub record ReplyView : Type 0 where
  pub message : List ℕ
  pub verifier : List ℕ

-- client-first-message-bare, after the GS2 header
abbrev pub bare_of : ClientView → List ℕ
bare_of client = drop 3 client.message

-- AuthMessage, as the client has it
abbrev pub client_auth : ClientView → List ℕ → List ℕ → List ℕ
client_auth client server_first nonce =
    auth_message (bare_of client) server_first (client_final_without_proof nonce)

-- the proof behind the rest of a final message, and the verifier, under a SaltedPassword
abbrev pub replied : List ℕ → List ℕ → List ℕ → ReplyView
replied without_proof salted auth = record {
  message = with_proof without_proof
      (proof_of (client_key salted) (client_signature (stored_key (client_key salted)) auth));
  verifier = verifier_of (server_key salted) auth;
}

-- the counts of iterations that the client takes
abbrev pub is_count_taken : ℕ → Bool
is_count_taken i = nat_le 4096 i && nat_le i 1000000

-- the server's nonce begins with the client's and adds a part of its own to it (RFC 5802 section 5.1, `r`)
abbrev pub adds_to : List ℕ → List ℕ → Bool
adds_to own whole = starts_with nat_eq whole own && nat_lt (length own) (length whole)

-- the client's reply to a first message of the server of these parts: first the nonce is judged and then the count
abbrev pub reply_to : ClientView → List ℕ → List ℕ → List ℕ → ℕ → Result ReplyView ScramFault
reply_to client server_first nonce salt i =
    if adds_to client.nonce nonce
    then (if is_count_taken i
    then Ok (replied (client_final_without_proof nonce) (salted_password client.password salt i)
    (client_auth client server_first nonce))
    else Err (Iterations i))
    else Err BadNonce

-- a verifier is the one that is expected. `None` stands for a message that has none of 32 bytes
abbrev pub is_verifier : Option (List ℕ) → Option (List ℕ) → Bool
is_verifier (Some expected) (Some verifier) = bytes_eq verifier expected
is_verifier (Some expected) None = false
is_verifier None verifier = false

abbrev pub is_expected : ClientView → Option (List ℕ) → Result (Unit {0}) ScramFault
is_expected client verifier = if is_verifier client.expected verifier then Ok tt else Err BadVerifier

-- ---- what either end answers to a message: the grammar is judged first

-- what comes of a reading
abbrev pub then_judge : {A B : Type 0} → (A → Result B ScramFault) → Result A ScramFault → Result B ScramFault
then_judge judge (Ok message) = judge message
then_judge judge (Err fault) = Err fault

-- a message where there is something to send
abbrev pub sent : {A : Type 0} → (A → List ℕ) → Result A ScramFault → Result (List ℕ) ScramFault
sent spelled (Ok x) = Ok (spelled x)
sent spelled (Err fault) = Err fault

-- the server's answer to the client's final message
abbrev pub last_of : ServerView → List ℕ → Result (List ℕ) ScramFault
last_of server bytes =
    sent server_final_message
    (then_judge (λ m. verifier_for server m.without_proof m.nonce m.proof) (reading.client_final_of server.flag bytes))

-- the client's reply to the server's first message
abbrev pub reply_of : ClientView → List ℕ → Result ReplyView ScramFault
reply_of client bytes =
    then_judge (λ m. reply_to client bytes m.nonce m.salt m.count) (reading.server_first_of bytes)

-- the client behind its reply
abbrev pub expecting : ClientView → Result ReplyView ScramFault → ClientView
expecting client (Ok reply) = record client { expected = Some reply.verifier }
expecting client (Err fault) = client

-- the client's answer to the server's final message
abbrev pub check_of : ClientView → List ℕ → Result (Unit {0}) ScramFault
check_of client bytes = then_judge (is_expected client) (reading.server_final_of bytes)

-- ---- results and answers

-- a result is the answer, seen by `view`. Memory may run out, and only where the answer is Ok
abbrev pub Judges : {A B : Type 0} → (A → B) → Result A ScramFault → Result B ScramFault → Type 0
Judges view (Ok x) answer = answer ≡ Ok (view x)
Judges view (Err NoMemory) answer = IsOk answer
Judges view (Err e) answer = answer ≡ Err e
