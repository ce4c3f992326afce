-- When each answer of the two ends comes: the definitions of the answers, said as relations (RFC 5802 section 5).
use Rattle.std.specs.Prelude.{◌≡◌, ◌≢◌, ◌↔◌, ℕ, ◌<◌, ◌≤◌, List, ◌++◌, length, Option, Some, Result, Ok, Err, MatchResult}
use Rattle.auth_scram.specs.Exchange.{ClientView, ReplyView, ServerView, check_of, client_auth, client_final_without_proof, last_of, replied, reply_of, server_auth, server_final_message}
use Rattle.auth_primitives.specs.Hashes.{client_signature, salted_password, stored_key, verifier_of, xor_bytes}
use Rattle.auth_scram.specs.Messages as reading
use Rattle.auth_scram.specs.Messages.{ClientFinalView, ServerFirstView}
use Rattle.auth_scram.specs.declared.fault.ScramFault.{ScramFault}
use Rattle.auth_scram.specs.declared.fault.ScramFault.TheVariants.{BadNonce, BadProof, BadVerifier, Iterations}

-- the proof has 32 bytes, and the key that it comes from under the client's signature has the stored hash
pub record IsRightProof (stored auth : List ℕ) (proof : Option (List ℕ)) : Type 0 where
  pub bytes : List ℕ
  pub is : proof ≡ Some bytes
  pub key : stored_key (xor_bytes bytes (client_signature stored auth)) ≡ stored

-- what the server answers to a final message within the grammar
pub record IsLastAnswer (server : ServerView) (final : ClientFinalView) (answer : Result (List ℕ) ScramFault) : Type 0 where
  pub accepted : (message : List ℕ) → (answer ≡ Ok message)
      ↔ ((final.nonce ≡ server.nonce)
      × IsRightProof server.stored_key (server_auth server final.without_proof) final.proof
      × (message ≡ server_final_message (verifier_of server.server_key (server_auth server final.without_proof))))
  pub bad_nonce : (answer ≡ Err BadNonce) ↔ (final.nonce ≢ server.nonce)
  pub bad_proof : (answer ≡ Err BadProof)
      ↔ ((final.nonce ≡ server.nonce)
      × (¬ (IsRightProof server.stored_key (server_auth server final.without_proof) final.proof)))

-- the nonce is the client's and a part of the server's own, which is not empty (RFC 5802 section 5.1, `r`)
pub record Continues (client : ClientView) (nonce : List ℕ) : Type 0 where
  pub tail : List ℕ
  pub some : 0 < length tail
  pub is : nonce ≡ client.nonce ++ tail

abbrev pub IsCountTaken : ℕ → Type 0
IsCountTaken i = (4096 ≤ i) × (i ≤ 1000000)

-- what the client answers to a first message of the server within the grammar
pub record IsReply (client : ClientView) (server_first : List ℕ) (first : ServerFirstView) (answer : Result ReplyView ScramFault) : Type 0 where
  pub accepted : (reply : ReplyView) → (answer ≡ Ok reply)
      ↔ (Continues client first.nonce
      × IsCountTaken first.count
      × (reply ≡ replied (client_final_without_proof first.nonce)
      (salted_password client.password first.salt first.count) (client_auth client server_first first.nonce)))
  pub bad_nonce : (answer ≡ Err BadNonce) ↔ (¬ (Continues client first.nonce))
  pub iterations : (count : ℕ) → (answer ≡ Err (Iterations count))
      ↔ (Continues client first.nonce × (¬ (IsCountTaken first.count)) × (count ≡ first.count))

-- what a client that expects a verifier answers to a final message of the server within the grammar
pub record IsCheck (expected : List ℕ) (verifier : Option (List ℕ)) (answer : Result (Unit {0}) ScramFault) : Type 0 where
  pub accepted : (answer ≡ Ok tt) ↔ (verifier ≡ Some expected)
  pub bad_verifier : (answer ≡ Err BadVerifier) ↔ (verifier ≢ Some expected)

-- a message that leaves the grammar is refused as such; else the answers are as above
pub record JudgementsAreExact : Type 0 where
  pub last : (server : ServerView) (bytes : List ℕ)
      → MatchResult (reading.client_final_of server.flag bytes)
      (λ final. IsLastAnswer server final (last_of server bytes))
      (λ fault. last_of server bytes ≡ Err fault)
  pub reply : (client : ClientView) (bytes : List ℕ)
      → MatchResult (reading.server_first_of bytes)
      (λ first. IsReply client bytes first (reply_of client bytes))
      (λ fault. reply_of client bytes ≡ Err fault)
  pub check : (client : ClientView) (expected bytes : List ℕ) → client.expected ≡ Some expected
      → MatchResult (reading.server_final_of bytes)
      (λ verifier. IsCheck expected verifier (check_of client bytes))
      (λ fault. check_of client bytes ≡ Err fault)
