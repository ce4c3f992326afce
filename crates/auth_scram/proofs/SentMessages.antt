-- The messages that the two ends send are in the grammar.
use Rattle.std.proofs.Common.{◌≡◌, ℕ, ◌≤◌, Bool, true, false, cond, ◌&&◌, List, ◌++◌, Some, Result, Ok, Err, refl, subst}
use Rattle.std.specs.Str.{bytes_eq}
use Rattle.std.proofs.lemmas.Bool.{and_parts}
use Rattle.base64.specs.GeneralPurpose.{IsBytes}
use Rattle.auth_primitives.specs.Hashes.{client_key, client_signature, proof_of, salted_password, stored_key, verifier_of}
use Rattle.auth_scram.specs.Exchange.{ClientView, CredentialsView, ReplyView, ServerView, adds_to, bare_of, base64_of, begun_client, begun_server, client_auth, client_final_without_proof, is_count_taken, is_plain, is_proof, last_of, reply_of, reply_to, sent, server_auth, server_final_message, then_judge, verifier_for}
use Rattle.auth_scram.specs.Grammar.{InClientFinal, InServerFinal, IsClientFirst, IsNonce, IsServerFirst}
use Rattle.auth_scram.specs.Messages.{ClientFinalView, ServerFirstView, client_final_of, client_first_of, server_first_of}
use Rattle.auth_scram.specs.Values.{most_told}
use Rattle.auth_scram.specs.declared.binding_flag.BindingFlag.TheVariants.{Unsupported}
use Rattle.auth_scram.specs.declared.client_first.ClientFirst.{ClientFirst}
use Rattle.auth_scram.specs.declared.fault.ScramFault.{ScramFault}
use Rattle.auth_scram.proofs.Digests.{IsBytes-hmac_of, IsBytes-xor_bytes}
use Rattle.auth_scram.proofs.MessageLaws.{first_found, server_first_found}
use Rattle.auth_scram.proofs.ReadBack.{is_nonce-append}
use Rattle.auth_scram.proofs.ReadWritten.{is_plain-some}
use Rattle.auth_scram.proofs.WrittenMessages.{bare_is, client_final_is, first_is, server_final_is, server_first_is}

-- what comes of a choice that came out well
record IsChosen {A : Type 0} (b : Bool) (value answer : A) : Type 0 where
  test : b ≡ true
  is : value ≡ answer

chosen_one : {A : Type 0} (b : Bool) (value answer : A) (fault : ScramFault) → cond b (Ok value) (Err fault) ≡ Ok answer → IsChosen b value answer
chosen_one true value answer fault e = record { test = refl; is = cc }
chosen_one false value answer fault e = absurd (cc)

chosen_two : {A : Type 0} (b d : Bool) (value answer : A) (first second : ScramFault) → cond b (cond d (Ok value) (Err second)) (Err first) ≡ Ok answer → value ≡ answer
chosen_two true true value answer first second e = cc
chosen_two true false value answer first second e = absurd (cc)
chosen_two false d value answer first second e = absurd (cc)

-- what was judged was read
record WasRead {A B : Type 0} (judge : A → Result B ScramFault) (read : Result A ScramFault) (answer : B) : Type 0 where
  message : A
  is : read ≡ Ok message
  judged : judge message ≡ Ok answer

was_read : {A B : Type 0} (judge : A → Result B ScramFault) (read : Result A ScramFault) (answer : B) → then_judge judge read ≡ Ok answer → WasRead judge read answer
was_read judge (Ok message) answer e = record { message = message; is = refl; judged = e }
was_read judge (Err fault) answer e = absurd (cc)

-- ---- the client's first message

pub client_first_sent : (name password nonce : List ℕ) (client : ClientView) → IsNonce nonce → begun_client name password nonce ≡ Ok client → IsClientFirst (Some Unsupported) false name nonce (bare_of client) client.message
client_first_sent name password nonce client random begins =
    let chosen = chosen_one (is_plain name && is_plain password) _ client _ begins in
    let plain = and_parts (is_plain name) (is_plain password) chosen.test in
    subst (λ (c : ClientView). IsClientFirst (Some Unsupported) false name nonce (bare_of c) c.message) chosen.is
    (first_is Unsupported name nonce _ (bare_is name nonce (is_plain-some name plain.0) random))

-- ---- the server's first message

pub server_first_sent : (bytes tail : List ℕ) (first : ClientFirst) (credentials : CredentialsView) → client_first_of bytes ≡ Ok first → IsNonce tail → IsBytes credentials.salt
    → 1 ≤ credentials.iterations → credentials.iterations ≤ most_told
    → IsServerFirst (first.nonce ++ tail) credentials.salt credentials.iterations (begun_server first credentials tail).message
unfolding base64_of
server_first_sent bytes tail first credentials read random fits some most =
    let found = first_found bytes first read in
    server_first_is (first.nonce ++ tail) credentials.salt credentials.iterations
    (is_nonce-append first.nonce tail found.said.random random) fits some most

-- ---- the final messages

reply_sent : (client : ClientView) (bytes nonce salt : List ℕ) (count : ℕ) (reply : ReplyView) → IsNonce nonce → reply_to client bytes nonce salt count ≡ Ok reply → InClientFinal Unsupported reply.message
unfolding base64_of
reply_sent client bytes nonce salt count reply random e =
    let same = chosen_two (adds_to client.nonce nonce) (is_count_taken count) _ reply _ _ e in
    let salted = salted_password client.password salt count in
    let signature = client_signature (stored_key (client_key salted)) (client_auth client bytes nonce) in
    let proof = proof_of (client_key salted) signature in
    subst (λ (r : ReplyView). InClientFinal Unsupported r.message) same
    (client_final_without_proof nonce, nonce, proof, client_final_is Unsupported nonce proof random (IsBytes-xor_bytes (client_key salted) signature (IsBytes-hmac_of _ _) (IsBytes-hmac_of _ _)))

pub client_final_sent : (client : ClientView) (bytes : List ℕ) (reply : ReplyView) → reply_of client bytes ≡ Ok reply → InClientFinal Unsupported reply.message
client_final_sent client bytes reply e =
    let read = was_read (λ (m : ServerFirstView). reply_to client bytes m.nonce m.salt m.count) (server_first_of bytes) reply e in
    let found = server_first_found bytes read.message read.is in
    reply_sent client bytes read.message.nonce read.message.salt read.message.count reply found.1.random read.judged

sent_ok : (f : List ℕ → List ℕ) (r : Result (List ℕ) ScramFault) (message : List ℕ) → sent f r ≡ Ok message → (x : List ℕ) × (r ≡ Ok x) × (f x ≡ message)
sent_ok f (Ok x) message e = (x, refl, cc)
sent_ok f (Err fault) message e = absurd (cc)

pub server_final_sent : (server : ServerView) (bytes message : List ℕ) → last_of server bytes ≡ Ok message → InServerFinal message
unfolding base64_of
server_final_sent server bytes message e =
    let judge : ClientFinalView → Result (List ℕ) ScramFault = λ m. verifier_for server m.without_proof m.nonce m.proof in
    let spelled = sent_ok server_final_message (then_judge judge (client_final_of server.flag bytes)) message e in
    let read = was_read judge (client_final_of server.flag bytes) spelled.0 spelled.1 in
    let auth = server_auth server read.message.without_proof in
    let verifier = verifier_of server.server_key auth in
    let same : verifier ≡ spelled.0 =
    chosen_two (bytes_eq read.message.nonce server.nonce) (is_proof server.stored_key auth read.message.proof) verifier spelled.0 _ _ read.judged in
    subst InServerFinal spelled.2 (subst (λ (v : List ℕ). InServerFinal (server_final_message v)) same (Some verifier, server_final_is verifier (IsBytes-hmac_of _ _)))
