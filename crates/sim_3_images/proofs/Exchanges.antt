-- An exchange under one password goes through, and its messages are bytes.
use Rattle.std.proofs.Common.{◌≡◌, ℕ, ◌<◌, ◌^◌, Bool, true, false, cond, ◌&&◌, ◌++◌, List, Result, Ok, Err, refl, sym, subst}
use Rattle.std.proofs.lemmas.Bool.{and_parts}
use Rattle.std.specs.List.{list_all}
use Rattle.std.specs.Prelude.{nat_lt, length}
use Rattle.base64.specs.GeneralPurpose.{IsBytes}
use Rattle.sim_3_images.proofs.LoginTexts.{auth_bytes, challenge_bytes, response_bytes, success_bytes}
use Rattle.auth_primitives.specs.Hashes.{client_key, client_signature, proof_of, salted_password, stored_key}
use Rattle.auth_scram.proofs.MessageLaws.{server_first_found}
use Rattle.auth_scram.proofs.ReadBack.{goes_through, is_nonce-append}
use Rattle.auth_scram.proofs.ReadWritten.{read_back}
use Rattle.auth_scram.specs.Agreement.{Given, GoesThrough, IsAllowed, server_given}
use Rattle.auth_scram.specs.Exchange.{ClientView, ReplyView, adds_to, begun_client, client_auth, is_count_taken, is_plain, is_printable_ascii, reply_of, reply_to, server_final_message, server_first_message, then_judge}
use Rattle.auth_scram.specs.Grammar.{is_nonce}
use Rattle.auth_scram.specs.Messages.{ServerFirstView, server_first_of}
use Rattle.auth_scram.specs.declared.fault.ScramFault.{ScramFault}

-- what comes of a choice that came out well
record IsChosen {A : Type 0} (b : Bool) (value answer : A) : Type 0 where
  test : b ≡ true
  is : value ≡ answer

chosen_one : {A : Type 0} (b : Bool) (value answer : A) (fault : ScramFault) → cond b (Ok value) (Err fault) ≡ Ok answer → IsChosen b value answer
chosen_one true value answer fault e = record { test = refl; is = cc }
chosen_one false value answer fault e = absurd (cc)

chosen_two : {A : Type 0} (b d : Bool) (value answer : A) (first second : ScramFault) → cond b (cond d (Ok value) (Err second)) (Err first) ≡ Ok answer → value ≡ answer
chosen_two true true value answer first second e = cc
chosen_two true false value answer first second e = absurd (cc)
chosen_two false d value answer first second e = absurd (cc)

record WasRead {A B : Type 0} (judge : A → Result B ScramFault) (read : Result A ScramFault) (answer : B) : Type 0 where
  message : A
  is : read ≡ Ok message
  judged : judge message ≡ Ok answer

was_read : {A B : Type 0} (judge : A → Result B ScramFault) (read : Result A ScramFault) (answer : B) → then_judge judge read ≡ Ok answer → WasRead judge read answer
was_read judge (Ok message) answer e = record { message = message; is = refl; judged = e }
was_read judge (Err fault) answer e = absurd (cc)

-- ---- each message

auth_sent : (name password nonce : List ℕ) (client : ClientView) → is_nonce nonce ≡ true → begun_client name password nonce ≡ Ok client → IsBytes client.message
auth_sent name password nonce client random begins =
    let chosen = chosen_one (is_plain name && is_plain password) _ client _ begins in
    let plain = and_parts (is_plain name) (is_plain password) chosen.test in
    let printable = and_parts (nat_lt 0 (length name)) (list_all is_printable_ascii name) plain.0 in
    subst (λ (c : ClientView). IsBytes c.message) chosen.is (auth_bytes name nonce printable.1 random)

response_sent : (client : ClientView) (bytes : List ℕ) (reply : ReplyView) → reply_of client bytes ≡ Ok reply → IsBytes reply.message
response_sent client bytes reply e =
    let read = was_read (λ (m : ServerFirstView). reply_to client bytes m.nonce m.salt m.count) (server_first_of bytes) reply e in
    let m = read.message in
    let found = server_first_found bytes m read.is in
    let salted = salted_password client.password m.salt m.count in
    let same = chosen_two (adds_to client.nonce m.nonce) (is_count_taken m.count) _ reply _ _ read.judged in
    subst (λ (r : ReplyView). IsBytes r.message) same
    (response_bytes m.nonce (proof_of (client_key salted) (client_signature (stored_key (client_key salted)) (client_auth client bytes m.nonce))) found.1.random)

-- ---- the exchange

pub record GoesInBytes (given : Given) : Type 0 where
  pub through : GoesThrough given
  pub auth : IsBytes through.client.message
  pub challenge : IsBytes (server_given given through.first).message
  pub response : IsBytes through.reply.message
  pub success : IsBytes (server_final_message through.reply.verifier)

pub goes_in_bytes : (given : Given) → IsAllowed given → given.iterations < 2 ^ 64 → GoesInBytes given
goes_in_bytes given allowed small =
    let through = goes_through read_back given allowed in
    let whole = is_nonce-append given.nonce given.tail allowed.nonce allowed.tail in
    record {
      through = through;
      auth = auth_sent given.name given.password given.nonce through.client allowed.nonce through.begins;
      challenge = subst (λ (n : List ℕ). IsBytes (server_first_message (n ++ given.tail) given.salt given.iterations)) (sym through.nonce) (challenge_bytes (given.nonce ++ given.tail) given.salt given.iterations whole small);
      response = response_sent through.client (server_given given through.first).message through.reply through.replies;
      success = success_bytes through.reply.verifier;
    }
