-- A client with the right password is logged in, and only one with the right proof.
use Rattle.std.proofs.Common.{◌≡◌, ℕ, Bool, true, false, cond, List, Option, Some, None, Result, Ok, Err, codes, refl, sym, ap, ◌∙◌}
use Rattle.std.specs.Prelude.{MatchResult}
use Rattle.auth_primitives.specs.Hashes.{verifier_of}
use Rattle.srv_login.specs.Accounts.{FoundView, account_named}
use Rattle.srv_login.specs.Logins.{HasRightProof, PasswordsLogIn, ProofsLogIn}
use Rattle.srv_login.specs.Negotiations.{LoginView, begun_by, begun_of, begun_with, ended_of, ended_with, final_answer, is_scram}
use Rattle.srv_login.specs.declared.account.Account.{Account}
use Rattle.srv_login.specs.declared.negotiation.AuthAnswer.{AuthAnswer}
use Rattle.srv_login.specs.declared.negotiation.AuthAnswer.TheVariants.{Begins}
use Rattle.srv_login.specs.declared.negotiation.Negotiation.{Negotiation}
use Rattle.im_payload.specs.Readings.{where_this}
use Rattle.im_payload.specs.declared.fault.ExtFault.{ExtFault}
use Rattle.im_login.specs.Readings.{auth_read, auth_with, carrier_read, payload_read}
use Rattle.im_login.specs.Sasl.{auth_mechanism, is_sasl, mechanism_of}
use Rattle.auth_scram.proofs.Judging.{all_exact}
use Rattle.auth_scram.proofs.ReadBack.{goes_through}
use Rattle.auth_scram.proofs.ReadWritten.{read_back}
use Rattle.auth_scram.specs.Agreement.{server_given}
use Rattle.auth_scram.specs.Exchange.{added_nonce, begun_server, credentials_of, last_of, server_auth, server_final_message}
use Rattle.auth_scram.specs.Judgements.{IsLastAnswer}
use Rattle.auth_scram.specs.Messages.{ClientFinalView, client_final_of, client_first_of}
use Rattle.auth_scram.specs.declared.client_first.ClientFirst.{ClientFirst}
use Rattle.auth_scram.specs.declared.fault.ScramFault.{ScramFault}
use Rattle.xml_trees.specs.Readers.{text_of}
use Rattle.xml_trees.specs.Trees.{Elem, nodes_of}

-- ---- the challenge

named_by : (named : Bool) (mechanism : Option (List ℕ)) (read : Result (List ℕ) ExtFault) (m p : List ℕ) → where_this named (auth_with mechanism read) ≡ Ok (m, p)
    → cond named mechanism None ≡ Some m
named_by false mechanism read m p e = absurd (cc e)
named_by true None read m p e = absurd (cc e)
named_by true (Some n) (Err fault) m p e = absurd (cc e)
named_by true (Some n) (Ok q) m p e =
    let both : (n, q) ≡ (m, p) = cc e in
    ap (λ (x : List ℕ × List ℕ). Some x.0) both

-- an `auth` that is read names its mechanism
mechanism_is : (e : Elem) (m p : List ℕ) → auth_read e ≡ Ok (m, p) → auth_mechanism e ≡ Some m
mechanism_is e m p read = named_by (is_sasl (codes "auth") e) (mechanism_of e) (payload_read (text_of (nodes_of e))) m p read

answer_by : (tail : List ℕ) (accounts : List Account) (mechanism : Option (List ℕ)) (read : Result (List ℕ × List ℕ) ExtFault) (other : AuthAnswer) (m p : List ℕ)
    → mechanism ≡ Some (codes "SCRAM-SHA-256") → read ≡ Ok (m, p) → cond (is_scram mechanism) (begun_of tail accounts read) other ≡ begun_with tail accounts (client_first_of p)
answer_by tail accounts mechanism read other m p scram is = rw (scram, is) refl

found_by : (tail : List ℕ) (accounts : List Account) (first : ClientFirst) (name : List ℕ) (read : Result ClientFirst ScramFault) (found : FoundView)
    → read ≡ Ok first → first.name ≡ name → account_named name accounts ≡ Some found
    → begun_with tail accounts read ≡ Begins (record { account = found.position; exchange = begun_server first found.credentials tail })
found_by tail accounts first name read found is_read is_named there =
    ap (begun_with tail accounts) is_read
    ∙ ap (λ (n : List ℕ). begun_by first tail (account_named n accounts)) is_named
    ∙ ap (begun_by first tail) there

-- ---- the right password

succeeded : (n : Negotiation) (e : Elem) (payload message : List ℕ) → carrier_read (codes "response") e ≡ Ok payload → last_of n.exchange payload ≡ Ok message
    → final_answer e n ≡ Ok (record { account = n.account; message = message })
succeeded n e payload message carried accepts = ap (ended_of n) carried ∙ ap (ended_with n.account) accepts

pub passwords_log_in : PasswordsLogIn
passwords_log_in given entropy accounts position allowed tail there =
    let through = goes_through read_back given allowed in
    let exchange = server_given given through.first in
    record {
      client = through.client;
      begins = through.begins;
      negotiation = record { account = position; exchange = exchange };
      challenged = λ e read.
          answer_by (added_nonce entropy) accounts (auth_mechanism e) (auth_read e) _ (codes "SCRAM-SHA-256") through.client.message
          (mechanism_is e (codes "SCRAM-SHA-256") through.client.message read) read
          ∙ ap (λ (t : List ℕ). begun_with t accounts (client_first_of through.client.message)) (sym tail)
          ∙ found_by given.tail accounts through.first given.name (client_first_of through.client.message)
          (record { position = position; credentials = credentials_of given.password given.salt given.iterations }) through.is_read through.name there;
      reply = through.reply;
      replies = through.replies;
      succeeds = λ e carried.
          succeeded (record { account = position; exchange = exchange }) e through.reply.message (server_final_message through.reply.verifier) carried through.accepts;
      checks = through.checks;
    }

-- ---- the right proof

record Ended (n : Negotiation) (read : Result (List ℕ) ExtFault) (login : LoginView) : Type 0 where
  payload : List ℕ
  carried : read ≡ Ok payload
  message : List ℕ
  accepted : last_of n.exchange payload ≡ Ok message
  is : login ≡ record { account = n.account; message = message }

ended_by : (account : ℕ) (answer : Result (List ℕ) ScramFault) (login : LoginView) → ended_with account answer ≡ Ok login
    → (message : List ℕ) × (answer ≡ Ok message) × (login ≡ record { account = account; message = message })
ended_by account (Ok message) login e = (message, refl, sym (cc e))
ended_by account (Err fault) login e = absurd (cc e)

ended : (n : Negotiation) (read : Result (List ℕ) ExtFault) (login : LoginView) → ended_of n read ≡ Ok login → Ended n read login
ended n (Err fault) login e = absurd (cc e)
ended n (Ok payload) login e =
    let by = ended_by n.account (last_of n.exchange payload) login e in
    record { payload = payload; carried = refl; message = by.0; accepted = by.1; is = by.2 }

record Judged (n : Negotiation) (payload message : List ℕ) (read : Result ClientFinalView ScramFault) : Type 0 where
  final : ClientFinalView
  is_read : read ≡ Ok final
  exact : IsLastAnswer n.exchange final (last_of n.exchange payload)

judged : (n : Negotiation) (payload message : List ℕ) (read : Result ClientFinalView ScramFault)
    → MatchResult read (λ final. IsLastAnswer n.exchange final (last_of n.exchange payload)) (λ fault. last_of n.exchange payload ≡ Err fault)
    → last_of n.exchange payload ≡ Ok message → Judged n payload message read
judged n payload message (Ok final) exact accepted = record { final = final; is_read = refl; exact = exact }
judged n payload message (Err fault) exact accepted = absurd (let both = sym exact ∙ accepted in cc both)

exact_of : (n : Negotiation) (payload : List ℕ) (read : Result ClientFinalView ScramFault) (final : ClientFinalView) → read ≡ Ok final
    → MatchResult read (λ final. IsLastAnswer n.exchange final (last_of n.exchange payload)) (λ fault. last_of n.exchange payload ≡ Err fault)
    → IsLastAnswer n.exchange final (last_of n.exchange payload)
exact_of n payload read final is exact = rw is at exact

only_right : (n : Negotiation) (e : Elem) (login : LoginView) → final_answer e n ≡ Ok login → HasRightProof n e login
only_right n e login answered =
    let end = ended n (carrier_read (codes "response") e) login answered in
    let by = judged n end.payload end.message (client_final_of n.exchange.flag end.payload) (all_exact.last n.exchange end.payload) end.accepted in
    let right = (by.exact.accepted end.message).0 end.accepted in
    record {
      payload = end.payload;
      carried = end.carried;
      final = by.final;
      is_read = by.is_read;
      nonce = right.0;
      proof = right.1;
      answers = end.is ∙ ap (λ (m : List ℕ). record { account = n.account; message = m }) right.2;
    }

right_is_enough : (n : Negotiation) (e : Elem) (login : LoginView) → HasRightProof n e login → final_answer e n ≡ Ok login
right_is_enough n e login right =
    let auth = server_auth n.exchange right.final.without_proof in
    let message = server_final_message (verifier_of n.exchange.server_key auth) in
    let exact = exact_of n right.payload (client_final_of n.exchange.flag right.payload) right.final right.is_read (all_exact.last n.exchange right.payload) in
    let accepted : last_of n.exchange right.payload ≡ Ok message = (exact.accepted message).1 (right.nonce, right.proof, refl) in
    succeeded n e right.payload message right.carried accepted ∙ ap (λ (l : LoginView). Ok l) (sym right.answers)

pub proofs_log_in : ProofsLogIn
proofs_log_in n e login = (only_right n e login, right_is_enough n e login)
