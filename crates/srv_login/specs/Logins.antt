-- Who is logged in: a client with the right password, and only one with the right proof.
use Rattle.std.specs.Prelude.{◌≡◌, ◌↔◌, ℕ, List, Some, Ok, codes}
use Rattle.auth_primitives.specs.Hashes.{verifier_of}
use Rattle.srv_login.specs.Accounts.{account_named}
use Rattle.srv_login.specs.Negotiations.{LoginView, auth_answer, final_answer}
use Rattle.srv_login.specs.declared.account.Account.{Account}
use Rattle.srv_login.specs.declared.negotiation.AuthAnswer.TheVariants.{Begins}
use Rattle.srv_login.specs.declared.negotiation.Negotiation.{Negotiation}
use Rattle.im_login.specs.Readings.{auth_read, carrier_read}
use Rattle.auth_scram.specs.Agreement.{Given, IsAllowed}
use Rattle.auth_scram.specs.Exchange.{ClientView, ReplyView, added_nonce, begun_client, check_of, credentials_of, expecting, reply_of, server_auth, server_final_message}
use Rattle.auth_scram.specs.Judgements.{IsRightProof}
use Rattle.auth_scram.specs.Messages.{ClientFinalView, client_final_of}
use Rattle.xml_trees.specs.Trees.{Elem}

-- The exchange goes through: the client begins, an `auth` with its first message is answered by a challenge, the client
-- replies to that, a `response` with the reply succeeds for the account at the place, and the client accepts the server's
-- final message.
pub record LogsIn (given : Given) (entropy : List ℕ) (accounts : List Account) (position : ℕ) : Type 0 where
  pub client : ClientView
  pub begins : begun_client given.name given.password given.nonce ≡ Ok client
  pub negotiation : Negotiation
  pub challenged : (e : Elem) → auth_read e ≡ Ok (codes "SCRAM-SHA-256", client.message) → auth_answer e entropy accounts ≡ Begins negotiation
  pub reply : ReplyView
  pub replies : reply_of client negotiation.exchange.message ≡ Ok reply
  pub succeeds : (e : Elem) → carrier_read (codes "response") e ≡ Ok reply.message
      → final_answer e negotiation ≡ Ok (record { account = position; message = server_final_message reply.verifier })
  pub checks : check_of (expecting client (Ok reply)) (server_final_message reply.verifier) ≡ Ok tt

-- with credentials of the client's password, whatever the other accounts are
abbrev pub PasswordsLogIn : Type 0
PasswordsLogIn = (given : Given) (entropy : List ℕ) (accounts : List Account) (position : ℕ)
    → IsAllowed given → given.tail ≡ added_nonce entropy
    → account_named given.name accounts ≡ Some (record { position = position; credentials = credentials_of given.password given.salt given.iterations })
    → LogsIn given entropy accounts position

-- The element carries a final message within the grammar, with the whole nonce and the right proof, and what is answered
-- is the account of the negotiation with the verifier.
pub record HasRightProof (n : Negotiation) (e : Elem) (login : LoginView) : Type 0 where
  pub payload : List ℕ
  pub carried : carrier_read (codes "response") e ≡ Ok payload
  pub final : ClientFinalView
  pub is_read : client_final_of n.exchange.flag payload ≡ Ok final
  pub nonce : final.nonce ≡ n.exchange.nonce
  pub proof : IsRightProof n.exchange.stored_key (server_auth n.exchange final.without_proof) final.proof
  pub answers : login ≡ record {
    account = n.account;
    message = server_final_message (verifier_of n.exchange.server_key (server_auth n.exchange final.without_proof));
  }

abbrev pub ProofsLogIn : Type 0
ProofsLogIn = (n : Negotiation) (e : Elem) (login : LoginView) → (final_answer e n ≡ Ok login) ↔ HasRightProof n e login
