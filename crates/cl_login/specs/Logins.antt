-- Which servers a client logs in at: only one that knows the password's keys, and each that does.
use Rattle.std.specs.Prelude.{◌≡◌, ◌≢◌, ◌↔◌, ℕ, true, List, Option, Some, Ok, codes}
use Rattle.cl_login.specs.LoginRows.{authing_row, client_header, features1_row, responding_row, sends}
use Rattle.xml_writer.specs.Items.{Opening, Whole}
use Rattle.cl_login.specs.declared.account.ClientAccount.{ClientAccount}
use Rattle.cl_login.specs.declared.answers.Next.TheVariants as next
use Rattle.cl_login.specs.declared.login_fault.LoginFault.TheVariants as fault
use Rattle.cl_login.specs.declared.login_state.LoginState.TheVariants as state
use Rattle.im_login.specs.Features.{features_read}
use Rattle.im_login.specs.declared.features.Features.{Features}
use Rattle.im_login.specs.Readings.{carrier_read}
use Rattle.im_login.specs.Sasl.{auth_of, carrier}
use Rattle.auth_scram.specs.Agreement.{Given, IsAllowed, server_given}
use Rattle.auth_scram.specs.Exchange.{ClientView, ReplyView, expecting, last_of, server_final_message}
use Rattle.auth_scram.specs.Messages.{client_first_of, server_final_of}
use Rattle.auth_scram.specs.declared.client_first.ClientFirst.{ClientFirst}
use Rattle.xml_trees.specs.Trees.{Elem}

-- The element is a success that carries a final message of the server within the grammar, with this verifier. `None`
-- stands for a message that has none of 32 bytes.
pub record HasVerifier (e : Elem) (verifier : Option (List ℕ)) : Type 0 where
  pub payload : List ℕ
  pub carried : carrier_read (codes "success") e ≡ Ok payload
  pub is_read : server_final_of payload ≡ Ok verifier

-- what becomes of a login that expects a verifier
pub record IsJudged (domain : List ℕ) (exchange : ClientView) (expected : List ℕ) (e : Elem) : Type 0 where
  pub goes_on : ((responding_row domain exchange e).next ≡ next.Goes state.Header2) ↔ HasVerifier e (Some expected)
  pub bad_verifier : (verifier : Option (List ℕ)) → HasVerifier e verifier → verifier ≢ Some expected
      → (responding_row domain exchange e).next ≡ next.Ends fault.BadVerifier

abbrev pub VerifiersLogIn : Type 0
VerifiersLogIn = (domain : List ℕ) (exchange : ClientView) (expected : List ℕ) (e : Elem)
    → exchange.expected ≡ Some expected → IsJudged domain exchange expected e

-- The login goes through: features that offer the mechanism are answered by `auth` with a message that the server reads, a
-- challenge with the server's first message by a response that the server accepts, and a success with what the server says
-- then by the header of the second stream.
pub record LogsIn (account : ClientAccount) (given : Given) : Type 0 where
  pub client : ClientView
  pub begins : (e : Elem) (features : Features) → features_read e ≡ Ok features → features.scram_sha_256 ≡ true
      → features1_row account given.nonce e ≡ sends (Whole (auth_of (codes "SCRAM-SHA-256") client.message)) (state.Authing client)
  pub first : ClientFirst
  pub is_read : client_first_of client.message ≡ Ok first
  pub name : first.name ≡ account.name
  pub reply : ReplyView
  pub replies : (e : Elem) → carrier_read (codes "challenge") e ≡ Ok (server_given given first).message
      → authing_row client e ≡ sends (Whole (carrier (codes "response") reply.message)) (state.Responding (expecting client (Ok reply)))
  pub accepts : last_of (server_given given first) reply.message ≡ Ok (server_final_message reply.verifier)
  pub succeeds : (e : Elem) → carrier_read (codes "success") e ≡ Ok (server_final_message reply.verifier)
      → responding_row account.domain (expecting client (Ok reply)) e ≡ sends (Opening (client_header account.domain)) state.Header2

-- at a server with credentials of the account's password
abbrev pub PasswordsLogIn : Type 0
PasswordsLogIn = (account : ClientAccount) (given : Given) → IsAllowed given → account.name ≡ given.name → account.password ≡ given.password
    → LogsIn account given
