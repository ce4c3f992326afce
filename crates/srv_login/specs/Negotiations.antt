-- How a client logs in by SCRAM-SHA-256 (RFC 6120, section 6; RFC 5802, sections 3 and 5).
use Rattle.std.specs.Prelude.{ℕ, Bool, false, List, Option, Some, None, Result, Ok, Err, codes, if◌then◌else◌}
use Rattle.std.specs.Str.{bytes_eq}
use Rattle.srv_login.specs.Accounts.{FoundView, account_named}
use Rattle.srv_login.specs.declared.account.Account.{Account}
use Rattle.srv_login.specs.declared.login.FinalAnswer.{FinalAnswer}
use Rattle.srv_login.specs.declared.login.FinalAnswer.TheVariants as final
use Rattle.srv_login.specs.declared.negotiation.AuthAnswer.{AuthAnswer}
use Rattle.srv_login.specs.declared.negotiation.AuthAnswer.TheVariants as auth
use Rattle.srv_login.specs.declared.negotiation.Negotiation.{Negotiation}
use Rattle.srv_login.specs.declared.sasl_condition.SaslCondition.{SaslCondition}
use Rattle.srv_login.specs.declared.sasl_condition.SaslCondition.TheVariants as condition
use Rattle.im_payload.specs.declared.fault.ExtFault.{ExtFault}
use Rattle.im_login.specs.Readings.{auth_read, carrier_read}
use Rattle.im_login.specs.Sasl.{auth_mechanism}
use Rattle.auth_scram.specs.Exchange.{added_nonce, begun_server, last_of}
use Rattle.auth_scram.specs.Messages.{client_first_of}
use Rattle.auth_scram.specs.declared.client_first.ClientFirst.{ClientFirst}
use Rattle.auth_scram.specs.declared.fault.ScramFault.{ScramFault}
use Rattle.auth_scram.specs.declared.fault.ScramFault.TheVariants.{Authzid, Malformed}
use Rattle.xml_trees.specs.Trees.{Elem}

-- the name of the condition's element (RFC 6120, section 6.5)
abbrev pub condition_name : SaslCondition → List ℕ
condition_name condition.Aborted = codes "aborted"
condition_name condition.IncorrectEncoding = codes "incorrect-encoding"
condition_name condition.InvalidAuthzid = codes "invalid-authzid"
condition_name condition.InvalidMechanism = codes "invalid-mechanism"
condition_name condition.MalformedRequest = codes "malformed-request"
condition_name condition.NotAuthorized = codes "not-authorized"

-- ---- `auth` (RFC 6120, section 6.4.2): the client's first message

abbrev pub is_scram : Option (List ℕ) → Bool
is_scram None = false
is_scram (Some mechanism) = bytes_eq mechanism (codes "SCRAM-SHA-256")

-- the exchange with the account that was found, or none
abbrev pub begun_by : ClientFirst → List ℕ → Option FoundView → AuthAnswer
begun_by first tail None = auth.Fails condition.NotAuthorized
begun_by first tail (Some found) = auth.Begins (record { account = found.position; exchange = begun_server first found.credentials tail })

-- why a first message begins no exchange
abbrev pub first_condition : ScramFault → SaslCondition
first_condition Authzid = condition.InvalidAuthzid
first_condition fault = condition.MalformedRequest

abbrev pub begun_with : List ℕ → List Account → Result ClientFirst ScramFault → AuthAnswer
begun_with tail accounts (Ok first) = begun_by first tail (account_named first.name accounts)
begun_with tail accounts (Err fault) = auth.Fails (first_condition fault)

-- the message is that of the element, with its mechanism
abbrev pub begun_of : List ℕ → List Account → Result (List ℕ × List ℕ) ExtFault → AuthAnswer
begun_of tail accounts (Ok read) = begun_with tail accounts (client_first_of read.1)
begun_of tail accounts (Err fault) = auth.Fails condition.IncorrectEncoding

-- the mechanism is judged first, then the encoding, then the message, then the account
abbrev pub auth_answer : Elem → List ℕ → List Account → AuthAnswer
auth_answer e entropy accounts =
    if is_scram (auth_mechanism e) then begun_of (added_nonce entropy) accounts (auth_read e) else auth.Fails condition.InvalidMechanism

-- ---- `response` (RFC 6120, section 6.4.3): the client's final message

-- whose login succeeded, and the server's final message
pub record LoginView : Type 0 where
  pub account : ℕ
  pub message : List ℕ

-- why a final message is refused
abbrev pub last_condition : ScramFault → SaslCondition
last_condition (Malformed at) = condition.MalformedRequest
last_condition fault = condition.NotAuthorized

abbrev pub ended_with : ℕ → Result (List ℕ) ScramFault → Result LoginView SaslCondition
ended_with account (Ok message) = Ok (record { account = account; message = message })
ended_with account (Err fault) = Err (last_condition fault)

abbrev pub ended_of : Negotiation → Result (List ℕ) ExtFault → Result LoginView SaslCondition
ended_of n (Ok payload) = ended_with n.account (last_of n.exchange payload)
ended_of n (Err fault) = Err condition.IncorrectEncoding

-- the encoding is judged first, then the message
abbrev pub final_answer : Elem → Negotiation → Result LoginView SaslCondition
final_answer e n = ended_of n (carrier_read (codes "response") e)

-- what is answered, without the room of its message
abbrev pub final_seen : FinalAnswer → Result LoginView SaslCondition
final_seen (final.Succeeds login) = Ok (record { account = login.account; message = login.message.items })
final_seen (final.Fails why) = Err why
