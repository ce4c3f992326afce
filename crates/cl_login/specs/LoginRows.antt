-- A client's login: from the first header of a stream to the second one (RFC 6120, sections 4.3, 4.7 and 6; RFC 5802,
-- section 5). One definition for each state.
use Rattle.std.specs.Prelude.{ℕ, List, Some, None, Result, Ok, Err, codes, if◌then◌else◌}
use Rattle.cl_login.specs.Puts.{Row}
use Rattle.xml_writer.specs.Items.{ItemOut, Opening, Whole}
use Rattle.cl_login.specs.declared.account.ClientAccount.{ClientAccount}
use Rattle.cl_login.specs.declared.answers.Next.TheVariants as next
use Rattle.cl_login.specs.declared.login_fault.LoginFault.{LoginFault}
use Rattle.cl_login.specs.declared.login_fault.LoginFault.TheVariants as fault
use Rattle.cl_login.specs.declared.login_state.LoginState.{LoginState}
use Rattle.cl_login.specs.declared.login_state.LoginState.TheVariants as state
use Rattle.im_login.specs.Features.{features_read}
use Rattle.im_login.specs.declared.features.Features.{Features}
use Rattle.xml_names.specs.declared.headers.Header.{Header}
use Rattle.im_payload.specs.declared.fault.ExtFault.{ExtFault}
use Rattle.im_login.specs.Readings.{carrier_read, failure_read}
use Rattle.im_login.specs.Sasl.{auth_of, carrier}
use Rattle.auth_scram.specs.Exchange.{ClientView, ReplyView, added_nonce, begun_client, check_of, expecting, reply_of}
use Rattle.auth_scram.specs.declared.fault.ScramFault.{ScramFault}
use Rattle.auth_scram.specs.declared.fault.ScramFault.TheVariants as scram
use Rattle.im_stanza.specs.Names.{client_ns, streams_ns}
use Rattle.xml_trees.specs.Trees.{Elem}

-- ---- what rows answer

-- the next item is awaited
abbrev pub waits : LoginState → Row
waits s = record { put = None; next = next.Goes s }

abbrev pub sends : ItemOut → LoginState → Row
sends item s = record { put = Some item; next = next.Goes s }

abbrev pub ends : LoginFault → Row
ends why = record { put = None; next = next.Ends why }

-- an element that its state doesn't await: a failure of SASL (RFC 6120, section 6.4.5), or another
abbrev pub other_fault : Result (List ℕ) ExtFault → LoginFault
other_fault (Ok condition) = fault.Sasl condition
other_fault (Err why) = fault.Unexpected

abbrev pub other_row : Elem → Row
other_row e = ends (other_fault (failure_read e))

-- ---- the beginning of a connection

-- the header of a client (RFC 6120, section 4.7): whom it is for, and the version
abbrev pub client_header : List ℕ → Header
client_header domain = record {
  ns = streams_ns;
  name = codes "stream";
  content = client_ns;
  to = Some domain;
  from = None;
  id = None;
  version = Some (codes "1.0");
  lang = None;
}

-- the client's nonce is made of the first bytes that were drawn for the connection (RFC 5802, section 5.1)
abbrev pub begin_row : List ℕ → List ℕ → Row
begin_row domain entropy = sends (Opening (client_header domain)) (state.Header1 (added_nonce entropy))

-- ---- headers

-- What the server's header says isn't looked at. Behind the second one the login is done.
abbrev pub header_row : LoginState → Row
header_row (state.Header1 nonce) = waits (state.Features1 nonce)
header_row (state.Features1 nonce) = ends fault.Unexpected
header_row (state.Authing exchange) = ends fault.Unexpected
header_row (state.Responding exchange) = ends fault.Unexpected
header_row state.Header2 = record { put = None; next = next.LoggedIn }

-- ---- the first features (RFC 6120, sections 4.3.2 and 6.4.2)

-- the exchange begins with the client's first message
abbrev pub begun : Result ClientView ScramFault → Row
begun (Ok exchange) = sends (Whole (auth_of (codes "SCRAM-SHA-256") exchange.message)) (state.Authing exchange)
begun (Err why) = ends fault.Scram

abbrev pub offered : ClientAccount → List ℕ → Elem → Result Features ExtFault → Row
offered account nonce e (Ok features) =
    if features.scram_sha_256 then begun (begun_client account.name account.password nonce) else ends fault.NoFeature
offered account nonce e (Err why) = other_row e

abbrev pub features1_row : ClientAccount → List ℕ → Elem → Row
features1_row account nonce e = offered account nonce e (features_read e)

-- ---- the challenge (RFC 6120, section 6.4.3), which is the server's first message

abbrev pub replied : ClientView → Result ReplyView ScramFault → Row
replied exchange (Ok reply) = sends (Whole (carrier (codes "response") reply.message)) (state.Responding (expecting exchange (Ok reply)))
replied exchange (Err why) = ends fault.Scram

abbrev pub challenged : ClientView → Elem → Result (List ℕ) ExtFault → Row
challenged exchange e (Ok payload) = replied exchange (reply_of exchange payload)
challenged exchange e (Err why) = other_row e

abbrev pub authing_row : ClientView → Elem → Row
authing_row exchange e = challenged exchange e (carrier_read (codes "challenge") e)

-- ---- the success (RFC 6120, section 6.4.6), which has the server's final message: the stream begins anew

abbrev pub check_fault : ScramFault → LoginFault
check_fault scram.BadVerifier = fault.BadVerifier
check_fault _ = fault.Scram

abbrev pub checked : List ℕ → Result (Unit {0}) ScramFault → Row
checked domain (Ok _) = sends (Opening (client_header domain)) state.Header2
checked domain (Err why) = ends (check_fault why)

abbrev pub succeeded : List ℕ → ClientView → Elem → Result (List ℕ) ExtFault → Row
succeeded domain exchange e (Ok payload) = checked domain (check_of exchange payload)
succeeded domain exchange e (Err why) = other_row e

abbrev pub responding_row : List ℕ → ClientView → Elem → Row
responding_row domain exchange e = succeeded domain exchange e (carrier_read (codes "success") e)

-- ---- elements, in any state

abbrev pub element_row : ClientAccount → LoginState → Elem → Row
element_row account (state.Header1 nonce) e = other_row e
element_row account (state.Features1 nonce) e = features1_row account nonce e
element_row account (state.Authing exchange) e = authing_row exchange e
element_row account (state.Responding exchange) e = responding_row account.domain exchange e
element_row account state.Header2 e = other_row e

-- ---- exchanges

-- an exchange as it is before a challenge is answered
abbrev pub unanswered : ClientView → ClientView
unanswered exchange = record exchange { expected = None }
