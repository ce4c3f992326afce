-- The states from the first header to the second one, whose rows are those of a login (RFC 6120, sections 4.3 and 6).
use Rattle.cl_handlers.specs.Clients.{ClientStep}
use Rattle.cl_handlers.specs.Speech.{Speech, uttered_where}
use Rattle.cl_handlers.specs.ClientSteps.{ends, goes, puts}
use Rattle.cl_handlers.specs.declared.events.PeerFault.{PeerFault}
use Rattle.cl_handlers.specs.declared.events.PeerFault.TheVariants as peer
use Rattle.cl_handlers.specs.declared.phase.Phase.{Phase}
use Rattle.cl_handlers.specs.declared.phase.Phase.TheVariants as phase
use Rattle.cl_login.specs.LoginRows as rows
use Rattle.cl_login.specs.LoginRows.{other_fault}
use Rattle.cl_login.specs.Puts.{Row}
use Rattle.cl_login.specs.declared.answers.Next.{Next}
use Rattle.cl_login.specs.declared.answers.Next.TheVariants as next
use Rattle.cl_login.specs.declared.login_fault.LoginFault.{LoginFault}
use Rattle.cl_login.specs.declared.login_fault.LoginFault.TheVariants as login
use Rattle.cl_login.specs.declared.login_state.LoginState.{LoginState}
use Rattle.im_login.specs.Readings.{failure_read}
use Rattle.xml_trees.specs.Trees.{Elem}

abbrev pub peer_fault : LoginFault → PeerFault
peer_fault (login.Sasl condition) = peer.Sasl condition
peer_fault login.BadVerifier = peer.BadVerifier
peer_fault login.Scram = peer.Scram
peer_fault login.NoFeature = peer.NoFeature
peer_fault login.Unexpected = peer.Unexpected

-- behind the login the features of the second stream are awaited
abbrev pub goes_on : {A X : Type 0} → ClientStep A X → Next → ClientStep A X
goes_on t (next.Goes state) = goes t (phase.Login state)
goes_on t next.LoggedIn = goes t phase.Features2
goes_on t (next.Ends why) = ends t (peer_fault why)

abbrev pub follows : {A X : Type 0} → Speech A X → ClientStep A X → Row → ClientStep A X
follows speech t row = goes_on (puts t (uttered_where speech row.put)) row.next

-- an element that its state doesn't await: a failure of SASL (RFC 6120, section 6.4.5), or another
abbrev pub other_element : {A X : Type 0} → ClientStep A X → Elem → ClientStep A X
other_element t e = ends t (peer_fault (other_fault (failure_read e)))

-- ---- headers: one that comes later is dropped where the client is online, and isn't awaited elsewhere

abbrev pub header_row : {A X : Type 0} → Speech A X → ClientStep A X → Phase → ClientStep A X
header_row speech t phase.Apart = t
header_row speech t (phase.Login state) = follows speech t (rows.header_row state)
header_row speech t phase.Online = t
header_row speech t _ = ends t peer.Unexpected

-- ---- elements

abbrev pub login_row : {A X : Type 0} → Speech A X → ClientStep A X → LoginState → Elem → ClientStep A X
login_row speech t state e = follows speech t (rows.element_row t.client.account.login state e)
