-- A stanza of a device's session is handled by a list of small steps. What they send to the session of a device, its
-- own or another, is put there.
use Rattle.std.specs.Prelude.{◌≡◌, ℕ, nat_eq, true, if◌then◌else◌, List, [], ◌∷◌, ◌++◌, Option, Some, None}
use Rattle.sim_3_images.specs.Puts.{is_put_as_stanza, puts_on}
use Rattle.srv_state.specs.State.{Out, ServerState, Step}
use Rattle.srv_state.specs.Steps.{Act, Send}
use Rattle.sim_3_items.specs.Counted.{IsForServer}
use Rattle.sim_3_items.specs.Labels.{Label, gives_all}
use Rattle.sim_3_items.specs.Identities.{Identity, Login}
use Rattle.sim_3_items.specs.ItemPipes.{ItemWire}
use Rattle.sim_3_items.specs.ItemWorlds.{itself}
use Rattle.sim_2_links.specs.Views.{Row, Table, View}
use Rattle.sm_live.specs.Sessions.{Session, session_named, told}
use Rattle.sim_4_links_follow.specs.Taking.{StepFollows}
use Rattle.im_stanza.specs.Readings.{stanza_of}
use Rattle.srv_core.specs.Stanzas.{handling}
use Rattle.xml_writer.specs.Items.{ItemOut}

-- ---- the stanza

-- it is one that the server takes, of the live session of the device, which is counted
pub record IsOfSession (who : Identity) (h : ServerState ItemOut) (z : ItemOut) : Type 0 where
  pub stanza : IsForServer z
  pub session : Session ItemOut
  pub named : session_named who.account who.resource h.sessions ≡ Some session
  pub counted : session.shown.counted ≡ true

-- what the server does behind counting it
abbrev pub acts_on : (who : Identity) (h : ServerState ItemOut) (z : ItemOut) → IsOfSession who h z → List (Act ItemOut)
acts_on who h z x = handling itself (stanza_of x.stanza.elem) (told x.session) h

-- ---- what small steps send to the session with a number

abbrev pub sent_to : ℕ → Act ItemOut → List ItemOut
sent_to n (Send m z) = if nat_eq m n then z ∷ [] else []
sent_to n _ = []

abbrev pub sends_to : ℕ → List (Act ItemOut) → List ItemOut
sends_to n [] = []
sends_to n (act ∷ acts) = sent_to n act ++ sends_to n acts

-- ---- what was given to a device

-- All that is sent to its session, where that lives on. Where it ends on the way, since no more stanzas may wait in its
-- queue, all before the one that would have been too many. And nothing, where the device has no session. The session is
-- told by its row in the links, before and behind.
abbrev pub IsGiven : List (Act ItemOut) → List ItemOut → Option (Row ItemOut) → Option (Row ItemOut) → Type 0
IsGiven acts given None following = (given ≡ []) × (following ≡ None)
IsGiven acts given (Some r) None = (z : ItemOut) × (missing : List ItemOut) × (sends_to r.number acts ≡ given ++ z ∷ missing)
IsGiven acts given (Some r) (Some next) = (next.number ≡ r.number) × (given ≡ sends_to r.number acts)

-- What tells it: of a session that is on a connection, what is put out there and begins as a stanza; and of one that is
-- parked, what joined its queue, where it lives on.
abbrev pub HasJoined : Row ItemOut → List ItemOut → Option (Row ItemOut) → Type 0
HasJoined r given None = Unit {0}
HasJoined r given (Some next) = next.queue ≡ r.queue ++ given

abbrev pub IsToldOn : Row ItemOut → Option ℕ → List (Out ItemOut) → List ItemOut → Option (Row ItemOut) → Type 0
IsToldOn r (Some k) outs given following = given ≡ puts_on is_put_as_stanza k outs
IsToldOn r None outs given following = HasJoined r given following

abbrev pub IsTold : Option (Row ItemOut) → List (Out ItemOut) → List ItemOut → Option (Row ItemOut) → Type 0
IsTold None outs given following = Unit {0}
IsTold (Some r) outs given following = IsToldOn r r.on outs given following

-- behind a step, of which an item of a connection was handed over, the links have moved, and of stanzas they did this:
-- first what is said, and then these were given
pub record StepGives (who : Identity) (logins : ℕ → Login) (wires : Table ItemWire) (v : View ItemOut) (k : ℕ) (wire : ItemWire) (step : Step ItemOut) (acts : List (Act ItemOut)) (first : List (Label ItemOut)) : Type 0 where
  pub given : List ItemOut
  pub follows : StepFollows who logins wires v k wire step (first ++ gives_all given)
  pub are_given : IsGiven acts given v.row follows.next.row
  pub told : IsTold v.row step.outs given follows.next.row
