-- What comes to a server but stanzas of its sessions.
use Rattle.std.specs.Prelude.{◌≡◌, ◌≢◌, ℕ, true, false, List, [], None, Ok, Some, slice_get}
use Rattle.srv_state.specs.State.{ServerState, Step, conn_at}
use Rattle.srv_state.specs.Streams.{stage_of}
use Rattle.srv_state.specs.Words.{is_long, is_stanza}
use Rattle.srv_state.specs.declared.connection.Connection.{Connection}
use Rattle.srv_state.specs.declared.connection.Stage.TheVariants as stage
use Rattle.sim_3_items.specs.ItemMoves.{step_of}
use Rattle.sim_3_items.specs.ItemWorlds.{itself, read_of}
use Rattle.im_jid.specs.Forms.{resource_form}
use Rattle.sm_live.specs.Sessions.{Session, session_at, told}
use Rattle.cmd_schedule.specs.Contents.{Owned}
use Rattle.srv_core.specs.Table.{after_item}
use Rattle.im_stanza.specs.Readings.{stanza_of}
use Rattle.srv_core.specs.Stanzas.{stanza_condition}
use Rattle.xml_trees.specs.Trees.{Elem}
use Rattle.xml_writer.specs.Items.{Closing, ItemOut, Opening, Whole}

-- a header, an element that is no stanza, or a footer
abbrev pub IsNonStanza : ItemOut → Type 0
IsNonStanza (Opening h) = Unit {0}
IsNonStanza (Whole e) = is_stanza e ≡ false
IsNonStanza Closing = Unit {0}

-- an item of a connection is handled
abbrev pub behind_item : ℕ → ItemOut → ServerState ItemOut → Step ItemOut
behind_item k z h = after_item itself k (read_of z) (step_of h)

-- A device may bind on a connection: its login is over, and it has no session there.
pub record MayBind (owned : List Owned) (names : List (List ℕ)) (k account : ℕ) (o : Owned) (h : ServerState ItemOut) : Type 0 where
  pub position : ℕ
  pub there : slice_get owned position ≡ Some o
  pub named : slice_get names account ≡ Some o.account
  pub some : o.device ≢ []
  pub normal : resource_form o.device ≡ Ok o.device
  pub conn : Connection
  pub open_one : conn_at k h ≡ Some conn
  pub ready : stage_of conn.phase ≡ stage.Ready account
  pub free : session_at k h.sessions ≡ None

-- An element of a session is a stanza that is handled: the session is on the connection, the stanza isn't too long, and no
-- condition ends the stream for it.
pub record IsHandled (k : ℕ) (e : Elem) (s : Session ItemOut) (h : ServerState ItemOut) : Type 0 where
  pub conn : Connection
  pub account : ℕ
  pub open_one : conn_at k h ≡ Some conn
  pub ready : stage_of conn.phase ≡ stage.Ready account
  pub seat : session_at k h.sessions ≡ Some s
  pub stanza : is_stanza e ≡ true
  pub short : is_long e ≡ false
  pub fair : stanza_condition (stanza_of e) (told s) h ≡ None
