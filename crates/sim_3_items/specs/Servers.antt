-- What the server has of a device: how far it is with each of its connections, and the live session of its account and
-- resource. Counts are told modulo 2 ^ 32, as in `Sends` and `Receives` of live sessions.
use Rattle.std.specs.Prelude.{◌≡◌, ℕ, ◌≤◌, Bool, true, false, All, IsSome, List, Option, Some, None, slice_get}
use Rattle.std.specs.List.Sorted.{IsStrictlySortedBy}
use Rattle.std.specs.Map.{keys_of}
use Rattle.std.specs.Ordering.{nat_cmp}
use Rattle.srv_state.specs.State.{ServerState, archive_at, conn_at}
use Rattle.srv_state.specs.declared.connection.Connection.{Connection}
use Rattle.srv_state.specs.declared.connection.Phase.{Phase as ServerPhase}
use Rattle.srv_state.specs.declared.connection.Phase.TheVariants as phase
use Rattle.srv_state.specs.declared.connection.Tries.TheVariants as tries
use Rattle.sim_3_items.specs.Counted.{IsForClient}
use Rattle.sim_3_items.specs.Labels.{Label, labels_of}
use Rattle.sim_3_items.specs.Frames.{SameClient}
use Rattle.sim_3_items.specs.Identities.{Identity, Login, exchange_of, served_account}
use Rattle.sim_3_items.specs.Pipes.{PipesRepresent}
use Rattle.sim_3_items.specs.WordItems.{told_count}
use Rattle.sim_3_items.specs.ItemPipes.{ItemWire}
use Rattle.sim_2_links.specs.Machine.{LinkMove, LinkReaches}
use Rattle.sim_2_links.specs.Stages.{Conn, Ending, Stands}
use Rattle.sim_2_links.specs.Views.{Row, Table, View}
use Rattle.sim_2_links.specs.Views as links
use Rattle.sim_2_links.specs.Words.{AtSession, Challenge, Phase, Ready, Restart, Sasl, Start}
use Rattle.sm_live.specs.Rule.{IsRule}
use Rattle.sm_live.specs.Sessions.{Session, is_named, session_at, session_named, session_of}
use Rattle.srv_login.specs.Accounts.{account_named}
use Rattle.xml_writer.specs.Items.{ItemOut}

-- ---- connections

-- how far the server is
abbrev pub phase_shown : Identity → Login → Phase → ServerPhase
phase_shown who x Start = phase.Start
phase_shown who x Sasl = phase.Login
phase_shown who x Challenge = phase.Challenge (record { account = who.account; exchange = exchange_of who x })
phase_shown who x Restart = phase.Restart who.account
phase_shown who x Ready = phase.Ready who.account
phase_shown who x (AtSession p) = phase.Ready who.account

-- the connection is open while the server neither ended the stream nor heard of the end; no login on it failed
abbrev pub open_conn : Identity → Login → Phase → Ending → Bool → Option Connection
open_conn who x p Stands false = Some (record { entropy = x.yours; phase = phase_shown who x p; tries = tries.Three })
open_conn who x p _ _ = None

abbrev pub conn_shown : Identity → Login → Conn ItemOut → Option Connection
conn_shown who x c = open_conn who x c.phase c.ending c.gone

-- ---- the session

-- one that is counted can be resumed, and one that isn't counted yet gets no stanza
pub record IsRow (r : Row ItemOut) (s : Session ItemOut) : Type 0 where
  pub number : s.shown.number ≡ r.number
  pub conn : s.shown.conn ≡ r.on
  pub counted : s.shown.counted ≡ r.counted
  pub resumable : s.shown.resumable ≡ r.counted
  pub acked : s.acked ≡ told_count r.acked
  pub handled : s.handled ≡ told_count r.handled
  pub waiting : s.waiting ≡ r.queue
  pub quiet : r.counted ≡ false → (s.shown.available ≡ false) × (s.shown.carbons ≡ false)
  pub for_client : All IsForClient r.queue

abbrev pub IsRowRepresented : Option (Row ItemOut) → Option (Session ItemOut) → Type 0
IsRowRepresented None None = Unit {0}
IsRowRepresented (Some r) (Some s) = IsRow r s
IsRowRepresented _ _ = ⊥

-- ---- the server

-- the device's account is there, with its archive
pub record IsDeviceServed (who : Identity) (h : ServerState ItemOut) : Type 0 where
  pub domain : h.domain ≡ who.domain
  pub account : slice_get h.accounts who.account ≡ Some (served_account who)
  pub found : account_named who.name h.accounts ≡ Some (record { position = who.account; credentials = (served_account who).credentials })
  pub archive : IsSome (archive_at who.account h)

-- its sessions keep their rule, and its connections ascend
pub record IsServerState (h : ServerState ItemOut) : Type 0 where
  pub sessions : IsRule h.sessions h.next
  pub conns : IsStrictlySortedBy nat_cmp (keys_of h.conns)

-- On the device's connections and under its numbers no session is but its own, and the next number is above all of
-- these.
pub record ServerRepresents (who : Identity) (logins : ℕ → Login) (h : ServerState ItemOut) (v : View ItemOut) : Type 0 where
  pub served : IsDeviceServed who h
  pub server_state : IsServerState h
  pub conns : (k : ℕ) (c : Conn ItemOut) → v.conns k ≡ Some c → conn_at k h ≡ conn_shown who (logins k) c
  pub row : IsRowRepresented v.row (session_named who.account who.resource h.sessions)
  pub seated : (k : ℕ) (c : Conn ItemOut) (s : Session ItemOut) → v.conns k ≡ Some c → session_at k h.sessions ≡ Some s → is_named who.account who.resource s ≡ true
  pub owned : (q : ℕ) (t : links.Session ItemOut) (s : Session ItemOut) → v.sessions q ≡ Some t → session_of q h.sessions ≡ Some s → is_named who.account who.resource s ≡ true
  pub free : v.free ≤ h.next

-- ---- what a step of the server is in the links: a short list of moves

-- it comes to this, and these are then the pipes; and these stanzas were put and handled
pub record ServerFollows (who : Identity) (logins : ℕ → Login) (h : ServerState ItemOut) (wires : Table ItemWire) (v : View ItemOut) (done : List (Label ItemOut)) : Type 0 where
  pub moves : List (LinkMove ItemOut)
  pub next : View ItemOut
  pub leads : LinkReaches moves v next
  pub does : labels_of moves ≡ done
  pub server : ServerRepresents who logins h next
  pub pipes : PipesRepresent who logins wires next
  pub client : SameClient v next
