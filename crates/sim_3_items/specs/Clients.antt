-- What the client of a device has: its account, how far it is with the connection that it works on, and its session.
use Rattle.std.specs.Prelude.{◌≡◌, ℕ, ◌+◌, ◌≤◌, ◌⊎◌, false, All, List, Ok, Option, Some, None, is_none, length}
use Rattle.sm_acks.specs.declared.end.TheConstants.{MOST_UNACKNOWLEDGED}
use Rattle.cl_login.specs.declared.login_state.LoginState.TheVariants as state
use Rattle.cl_handlers.specs.ClientSteps.{is_apart}
use Rattle.cl_handlers.specs.declared.phase.Phase.{Phase}
use Rattle.cl_handlers.specs.declared.phase.Phase.TheVariants as phase
use Rattle.sim_3_items.specs.Counted.{IsForServer}
use Rattle.sim_3_items.specs.Labels.{ArePrompt, Label, labels_of}
use Rattle.sim_3_items.specs.Frames.{SameServer}
use Rattle.sim_3_items.specs.Identities.{Identity, Login, own_account}
use Rattle.sim_3_items.specs.Pipes.{PipesRepresent}
use Rattle.sim_3_items.specs.WordItems.{told_count}
use Rattle.sim_3_items.specs.ItemPipes.{ItemWire}
use Rattle.sim_3_items.specs.ItemWorlds.{ItemDevice}
use Rattle.sim_2_links.specs.Machine.{LinkMove, LinkReaches}
use Rattle.sim_2_links.specs.Stages.{Conn}
use Rattle.sim_2_links.specs.Views.{Own, Table, View}
use Rattle.sim_2_links.specs.Wires.{is_flowing}
use Rattle.sim_2_links.specs.Words.{Client, InAuth, InBind, InEnable, InFeatures1, InFeatures2, InHeader1, InHeader2, InOnline, InResponse, InResume}
use Rattle.sm_outbox.specs.Sessions.{SessionView}
use Rattle.sm_resumption.specs.Previds.{previd_of}
use Rattle.auth_scram.specs.Exchange.{added_nonce, expecting}
use Rattle.xml_writer.specs.Items.{ItemOut}

-- how far it is
abbrev pub client_phase : Identity → Login → Client → Phase
client_phase who x InHeader1 = phase.Login (state.Header1 (added_nonce x.mine))
client_phase who x InFeatures1 = phase.Login (state.Features1 (added_nonce x.mine))
client_phase who x InAuth = phase.Login (state.Authing x.client)
client_phase who x InResponse = phase.Login (state.Responding (expecting x.client (Ok x.reply)))
client_phase who x InHeader2 = phase.Login state.Header2
client_phase who x InFeatures2 = phase.Features2
client_phase who x (InResume p) = phase.Resuming
client_phase who x InBind = phase.Binding
client_phase who x InEnable = phase.Enabling
client_phase who x (InOnline p) = phase.Online

-- ---- the session

pub record IsOwn (o : Own ItemOut) (s : SessionView ItemOut) : Type 0 where
  pub previd : s.previd ≡ previd_of o.number
  pub acked : s.waiting.acked ≡ told_count o.acked
  pub handled : s.waiting.handled ≡ told_count o.handled
  pub queue : s.waiting.queue ≡ o.queue
  pub for_server : All IsForServer o.queue
  pub few : length o.queue ≤ MOST_UNACKNOWLEDGED

abbrev pub IsOwnRepresented : Option (Own ItemOut) → Option (SessionView ItemOut) → Type 0
IsOwnRepresented None None = Unit {0}
IsOwnRepresented (Some o) (Some s) = IsOwn o s
IsOwnRepresented _ _ = ⊥

-- ---- the client

-- The connection that the device has is the one that its client works on, or one of which the client was told the end:
-- then it stands apart.
pub record ClientRepresents (who : Identity) (logins : ℕ → Login) (d : ItemDevice) (v : View ItemOut) : Type 0 where
  pub account : d.client.account ≡ own_account who
  pub epoch : d.client.epoch ≡ v.epoch
  pub own : IsOwnRepresented v.own d.client.session
  pub apart : is_apart d.client.phase ≡ is_none v.here
  pub here : (k : ℕ) → v.here ≡ Some k → (position : ℕ) × (k ≡ position + 1) × (d.here ≡ Some position)
  pub has : (position : ℕ) → d.here ≡ Some position → (c : Conn ItemOut) × (v.conns (position + 1) ≡ Some c) × ((v.here ≡ Some (position + 1)) ⊎ (is_flowing c.wires ≡ false))
  pub phase : (k : ℕ) (c : Conn ItemOut) → v.here ≡ Some k → v.conns k ≡ Some c → d.client.phase ≡ client_phase who (logins k) c.client

-- ---- what a step of the client is in the links

-- it comes to this, and these are then the pipes; and these stanzas were put and handled, those that are awaited with a
-- request behind them
pub record ClientFollows (who : Identity) (logins : ℕ → Login) (d : ItemDevice) (wires : Table ItemWire) (v : View ItemOut) (done : List (Label ItemOut)) : Type 0 where
  pub moves : List (LinkMove ItemOut)
  pub next : View ItemOut
  pub leads : LinkReaches moves v next
  pub does : labels_of moves ≡ done
  pub prompt : ArePrompt moves
  pub client : ClientRepresents who logins d next
  pub pipes : PipesRepresent who logins wires next
  pub server : SameServer v next
