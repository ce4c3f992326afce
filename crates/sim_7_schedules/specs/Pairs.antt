-- The sessions of a device in a world of bytes: pairs of directions of acknowledged delivery (XEP-0198, sections 4 and
-- 5), and what each end has of its pair.
use Rattle.std.specs.Prelude.{◌≡◌, ◌⊎◌, ℕ, ◌≤◌, ◌%◌, ◌^◌, List, [], Option, None, Some, length, map, slice_get}
use Rattle.sm_acks.specs.Delivery.{Direction, Reached, queue_of}
use Rattle.sim_3_images.specs.Devices.{account_position}
use Rattle.cmd_network.specs.Devices.{DeviceState}
use Rattle.sm_live.specs.Sessions as live
use Rattle.sm_live.specs.Sessions.{session_named}
use Rattle.sm_outbox.specs.Sessions as outbox
use Rattle.sm_resumption.specs.Previds.{previd_of}
use Rattle.cmd_schedule.specs.Contents.{Owned, accounts_of}
use Rattle.cmd_schedule.specs.Schedules.{WireView}
use Rattle.cmd_world.specs.Histories.{common_steps}
use Rattle.cmd_world.specs.Worlds.{ByteWorld}
use Rattle.xml_writer.specs.Items.{ItemOut, written_item}

-- a session: the epoch that it got when its client read that it was bound; what goes up to the server, and what comes
-- down to the client
pub record Pair : Type 0 where
  pub epoch : Option ℕ
  pub up : Direction ItemOut
  pub down : Direction ItemOut

-- moves of acknowledged delivery lead to both from the beginning
pub record IsPair (p : Pair) : Type 0 where
  pub up : Reached p.up
  pub down : Reached p.down

-- The server's end: how many stanzas of the client it handled, and how many of its own are acknowledged, both modulo 2
-- ^ 32; and its own that wait, as they are written.
pub record IsServersEnd (t : live.Session (List ℕ)) (p : Pair) : Type 0 where
  pub handled : t.handled ≡ length p.up.got % 2 ^ 32
  pub acked : t.acked ≡ p.down.acked % 2 ^ 32
  pub waiting : t.waiting ≡ map written_item (queue_of p.down)

-- and the client's end likewise
pub record IsClientsEnd (t : outbox.SessionView (List ℕ)) (p : Pair) : Type 0 where
  pub handled : t.waiting.handled ≡ length p.down.got % 2 ^ 32
  pub acked : t.waiting.acked ≡ p.up.acked % 2 ^ 32
  pub waiting : t.waiting.queue ≡ map written_item (queue_of p.up)

-- nothing was put, and nothing handled
pub record IsUnused (d : Direction ItemOut) : Type 0 where
  pub put : d.put ≡ []
  pub got : d.got ≡ []

-- a session has the epoch
abbrev pub HasEpoch : (ℕ → Option Pair) → ℕ → Type 0
HasEpoch pairs e = (number : ℕ) × (p : Pair) × (pairs number ≡ Some p) × (p.epoch ≡ Some e)

-- The sessions that a device ever had, each under its number, are pairs. The session of its account and resource that
-- lives at the server is the end of one, by its number; and so is the one that its client has, by the id for its
-- resumption: that one is of the client's present epoch, and the server's is of this or of none yet. Each epoch that the
-- client has reached is that of one session, and no other is that of any. In a session without an epoch nothing was put.
pub record HasPairs (schedule : WireView) (w : ByteWorld) (i : ℕ) (o : Owned) : Type 0 where
  pub pairs : ℕ → Option Pair
  pub each : (number : ℕ) (p : Pair) → pairs number ≡ Some p → IsPair p
  pub server : (t : live.Session (List ℕ)) → session_named (account_position o.account (accounts_of (common_steps schedule))) o.device w.server.server_state.sessions ≡ Some t →
      (p : Pair) × (pairs t.shown.number ≡ Some p) × IsServersEnd t p
  pub client : (d : DeviceState) (t : outbox.SessionView (List ℕ)) → slice_get w.devices i ≡ Some d → d.client.client.session ≡ Some t →
      (number : ℕ) × (p : Pair) × (t.previd ≡ previd_of number) × (pairs number ≡ Some p) × (p.epoch ≡ Some d.client.client.epoch) × IsClientsEnd t p
  pub newest : (d : DeviceState) (t : live.Session (List ℕ)) (p : Pair) → slice_get w.devices i ≡ Some d → session_named (account_position o.account (accounts_of (common_steps schedule))) o.device w.server.server_state.sessions ≡ Some t →
      pairs t.shown.number ≡ Some p → (p.epoch ≡ None) ⊎ (p.epoch ≡ Some d.client.client.epoch)
  pub reached : (d : DeviceState) → slice_get w.devices i ≡ Some d → (e : ℕ) → 1 ≤ e → e ≤ d.client.client.epoch → HasEpoch pairs e
  pub within : (d : DeviceState) → slice_get w.devices i ≡ Some d → (number e : ℕ) (p : Pair) → pairs number ≡ Some p → p.epoch ≡ Some e → (1 ≤ e) × (e ≤ d.client.client.epoch)
  pub once : (m n e : ℕ) (p q : Pair) → pairs m ≡ Some p → pairs n ≡ Some q → p.epoch ≡ Some e → q.epoch ≡ Some e → m ≡ n
  pub unread : (number : ℕ) (p : Pair) → pairs number ≡ Some p → p.epoch ≡ None → IsUnused p.up × IsUnused p.down
