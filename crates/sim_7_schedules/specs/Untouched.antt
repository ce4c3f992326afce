-- What changes nothing in a world of bytes.
use Rattle.std.specs.Prelude.{◌≡◌, ◌≢◌, ◌⊎◌, ℕ, None, slice_get}
use Rattle.srv_state.specs.Moments.{at_moment}
use Rattle.srv_state.specs.State.{conn_at}
use Rattle.cmd_world.specs.Worlds.{ByteWorld, number_at}

-- the server has no connection at a place: it shut that one, or heard of its end
abbrev pub IsShutAt : ℕ → ByteWorld → Type 0
IsShutAt position w = conn_at (number_at position) w.server.server_state ≡ None

-- The archives, the messages that were taken, the devices, the server's connections and all other pipes are what they
-- were; and so are the sessions, but that one which was parked for too long has ended.
pub record IsUntouched (position : ℕ) (w next : ByteWorld) : Type 0 where
  pub archives : next.server.server_state.archives ≡ w.server.server_state.archives
  pub takes : next.takes ≡ w.takes
  pub devices : next.devices ≡ w.devices
  pub conns : (k : ℕ) → conn_at k next.server.server_state ≡ conn_at k w.server.server_state
  pub sessions : (next.server.server_state.sessions ≡ w.server.server_state.sessions) ⊎ (next.server.server_state.sessions ≡ (at_moment w.moment w.server.server_state).sessions)
  pub number : next.server.server_state.next ≡ w.server.server_state.next
  pub others : (other : ℕ) → other ≢ position → slice_get next.wires other ≡ slice_get w.wires other
