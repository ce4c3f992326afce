-- What is seen of a device's links, as the sessions of the two applications: pairs of lists.
use Rattle.std.specs.Prelude.{◌≡◌, ◌≢◌, ℕ, ◌+◌, ◌≤◌, ◌⊎◌, Bool, true, false, [], ◌++◌, map, Option, None, Some}
use Rattle.std.specs.List.{slice_get}
use Rattle.sim_2_links.specs.Events.{SeenSession, Seen, new_session}
use Rattle.sim_1_applications.specs.Stanzas.{Up, Down}
use Rattle.sim_1_applications.specs.Devices.{Stage, Session, Sessions, Row, fresh, epoch_of}
use Rattle.sim_1_applications.specs.Devices.Stage.{Named, Counted, Known}
use Rattle.sim_1_applications.specs.Devices.Row.{NoRow, Unread, Present}

-- what a stanza is to the server that takes it, and to the client
pub record Stanzas (A : Type 0) : Type 0 where
  pub up : A → Up
  pub down : A → Down

abbrev pub stage_of : Bool → Bool → Stage
stage_of false known = Named
stage_of true false = Counted
stage_of true true = Known

-- a session that has an epoch: what was put is what was handled, and then the rest
pub record IsSession {A : Type 0} (r : Stanzas A) (t : SeenSession A) (s : Session) : Type 0 where
  pub stage : stage_of t.counted t.known ≡ s.stage
  pub heard : t.known ≡ true → t.counted ≡ true
  pub up_put : map r.up t.up_put ≡ s.up_got ++ s.up_rest
  pub up_got : map r.up t.up_got ≡ s.up_got
  pub acked : t.acked ≡ s.acked
  pub down_put : map r.down t.down_put ≡ s.down_got ++ s.down_rest
  pub down_got : map r.down t.down_got ≡ s.down_got

-- what the server has live of the device
abbrev pub IsRow : {A : Type 0} → Seen A → Row → Option ℕ → Type 0
IsRow v row None = row ≡ NoRow
IsRow {A = A} v row (Some p) = (t : SeenSession A) × (v.sessions p ≡ Some t) × (((t.epoch ≡ None) × (row ≡ Unread)) ⊎ ((t.epoch ≡ Some v.epoch) × (row ≡ Present)))

-- the client has its session, that of its present epoch
abbrev pub IsOnline : {A : Type 0} → Seen A → Bool → Option ℕ → Type 0
IsOnline v online None = online ≡ false
IsOnline {A = A} v online (Some p) = (online ≡ true) × ((t : SeenSession A) × (v.sessions p ≡ Some t) × (t.epoch ≡ Some v.epoch))

-- The device: its sessions are those of its epochs, one of each, and a number that has no epoch yet has nothing else.
pub record IsDevice {A : Type 0} (r : Stanzas A) (v : Seen A) (d : Sessions) : Type 0 where
  pub epoch : v.epoch ≡ epoch_of d
  pub now : (q : ℕ) (t : SeenSession A) → v.sessions q ≡ Some t → t.epoch ≡ Some v.epoch → IsSession r t d.now
  pub past : (q e : ℕ) (t : SeenSession A) → v.sessions q ≡ Some t → t.epoch ≡ Some e → e + 1 ≤ v.epoch → (s : Session) × (slice_get d.past e ≡ Some s) × IsSession r t s
  pub below : (q e : ℕ) (t : SeenSession A) → v.sessions q ≡ Some t → t.epoch ≡ Some e → e ≤ v.epoch
  pub once : (q p e : ℕ) (t u : SeenSession A) → v.sessions q ≡ Some t → v.sessions p ≡ Some u → t.epoch ≡ Some e → u.epoch ≡ Some e → q ≡ p
  pub unread : (q : ℕ) (t : SeenSession A) → v.sessions q ≡ Some t → t.epoch ≡ None → t ≡ new_session
  pub newest : (p q : ℕ) (t : SeenSession A) → v.live ≡ Some p → v.sessions q ≡ Some t → q ≤ p
  pub row : IsRow v d.row v.live
  pub online : IsOnline v d.online v.own

-- before the first event
abbrev pub no_sessions : Sessions
no_sessions = record { past = []; now = fresh; row = NoRow; bound = 0; online = false; n = 0 }

-- the client hears that its session is counted, and has put nothing yet
abbrev pub knows : Sessions → Sessions
knows d = record d { online = true; now = record d.now { stage = Known } }

abbrev pub IsCounting : Sessions → Type 0
IsCounting d = (d.row ≡ Present) × (d.now.stage ≢ Named)
