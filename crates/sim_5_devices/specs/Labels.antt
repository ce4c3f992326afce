-- The labels of the links (`sim_3_items`) as what becomes of a device's sessions as lists. What the server alone does
-- with a session, by a binding, by counting it and where it ends, is no label: between two of them it takes steps so.
use Rattle.std.specs.Prelude.{◌≡◌, ◌⊎◌, ℕ, ◌≤◌, Bool, true, false, List, [], ◌∷◌, length, map, Some}
use Rattle.sim_3_items.specs.Labels.{Drops, Enters, Gives, Label, Learns, Names, Reads, Says, Takes}
use Rattle.sim_2_events.specs.Acts.{MayAct}
use Rattle.sim_2_events.specs.Lists.{IsCounting, Stanzas, knows}
use Rattle.std.specs.List.{slice_get, slice_set}
use Rattle.sim_1_applications.specs.Devices.{AppWorld, Device, Sessions}
use Rattle.sim_1_applications.specs.Events.{Act, At, AppEvent, Bind, ClientHandles, Enable, End, ReadBound, ReadEnabled, ServerHandles, acknowledged, binds, counts, end_row, goes_offline, moved_down, moved_up, put_down, put_up, reads_bound, Reaches}
use Rattle.sim_1_applications.specs.Histories.{spoken_in}
use Rattle.sim_1_applications.specs.Stanzas.{Down, Up}

-- ---- what the server alone does

pub data SessionStep : Type 0 where
  -- a session is bound, and the one before it is gone
  Binds : SessionStep
  -- it is counted
  Counts : SessionStep
  -- it ends
  Ends : SessionStep

abbrev pub act_of : SessionStep → Act
act_of Binds = Bind
act_of Counts = Enable
act_of Ends = End

abbrev pub session_stepped : SessionStep → Sessions → Sessions
session_stepped Binds d = binds d
session_stepped Counts d = counts d
session_stepped Ends d = end_row d

-- one behind the other, where each may happen
abbrev pub SessionSteps : List SessionStep → Sessions → Sessions → Type 0
SessionSteps [] d last = last ≡ d
SessionSteps (x ∷ xs) d last = MayAct (act_of x) d × SessionSteps xs (session_stepped x d) last

-- ---- labels

-- the next stanza of a session is handled, by the server or by the client
pub record IsTaken (z : Up) (d next : Sessions) : Type 0 where
  pub rest : List Up
  pub first : d.now.up_rest ≡ z ∷ rest
  pub may : (fits : ℕ) (full : List ℕ) → MayAct (ServerHandles fits full) d
  pub is : next ≡ moved_up z rest d

pub record IsRead (z : Down) (d next : Sessions) : Type 0 where
  pub rest : List Down
  pub first : d.now.down_rest ≡ z ∷ rest
  pub may : MayAct ClientHandles d
  pub is : next ≡ moved_down z rest d

-- the client learns that so many of its stanzas were handled: no fewer than before, and no more than were
pub record IsLearnt (d next : Sessions) : Type 0 where
  pub count : ℕ
  pub online : d.online ≡ true
  pub low : d.now.acked ≤ count
  pub high : count ≤ length d.now.up_got
  pub is : next ≡ acknowledged count d

abbrev pub Does : {A : Type 0} → Stanzas A → Label A → Sessions → Sessions → Type 0
Does r (Says z) d next = (d.online ≡ true) × (next ≡ put_up (r.up z) d)
Does r (Takes z) d next = IsTaken (r.up z) d next
Does r (Gives z) d next = IsCounting d × (next ≡ put_down (r.down z ∷ []) d)
Does r (Reads z) d next = IsRead (r.down z) d next
Does r Names d next = (live : Bool) × MayAct (ReadBound live) d × (next ≡ reads_bound live d)
Does r Enters d next = MayAct ReadEnabled d × (next ≡ knows d)
Does r Learns d next = IsLearnt d next
Does r Drops d next = ((d.online ≡ true) × (next ≡ goes_offline d)) ⊎ ((d.online ≡ false) × (next ≡ d))

-- one behind the other, and nothing between them
abbrev pub DoesAll : {A : Type 0} → Stanzas A → List (Label A) → Sessions → Sessions → Type 0
DoesAll r [] d last = last ≡ d
DoesAll r (x ∷ xs) d last = (next : Sessions) × Does r x d next × DoesAll r xs next last

-- and between them the session takes steps
abbrev pub DoesInterleaved : {A : Type 0} → Stanzas A → List (Label A) → Sessions → Sessions → Type 0
DoesInterleaved r [] d last = (xs : List SessionStep) × SessionSteps xs d last
DoesInterleaved r (x ∷ xs) d last = (before : List SessionStep) × (there : Sessions) × SessionSteps before d there × ((next : Sessions) × Does r x there next × DoesInterleaved r xs next last)

-- ---- what the server gives

-- The session takes steps, the stanzas are given, one directly behind the other, and it takes steps again.
pub record IsGivenAtOnce (zs : List Down) (d last : Sessions) : Type 0 where
  pub before : List SessionStep
  pub there : Sessions
  pub following : List SessionStep
  pub session_steps : SessionSteps before d there
  pub counting : IsCounting there
  pub rests : SessionSteps following (put_down zs there) last

-- the same, directly behind one that is taken
pub record IsTakenAtOnce (z : Up) (zs : List Down) (d last : Sessions) : Type 0 where
  pub before : List SessionStep
  pub there : Sessions
  pub next : Sessions
  pub following : List SessionStep
  pub session_steps : SessionSteps before d there
  pub taken : IsTaken z there next
  pub rests : SessionSteps following (put_down zs next) last

-- ---- whose labels

-- of the client, and not that a session was bound
abbrev pub IsPlain : {A : Type 0} → Label A → Type 0
IsPlain (Takes z) = ⊥
IsPlain (Gives z) = ⊥
IsPlain Names = ⊥
IsPlain x = Unit {0}

-- ---- worlds

-- the events of a device
abbrev pub session_step_events : ℕ → List SessionStep → List AppEvent
session_step_events i xs = map (λ x. At i (act_of x)) xs

-- a device of it is this
abbrev pub with_device : ℕ → Device → AppWorld → AppWorld
with_device i d w = record w { devices = slice_set w.devices i d }

-- a device takes session steps
pub record HasSessionSteps (d : Device) : Type 0 where
  pub session_steps : List SessionStep
  pub last : Sessions
  pub leads : SessionSteps session_steps d.sessions last

-- The devices of a world drift, each to what is said of it, and this is the world behind these events: nobody says anything
-- in them.
pub record AllStep (Is : ℕ → Device → Sessions → Type 0) (w : AppWorld) : Type 0 where
  pub events : List AppEvent
  pub devices : List Device
  pub reaches : Reaches events w (record w { devices = devices })
  pub silent : spoken_in events ≡ []
  pub each : (i : ℕ) (d : Device) → slice_get w.devices i ≡ Some d → (last : Sessions) × Is i d last × (slice_get devices i ≡ Some (record d { sessions = last }))
  pub many : length devices ≡ length w.devices
