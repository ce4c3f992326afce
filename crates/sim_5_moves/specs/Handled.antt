-- A stanza of a device is handled by the server of the applications, and sessions drift before and behind: what becomes of
-- each device.
use Rattle.std.specs.Prelude.{◌≡◌, ◌≢◌, ◌⊎◌, ℕ, Bool, true, false, List, [], ◌∷◌, ◌++◌, Some, length, slice_get}
use Rattle.sim_5_devices.specs.Labels.{IsTaken, IsTakenAtOnce, SessionStep, SessionSteps}
use Rattle.sim_1_applications.specs.Devices.{AppWorld, Device, Sessions, Take, epoch_of}
use Rattle.sim_1_applications.specs.Devices.Row.{NoRow}
use Rattle.sim_1_applications.specs.Events.{AppEvent, Around, Reaches, flagged, hears_of, made_served, reading_served, told}
use Rattle.sim_1_applications.specs.Histories.{spoken_in}
use Rattle.sim_1_applications.specs.Stanzas.{Down, Submission, Up}
use Rattle.sim_1_applications.specs.Stanzas.Down.{Live}
use Rattle.sim_1_applications.specs.Stanzas.Up.{Message}

-- ---- a message to an account that exists

-- the take, and the takes with it
abbrev pub take_at : AppWorld → ℕ → Device → Submission → Take
take_at x i d m = record { device = i; account = d.account; said = m; moment = x.clock }

abbrev pub takes_with : AppWorld → ℕ → Device → Submission → List Take
takes_with x i d m = x.takes ++ take_at x i d m ∷ []

-- a device beside: it hears of the take, or doesn't, and its queue may be full
pub record IsToldOf (t : Take) (number j : ℕ) (e : Device) (last : Sessions) : Type 0 where
  pub before : List SessionStep
  pub there : Sessions
  pub heard : Bool
  pub full : Bool
  pub following : List SessionStep
  pub session_steps : SessionSteps before e.sessions there
  pub hears : hears_of t j (record e { sessions = there }) ≡ heard
  pub rests : SessionSteps following (told heard full number there) last

-- the device itself, whose message is handled before
pub record IsTakenOf (t : Take) (number i : ℕ) (d : Device) (last : Sessions) : Type 0 where
  pub before : List SessionStep
  pub there : Sessions
  pub next : Sessions
  pub heard : Bool
  pub full : Bool
  pub following : List SessionStep
  pub session_steps : SessionSteps before d.sessions there
  pub taken : IsTaken (Message t.said) there next
  pub hears : hears_of t i (record d { sessions = next }) ≡ heard
  pub rests : SessionSteps following (told heard full number next) last

-- what is given to one that hears, or doesn't: its number; or nothing, since its queue is full, and its session ends
abbrev pub IsHeardOf : Bool → ℕ → List Down → Sessions → Type 0
IsHeardOf false number given last = given ≡ []
IsHeardOf true number given last = (given ≡ Live number ∷ []) ⊎ ((given ≡ []) × (last.row ≡ NoRow))

-- ---- a stanza by which no message is taken

-- The stanza is handled, and then the reply is given: all of it; or, where the queue is full, what comes before that, and the
-- session ends.
pub record IsRepliedTo (reply : List Down) (z : Up) (d last : Sessions) : Type 0 where
  pub given : List Down
  pub once : IsTakenAtOnce z given d last
  pub whole : (given ≡ reply) ⊎ ((missing : Down) × (more : List Down) × (reply ≡ given ++ missing ∷ more) × (last.row ≡ NoRow))

-- a device beside only takes session steps
abbrev pub IsSteppedTo : Sessions → Sessions → Type 0
IsSteppedTo d last = (xs : List SessionStep) × SessionSteps xs d last

-- the device itself, with its flags, and what is known of answers
abbrev pub served_as : Around → Up → Sessions → Device → Device
served_as a z last d = record d {
  sessions = flagged z last;
  reading = reading_served a z d.reading;
  made = made_served a (epoch_of d.sessions) z d.made;
}

-- ---- worlds

-- Events lead to these takes and devices: the device at the place is this one, and of each other one's sessions is so as is
-- said of it, and all else of it stays. In the events nobody says anything.
pub record AreHandled (Is : ℕ → Device → Sessions → Type 0) (x : AppWorld) (i : ℕ) (own : Device) (takes : List Take) : Type 0 where
  pub events : List AppEvent
  pub devices : List Device
  pub reaches : Reaches events x (record x { takes = takes; devices = devices })
  pub silent : spoken_in events ≡ []
  pub here : slice_get devices i ≡ Some own
  pub each : (j : ℕ) (e : Device) → slice_get x.devices j ≡ Some e → j ≢ i → (next : Sessions) × Is j e next × (slice_get devices j ≡ Some (record e { sessions = next }))
  pub many : length devices ≡ length x.devices

-- these are the sessions of each
abbrev pub EndsAs : (ℕ → Sessions) → ℕ → Device → Sessions → Type 0
EndsAs ends j e next = next ≡ ends j
