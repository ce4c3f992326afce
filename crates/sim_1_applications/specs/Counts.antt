-- How large the numbers of a run become, by what its users did.
use Rattle.std.specs.Prelude.{◌≡◌, ℕ, ◌+◌, ◌*◌, ◌≤◌, ◌≢◌, ◌⊎◌, ◌==◌, true, List, [], ◌∷◌, ◌++◌, length, filter}
use Rattle.std.specs.List.{AllByRecursion, flat_map}
use Rattle.sim_1_applications.specs.Stanzas.{Request, Submission, answers, messages, requests}
use Rattle.sim_1_applications.specs.Devices.{Device, Session, Sessions, up_put}
use Rattle.sim_1_applications.specs.Events.{AppEvent}
use Rattle.sim_1_applications.specs.Events.Act.{CatchUp, ClientHandles, ServerHandles}
use Rattle.sim_1_applications.specs.Events.AppEvent.{At}
use Rattle.sim_1_applications.specs.Histories.{Spoken, spoken_in}

-- the sessions that a device had, and has
abbrev pub sessions_of : Sessions → List Session
sessions_of s = s.past ++ s.now ∷ []

-- what holds of each of them
abbrev pub OfEach : (Session → Type 0) → Device → Type 0
OfEach P d = AllByRecursion P (sessions_of d.sessions)

-- the messages that the user of a device sent
abbrev pub said_by : ℕ → List AppEvent → List Spoken
said_by i events = filter (λ s. s.device == i) (spoken_in events)

-- so many takes there were: what was put to the client is at most 101 stanzas for each one that the server handled,
-- and one for each take
abbrev pub IsDownFew : ℕ → Session → Type 0
IsDownFew takes s = length (s.down_got ++ s.down_rest) ≤ 101 * length s.up_got + takes

-- what the client put is messages, requests, and two stanzas at most beside them
abbrev pub IsUpFew : Session → Type 0
IsUpFew s = length (up_put s) ≤ 2 + length (messages (up_put s)) + length (requests (up_put s))

-- the requests of all sessions, in order
abbrev pub requested_in : Session → List Request
requested_in s = requests (up_put s)

abbrev pub requested : Sessions → List Request
requested s = flat_map requested_in s.past ++ requested_in s.now

abbrev pub number_of : Request → ℕ
number_of r = r.number

-- a device's client may put a request at this event
abbrev pub MayAsk : ℕ → AppEvent → Type 0
MayAsk i (At j (CatchUp max)) = j ≡ i
MayAsk i (At j ClientHandles) = j ≡ i
MayAsk i _ = ⊥

-- the user of a device asks for no page at this event, and the server handles none of the device's stanzas
abbrev pub IsBetween : ℕ → AppEvent → Type 0
IsBetween i (At j (CatchUp max)) = j ≢ i
IsBetween i (At j (ServerHandles fits full)) = j ≢ i
IsBetween i _ = Unit {0}

-- no stanza of an answer is under way to the client
abbrev pub IsUnanswered : Device → Type 0
IsUnanswered d = d.sessions.online ≡ true → answers d.sessions.now.down_rest ≡ []

-- the message is of an epoch up to this one, and its number is within this one
abbrev pub IsNumberedWithin : ℕ → ℕ → Submission → Type 0
IsNumberedWithin epoch n m = (m.epoch ≤ epoch) × (m.n ≤ n)

-- A turn of a device: its user asks for no page, and the server handles none of its stanzas; or a request may be put at
-- the first event alone.
abbrev pub IsTurn : ℕ → List AppEvent → Type 0
IsTurn i [] = Unit {0}
IsTurn i (event ∷ events) = AllByRecursion (IsBetween i) (event ∷ events) ⊎ AllByRecursion (λ later. MayAsk i later → ⊥) events
