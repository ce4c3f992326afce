-- What a run of events was: the states that it passed, and what the user of a device said.
use Rattle.std.specs.Prelude.{ℕ, ◌+◌, Bool, List, [], ◌∷◌, Option, Some, None, length}
use Rattle.std.specs.List.{flat_map}
use Rattle.sim_1_applications.specs.Devices.{AppWorld, OpenPage, Reading}
use Rattle.sim_1_applications.specs.Events.{AppEvent, after}
use Rattle.sim_1_applications.specs.Events.Act.{Say}
use Rattle.sim_1_applications.specs.Events.AppEvent.{At}

-- the state behind events
abbrev pub state_after : AppWorld → List AppEvent → AppWorld
state_after w [] = w
state_after w (event ∷ events) = state_after (after w event) events

-- the state before the first move and behind each: a move is events
abbrev pub states_of : AppWorld → List (List AppEvent) → List AppWorld
states_of w [] = w ∷ []
states_of w (move ∷ moves) = w ∷ states_of (state_after w move) moves

-- a message that the user of a device sends: to which account, and its text
pub record Spoken : Type 0 where
  pub device : ℕ
  pub to : List ℕ
  pub text : List ℕ
  pub private : Bool

abbrev pub spoken_by : AppEvent → List Spoken
spoken_by (At i (Say to text private)) = record { device = i; to = to; text = text; private = private } ∷ []
spoken_by _ = []

abbrev pub spoken_in : List AppEvent → List Spoken
spoken_in events = flat_map spoken_by events

-- how many pages were asked for, with the one that is under way
abbrev pub asked_with : Reading → Option OpenPage → ℕ
asked_with b None = length b.tiles
asked_with b (Some page) = length b.tiles + 1

abbrev pub asked_of : Reading → ℕ
asked_of b = asked_with b b.page
