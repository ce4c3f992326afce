-- What the laws of `one_device` say.
use Rattle.std.specs.Prelude.{◌≡◌, ℕ, ◌+◌, ◌++◌, ◌∷◌, List, [], Some, length, slice_get}
use Rattle.sim_3_items.specs.ItemWorlds.{ItemWorld}
use Rattle.sim_5_moves.specs.Moves.{ActsAlone, DoesAlone}
use Rattle.cmd_schedule.specs.Contents.{Owned}
use Rattle.cmd_schedule.specs.Schedules.{WireView}
use Rattle.sim_5_devices.specs.Labels.{SessionStep, SessionSteps, session_step_events, with_device}
use Rattle.sim_1_applications.specs.Devices.{AppWorld, Device, Sessions}
use Rattle.sim_1_applications.specs.Events.{Act, At, May, Reaches, around, own, taken_by}
use Rattle.sim_1_applications.specs.Histories.{spoken_in}
use Rattle.sim_5_moves.specs.Running.{Bounds, RunsOn, WorldSimulates}

abbrev pub OneDeviceActs : Type 0
OneDeviceActs =
    (schedule : WireView) (b : Bounds) (says : ℕ) (w : ItemWorld) (x : AppWorld) (runs : WorldSimulates schedule b says w x) (i : ℕ) (o : Owned) (next : ItemWorld) (d : Device) (a : ActsAlone schedule b says w x runs i o next d)
    → RunsOn schedule b says w x runs (DoesAlone i a.done) (says + length (spoken_in a.events)) next (with_device i d x)

abbrev pub ActsComeAfterSessionStepsReaches : Type 0
ActsComeAfterSessionStepsReaches =
    (x : AppWorld) (i : ℕ) (d : Device) → slice_get x.devices i ≡ Some d → (xs : List SessionStep) (s : Sessions) → SessionSteps xs d.sessions s → (act : Act) → May act (record d { sessions = s })
    → taken_by x.accounts x.clock i (record d { sessions = s }) act ≡ [] → Reaches (session_step_events i xs ++ At i act ∷ []) x (with_device i (own (around x d) act (record d { sessions = s })) x)

abbrev pub ActsComeAfterSessionStepsSpoken : Type 0
ActsComeAfterSessionStepsSpoken =
    (i : ℕ) (xs : List SessionStep) (act : Act) → spoken_in (session_step_events i xs ++ At i act ∷ []) ≡ spoken_in (At i act ∷ [])
