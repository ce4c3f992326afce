-- What each line of a wire schedule comes to: the device that it names answers, or refuses it.
use Rattle.std.specs.Prelude.{◌≡◌, ◌⊎◌, ℕ, List, [], ◌∷◌, Some, Ok, Err, slice_get}
use Rattle.cl_core.specs.UserCalls.{catch_up_answer, say_answer}
use Rattle.cl_core.specs.declared.faults.CatchUpStart.{CatchUpStart}
use Rattle.cl_core.specs.declared.faults.SayFault.{SayFault}
use Rattle.cmd_network.specs.Devices.{DeviceState}
use Rattle.base_io.specs.Names.{position_of}
use Rattle.cmd_schedule.specs.Contents.{Owned}
use Rattle.cmd_schedule.specs.declared.schedule.Step.{Step}
use Rattle.cmd_schedule.specs.declared.schedule.Step.TheVariants as step
use Rattle.cmd_schedule.specs.declared.schedule.WireLine.{WireLine}
use Rattle.cmd_schedule.specs.declared.schedule.WireStep.{WireStep}
use Rattle.cmd_schedule.specs.declared.schedule.WireStep.TheVariants as wire
use Rattle.sim_1_applications.specs.Runs.{IsRefused, LineRun, Refusal}
use Rattle.cmd_world.specs.Lines.{stepped}
use Rattle.cmd_world.specs.Worlds.{ByteWorld}

-- the device under a name, at its place
pub record IsNamedAt (owned : List Owned) (w : ByteWorld) (name : List ℕ) (position : ℕ) (d : DeviceState) : Type 0 where
  pub named : position_of name w.names ≡ Some position
  pub owner : (o : Owned) × (slice_get owned position ≡ Some o) × (o.device ≡ name)
  pub device : slice_get w.devices position ≡ Some d
  pub name_is : d.name ≡ name

-- its client takes the message, or the device refuses the line
abbrev pub IsSayAnswered : List Owned → ByteWorld → List ℕ → List ℕ → ℕ → List Refusal → Type 0
IsSayAnswered owned w name text number refused =
    (position : ℕ) × (d : DeviceState) × IsNamedAt owned w name position d
    × (((n : ℕ) × (say_answer d.client.client text ≡ Ok n) × (refused ≡ []))
    ⊎ ((fault : SayFault) × (say_answer d.client.client text ≡ Err fault) × IsRefused name number refused))

-- the same of a page
abbrev pub IsCatchUpAnswered : List Owned → ByteWorld → List ℕ → ℕ → List Refusal → Type 0
IsCatchUpAnswered owned w name number refused =
    (position : ℕ) × (d : DeviceState) × IsNamedAt owned w name position d
    × (((catch_up_answer d.client.client ≡ Ok tt) × (refused ≡ []))
    ⊎ ((fault : CatchUpStart) × (catch_up_answer d.client.client ≡ Err fault) × IsRefused name number refused))

abbrev pub IsStepAnswered : List Owned → ByteWorld → Step → ℕ → List Refusal → Type 0
IsStepAnswered owned w (step.Say name to text) number refused = IsSayAnswered owned w name text number refused
IsStepAnswered owned w (step.Private name to text) number refused = IsSayAnswered owned w name text number refused
IsStepAnswered owned w (step.Catchup name most) number refused = IsCatchUpAnswered owned w name number refused
IsStepAnswered owned w _ number refused = refused ≡ []

-- no line but these is refused
abbrev pub IsAnswered : List Owned → ByteWorld → WireStep → ℕ → List Refusal → Type 0
IsAnswered owned w (wire.Common s) number refused = IsStepAnswered owned w s number refused
IsAnswered owned w _ number refused = refused ≡ []

-- the lines from a world on
abbrev pub AreAnswered : List Owned → List WireLine → List LineRun → ByteWorld → Type 0
AreAnswered owned [] [] w = Unit {0}
AreAnswered owned (line ∷ lines) (r ∷ rs) w = IsAnswered owned w line.step line.number r.refused × AreAnswered owned lines rs (stepped line w)
AreAnswered owned _ _ w = ⊥
