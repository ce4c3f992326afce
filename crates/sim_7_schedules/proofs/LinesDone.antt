-- Each line of a wire schedule is done: its message is said, or the device refuses the line.
use Rattle.std.proofs.Common.{◌≡◌, ◌⊎◌, ℕ, Bool, true, false, List, [], ◌∷◌, Result, Ok, Err, sym, ap, ◌∙◌, subst, inl, inr}
use Rattle.std.specs.List.{AllByRecursion}
use Rattle.cl_core.specs.UserCalls.{catch_up_answer, say_answer}
use Rattle.cl_core.specs.declared.faults.CatchUpStart.{CatchUpStart}
use Rattle.cl_core.specs.declared.faults.SayFault.{SayFault}
use Rattle.cmd_network.specs.Devices.{DeviceState}
use Rattle.base_io.specs.Names.{position_of}
use Rattle.sim_7_schedules.specs.Answered.{AreAnswered, IsAnswered, IsNamedAt}
use Rattle.sim_7_schedules.proofs.LineSays.{message, said_by_step, said_on, said_under}
use Rattle.sim_7_schedules.proofs.LinesAlong.{AreSpoken}
use Rattle.cmd_schedule.specs.Contents.{Owned}
use Rattle.cmd_schedule.specs.declared.schedule.Step.TheVariants as step
use Rattle.cmd_schedule.specs.declared.schedule.WireLine.{WireLine}
use Rattle.cmd_schedule.specs.declared.schedule.WireStep.{WireStep}
use Rattle.cmd_schedule.specs.declared.schedule.WireStep.TheVariants as wire
use Rattle.sim_1_applications.specs.Histories.{Spoken, spoken_in}
use Rattle.sim_1_applications.specs.Runs.{IsDone, IsLineDone, IsRefused, IsSaid, LineRun, Refusal, events_in}
use Rattle.cmd_world.specs.Lines.{stepped}
use Rattle.cmd_world.specs.Worlds.{ByteWorld}
use Rattle.sim_5_moves.specs.Running.{spoken_where}

module _ (owned : List Owned) (W : ByteWorld) (name : List ℕ) (number : ℕ) (refused : List Refusal) where
  -- the device under the name
  module _ (position : ℕ) (d : DeviceState) (named : IsNamedAt owned W name position d) where
    said_there : (to text : List ℕ) (private : Bool) → said_under W to text private (position_of name W.names) ≡ spoken_where (say_answer d.client.client text) (message position to text private)
    said_there to text private = ap (said_under W to text private) named.named ∙ ap (said_on position to text private) named.device

    pub say_done : (to text : List ℕ) (private : Bool) (spoken : List Spoken) → spoken ≡ said_under W to text private (position_of name W.names) →
        ((n : ℕ) × (say_answer d.client.client text ≡ Ok n) × (refused ≡ [])) ⊎ ((fault : SayFault) × (say_answer d.client.client text ≡ Err fault) × IsRefused name number refused) → IsSaid owned name to text private number spoken refused
    say_done to text private spoken is (inl taken) =
        let o = named.owner in
        inl (position, o.0, o.1, o.2, is ∙ said_there to text private ∙ ap (λ (r : Result ℕ SayFault). spoken_where r (message position to text private)) taken.1, taken.2)
    say_done to text private spoken is (inr fault) =
        inr (is ∙ said_there to text private ∙ ap (λ (r : Result ℕ SayFault). spoken_where r (message position to text private)) fault.1, fault.2)

    pub asked_done : ((catch_up_answer d.client.client ≡ Ok tt) × (refused ≡ [])) ⊎ ((fault : CatchUpStart) × (catch_up_answer d.client.client ≡ Err fault) × IsRefused name number refused) → (refused ≡ []) ⊎ IsRefused name number refused
    asked_done (inl asked) = inl asked.1
    asked_done (inr fault) = inr fault.2

step_done : (owned : List Owned) (W : ByteWorld) (s : WireStep) (number : ℕ) (spoken : List Spoken) (refused : List Refusal) → spoken ≡ said_by_step W s → IsAnswered owned W s number refused → IsDone owned s number spoken refused
step_done owned W (wire.Common (step.Account name)) number spoken refused is answered = (is, answered)
step_done owned W (wire.Common (step.Device name account)) number spoken refused is answered = (is, answered)
step_done owned W (wire.Common (step.Say name to text)) number spoken refused is answered = say_done owned W name number refused answered.0 answered.1 answered.2 to text false spoken is answered.3
step_done owned W (wire.Common (step.Private name to text)) number spoken refused is answered = say_done owned W name number refused answered.0 answered.1 answered.2 to text true spoken is answered.3
step_done owned W (wire.Common (step.Catchup name most)) number spoken refused is answered = (is, asked_done owned W name number refused answered.0 answered.1 answered.2 answered.3)
step_done owned W (wire.Common (step.Tick ms)) number spoken refused is answered = (is, answered)
step_done owned W (wire.Dial device) number spoken refused is answered = (is, answered)
step_done owned W (wire.Forget device) number spoken refused is answered = (is, answered)
step_done owned W (wire.Close device) number spoken refused is answered = (is, answered)
step_done owned W (wire.Up k count) number spoken refused is answered = (is, answered)
step_done owned W (wire.Down k count) number spoken refused is answered = (is, answered)
step_done owned W (wire.Cut k up down) number spoken refused is answered = (is, answered)
step_done owned W (wire.Pass k times) number spoken refused is answered = (is, answered)
step_done owned W (wire.Run times) number spoken refused is answered = (is, answered)

pub lines_done : (owned : List Owned) (rest : List WireLine) (runs : List LineRun) (W : ByteWorld) → AreSpoken rest runs W → AreAnswered owned rest runs W → AllByRecursion (IsLineDone owned) runs
lines_done owned [] [] W spoken answered = tt
lines_done owned [] (r ∷ runs) W spoken answered = absurd spoken
lines_done owned (line ∷ rest) [] W spoken answered = absurd spoken
lines_done owned (line ∷ rest) (r ∷ runs) W spoken answered = (
  subst (λ (l : WireLine). IsDone owned l.step l.number (spoken_in (events_in r)) r.refused) (sym spoken.0) (step_done owned W line.step line.number (spoken_in (events_in r)) r.refused spoken.1 answered.0),
  lines_done owned rest runs (stepped line W) spoken.2 answered.1,
)
