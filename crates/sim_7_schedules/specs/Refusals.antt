-- What the devices of a world refuse: by each move, by each line, and by all lines of a schedule.
use Rattle.std.specs.Prelude.{◌≡◌, ℕ, zero, suc, List, [], ◌∷◌, ◌++◌, Option, Some, None, Result, Ok, Err, map, slice_get}
use Rattle.cl_core.specs.UserCalls.{catch_up_answer, say_answer}
use Rattle.cl_core.specs.declared.faults.CatchUpStart.{CatchUpStart}
use Rattle.cl_core.specs.declared.faults.CatchUpStart.TheVariants as start
use Rattle.cl_core.specs.declared.faults.SayFault.{SayFault}
use Rattle.cl_core.specs.declared.faults.SayFault.TheVariants as say
use Rattle.cmd_network.specs.Devices.{DeviceState}
use Rattle.cmd_report.specs.declared.report.RefusedLine.{RefusedLine}
use Rattle.cmd_report.specs.declared.report.RefusedWhy.{RefusedWhy}
use Rattle.cmd_report.specs.declared.report.RefusedWhy.TheVariants as why
use Rattle.cmd_schedule.specs.declared.schedule.WireLine.{WireLine}
use Rattle.sim_1_applications.specs.Runs.{LineRun, Refusal}
use Rattle.cmd_world.specs.Lines.{moves_of, stepped}
use Rattle.cmd_world.specs.Moves as moves
use Rattle.cmd_world.specs.Moves.{Move, moved}
use Rattle.cmd_world.specs.Worlds.{ByteWorld}

-- ---- what devices have refused

-- a device's name, and the lines that it refused
pub record Noted : Type 0 where
  pub name : List ℕ
  pub refused : List RefusedLine

abbrev pub noted_of : DeviceState → Noted
noted_of d = record { name = d.name; refused = d.refused }

-- of all devices, in their order
abbrev pub noted_in : ByteWorld → List Noted
noted_in w = map noted_of w.devices

abbrev pub with_more : List RefusedLine → Noted → Noted
with_more lines n = record { name = n.name; refused = n.refused ++ lines }

-- one of them, by its place, with more lines
abbrev pub more_at : ℕ → List RefusedLine → List Noted → List Noted
more_at position lines [] = []
more_at zero lines (n ∷ ns) = with_more lines n ∷ ns
more_at (suc position) lines (n ∷ ns) = n ∷ more_at position lines ns

-- ---- why

-- why a client has no message to send, where that is noted: no text of a schedule is one that can't be sent
abbrev pub said_why : Result ℕ SayFault → List RefusedWhy
said_why (Ok n) = []
said_why (Err say.NotBound) = why.NotBound ∷ []
said_why (Err say.OutboxFull) = why.OutboxFull ∷ []
said_why (Err say.BadText) = []
said_why (Err say.NoMemory) = []

-- and why it asks for no page
abbrev pub asked_why : Result (Unit {0}) CatchUpStart → List RefusedWhy
asked_why (Ok done) = []
asked_why (Err start.NotBound) = why.NotBound ∷ []
asked_why (Err start.OutboxFull) = why.OutboxFull ∷ []
asked_why (Err start.Underway) = why.Underway ∷ []
asked_why (Err start.NoMemory) = []

abbrev pub say_whys : List ℕ → Option DeviceState → List RefusedWhy
say_whys text None = []
say_whys text (Some d) = said_why (say_answer d.client.client text)

abbrev pub catch_up_whys : Option DeviceState → List RefusedWhy
catch_up_whys None = []
catch_up_whys (Some d) = asked_why (catch_up_answer d.client.client)

-- the lines of the report, each with the number of the line of the schedule
abbrev pub lines_at : ℕ → List RefusedWhy → List RefusedLine
lines_at number whys = map (λ reason. record { line = number; why = reason }) whys

-- ---- a move

-- What the devices have refused behind a move: only where its user says something, or asks for the archive, does a device refuse.
abbrev pub noted_after : Move → ByteWorld → List Noted
noted_after (moves.Say position number to text private) w = more_at position (lines_at number (say_whys text (slice_get w.devices position))) (noted_in w)
noted_after (moves.CatchUp position number most) w = more_at position (lines_at number (catch_up_whys (slice_get w.devices position))) (noted_in w)
noted_after _ w = noted_in w

-- the same as refusals of a run
abbrev pub refusals_of : List ℕ → ℕ → List RefusedWhy → List Refusal
refusals_of name number whys = map (λ reason. record { device = name; line = record { line = number; why = reason } }) whys

abbrev pub refusals_at : ℕ → Option DeviceState → List RefusedWhy → List Refusal
refusals_at number None whys = []
refusals_at number (Some d) whys = refusals_of d.name number whys

abbrev pub move_refusals : Move → ByteWorld → List Refusal
move_refusals (moves.Say position number to text private) w = refusals_at number (slice_get w.devices position) (say_whys text (slice_get w.devices position))
move_refusals (moves.CatchUp position number most) w = refusals_at number (slice_get w.devices position) (catch_up_whys (slice_get w.devices position))
move_refusals _ w = []

abbrev pub all_refusals : List Move → ByteWorld → List Refusal
all_refusals [] w = []
all_refusals (m ∷ ms) w = move_refusals m w ++ all_refusals ms (moved m w)

-- ---- lines

-- what was refused at a line
abbrev pub IsLineRefused : ByteWorld → WireLine → List Refusal → Type 0
IsLineRefused w line refused = refused ≡ all_refusals (moves_of line w) w

-- the runs are of these lines, and each has what was refused at its line, from a world on
abbrev pub AreLinesRefused : List WireLine → List LineRun → ByteWorld → Type 0
AreLinesRefused [] [] w = Unit {0}
AreLinesRefused (line ∷ lines) (r ∷ rs) w = (r.line ≡ line) × IsLineRefused w line r.refused × AreLinesRefused lines rs (stepped line w)
AreLinesRefused _ _ w = ⊥
