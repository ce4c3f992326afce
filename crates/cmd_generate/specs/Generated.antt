-- The schedule that a number and a size make.
use Rattle.std.specs.Prelude.{ℕ, zero, suc, ◌+◌, ◌%◌, ◌==◌, nat_le, List, [], ◌∷◌, ◌++◌, codes, if◌then◌else◌}
use Rattle.std.specs.Fmt.{decimal}
use Rattle.cmd_generate.specs.Draws.{Drawn, draw}
use Rattle.cmd_generate.specs.declared.rows.Row.{Row}
use Rattle.cmd_generate.specs.declared.rows.Row.TheVariants.{Accounts, Devices, Dials, Catchups}
use Rattle.cmd_schedule.specs.Schedules.{WireView}
use Rattle.cmd_schedule.specs.declared.schedule.Count.TheVariants.{Number}
use Rattle.cmd_schedule.specs.declared.schedule.Step.TheVariants.{Account, Device, Say, Private, Catchup, Tick}
use Rattle.cmd_schedule.specs.declared.schedule.Version.TheVariants.{One}
use Rattle.cmd_schedule.specs.declared.schedule.WireLine.{WireLine}
use Rattle.cmd_schedule.specs.declared.schedule.WireStep.{WireStep}
use Rattle.cmd_schedule.specs.declared.schedule.WireStep.TheVariants.{Common, Dial, Forget, Up, Down, Cut, Run}

abbrev pub account_named : ℕ → List ℕ
account_named i = codes "a" ++ decimal i

abbrev pub device_named : ℕ → List ℕ
device_named i = codes "d" ++ decimal i

-- the text of line i's message
abbrev pub text_named : ℕ → List ℕ
text_named i = codes "m" ++ decimal i

-- ---- the lines that every such schedule has

-- line i of a row
abbrev pub row_step : Row → ℕ → WireStep
row_step Accounts i = Common (Account (account_named i))
row_step Devices i = Common (Device (device_named i) (account_named (i % 3)))
row_step Dials i = Dial (device_named i)
row_step Catchups i = Common (Catchup (device_named i) 100)

-- so many lines of a row, from line i on
abbrev pub row_steps : Row → ℕ → ℕ → List WireStep
row_steps row zero i = []
row_steps row (suc n) i = row_step row i ∷ row_steps row n (i + 1)

abbrev pub opening : List WireStep
opening = row_steps Accounts 3 0 ++ row_steps Devices 6 0 ++ row_steps Dials 6 0 ++ Run 12 ∷ []

abbrev pub closing : List WireStep
closing = row_steps Dials 6 0 ++ Run 12 ∷ row_steps Catchups 6 0 ++ Run 100 ∷ []

-- ---- drawn lines: the fields are drawn from the left

abbrev pub drawn_device : ℕ → Drawn (List ℕ)
drawn_device state = let d = draw 6 state in record { value = device_named d.value; state = d.state }

-- a connection that one of so many dials made
abbrev pub drawn_conn : ℕ → ℕ → Drawn ℕ
drawn_conn dials state = let c = draw dials state in record { value = 1 + c.value; state = c.state }

-- the device that sends a message, and the account to which
pub record Message : Type 0 where
  pub device : List ℕ
  pub to : List ℕ

abbrev pub drawn_message : ℕ → Drawn Message
drawn_message state =
    let device = drawn_device state in
    let account = draw 3 device.state in
    record { value = record { device = device.value; to = account_named account.value }; state = account.state }

abbrev pub drawn_say : ℕ → ℕ → Drawn WireStep
drawn_say i state =
    let message = drawn_message state in
    record { value = Common (Say message.value.device message.value.to (text_named i)); state = message.state }

abbrev pub drawn_private : ℕ → ℕ → Drawn WireStep
drawn_private i state =
    let message = drawn_message state in
    record { value = Common (Private message.value.device message.value.to (text_named i)); state = message.state }

abbrev pub drawn_run : ℕ → Drawn WireStep
drawn_run state = record { value = Run 1; state = state }

abbrev pub drawn_catchup : ℕ → Drawn WireStep
drawn_catchup state =
    let device = drawn_device state in
    let most = draw 10 device.state in
    record { value = Common (Catchup device.value (1 + most.value)); state = most.state }

abbrev pub drawn_up : ℕ → ℕ → Drawn WireStep
drawn_up dials state =
    let conn = drawn_conn dials state in
    let count = draw 2000 conn.state in
    record { value = Up conn.value (Number count.value); state = count.state }

abbrev pub drawn_down : ℕ → ℕ → Drawn WireStep
drawn_down dials state =
    let conn = drawn_conn dials state in
    let count = draw 2000 conn.state in
    record { value = Down conn.value (Number count.value); state = count.state }

abbrev pub drawn_cut : ℕ → ℕ → Drawn WireStep
drawn_cut dials state =
    let conn = drawn_conn dials state in
    let up = draw 2000 conn.state in
    let down = draw 2000 up.state in
    record { value = Cut conn.value up.value down.value; state = down.state }

abbrev pub drawn_dial : ℕ → Drawn WireStep
drawn_dial state = let device = drawn_device state in record { value = Dial device.value; state = device.state }

abbrev pub drawn_forget : ℕ → Drawn WireStep
drawn_forget state = let device = drawn_device state in record { value = Forget device.value; state = device.state }

abbrev pub drawn_tick : ℕ → Drawn WireStep
drawn_tick state = let ms = draw 100000 state in record { value = Common (Tick ms.value); state = ms.state }

-- line i of a kind, behind so many dials
unfoldable pub drawn_of_kind : ℕ → ℕ → ℕ → ℕ → Drawn WireStep
drawn_of_kind kind i dials state =
    if nat_le kind 5 then drawn_say i state
    else (if nat_le kind 7 then drawn_run state
    else (if kind == 8 then drawn_catchup state
    else (if kind == 9 then drawn_up dials state
    else (if kind == 10 then drawn_down dials state
    else (if kind == 11 then drawn_cut dials state
    else (if kind == 12 then drawn_dial state
    else (if kind == 13 then drawn_forget state
    else (if kind == 14 then drawn_tick state
    else drawn_private i state))))))))

unfoldable pub drawn_line : ℕ → ℕ → ℕ → Drawn WireStep
drawn_line i dials state = let kind = draw 16 state in drawn_of_kind kind.value i dials kind.state

-- how many dials there are with this line
abbrev pub dials_with : WireStep → ℕ → ℕ
dials_with (Dial device) dials = dials + 1
dials_with _ dials = dials

-- so many lines from line i on
abbrev pub drawn_lines : ℕ → ℕ → ℕ → ℕ → List WireStep
drawn_lines zero i dials state = []
drawn_lines (suc n) i dials state =
    let line = drawn_line i dials state in
    line.value ∷ drawn_lines n (i + 1) (dials_with line.value dials) line.state

-- ---- the schedule

-- steps in lines that are numbered from n
abbrev pub lines_from : ℕ → List WireStep → List WireLine
lines_from n [] = []
lines_from n (step ∷ steps) = record { number = n; step = step } ∷ lines_from (n + 1) steps

abbrev pub generated_steps : ℕ → ℕ → List WireStep
generated_steps number size = opening ++ (drawn_lines size 0 6 number ++ closing)

abbrev pub generated : ℕ → ℕ → WireView
generated number size = record { version = One; lines = lines_from 2 (generated_steps number size) }
