-- What a device's message does to its account's archive, to the recipient's, and to what the device said.
use Rattle.std.specs.Prelude.{◌≡◌, ℕ, ◌+◌, List, [], ◌∷◌, ◌++◌, length}
use Rattle.std.specs.Option.{option_map_or}
use Rattle.cmd_report.specs.Takes.{Take, entry_of}
use Rattle.cmd_report.specs.Lines.{take_line}
use Rattle.cmd_replay.specs.Homes.{Home, delivered, names_of}
use Rattle.base_io.specs.Names.{position_of}
use Rattle.cmd_report.specs.declared.report.SaidLine.{SaidLine}
use Rattle.cmd_report.specs.declared.report.SaidMark.TheVariants.{Acknowledged}
use Rattle.cmd_report.specs.declared.report.TakeLine.{TakeLine}
use Rattle.cmd_replay.specs.Devices.{DeviceState}
use Rattle.cmd_schedule.specs.declared.schedule.Version.{Version}

-- how many messages the device sent
abbrev pub sent_of : DeviceState → ℕ
sent_of device = length device.said.items

-- the take of the device's next message, at a moment
abbrev pub take_by : ℕ → DeviceState → List ℕ → List ℕ → Take
take_by moment device to text =
    record { device = device.name; account = device.account; epoch = 1; n = sent_of device + 1; to = to; text = text; moment = moment }

-- the line of the device's next message
abbrev pub said_by : DeviceState → List ℕ → List ℕ → SaidLine
said_by device to text = record { epoch = 1; n = sent_of device + 1; state = Acknowledged; to = to; text = text }

-- the accounts after the device's next message, which goes nowhere where no account has the name
abbrev pub homes_after : ℕ → ℕ → DeviceState → List ℕ → List ℕ → List Home → List Home
homes_after keep moment device to text homes =
    option_map_or (λ position. delivered keep device.home position (entry_of (take_by moment device to text)) homes) (position_of to (names_of homes)) homes

-- the takes after it
abbrev pub takes_after : Version → ℕ → DeviceState → List ℕ → List ℕ → List Home → List TakeLine → List TakeLine
takes_after version moment device to text homes lines =
    option_map_or (λ position. lines ++ take_line version (take_by moment device to text) ∷ []) (position_of to (names_of homes)) lines

-- the device after it
pub record HasSaid (before after : DeviceState) (to text : List ℕ) : Type 0 where
  pub name : after.name ≡ before.name
  pub account : after.account ≡ before.account
  pub home : after.home ≡ before.home
  pub said : after.said.items ≡ before.said.items ++ said_by before to text ∷ []
  pub log : after.log ≡ before.log
