-- The messages that went up in a session, and the lines of a report that tell of them.
use Rattle.std.specs.Prelude.{◌≡◌, ℕ, ◌==◌, false, List, Option, Some, filter, map, slice_get}
use Rattle.std.specs.List.{AllByRecursion}
use Rattle.std.specs.Str.{bytes_eq}
use Rattle.cmd_network.specs.DeviceLines.{device_line}
use Rattle.cmd_network.specs.Devices.{DeviceState}
use Rattle.base_io.specs.Names.{is_among}
use Rattle.sim_3_items.specs.Ups.{up_stanza}
use Rattle.cmd_report.specs.declared.report.SaidLine.{SaidLine}
use Rattle.cmd_report.specs.declared.report.TakeLine.{TakeLine}
use Rattle.cmd_schedule.specs.Contents.{Owned}
use Rattle.sim_1_applications.specs.Stanzas.{Submission, messages}
use Rattle.sim_7_schedules.specs.Pairs.{HasEpoch, Pair}
use Rattle.cmd_world.specs.Worlds.{ByteWorld}
use Rattle.xml_writer.specs.Items.{ItemOut}

-- a message: its epoch, its number there, and the account that it is for
pub record Told : Type 0 where
  pub epoch : ℕ
  pub n : ℕ
  pub to : List ℕ

abbrev pub told : Submission → Told
told m = record { epoch = m.epoch; n = m.n; to = m.to }

abbrev pub told_said : SaidLine → Told
told_said line = record { epoch = line.epoch; n = line.n; to = line.to }

abbrev pub told_taken : TakeLine → Told
told_taken line = record { epoch = line.epoch; n = line.n; to = line.account }

-- those of an epoch
abbrev pub of_epoch : ℕ → List Told → List Told
of_epoch e ms = filter (λ (m : Told). m.epoch == e) ms

-- the messages among stanzas
abbrev pub messages_in : List ItemOut → List Submission
messages_in zs = messages (map up_stanza zs)

-- the `said` lines of a device, and the `take` lines that name it
abbrev pub said_lines : DeviceState → List SaidLine
said_lines d = (device_line false d).said

abbrev pub taken_of : List ℕ → List TakeLine → List TakeLine
taken_of name lines = filter (λ (line : TakeLine). bytes_eq name line.device) lines

-- Of the session of an epoch: what its client put are the messages of the device's `said` lines of that epoch; and what
-- the server handled of them, to accounts that exist, are those of the `take` lines of that epoch.
pub record HasMessages (w : ByteWorld) (i : ℕ) (o : Owned) (e : ℕ) (p : Pair) : Type 0 where
  pub put : (d : DeviceState) → slice_get w.devices i ≡ Some d → map told (messages_in p.up.put) ≡ of_epoch e (map told_said (said_lines d))
  pub handled : map told (filter (λ (m : Submission). is_among m.to w.accounts) (messages_in p.up.got)) ≡ of_epoch e (map told_taken (taken_of o.device w.takes))

-- The same of each session of a device that its client read of; and each `said` line of the device, and each `take` line
-- that names it, is of the epoch of such a session.
pub record AreTold (w : ByteWorld) (i : ℕ) (o : Owned) (pairs : ℕ → Option Pair) : Type 0 where
  pub each : (number e : ℕ) (p : Pair) → pairs number ≡ Some p → p.epoch ≡ Some e → HasMessages w i o e p
  pub said : (d : DeviceState) → slice_get w.devices i ≡ Some d → AllByRecursion (λ (line : SaidLine). HasEpoch pairs line.epoch) (said_lines d)
  pub taken : AllByRecursion (λ (line : TakeLine). HasEpoch pairs line.epoch) (taken_of o.device w.takes)
