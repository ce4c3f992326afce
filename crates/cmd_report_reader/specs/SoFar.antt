-- What the lines of a report so far tell, and what one more adds.
use Rattle.std.specs.Prelude.{ℕ, Bool, true, false, ◌&&◌, not, List, [], ◌∷◌, ◌++◌, Option, Some, None, is_none, Result, Ok, Err, option_to_list, if◌then◌else◌}
use Rattle.cmd_report.specs.EntryLines.{EntryLineView}
use Rattle.cmd_report.specs.Reports.{AccountView, DeviceView, ReportView}
use Rattle.cmd_report.specs.declared.report.ConnLine.{ConnLine}
use Rattle.cmd_report.specs.declared.report.HeldLine.{HeldLine}
use Rattle.cmd_report.specs.declared.report.LoggedLine.{LoggedLine}
use Rattle.cmd_report.specs.declared.report.PageLine.{PageLine}
use Rattle.cmd_report.specs.declared.report.RefusedLine.{RefusedLine}
use Rattle.cmd_report.specs.declared.report.SaidLine.{SaidLine}
use Rattle.cmd_report.specs.declared.report.TakeLine.{TakeLine}
use Rattle.cmd_report.specs.declared.report.UnderwayLine.{UnderwayLine}
use Rattle.cmd_report_reader.specs.declared.line.DevicePart.{DevicePart}
use Rattle.cmd_report_reader.specs.declared.line.DevicePart.TheVariants.{Said, Refused, Page, Underway, Logged, Held}
use Rattle.cmd_report_reader.specs.declared.line.ReportLine.{ReportLine}
use Rattle.cmd_report_reader.specs.declared.line.ReportLine.TheVariants.{Take, Account, Entry, Conn, Device, Part, Break, End}
use Rattle.cmd_schedule.specs.Reading.{wants, ◌>>=◌}
use Rattle.cmd_schedule.specs.declared.fault.LineWhy.{LineWhy}
use Rattle.cmd_schedule.specs.declared.schedule.Version.{Version}
use Rattle.cmd_schedule.specs.declared.fault.LineWhy.TheVariants as why

-- What lines tell: takes, the accounts before the last and the last one, connections, the devices before the last and the
-- last one, whether the last line is a break, and whether it is the report's last.
pub record SoFarView : Type 0 where
  pub version : Version
  pub wire : Bool
  pub takes : List TakeLine
  pub accounts : List AccountView
  pub account : Option AccountView
  pub conns : List ConnLine
  pub devices : List DeviceView
  pub device : Option DeviceView
  pub broken : Bool
  pub ended : Bool

-- behind line 1
abbrev pub nothing_told : Version → Bool → SoFarView
nothing_told version wire = record {
  version = version;
  wire = wire;
  takes = [];
  accounts = [];
  account = None;
  conns = [];
  devices = [];
  device = None;
  broken = false;
  ended = false;
}

abbrev pub is_empty : {A : Type 0} → List A → Bool
is_empty [] = true
is_empty (x ∷ xs) = false

-- nothing of a device: a break is of one
abbrev pub no_device : SoFarView → Bool
no_device so_far = not so_far.broken && is_none so_far.device && is_empty so_far.devices

abbrev pub no_conn : SoFarView → Bool
no_conn so_far = is_empty so_far.conns && no_device so_far

abbrev pub no_account : SoFarView → Bool
no_account so_far = is_none so_far.account && is_empty so_far.accounts && no_conn so_far

-- ---- lines of a device, in their order

abbrev pub no_held : DeviceView → Bool
no_held device = is_empty device.held

abbrev pub no_logged : DeviceView → Bool
no_logged device = is_empty device.logged && no_held device

abbrev pub no_underway : DeviceView → Bool
no_underway device = is_empty device.underway && no_logged device

abbrev pub no_page : DeviceView → Bool
no_page device = is_empty device.pages && no_underway device

abbrev pub no_refused : DeviceView → Bool
no_refused device = is_empty device.refused && no_page device

unfoldable pub add_said : DeviceView → SaidLine → Result DeviceView LineWhy
add_said device line = do
  first ← wants (no_refused device) why.Word
  Ok (record device { said = device.said ++ line ∷ [] })

unfoldable pub add_refused : DeviceView → RefusedLine → Result DeviceView LineWhy
add_refused device line = do
  first ← wants (no_page device) why.Word
  Ok (record device { refused = device.refused ++ line ∷ [] })

unfoldable pub add_page : DeviceView → PageLine → Result DeviceView LineWhy
add_page device line = do
  first ← wants (no_underway device) why.Word
  Ok (record device { pages = device.pages ++ line ∷ [] })

unfoldable pub add_underway : DeviceView → UnderwayLine → Result DeviceView LineWhy
add_underway device line = do
  first ← wants (no_logged device) why.Word
  Ok (record device { underway = device.underway ++ line ∷ [] })

unfoldable pub add_logged : DeviceView → LoggedLine → Result DeviceView LineWhy
add_logged device line = do
  first ← wants (no_held device) why.Word
  Ok (record device { logged = device.logged ++ line ∷ [] })

abbrev pub add_held : DeviceView → HeldLine → DeviceView
add_held device line = record device { held = device.held ++ line ∷ [] }

-- behind a line of these, which isn't a break
unfoldable pub add_unbroken : DeviceView → DevicePart → Result DeviceView LineWhy
add_unbroken device (Said line) = add_said device line
add_unbroken device (Refused line) = add_refused device line
add_unbroken device (Page line) = add_page device line
add_unbroken device (Underway line) = add_underway device line
add_unbroken device (Logged entry) = add_logged device (record { entry = entry; broken = false })
add_unbroken device (Held line) = Ok (add_held device line)

-- behind a break, which only an entry of the log may follow
unfoldable pub add_broken : DeviceView → DevicePart → Result DeviceView LineWhy
add_broken device (Logged entry) = add_logged device (record { entry = entry; broken = true })
add_broken device _ = Err why.Word

abbrev pub add_to_device : Bool → DeviceView → DevicePart → Result DeviceView LineWhy
add_to_device true device part = add_broken device part
add_to_device false device part = add_unbroken device part

-- ---- all lines, in their order

unfoldable pub add_take : SoFarView → TakeLine → Result SoFarView LineWhy
add_take so_far line = do
  first ← wants (no_account so_far) why.Word
  Ok (record so_far { takes = so_far.takes ++ line ∷ [] })

unfoldable pub add_account : SoFarView → AccountView → Result SoFarView LineWhy
add_account so_far line = do
  first ← wants (no_conn so_far) why.Word
  Ok (record so_far { accounts = so_far.accounts ++ option_to_list so_far.account; account = Some line })

abbrev pub with_entry : AccountView → EntryLineView → AccountView
with_entry account line = record account { entries = account.entries ++ line ∷ [] }

-- what is there, or the reason that nothing is
abbrev pub told : {A : Type 0} → Option A → Result A LineWhy
told None = Err why.Word
told (Some x) = Ok x

unfoldable pub add_entry : SoFarView → EntryLineView → Result SoFarView LineWhy
add_entry so_far line = do
  first ← wants (no_conn so_far) why.Word
  account ← told so_far.account
  Ok (record so_far { account = Some (with_entry account line) })

unfoldable pub add_conn : SoFarView → ConnLine → Result SoFarView LineWhy
add_conn so_far line = do
  first ← wants (no_device so_far) why.Word
  Ok (record so_far { conns = so_far.conns ++ line ∷ [] })

unfoldable pub add_device : SoFarView → DeviceView → Result SoFarView LineWhy
add_device so_far line = do
  whole ← wants (not so_far.broken) why.Word
  Ok (record so_far { devices = so_far.devices ++ option_to_list so_far.device; device = Some line })

unfoldable pub add_part : SoFarView → DevicePart → Result SoFarView LineWhy
add_part so_far part = do
  device ← told so_far.device
  further ← add_to_device so_far.broken device part
  Ok (record so_far { device = Some further; broken = false })

-- whether an entry of a device's log may follow, with a break before it
abbrev pub device_may_break : Bool → Option DeviceView → Bool
device_may_break broken None = false
device_may_break broken (Some device) = not broken && no_held device

abbrev pub may_break : SoFarView → Bool
may_break so_far = device_may_break so_far.broken so_far.device

unfoldable pub add_break : SoFarView → Result SoFarView LineWhy
add_break so_far = do
  first ← wants (may_break so_far) why.Word
  Ok (record so_far { broken = true })

unfoldable pub add_end : SoFarView → Result SoFarView LineWhy
add_end so_far = do
  whole ← wants (not so_far.broken) why.Word
  Ok (record so_far { ended = true })

unfoldable pub add_line : SoFarView → ReportLine → Result SoFarView LineWhy
add_line so_far (Take line) = add_take so_far line
add_line so_far (Account line) = add_account so_far line
add_line so_far (Entry line) = add_entry so_far line
add_line so_far (Conn line) = add_conn so_far line
add_line so_far (Device line) = add_device so_far line
add_line so_far (Part part) = add_part so_far part
add_line so_far Break = add_break so_far
add_line so_far End = add_end so_far

-- the report, where its last line came
abbrev pub report_of : SoFarView → ReportView
report_of so_far = record {
  version = so_far.version;
  wire = so_far.wire;
  takes = so_far.takes;
  accounts = so_far.accounts ++ option_to_list so_far.account;
  conns = so_far.conns;
  devices = so_far.devices ++ option_to_list so_far.device;
}

unfoldable pub whole_report : SoFarView → Result ReportView LineWhy
whole_report so_far = do
  ended ← wants so_far.ended why.Ending
  Ok (report_of so_far)
