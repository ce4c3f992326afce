-- What clauses see of a report: plain lists of its lines.
use Rattle.std.specs.Prelude.{ℕ, Bool, List}
use Rattle.cmd_report.specs.declared.report.ConnLine.{ConnLine}
use Rattle.cmd_report.specs.EntryLines.{EntryLineView}
use Rattle.cmd_report.specs.declared.report.HeldLine.{HeldLine}
use Rattle.cmd_report.specs.declared.report.LoggedLine.{LoggedLine}
use Rattle.cmd_report.specs.declared.report.PageLine.{PageLine}
use Rattle.cmd_report.specs.declared.report.RefusedLine.{RefusedLine}
use Rattle.cmd_report.specs.declared.report.SaidLine.{SaidLine}
use Rattle.cmd_report.specs.declared.report.TakeLine.{TakeLine}
use Rattle.cmd_report.specs.declared.report.UnderwayLine.{UnderwayLine}
use Rattle.cmd_schedule.specs.declared.schedule.Version.{Version}

-- an account, how many entries its archive keeps, the greatest number that it gave, and the entries that it keeps
pub record AccountView : Type 0 where
  pub name : List ℕ
  pub count : ℕ
  pub last : ℕ
  pub entries : List EntryLineView

-- a device, what it sent, refused and asked for, and its log
pub record DeviceView : Type 0 where
  pub name : List ℕ
  pub account : List ℕ
  pub epoch : ℕ
  pub settled : Bool
  pub said : List SaidLine
  pub refused : List RefusedLine
  pub pages : List PageLine
  pub underway : List UnderwayLine
  pub logged : List LoggedLine
  pub held : List HeldLine

-- what a run of a schedule came to
pub record ReportView : Type 0 where
  pub version : Version
  pub wire : Bool
  pub takes : List TakeLine
  pub accounts : List AccountView
  pub conns : List ConnLine
  pub devices : List DeviceView
