-- Reports whose text can be read, as each report of a schedule is.
use Rattle.std.specs.Prelude.{◌≡◌, ◌≢◌, ℕ, ◌<◌, ◌≤◌, ◌^◌, Bool, List, All, Option, Some, None, IfSome, IsUtf8, is_some, codes, length, IsTrue}
use Rattle.std.specs.List.{AllByRecursion}
use Rattle.cmd_report.specs.EntryLines.{EntryLineView}
use Rattle.cmd_report.specs.LawfulRuns.{tells_moments}
use Rattle.cmd_report.specs.Reports.{AccountView, DeviceView, ReportView}
use Rattle.cmd_report.specs.declared.report.ConnLine.{ConnLine}
use Rattle.cmd_report.specs.declared.report.HeldLine.{HeldLine}
use Rattle.cmd_report.specs.declared.report.LoggedLine.{LoggedLine}
use Rattle.cmd_report.specs.declared.report.PageLine.{PageLine}
use Rattle.cmd_report.specs.declared.report.RefusedLine.{RefusedLine}
use Rattle.cmd_report.specs.declared.report.SaidLine.{SaidLine}
use Rattle.cmd_report.specs.declared.report.TakeLine.{TakeLine}
use Rattle.cmd_report.specs.declared.report.UnderwayLine.{UnderwayLine}
use Rattle.cmd_schedule.specs.Grammar.{may_keep}
use Rattle.cmd_schedule.specs.declared.schedule.Version.{Version}
use Rattle.cmd_schedule.specs.declared.schedule.Version.TheVariants.{One, Two}

-- a number that 64 bits hold
abbrev pub IsNumber : ℕ → Type 0
IsNumber n = n < 2 ^ 64

-- characters on one line
pub record IsOnLine (text : List ℕ) : Type 0 where
  pub some : 0 < length text
  pub spelled : IsUtf8 text
  pub one : All (λ c. c ≢ 10) text

-- characters without a space, on one line
pub record IsField (word : List ℕ) : Type 0 where
  pub line : IsOnLine word
  pub one : All (λ c. c ≢ 32) word

pub record IsTake (version : Version) (line : TakeLine) : Type 0 where
  pub device : IsField line.device
  pub epoch : IsNumber line.epoch
  pub n : IsNumber line.n
  pub account : IsField line.account
  pub told : is_some line.moment ≡ tells_moments version
  pub moment : IfSome line.moment IsNumber

pub record IsEntry (line : EntryLineView) : Type 0 where
  pub id : IsField line.id
  pub stamp : IsNumber line.stamp
  pub from : IsField line.from
  pub to : IsField line.to
  pub origin : IsField line.origin
  pub text : IsOnLine line.text

-- version 1 doesn't tell the greatest number given: it is the count
abbrev pub IsLast : Version → ℕ → ℕ → Type 0
IsLast One count last = last ≡ count
IsLast (Two keep) count last = IsNumber last

pub record IsAccount (version : Version) (line : AccountView) : Type 0 where
  pub name : IsField line.name
  pub count : IsNumber line.count
  pub last : IsLast version line.count line.last
  pub entries : AllByRecursion IsEntry line.entries

pub record IsConn (line : ConnLine) : Type 0 where
  pub k : IsNumber line.k
  pub device : IsField line.device
  pub upput : IsNumber line.upput
  pub uptaken : IsNumber line.uptaken
  pub downput : IsNumber line.downput
  pub downtaken : IsNumber line.downtaken

pub record IsSaid (line : SaidLine) : Type 0 where
  pub epoch : IsNumber line.epoch
  pub n : IsNumber line.n
  pub to : IsField line.to
  pub text : IsOnLine line.text

-- an id that can be told from the sign that there is none
pub record IsId (id : List ℕ) : Type 0 where
  pub field : IsField id
  pub other : id ≢ codes "-"

pub record IsPage (line : PageLine) : Type 0 where
  pub after : IfSome line.after IsId
  pub count : IsNumber line.count
  pub total : IfSome line.total IsNumber

pub record IsUnderway (line : UnderwayLine) : Type 0 where
  pub queryid : IsField line.queryid
  pub got : IsNumber line.got

pub record IsDevice (line : DeviceView) : Type 0 where
  pub name : IsField line.name
  pub account : IsField line.account
  pub epoch : IsNumber line.epoch
  pub said : AllByRecursion IsSaid line.said
  pub refused : AllByRecursion (λ (r : RefusedLine). IsNumber r.line) line.refused
  pub pages : AllByRecursion IsPage line.pages
  pub underway : AllByRecursion IsUnderway line.underway
  pub logged : AllByRecursion (λ (l : LoggedLine). IsEntry l.entry) line.logged
  pub held : AllByRecursion (λ (h : HeldLine). IsField h.id) line.held

pub record IsReadable (report : ReportView) : Type 0 where
  pub keeps : IsTrue (may_keep report.version)
  pub takes : AllByRecursion (IsTake report.version) report.takes
  pub accounts : AllByRecursion (IsAccount report.version) report.accounts
  pub conns : AllByRecursion IsConn report.conns
  pub devices : AllByRecursion IsDevice report.devices
