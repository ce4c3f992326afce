-- The text of a report: each line's fields, separated by one space, and LF.
use Rattle.std.specs.Prelude.{ℕ, Bool, true, false, List, [], ◌∷◌, ◌++◌, Option, Some, None, codes}
use Rattle.std.specs.Fmt.{decimal}
use Rattle.std.specs.List.{flat_map}
use Rattle.cmd_report.specs.Reports.{AccountView, DeviceView, ReportView}
use Rattle.cmd_report.specs.declared.report.ConnEnd.{ConnEnd}
use Rattle.cmd_report.specs.declared.report.ConnEnd.TheVariants.{Cut, Left, Shut, Open}
use Rattle.cmd_report.specs.declared.report.ConnLine.{ConnLine}
use Rattle.cmd_report.specs.EntryLines.{EntryLineView}
use Rattle.cmd_report.specs.declared.report.HeldLine.{HeldLine}
use Rattle.cmd_report.specs.declared.report.LoggedLine.{LoggedLine}
use Rattle.cmd_report.specs.declared.report.PageLine.{PageLine}
use Rattle.cmd_report.specs.declared.report.RefusedLine.{RefusedLine}
use Rattle.cmd_report.specs.declared.report.RefusedWhy.{RefusedWhy}
use Rattle.cmd_report.specs.declared.report.RefusedWhy.TheVariants.{NotBound, OutboxFull, Underway}
use Rattle.cmd_report.specs.declared.report.SaidLine.{SaidLine}
use Rattle.cmd_report.specs.declared.report.SaidMark.{SaidMark}
use Rattle.cmd_report.specs.declared.report.SaidMark.TheVariants.{Acknowledged, Waiting, Undecided}
use Rattle.cmd_report.specs.declared.report.TakeLine.{TakeLine}
use Rattle.cmd_report.specs.declared.report.UnderwayLine.{UnderwayLine}
use Rattle.cmd_schedule.specs.Grammar.{mode_text}
use Rattle.cmd_schedule.specs.declared.schedule.Version.{Version}
use Rattle.cmd_schedule.specs.declared.schedule.Version.TheVariants.{One, Two}

abbrev pub header_text : Version → Bool → List ℕ
header_text One wire = codes "xmpp-report 1 " ++ mode_text wire
header_text (Two keep) wire = codes "xmpp-report 2 " ++ mode_text wire ++ 32 ∷ decimal keep

-- the moment, where it is told
abbrev pub moment_text : Option ℕ → List ℕ
moment_text None = []
moment_text (Some moment) = 32 ∷ decimal moment

abbrev pub take_text : TakeLine → List ℕ
take_text line =
    codes "take " ++ line.device ++ 32 ∷ decimal line.epoch ++ 32 ∷ decimal line.n ++ 32 ∷ line.account
    ++ moment_text line.moment ++ 10 ∷ []

-- the fields of an entry, in an archive and in a log alike
abbrev pub fields_text : EntryLineView → List ℕ
fields_text e = e.id ++ 32 ∷ decimal e.stamp ++ 32 ∷ e.from ++ 32 ∷ e.to ++ 32 ∷ e.origin ++ 32 ∷ e.text ++ 10 ∷ []

abbrev pub entry_text : EntryLineView → List ℕ
entry_text line = codes "entry " ++ fields_text line

-- the greatest number given, which version 1 doesn't tell: there it is the count
abbrev pub last_text : Version → ℕ → List ℕ
last_text One last = []
last_text (Two keep) last = 32 ∷ decimal last

abbrev pub account_text : Version → AccountView → List ℕ
account_text version line =
    codes "account " ++ line.name ++ 32 ∷ decimal line.count ++ last_text version line.last
    ++ 10 ∷ flat_map entry_text line.entries

abbrev pub conn_end_text : ConnEnd → List ℕ
conn_end_text Cut = codes "cut"
conn_end_text Left = codes "left"
conn_end_text Shut = codes "shut"
conn_end_text Open = codes "open"

abbrev pub conn_text : ConnLine → List ℕ
conn_text line =
    codes "conn " ++ decimal line.k ++ 32 ∷ line.device ++ 32 ∷ decimal line.upput ++ 32 ∷ decimal line.uptaken
    ++ 32 ∷ decimal line.downput ++ 32 ∷ decimal line.downtaken ++ 32 ∷ conn_end_text line.end ++ 10 ∷ []

abbrev pub mark_text : SaidMark → List ℕ
mark_text Acknowledged = codes "acknowledged"
mark_text Waiting = codes "waiting"
mark_text Undecided = codes "undecided"

abbrev pub said_text : SaidLine → List ℕ
said_text line =
    codes "said " ++ decimal line.epoch ++ 32 ∷ decimal line.n ++ 32 ∷ mark_text line.state ++ 32 ∷ line.to
    ++ 32 ∷ line.text ++ 10 ∷ []

abbrev pub refused_why_text : RefusedWhy → List ℕ
refused_why_text NotBound = codes "NotBound"
refused_why_text OutboxFull = codes "OutboxFull"
refused_why_text Underway = codes "Underway"

abbrev pub refused_text : RefusedLine → List ℕ
refused_text line = codes "refused " ++ decimal line.line ++ 32 ∷ refused_why_text line.why ++ 10 ∷ []

-- an id, or - where there is none
abbrev pub after_text : Option (List ℕ) → List ℕ
after_text None = codes "-"
after_text (Some id) = id

abbrev pub total_text : Option ℕ → List ℕ
total_text None = codes "more"
total_text (Some total) = codes "complete " ++ decimal total

abbrev pub page_text : PageLine → List ℕ
page_text line =
    codes "page " ++ after_text line.after ++ 32 ∷ decimal line.count ++ 32 ∷ total_text line.total ++ 10 ∷ []

abbrev pub underway_text : UnderwayLine → List ℕ
underway_text line = codes "underway " ++ line.queryid ++ 32 ∷ decimal line.got ++ 10 ∷ []

-- the line before an entry with which a run begins after a break
abbrev pub break_text : Bool → List ℕ
break_text true = codes "break" ++ 10 ∷ []
break_text false = []

abbrev pub logged_text : LoggedLine → List ℕ
logged_text line = break_text line.broken ++ codes "logged " ++ fields_text line.entry

abbrev pub held_text : HeldLine → List ℕ
held_text line = codes "held " ++ line.id ++ 10 ∷ []

abbrev pub settled_text : Bool → List ℕ
settled_text true = codes "yes"
settled_text false = codes "no"

abbrev pub device_text : DeviceView → List ℕ
device_text line =
    codes "device " ++ line.name ++ 32 ∷ line.account ++ 32 ∷ decimal line.epoch ++ 32 ∷ settled_text line.settled
    ++ 10 ∷ flat_map said_text line.said ++ flat_map refused_text line.refused ++ flat_map page_text line.pages
    ++ flat_map underway_text line.underway ++ flat_map logged_text line.logged ++ flat_map held_text line.held

unfoldable pub text_of : ReportView → List ℕ
text_of report =
    header_text report.version report.wire ++ 10 ∷ flat_map take_text report.takes
    ++ flat_map (account_text report.version) report.accounts ++ flat_map conn_text report.conns
    ++ flat_map device_text report.devices ++ codes "end" ++ 10 ∷ []
