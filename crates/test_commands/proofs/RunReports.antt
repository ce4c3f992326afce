-- A wire schedule of two devices whose archives keep their newest two entries, the moments of a run of it, and the parts
-- of its reports: what a report of it looks like where connections broke and entries were purged.
use Rattle.std.specs.Prelude.{ℕ, Bool, true, false, List, [], ◌∷◌, Option, Some, None, length, map, codes, if◌then◌else◌}
use Rattle.std.specs.Str.{bytes_eq}
use Rattle.mam_archive.specs.Entries.{EntryView}
use Rattle.mam_archive.specs.Ids.{id_of}
use Rattle.mam_log.specs.LogPages.{LogPage}
use Rattle.mam_log.specs.declared.log_entry.LogEntry.{LogEntry}
use Rattle.cmd_report.specs.Lines.{entry_line}
use Rattle.cmd_report.specs.Reports.{AccountView, DeviceView, ReportView}
use Rattle.cmd_report.specs.Worlds.{ReportWorld}
use Rattle.cmd_report.specs.declared.report.ConnEnd.TheVariants.{Cut}
use Rattle.cmd_report.specs.declared.report.ConnLine.{ConnLine}
use Rattle.cmd_report.specs.declared.report.HeldLine.{HeldLine}
use Rattle.cmd_report.specs.declared.report.LoggedLine.{LoggedLine}
use Rattle.cmd_report.specs.declared.report.PageLine.{PageLine}
use Rattle.cmd_report.specs.declared.report.RefusedWhy.TheVariants.{NotBound}
use Rattle.cmd_report.specs.declared.report.SaidLine.{SaidLine}
use Rattle.cmd_report.specs.declared.report.SaidMark.{SaidMark}
use Rattle.cmd_report.specs.declared.report.SaidMark.TheVariants.{Acknowledged, Waiting, Undecided}
use Rattle.cmd_report.specs.declared.report.TakeLine.{TakeLine}
use Rattle.cmd_schedule.specs.Schedules.{ScheduleView}
use Rattle.cmd_schedule.specs.declared.schedule.Line.{Line}
use Rattle.cmd_schedule.specs.declared.schedule.Step.{Step}
use Rattle.cmd_schedule.specs.declared.schedule.Step.TheVariants.{Account, Device, Say, Private, Catchup, Tick}
use Rattle.cmd_schedule.specs.declared.schedule.Version.TheVariants.{Two}

abbrev pub a : List ℕ
a = codes "a"

abbrev pub b : List ℕ
b = codes "b"

abbrev pub p : List ℕ
p = codes "p"

abbrev pub q : List ℕ
q = codes "q"

abbrev pub at : ℕ → Step → Line
at n step = record { number = n; step = step }

-- p of a sends five messages, of which its second session sends the last three; q of b sends two; both catch up twice
abbrev pub run_lines : List Line
run_lines =
    at 2 (Account a) ∷ at 3 (Account b) ∷ at 4 (Device p a) ∷ at 5 (Device q b) ∷ at 6 (Catchup p 5)
    ∷ at 7 (Say p b (codes "x")) ∷ at 8 (Private p b (codes "y")) ∷ at 9 (Say q a (codes "w")) ∷ at 10 (Catchup q 1)
    ∷ at 11 (Tick 10) ∷ at 12 (Say p b (codes "z")) ∷ at 13 (Say p a (codes "u")) ∷ at 14 (Private q a (codes "s"))
    ∷ at 15 (Say p b (codes "t")) ∷ at 16 (Catchup p 5) ∷ at 17 (Catchup q 1) ∷ []

abbrev pub scheduled : Bool → ScheduleView
scheduled wire = record { version = Two 2; wire = wire; lines = run_lines }

abbrev pub run_schedule : ScheduleView
run_schedule = scheduled true

-- The entries that the takes make.

abbrev pub entry : ℕ → ℕ → List ℕ → List ℕ → List ℕ → List ℕ → EntryView
entry n moment from to origin text = record {
  number = n;
  stamp = moment;
  from = from;
  to = to;
  normal = false;
  id = origin;
  origin = origin;
  bodies = record { lang = []; text = text } ∷ [];
}

abbrev pub x : ℕ → EntryView
x n = entry n 10 (codes "a@chat.example/p") (codes "b@chat.example") (codes "p.1.1") (codes "x")

abbrev pub w : ℕ → EntryView
w n = entry n 20 (codes "b@chat.example/q") (codes "a@chat.example") (codes "q.1.1") (codes "w")

abbrev pub z : ℕ → EntryView
z n = entry n 30 (codes "a@chat.example/p") (codes "b@chat.example") (codes "p.2.1") (codes "z")

abbrev pub u : ℕ → EntryView
u n = entry n 30 (codes "a@chat.example/p") (codes "a@chat.example") (codes "p.2.2") (codes "u")

abbrev pub s : ℕ → EntryView
s n = entry n 40 (codes "b@chat.example/q") (codes "a@chat.example") (codes "q.1.2") (codes "s")

abbrev pub t : ℕ → EntryView
t n = entry n 50 (codes "a@chat.example/p") (codes "b@chat.example") (codes "p.2.3") (codes "t")

-- all that was taken: u concerns a alone
abbrev pub of_a : List EntryView
of_a = x 1 ∷ w 2 ∷ z 3 ∷ u 4 ∷ s 5 ∷ t 6 ∷ []

abbrev pub of_b : List EntryView
of_b = x 1 ∷ w 2 ∷ z 3 ∷ s 4 ∷ t 5 ∷ []

-- The run, move by move.

abbrev pub known : EntryView → LogEntry
known e = record { id = id_of e.number; entry = e }

abbrev pub page : Option (List ℕ) → List EntryView → Bool → ℕ → LogPage
page after entries complete total = record { after = after; entries = map known entries; complete = complete; total = total }

-- the one page of p, and the pages of q
abbrev pub p_page : LogPage
p_page = page None [] true 0

abbrev pub q_first : LogPage
q_first = page None (x 1 ∷ []) false 2

abbrev pub q_second : LogPage
q_second = page None (z 3 ∷ []) false 2

abbrev pub q_third : LogPage
q_third = page (Some (id_of 3)) (s 4 ∷ []) true 2

-- a world, by the archives of a and of b, the pages of p and of q, and how many each asked for
abbrev pub world : List EntryView → List EntryView → List LogPage → ℕ → List LogPage → ℕ → ReportWorld
world in_a in_b p_pages p_asked q_pages q_asked = record {
  archive = λ account. if bytes_eq account a then in_a else in_b;
  pages = λ device. if bytes_eq device p then p_pages else q_pages;
  asked = λ device. if bytes_eq device p then p_asked else q_asked;
}

abbrev pub worlds : List ReportWorld
worlds =
    world [] [] [] 0 [] 0
    ∷ world [] [] [] 1 [] 0
    ∷ world [] [] (p_page ∷ []) 1 [] 0
    ∷ world (x 1 ∷ w 2 ∷ []) (x 1 ∷ w 2 ∷ []) (p_page ∷ []) 1 [] 0
    ∷ world (x 1 ∷ w 2 ∷ []) (x 1 ∷ w 2 ∷ []) (p_page ∷ []) 1 [] 1
    ∷ world (x 1 ∷ w 2 ∷ []) (x 1 ∷ w 2 ∷ []) (p_page ∷ []) 1 (q_first ∷ []) 1
    ∷ world (u 4 ∷ s 5 ∷ []) (z 3 ∷ s 4 ∷ []) (p_page ∷ []) 1 (q_first ∷ []) 1
    ∷ world (u 4 ∷ s 5 ∷ []) (z 3 ∷ s 4 ∷ []) (p_page ∷ []) 1 (q_first ∷ []) 2
    ∷ world (u 4 ∷ s 5 ∷ []) (z 3 ∷ s 4 ∷ []) (p_page ∷ []) 1 (q_first ∷ q_second ∷ []) 2
    ∷ world (u 4 ∷ s 5 ∷ []) (z 3 ∷ s 4 ∷ []) (p_page ∷ []) 1 (q_first ∷ q_second ∷ []) 3
    ∷ world (u 4 ∷ s 5 ∷ []) (z 3 ∷ s 4 ∷ []) (p_page ∷ []) 1 (q_first ∷ q_second ∷ q_third ∷ []) 3
    ∷ world (s 5 ∷ t 6 ∷ []) (s 4 ∷ t 5 ∷ []) (p_page ∷ []) 1 (q_first ∷ q_second ∷ q_third ∷ []) 3
    ∷ world (s 5 ∷ t 6 ∷ []) (s 4 ∷ t 5 ∷ []) (p_page ∷ []) 1 (q_first ∷ q_second ∷ q_third ∷ []) 4 ∷ []

-- The report.

abbrev pub take : List ℕ → ℕ → ℕ → List ℕ → ℕ → TakeLine
take device epoch n account moment = record { device = device; epoch = epoch; n = n; account = account; moment = Some moment }

-- y was lost
abbrev pub taken : List TakeLine
taken = take p 1 1 b 10 ∷ take q 1 1 a 20 ∷ take p 2 1 b 30 ∷ take p 2 2 a 30 ∷ take q 1 2 a 40 ∷ take p 2 3 b 50 ∷ []

abbrev pub said : ℕ → ℕ → SaidMark → List ℕ → List ℕ → SaidLine
said epoch n state to text = record { epoch = epoch; n = n; state = state; to = to; text = text }

abbrev pub said_by_p : List SaidLine
said_by_p =
    said 1 1 Acknowledged b (codes "x") ∷ said 1 2 Undecided b (codes "y") ∷ said 2 1 Acknowledged b (codes "z")
    ∷ said 2 2 Acknowledged a (codes "u") ∷ said 2 3 Waiting b (codes "t") ∷ []

abbrev pub said_by_q : List SaidLine
said_by_q = said 1 1 Acknowledged a (codes "w") ∷ said 1 2 Acknowledged a (codes "s") ∷ []

abbrev pub account : List ℕ → ℕ → List EntryView → AccountView
account name last entries = record { name = name; count = length entries; last = last; entries = map entry_line entries }

abbrev pub asked : Option (List ℕ) → ℕ → Option ℕ → PageLine
asked after count total = record { after = after; count = count; total = total }

abbrev pub logged : Bool → EntryView → LoggedLine
logged broken e = record { entry = entry_line e; broken = broken }

abbrev pub hold : ℕ → HeldLine
hold n = record { id = id_of n }

-- p took a page of the empty archive, w came to it live, and it refused to catch up again
abbrev pub p_with : Bool → List SaidLine → DeviceView
p_with settled saids = record {
  name = p;
  account = a;
  epoch = 2;
  settled = settled;
  said = saids;
  refused = record { line = 16; why = NotBound } ∷ [];
  pages = asked None 0 (Some 0) ∷ [];
  underway = [];
  logged = [];
  held = hold 2 ∷ [];
}

abbrev pub p_right : DeviceView
p_right = p_with false said_by_p

-- q took x; then w was purged, and it took z behind a break, and s; t came to it live
abbrev pub q_pages : List PageLine
q_pages = asked None 1 None ∷ asked None 1 None ∷ asked (Some (id_of 3)) 1 (Some 2) ∷ []

abbrev pub q_logged : List LoggedLine
q_logged = logged false (x 1) ∷ logged true (z 3) ∷ logged false (s 4) ∷ []

abbrev pub q_with : List SaidLine → List PageLine → List LoggedLine → List HeldLine → DeviceView
q_with saids pages log holds = record {
  name = q;
  account = b;
  epoch = 1;
  settled = false;
  said = saids;
  refused = [];
  pages = pages;
  underway = record { queryid = codes "q4"; got = 0 } ∷ [];
  logged = log;
  held = holds;
}

abbrev pub q_right : DeviceView
q_right = q_with said_by_q q_pages q_logged (hold 5 ∷ [])

abbrev pub conn : ℕ → List ℕ → ConnLine
conn k device = record { k = k; device = device; upput = 900; uptaken = 850; downput = 2400; downtaken = 2310; end = Cut }

abbrev pub kept_by_a : AccountView
kept_by_a = account a 6 (s 5 ∷ t 6 ∷ [])

abbrev pub kept_by_b : AccountView
kept_by_b = account b 5 (s 4 ∷ t 5 ∷ [])

abbrev pub reported : List TakeLine → AccountView → AccountView → DeviceView → DeviceView → ReportView
reported takes in_a in_b of_p of_q = record {
  version = Two 2;
  wire = true;
  takes = takes;
  accounts = in_a ∷ in_b ∷ [];
  conns = conn 1 p ∷ conn 2 q ∷ [];
  devices = of_p ∷ of_q ∷ [];
}

abbrev pub right : ReportView
right = reported taken kept_by_a kept_by_b p_right q_right
