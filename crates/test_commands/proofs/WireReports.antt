-- A wire schedule of two devices, the moments of a run of it, and the parts of its reports: what a report of it looks like
-- where connections broke.
use Rattle.std.specs.Prelude.{ℕ, Bool, true, false, List, [], ◌∷◌, Some, None, length, codes}
use Rattle.mam_archive.specs.Entries.{EntryView}
use Rattle.mam_archive.specs.Ids.{id_of}
use Rattle.mam_log.specs.LogPages.{LogPage}
use Rattle.cmd_report.specs.Reports.{AccountView, DeviceView, ReportView}
use Rattle.cmd_report.specs.Worlds.{ReportWorld}
use Rattle.cmd_report.specs.declared.report.ConnEnd.TheVariants.{Cut}
use Rattle.cmd_report.specs.declared.report.ConnLine.{ConnLine}
use Rattle.cmd_report.specs.EntryLines.{EntryLineView}
use Rattle.cmd_report.specs.declared.report.HeldLine.{HeldLine}
use Rattle.cmd_report.specs.declared.report.LoggedLine.{LoggedLine}
use Rattle.cmd_report.specs.declared.report.PageLine.{PageLine}
use Rattle.cmd_report.specs.declared.report.RefusedWhy.TheVariants.{NotBound}
use Rattle.cmd_report.specs.declared.report.SaidLine.{SaidLine}
use Rattle.cmd_report.specs.declared.report.SaidMark.{SaidMark}
use Rattle.cmd_report.specs.declared.report.SaidMark.TheVariants.{Acknowledged, Waiting, Undecided}
use Rattle.cmd_report.specs.declared.report.TakeLine.{TakeLine}
use Rattle.cmd_schedule.specs.Schedules.{ScheduleView}
use Rattle.cmd_schedule.specs.declared.schedule.Step.TheVariants.{Account, Device, Say, Catchup}
use Rattle.cmd_schedule.specs.declared.schedule.Version.TheVariants.{One}
use Rattle.test_commands.proofs.RunReports.{page, world, x as x_kept, w as w_kept, z as z_kept}

-- p of a sends four messages, of which its second session sends the last two; q of b sends one; both catch up
abbrev pub wire_schedule : ScheduleView
wire_schedule = record {
  version = One;
  wire = true;
  lines =
      record { number = 2; step = Account (codes "a") } ∷
      record { number = 3; step = Account (codes "b") } ∷
      record { number = 4; step = Device (codes "p") (codes "a") } ∷
      record { number = 5; step = Device (codes "q") (codes "b") } ∷
      record { number = 6; step = Say (codes "p") (codes "b") (codes "x") } ∷
      record { number = 7; step = Say (codes "p") (codes "b") (codes "y") } ∷
      record { number = 8; step = Say (codes "p") (codes "b") (codes "z") } ∷
      record { number = 9; step = Say (codes "p") (codes "a") (codes "u") } ∷
      record { number = 10; step = Say (codes "q") (codes "a") (codes "w") } ∷
      record { number = 11; step = Catchup (codes "p") 5 } ∷
      record { number = 12; step = Catchup (codes "q") 1 } ∷ [];
}

abbrev pub take : List ℕ → ℕ → ℕ → List ℕ → TakeLine
take device epoch n account = record { device = device; epoch = epoch; n = n; account = account; moment = None }

-- x, w and z were taken; y was lost, and u is on its way
abbrev pub taken : List TakeLine
taken = take (codes "p") 1 1 (codes "b") ∷ take (codes "q") 1 1 (codes "a") ∷ take (codes "p") 2 1 (codes "b") ∷ []

abbrev pub said : ℕ → ℕ → SaidMark → List ℕ → List ℕ → SaidLine
said epoch n state to text = record { epoch = epoch; n = n; state = state; to = to; text = text }

abbrev pub of_p : List SaidLine
of_p =
    said 1 1 Acknowledged (codes "b") (codes "x") ∷ said 1 2 Undecided (codes "b") (codes "y")
    ∷ said 2 1 Acknowledged (codes "b") (codes "z") ∷ said 2 2 Waiting (codes "a") (codes "u") ∷ []

abbrev pub of_q : List SaidLine
of_q = said 1 1 Acknowledged (codes "a") (codes "w") ∷ []

abbrev pub x : ℕ → ℕ → EntryLineView
x n stamp = record { id = id_of n; stamp = stamp; from = codes "a@chat.example/p"; to = codes "b@chat.example"; origin = codes "p.1.1"; text = codes "x" }

abbrev pub w : ℕ → ℕ → EntryLineView
w n stamp = record { id = id_of n; stamp = stamp; from = codes "b@chat.example/q"; to = codes "a@chat.example"; origin = codes "q.1.1"; text = codes "w" }

abbrev pub z : ℕ → ℕ → EntryLineView
z n stamp = record { id = id_of n; stamp = stamp; from = codes "a@chat.example/p"; to = codes "b@chat.example"; origin = codes "p.2.1"; text = codes "z" }

abbrev pub u : ℕ → ℕ → EntryLineView
u n stamp = record { id = id_of n; stamp = stamp; from = codes "a@chat.example/p"; to = codes "a@chat.example"; origin = codes "p.2.2"; text = codes "u" }

abbrev pub archived : List EntryLineView
archived = x 1 10 ∷ w 2 20 ∷ z 3 30 ∷ []

abbrev pub account : List ℕ → List EntryLineView → AccountView
account name entries = record { name = name; count = length entries; last = length entries; entries = entries }

-- p has no session, and refused to catch up
abbrev pub p_with : Bool → List SaidLine → DeviceView
p_with settled saids = record {
  name = codes "p";
  account = codes "a";
  epoch = 2;
  settled = settled;
  said = saids;
  refused = record { line = 11; why = NotBound } ∷ [];
  pages = [];
  underway = [];
  logged = [];
  held = [];
}

abbrev pub p_right : DeviceView
p_right = p_with false of_p

abbrev pub logged : EntryLineView → LoggedLine
logged e = record { entry = e; broken = false }

-- two pages of one entry each
abbrev pub two_pages : List PageLine
two_pages = record { after = None; count = 1; total = None } ∷ record { after = Some (id_of 1); count = 1; total = None } ∷ []

abbrev pub two_logged : List LoggedLine
two_logged = logged (x 1 10) ∷ logged (w 2 20) ∷ []

abbrev pub hold : ℕ → HeldLine
hold n = record { id = id_of n }

-- q is in the middle of its third page, and the third message came live
abbrev pub q_with : List SaidLine → List PageLine → List LoggedLine → List HeldLine → DeviceView
q_with saids pages log holds = record {
  name = codes "q";
  account = codes "b";
  epoch = 1;
  settled = false;
  said = saids;
  refused = [];
  pages = pages;
  underway = record { queryid = codes "q2"; got = 1 } ∷ [];
  logged = log;
  held = holds;
}

abbrev pub q_right : DeviceView
q_right = q_with of_q two_pages two_logged (hold 3 ∷ [])

abbrev pub conn : ℕ → List ℕ → ConnLine
conn k device = record { k = k; device = device; upput = 900; uptaken = 850; downput = 2400; downtaken = 2310; end = Cut }

abbrev pub reported : List TakeLine → List EntryLineView → List EntryLineView → DeviceView → DeviceView → ReportView
reported takes of_a of_b p q = record {
  version = One;
  wire = true;
  takes = takes;
  accounts = account (codes "a") of_a ∷ account (codes "b") of_b ∷ [];
  conns = conn 1 (codes "p") ∷ conn 2 (codes "q") ∷ [];
  devices = p ∷ q ∷ [];
}

abbrev pub right : ReportView
right = reported taken archived archived p_right q_right

-- The run, move by move.

-- the pages of q
abbrev pub first_page : LogPage
first_page = page None (x_kept 1 ∷ []) false 2

abbrev pub second_page : LogPage
second_page = page (Some (id_of 1)) (w_kept 2 ∷ []) false 2

-- a world, by the one content of both archives, the pages of q and how many it asked for
abbrev pub moment : List EntryView → List LogPage → ℕ → ReportWorld
moment kept pages asked = world kept kept [] 0 pages asked

abbrev pub one_kept : List EntryView
one_kept = x_kept 1 ∷ []

abbrev pub two_kept : List EntryView
two_kept = x_kept 1 ∷ w_kept 2 ∷ []

abbrev pub three_kept : List EntryView
three_kept = x_kept 1 ∷ w_kept 2 ∷ z_kept 3 ∷ []

-- up to the first page of q
abbrev pub worlds_once : List ReportWorld
worlds_once = moment [] [] 0 ∷ moment two_kept [] 0 ∷ moment two_kept [] 1 ∷ moment two_kept (first_page ∷ []) 1 ∷ []

abbrev pub worlds : List ReportWorld
worlds =
    moment [] [] 0
    ∷ moment two_kept [] 0
    ∷ moment two_kept [] 1
    ∷ moment two_kept (first_page ∷ []) 1
    ∷ moment two_kept (first_page ∷ []) 2
    ∷ moment two_kept (first_page ∷ second_page ∷ []) 2
    ∷ moment two_kept (first_page ∷ second_page ∷ []) 3
    ∷ moment three_kept (first_page ∷ second_page ∷ []) 3 ∷ []
