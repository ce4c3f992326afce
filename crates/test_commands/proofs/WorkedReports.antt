-- The text of a wire report with a line of each kind, and what version 1 leaves out, by evaluation.
use Rattle.std.proofs.Common.{◌≡◌, ℕ, List, [], ◌∷◌, ◌++◌, Some, None, refl, true, false, codes}
use Rattle.std.specs.Fmt.{digits}
use Rattle.std.specs.List.{flat_map}
use Rattle.cmd_report.specs.ReportText.{text_of}
use Rattle.cmd_report.specs.Reports.{AccountView, DeviceView, ReportView}
use Rattle.cmd_report.specs.declared.report.ConnEnd.{ConnEnd}
use Rattle.cmd_report.specs.declared.report.ConnEnd.TheVariants.{Cut, Left, Shut, Open}
use Rattle.cmd_report.specs.declared.report.ConnLine.{ConnLine}
use Rattle.cmd_report.specs.EntryLines.{EntryLineView}
use Rattle.cmd_report.specs.declared.report.SaidMark.TheVariants.{Acknowledged, Waiting, Undecided}
use Rattle.cmd_report.specs.declared.report.RefusedWhy.TheVariants as why
use Rattle.cmd_schedule.specs.declared.schedule.Version.TheVariants.{One, Two}

-- each text with LF behind it
abbrev ended : List (List ℕ) → List ℕ
ended lines = flat_map (λ line. line ++ 10 ∷ []) lines

-- one connection of the phone, by its number and its end
abbrev conn : ℕ → ConnEnd → ConnLine
conn k end = record { k = k; device = codes "phone"; upput = 900; uptaken = 850; downput = 2400; downtaken = 2310; end = end }

-- the entry of the phone's second message
abbrev greeting : EntryLineView
greeting = record {
  id = codes "0000000000000001";
  stamp = 1500;
  from = codes "alice@chat.example/phone";
  to = codes "bob@chat.example";
  origin = codes "phone.2.1";
  text = codes "hi bob";
}

abbrev alice : AccountView
alice = record { name = codes "alice"; count = 1; last = 3; entries = greeting ∷ [] }

abbrev bob : AccountView
bob = record { name = codes "bob"; count = 0; last = 0; entries = [] }

abbrev phone : DeviceView
phone = record {
  name = codes "phone";
  account = codes "alice";
  epoch = 2;
  settled = false;
  said =
      record { epoch = 1; n = 1; state = Undecided; to = codes "bob"; text = codes "lost?" }
      ∷ record { epoch = 2; n = 1; state = Acknowledged; to = codes "bob"; text = codes "hi bob" }
      ∷ record { epoch = 2; n = 2; state = Waiting; to = codes "alice"; text = codes "note" } ∷ [];
  refused = record { line = 4; why = why.NotBound } ∷ record { line = 17; why = why.OutboxFull } ∷ record { line = 20; why = why.Underway } ∷ [];
  pages =
      record { after = None; count = 1; total = None }
      ∷ record { after = Some (codes "0000000000000001"); count = 0; total = Some 1 } ∷ [];
  underway = record { queryid = codes "q3"; got = 12 } ∷ [];
  logged = record { entry = greeting; broken = false } ∷ record { entry = greeting; broken = true } ∷ [];
  held = record { id = codes "0000000000000002" } ∷ [];
}

abbrev context : DeviceView
context = record {
  name = codes "desk";
  account = codes "bob";
  epoch = 0;
  settled = true;
  said = [];
  refused = [];
  pages = [];
  underway = [];
  logged = [];
  held = [];
}

abbrev every_kind : ReportView
every_kind = record {
  version = Two 7;
  wire = true;
  takes = record { device = codes "phone"; epoch = 2; n = 1; account = codes "bob"; moment = Some 1500 } ∷ [];
  accounts = alice ∷ bob ∷ [];
  conns = conn 1 Cut ∷ conn 2 Left ∷ conn 3 Shut ∷ conn 4 Open ∷ [];
  devices = phone ∷ context ∷ [];
}

a_line_of_each_kind : text_of every_kind ≡ ended (
    codes "xmpp-report 2 wire 7" ∷
    codes "take phone 2 1 bob 1500" ∷
    codes "account alice 1 3" ∷
    codes "entry 0000000000000001 1500 alice@chat.example/phone bob@chat.example phone.2.1 hi bob" ∷
    codes "account bob 0 0" ∷
    codes "conn 1 phone 900 850 2400 2310 cut" ∷
    codes "conn 2 phone 900 850 2400 2310 left" ∷
    codes "conn 3 phone 900 850 2400 2310 shut" ∷
    codes "conn 4 phone 900 850 2400 2310 open" ∷
    codes "device phone alice 2 no" ∷
    codes "said 1 1 undecided bob lost?" ∷
    codes "said 2 1 acknowledged bob hi bob" ∷
    codes "said 2 2 waiting alice note" ∷
    codes "refused 4 NotBound" ∷
    codes "refused 17 OutboxFull" ∷
    codes "refused 20 Underway" ∷
    codes "page - 1 more" ∷
    codes "page 0000000000000001 0 complete 1" ∷
    codes "underway q3 12" ∷
    codes "logged 0000000000000001 1500 alice@chat.example/phone bob@chat.example phone.2.1 hi bob" ∷
    codes "break" ∷
    codes "logged 0000000000000001 1500 alice@chat.example/phone bob@chat.example phone.2.1 hi bob" ∷
    codes "held 0000000000000002" ∷
    codes "device desk bob 0 yes" ∷
    codes "end" ∷ [])
unfolding text_of digits
a_line_of_each_kind = refl

-- version 1 tells neither the moment of a take nor the greatest number that an archive gave
abbrev of_version_one : ReportView
of_version_one = record {
  version = One;
  wire = true;
  takes = record { device = codes "phone"; epoch = 2; n = 1; account = codes "bob"; moment = None } ∷ [];
  accounts = bob ∷ [];
  conns = [];
  devices = [];
}

a_report_of_version_one : text_of of_version_one ≡ ended (codes "xmpp-report 1 wire" ∷ codes "take phone 2 1 bob" ∷ codes "account bob 0" ∷ codes "end" ∷ [])
unfolding text_of digits
a_report_of_version_one = refl
