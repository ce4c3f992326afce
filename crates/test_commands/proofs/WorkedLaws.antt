-- Reports of a small direct schedule that break a law, each refused by that law.
use Rattle.std.proofs.Common.{◌≡◌, ℕ, true, false, List, [], ◌∷◌, ◌++◌, Option, Some, None, take as first, refl, codes, arith, inl, inr}
use Rattle.std.proofs.lemmas.Bool.{false≢true}
use Rattle.std.specs.Fmt.{digits}
use Rattle.mam_archive.specs.Ids.{id_of}
use Rattle.cmd_direct.specs.Direct.{direct_report}
use Rattle.cmd_report.specs.Worlds.{ReportWorld}
use Rattle.cmd_direct.specs.History.{direct_history, world_after}
use Rattle.cmd_report.specs.Lawful.{IsLawful}
use Rattle.cmd_report.specs.LawfulRuns.{IsLawfulKeeping}
use Rattle.cmd_report.specs.Reports.{DeviceView, ReportView}
use Rattle.cmd_schedule.specs.Schedules.{ScheduleView, steps_of}
use Rattle.cmd_report.specs.EntryLines.{EntryLineView}
use Rattle.cmd_report.specs.declared.report.ConnEnd.TheVariants.{Cut}
use Rattle.cmd_report.specs.declared.report.LoggedLine.{LoggedLine}
use Rattle.cmd_report.specs.declared.report.PageLine.{PageLine}
use Rattle.cmd_report.specs.declared.report.RefusedLine.{RefusedLine}
use Rattle.cmd_report.specs.declared.report.RefusedWhy.TheVariants.{NotBound}
use Rattle.cmd_report.specs.declared.report.SaidLine.{SaidLine}
use Rattle.cmd_report.specs.declared.report.SaidMark.TheVariants.{Acknowledged}
use Rattle.cmd_report.specs.declared.report.TakeLine.{TakeLine}
use Rattle.cmd_schedule.specs.declared.schedule.Step.TheVariants.{Account, Device, Say, Catchup}
use Rattle.cmd_schedule.specs.declared.schedule.TheConstants.{MOST_KEPT}
use Rattle.cmd_schedule.specs.declared.schedule.Version.{Version}
use Rattle.cmd_schedule.specs.declared.schedule.Version.TheVariants.{One, Two}

-- one message to oneself, and a catch-up behind it
abbrev scheduled : Version → ScheduleView
scheduled version = record {
  version = version;
  wire = false;
  lines =
      record { number = 2; step = Account (codes "a") } ∷
      record { number = 3; step = Device (codes "p") (codes "a") } ∷
      record { number = 4; step = Say (codes "p") (codes "a") (codes "hi") } ∷
      record { number = 5; step = Catchup (codes "p") 5 } ∷ [];
}

abbrev schedule : ScheduleView
schedule = scheduled One

abbrev take : Option ℕ → TakeLine
take moment = record { device = codes "p"; epoch = 1; n = 1; account = codes "a"; moment = moment }

abbrev untimed : TakeLine
untimed = take None

abbrev entry : ℕ → EntryLineView
entry n = record { id = id_of n; stamp = 0; from = codes "a@chat.example/p"; to = codes "a@chat.example"; origin = codes "p.1.1"; text = codes "hi" }

abbrev logged : ℕ → LoggedLine
logged n = record { entry = entry n; broken = false }

abbrev said : SaidLine
said = record { epoch = 1; n = 1; state = Acknowledged; to = codes "a"; text = codes "hi" }

abbrev refused : RefusedLine
refused = record { line = 4; why = NotBound }

abbrev page : ℕ → PageLine
page count = record { after = None; count = count; total = Some count }

abbrev device : List SaidLine → List RefusedLine → List PageLine → List LoggedLine → DeviceView
device saids refusals pages log = record {
  name = codes "p";
  account = codes "a";
  epoch = 1;
  settled = true;
  said = saids;
  refused = refusals;
  pages = pages;
  underway = [];
  logged = log;
  held = [];
}

abbrev reported : Version → List TakeLine → ℕ → List EntryLineView → DeviceView → ReportView
reported version takes count entries of_p = record {
  version = version;
  wire = false;
  takes = takes;
  accounts = record { name = codes "a"; count = count; last = count; entries = entries } ∷ [];
  conns = [];
  devices = of_p ∷ [];
}

abbrev p_right : DeviceView
p_right = device (said ∷ []) [] (page 1 ∷ []) (logged 1 ∷ [])

-- a report in which p is so
abbrev of_p_so : DeviceView → ReportView
of_p_so of_p = reported One (untimed ∷ []) 1 (entry 1 ∷ []) of_p

-- the worlds before and after the catch-up
abbrev above : ReportWorld
above = world_after MOST_KEPT (steps_of schedule.lines) (Account (codes "a") ∷ Device (codes "p") (codes "a") ∷ Say (codes "p") (codes "a") (codes "hi") ∷ [])

abbrev below : ReportWorld
below = world_after MOST_KEPT (steps_of schedule.lines) (steps_of schedule.lines)

the_right_report : direct_report schedule ≡ of_p_so p_right
unfolding direct_report digits
the_right_report = refl

-- Over the direct run's history, in which the message was taken once, law 5 refuses most of these too: those that tell of no
-- message or of two, and the log with two entries.

acknowledged_and_lost : IsLawful (direct_history schedule) schedule (reported One [] 0 [] (device (said ∷ []) [] (page 0 ∷ []) [])) → ⊥
acknowledged_and_lost law = false≢true (law.acknowledged.taken.0.0 refl refl)

taken_twice :
    IsLawful (direct_history schedule) schedule (reported One (untimed ∷ untimed ∷ []) 2 (entry 1 ∷ entry 2 ∷ []) (device (said ∷ []) [] (page 2 ∷ []) (logged 1 ∷ logged 2 ∷ []))) → ⊥
taken_twice law = elim (law.in_order.rise.0.0.0) [
  | inl epoch ↦ omega arith
  | inr number ↦ omega (arith, number.1)
]

never_said : IsLawful (direct_history schedule) schedule (reported One [] 0 [] (device [] [] (page 0 ∷ []) [])) → ⊥
never_said law = elim law.taken.said.0 [
  | inl said ↦ said
  | inr refused ↦ refused
]

refused_twice : IsLawful (direct_history schedule) schedule (reported One [] 0 [] (device [] (refused ∷ refused ∷ []) (page 0 ∷ []) [])) → ⊥
refused_twice law = elim law.taken.said.0 [
  | inl said ↦ said
  | inr refused ↦ elim refused.1 [
    | inl rest ↦ cc rest.1
    | inr again ↦ omega (arith, again.0)
  ]
]

archived_and_not_taken : IsLawful (direct_history schedule) schedule (reported One (untimed ∷ []) 2 (entry 1 ∷ entry 2 ∷ []) p_right) → ⊥
archived_and_not_taken law = absurd (cc law.taken.archives.0)

logged_and_not_archived : IsLawful (direct_history schedule) schedule (of_p_so (device (said ∷ []) [] (page 2 ∷ []) (logged 1 ∷ logged 2 ∷ []))) → ⊥
logged_and_not_archived law = omega (arith, law.logged.prefix.0.short)

complete_too_early : IsLawful (direct_history schedule) schedule (of_p_so (device (said ∷ []) [] (page 0 ∷ []) [])) → ⊥
complete_too_early law =
    omega (arith, (law.paged.pages.0.fresh 0 0 (page 0) refl refl 3 3 above below above below refl refl (omega arith, omega arith) refl refl (omega arith, omega arith)).0)

-- What laws 3 and 5 say of a direct run. Each is right in all other fields.

-- no page, over the worlds above the catch-up
never_answered : IsLawful (first 4 (direct_history schedule)) schedule (of_p_so (device (said ∷ []) [] [] [])) → ⊥
never_answered law = omega (arith, law.paged.pages.0.answered refl)

never_answered_of_the_newest :
    IsLawfulKeeping 5 (first 4 (direct_history (scheduled (Two 5)))) (scheduled (Two 5)) (reported (Two 5) (take (Some 0) ∷ []) 1 (entry 1 ∷ []) (device (said ∷ []) [] [] [])) → ⊥
never_answered_of_the_newest law = omega (arith, law.paged.pages.0.answered refl)

connections_of_a_direct_run :
    IsLawful (direct_history schedule) schedule (record (of_p_so p_right) { conns = record { k = 1; device = codes "p"; upput = 900; uptaken = 850; downput = 2400; downtaken = 2310; end = Cut } ∷ [] }) → ⊥
connections_of_a_direct_run law = absurd (cc (law.taken.whole.conns refl))

direct_and_unsettled : IsLawful (direct_history schedule) schedule (of_p_so (record p_right { settled = false })) → ⊥
direct_and_unsettled law = false≢true (law.acknowledged.direct refl).0.settled

direct_in_a_second_epoch : IsLawful (direct_history schedule) schedule (of_p_so (record p_right { epoch = 2 })) → ⊥
direct_in_a_second_epoch law = omega (arith, (law.acknowledged.direct refl).0.epoch)

-- the catch-up, which came to a page nevertheless
direct_and_refused : IsLawful (direct_history schedule) schedule (of_p_so (record p_right { refused = record { line = 5; why = NotBound } ∷ [] })) → ⊥
direct_and_refused law = absurd (cc (law.acknowledged.direct refl).0.nothing_refused)

-- a message behind the catch-up
abbrev later : ScheduleView
later = record schedule { lines = schedule.lines ++ record { number = 6; step = Say (codes "p") (codes "a") (codes "ho") } ∷ [] }

direct_and_held :
    IsLawful (direct_history later) later (reported One (untimed ∷ record untimed { n = 2 } ∷ []) 2 (entry 1 ∷ record (entry 2) { origin = codes "p.1.2"; text = codes "ho" } ∷ [])
    (record p_right { said = said ∷ record said { n = 2; text = codes "ho" } ∷ []; held = record { id = id_of 2 } ∷ [] })) → ⊥
direct_and_held law = absurd (cc (law.acknowledged.direct refl).0.nothing_held)
