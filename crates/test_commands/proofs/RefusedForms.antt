-- Wrong reports, each refused by the field that speaks of it: the form of version 2, the lines of a schedule, law 1 of
-- version 2, and laws 2 and 3, which both versions have. Each is right in all other fields.
use Rattle.std.proofs.Common.{◌≡◌, ℕ, true, false, List, [], ◌∷◌, ◌++◌, None, length, get_or, refl, ap, codes, arith, inl, inr}
use Rattle.std.proofs.lemmas.Bool.{false≢true}
use Rattle.std.specs.Fmt.{digits}
use Rattle.mam_archive.specs.Entries.{EntryView}
use Rattle.base_lemmas.specs.Hexadecimal.{hex16_of}
use Rattle.cmd_report.specs.Lawful.{AreOutcomes, FollowsSubmission, IsAcknowledgedRight, IsOfSchedule, IsOnceInOrder, Precedes}
use Rattle.cmd_report.specs.LawfulRuns.{IsInForm, IsTakenAndKept}
use Rattle.cmd_report.specs.Reports.{DeviceView, ReportView}
use Rattle.cmd_report.specs.declared.report.RefusedWhy.TheVariants.{NotBound}
use Rattle.cmd_report.specs.declared.report.SaidLine.{SaidLine}
use Rattle.cmd_report.specs.declared.report.SaidMark.{SaidMark}
use Rattle.cmd_report.specs.declared.report.SaidMark.TheVariants.{Acknowledged, Waiting, Undecided}
use Rattle.cmd_report.specs.declared.report.TakeLine.{TakeLine}
use Rattle.cmd_schedule.specs.Schedules.{ScheduleView}
use Rattle.cmd_schedule.specs.declared.schedule.Step.TheVariants.{Say}
use Rattle.cmd_schedule.specs.declared.schedule.Version.TheVariants.{One, Two}
use Rattle.test_commands.proofs.FirstLines.{stamp_first}
use Rattle.test_commands.proofs.RunReports.{a, account, at, b, entry, hold, kept_by_a, kept_by_b, logged, p, p_right, p_with, q, q_logged, q_pages, q_right, q_with, reported, right, run_lines, run_schedule, s, said, said_by_p, said_by_q, t, take, taken, u, x, z}

-- The parts.

-- what p said, where these became of y, u and t
abbrev saids : SaidMark → SaidMark → SaidMark → List SaidLine
saids of_y of_u of_t =
    said 1 1 Acknowledged b (codes "x") ∷ said 1 2 of_y b (codes "y") ∷ said 2 1 Acknowledged b (codes "z")
    ∷ said 2 2 of_u a (codes "u") ∷ said 2 3 of_t b (codes "t") ∷ []

-- q, to which no message came live
abbrev q_quiet : DeviceView
q_quiet = q_with said_by_q q_pages q_logged []

-- a report in which p is so
abbrev of_p_so : DeviceView → ReportView
of_p_so device = reported taken kept_by_a kept_by_b device q_right

-- The form.

of_version_1 : IsInForm (Two 2) (record right { version = One }) → ⊥
of_version_1 form = absurd (cc form.is)

keeps_another_number : IsInForm (Two 2) (record right { version = Two 3 }) → ⊥
keeps_another_number form = absurd (cc form.is)

-- that of x, which counts as 0
a_moment_not_told :
    IsInForm (Two 2) (reported (record (take p 1 1 b 10) { moment = None } ∷ take q 1 1 a 20 ∷ take p 2 1 b 30 ∷ take p 2 2 a 30 ∷ take q 1 2 a 40 ∷ take p 2 3 b 50 ∷ [])
    kept_by_a kept_by_b p_right (q_with said_by_q q_pages (logged false (record (x 1) { stamp = 0 }) ∷ logged true (z 3) ∷ logged false (s 4) ∷ []) (hold 5 ∷ []))) → ⊥
a_moment_not_told form = false≢true form.moments.0

-- The lines of a schedule.

of_the_other_mode : IsOfSchedule run_schedule (record right { wire = false }) → ⊥
of_the_other_mode whole = false≢true whole.mode

an_account_is_missing : IsOfSchedule run_schedule (record right { accounts = kept_by_a ∷ [] }) → ⊥
an_account_is_missing whole = omega (arith, ap length whole.accounts)

-- q, of which nothing was taken either
a_device_is_missing :
    IsOfSchedule run_schedule (record right {
      takes = take p 1 1 b 10 ∷ take p 2 1 b 30 ∷ take p 2 2 a 30 ∷ take p 2 3 b 50 ∷ [];
      accounts = account a 4 (u 3 ∷ t 4 ∷ []) ∷ account b 3 (z 2 ∷ t 3 ∷ []) ∷ [];
      devices = p_right ∷ [];
    }) → ⊥
a_device_is_missing whole = omega (arith, ap length whole.devices)

a_wrong_count : IsOfSchedule run_schedule (record right { accounts = record kept_by_a { count = 3 } ∷ kept_by_b ∷ [] }) → ⊥
a_wrong_count whole = omega (arith, whole.counts.0)

-- Law 1.

keeps_one_too_many : IsTakenAndKept 2 run_schedule (reported taken kept_by_a (account b 5 (z 3 ∷ s 4 ∷ t 5 ∷ [])) p_right q_right) → ⊥
unfolding digits hex16_of
keeps_one_too_many law = omega (arith, ap length law.archives.1.0.entries)

keeps_an_older_one : IsTakenAndKept 2 run_schedule (reported taken kept_by_a (account b 5 (z 3 ∷ t 5 ∷ [])) p_right q_right) → ⊥
unfolding digits hex16_of
keeps_an_older_one law = omega (arith, ap stamp_first law.archives.1.0.entries)

another_stamp_than_the_moment : IsTakenAndKept 2 run_schedule (reported taken kept_by_a (account b 5 (record (s 4) { stamp = 41 } ∷ t 5 ∷ [])) p_right q_right) → ⊥
unfolding digits hex16_of
another_stamp_than_the_moment law = omega (arith, ap stamp_first law.archives.1.0.entries)

another_last_number : IsTakenAndKept 2 run_schedule (reported taken kept_by_a (account b 2 (s 4 ∷ t 5 ∷ [])) p_right q_right) → ⊥
unfolding digits hex16_of
another_last_number law = omega (arith, law.archives.1.0.last)

-- t, taken before s
abbrev t_early : ℕ → EntryView
t_early n = record (t n) { stamp = 35 }

moments_fall :
    IsTakenAndKept 2 run_schedule (reported (take p 1 1 b 10 ∷ take q 1 1 a 20 ∷ take p 2 1 b 30 ∷ take p 2 2 a 30 ∷ take q 1 2 a 40 ∷ take p 2 3 b 35 ∷ [])
    (account a 6 (s 5 ∷ t_early 6 ∷ [])) (account b 5 (s 4 ∷ t_early 5 ∷ [])) p_right q_right) → ⊥
moments_fall law = omega (arith, law.moments 4 5 0 (omega arith) (omega arith))

-- t was said to b
taken_for_another_account :
    IsTakenAndKept 2 run_schedule (reported (take p 1 1 b 10 ∷ take q 1 1 a 20 ∷ take p 2 1 b 30 ∷ take p 2 2 a 30 ∷ take q 1 2 a 40 ∷ take p 2 3 a 50 ∷ [])
    (account a 6 (s 5 ∷ record (t 6) { to = codes "a@chat.example" } ∷ [])) (account b 4 (z 3 ∷ s 4 ∷ [])) p_right q_quiet) → ⊥
taken_for_another_account law =
    let same : codes "b" ≡ codes "a" = law.submitted.1.1.1.1.1.0 in
    omega (arith, ap (λ (s : List ℕ). get_or s 0 0) same)

-- an entry of q's third message, which it never sent
abbrev unsaid : ℕ → EntryView
unsaid n = entry n 60 (codes "b@chat.example/q") (codes "a@chat.example") (codes "q.1.3") []

taken_and_never_said :
    IsTakenAndKept 2 run_schedule (reported (taken ++ take q 1 3 a 60 ∷ []) (account a 7 (t 6 ∷ unsaid 7 ∷ [])) (account b 6 (t 5 ∷ unsaid 6 ∷ [])) p_right q_right) → ⊥
taken_and_never_said law = law.submitted.1.1.1.1.1.1.0

-- p sends a message to an account that isn't there
abbrev to_nobody : ScheduleView
to_nobody = record run_schedule { lines = run_lines ++ at 18 (Say p (codes "c") (codes "v")) ∷ [] }

abbrev v : ℕ → EntryView
v n = entry n 60 (codes "a@chat.example/p") (codes "c@chat.example") (codes "p.2.4") (codes "v")

taken_for_nobody :
    IsTakenAndKept 2 to_nobody (reported (taken ++ take p 2 4 (codes "c") 60 ∷ []) (account a 7 (t 6 ∷ v 7 ∷ [])) kept_by_b
    (p_with false (said_by_p ++ said 2 4 Waiting (codes "c") (codes "v") ∷ [])) q_right) → ⊥
taken_for_nobody law = false≢true law.exist.1.1.1.1.1.1.0

-- y is p's second message
a_number_left_out :
    IsTakenAndKept 2 run_schedule (of_p_so (p_with false (said 1 1 Acknowledged b (codes "x") ∷ said 1 3 Undecided b (codes "y") ∷ said 2 1 Acknowledged b (codes "z")
    ∷ said 2 2 Acknowledged a (codes "u") ∷ said 2 3 Waiting b (codes "t") ∷ []))) → ⊥
a_number_left_out law = go law.numbered.0.1.0
  where
    go : FollowsSubmission (said 1 1 Acknowledged b (codes "x")) (said 1 3 Undecided b (codes "y")) → ⊥
    go (inl (epoch, n)) = omega (arith, n)
    go (inr (later, n)) = omega (arith, n)

of_an_epoch_to_come : IsTakenAndKept 2 run_schedule (of_p_so (record p_right { epoch = 1 })) → ⊥
of_an_epoch_to_come law = omega (arith, law.epochs.0.1.1.0.1)

-- x, as the first message of an epoch before the first
of_no_epoch :
    IsTakenAndKept 2 run_schedule (reported (take p 0 1 b 10 ∷ take q 1 1 a 20 ∷ take p 2 1 b 30 ∷ take p 2 2 a 30 ∷ take q 1 2 a 40 ∷ take p 2 3 b 50 ∷ [])
    kept_by_a kept_by_b
    (p_with false (said 0 1 Acknowledged b (codes "x") ∷ said 1 1 Undecided b (codes "y") ∷ said 2 1 Acknowledged b (codes "z")
    ∷ said 2 2 Acknowledged a (codes "u") ∷ said 2 3 Waiting b (codes "t") ∷ []))
    (q_with said_by_q q_pages (logged false (record (x 1) { origin = codes "p.0.1" }) ∷ logged true (z 3) ∷ logged false (s 4) ∷ []) (hold 5 ∷ []))) → ⊥
of_no_epoch law = omega (arith, law.epochs.0.0.0)

-- what p said, without y
abbrev without_y : List SaidLine
without_y = said 1 1 Acknowledged b (codes "x") ∷ said 2 1 Acknowledged b (codes "z") ∷ said 2 2 Acknowledged a (codes "u") ∷ said 2 3 Waiting b (codes "t") ∷ []

a_message_that_came_to_nothing : IsTakenAndKept 2 run_schedule (of_p_so (p_with false without_y)) → ⊥
a_message_that_came_to_nothing law = go law.said.0
  where
    go : AreOutcomes p run_lines without_y (record { line = 16; why = NotBound } ∷ []) → ⊥
    go (inl (inl (to, text, inl (other, instead, rest)))) =
        let same : codes "z" ≡ codes "y" = instead in
        omega (arith, ap (λ (s : List ℕ). get_or s 0 0) same)
    go (inl (inl (to, text, inr (line, rest)))) = omega (arith, line)
    go (inl (inr (line, rest))) = omega (arith, line)
    go (inr (line, rest)) = omega (arith, line)

-- Law 2.

taken_out_of_order :
    IsOnceInOrder run_schedule (record right { takes = take p 1 1 b 10 ∷ take q 1 1 a 20 ∷ take p 2 2 a 30 ∷ take p 2 1 b 30 ∷ take q 1 2 a 40 ∷ take p 2 3 b 50 ∷ [] }) → ⊥
taken_out_of_order law = go law.rise.0.1.0.0
  where
    go : Precedes (take p 2 2 a 30) (take p 2 1 b 30) → ⊥
    go (inl less) = omega (arith, less)
    go (inr (same, less)) = omega (arith, less)

taken_twice :
    IsOnceInOrder run_schedule (reported (taken ++ take p 2 3 b 50 ∷ []) (account a 7 (t 6 ∷ t 7 ∷ [])) (account b 6 (t 5 ∷ t 6 ∷ [])) p_right q_right) → ⊥
taken_twice law = go law.rise.0.1.1.1.0.0
  where
    go : Precedes (take p 2 3 b 50) (take p 2 3 b 50) → ⊥
    go (inl less) = omega (arith, less)
    go (inr (same, less)) = omega (arith, less)

-- t was taken, and u before it was not
abbrev without_u : List TakeLine
without_u = take p 1 1 b 10 ∷ take q 1 1 a 20 ∷ take p 2 1 b 30 ∷ take q 1 2 a 40 ∷ take p 2 3 b 50 ∷ []

taken_without_the_one_before :
    IsOnceInOrder run_schedule (reported without_u (account a 5 (s 4 ∷ t 5 ∷ [])) kept_by_b (p_with false (saids Undecided Waiting Waiting)) q_right) → ⊥
taken_without_the_one_before law = false≢true (law.gapless.0.1.1.1.0.0 refl refl refl)

-- Law 3.

-- u
acknowledged_and_not_taken :
    IsAcknowledgedRight run_schedule (reported (take p 1 1 b 10 ∷ take q 1 1 a 20 ∷ take p 2 1 b 30 ∷ take q 1 2 a 40 ∷ [])
    (account a 4 (z 3 ∷ s 4 ∷ [])) (account b 4 (z 3 ∷ s 4 ∷ [])) p_right q_quiet) → ⊥
acknowledged_and_not_taken law = false≢true (law.taken.0.1.1.1.0 refl refl)

acknowledged_after_one_that_waits : IsAcknowledgedRight run_schedule (of_p_so (p_with false (saids Undecided Waiting Acknowledged))) → ⊥
acknowledged_after_one_that_waits law = absurd (cc (law.first.0.1.1.1.0.0 refl refl))

-- one of an epoch before the present one
settled_and_one_waits : IsAcknowledgedRight run_schedule (of_p_so (p_with true (saids Waiting Acknowledged Acknowledged))) → ⊥
settled_and_one_waits law = (law.settled.0 refl).nothing_waits.1.0 refl

settled_and_a_page_under_way : IsAcknowledgedRight run_schedule (record right { devices = p_right ∷ record q_right { settled = true } ∷ [] }) → ⊥
settled_and_a_page_under_way law = absurd (cc (law.settled.1.0 refl).nothing_underway)

settled_with_an_unknown_fate : IsAcknowledgedRight run_schedule (of_p_so (p_with true (saids Undecided Acknowledged Undecided))) → ⊥
settled_with_an_unknown_fate law = absurd (cc ((law.settled.0 refl).present_epoch.1.1.1.1.0 refl))
