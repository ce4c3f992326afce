-- Reports of version 1 that are wrong in one thing, each refused by the field that speaks of it: their form, and the five
-- laws. Each is right in all other fields, but where a comment says that another field speaks of the same.
use Rattle.std.proofs.Common.{◌≡◌, ℕ, true, false, List, [], ◌∷◌, ◌++◌, Some, None, length, get_or, refl, sym, ap, codes, arith, inl, inr}
use Rattle.std.proofs.lemmas.Bool.{false≢true}
use Rattle.std.specs.Fmt.{digits}
use Rattle.mam_archive.specs.Ids.{id_of}
use Rattle.base_lemmas.specs.Hexadecimal.{hex16_of}
use Rattle.cmd_report.specs.EntryLines.{EntryLineView}
use Rattle.cmd_report.specs.Lawful.{AreOutcomes, FollowsSubmission, IsAcknowledgedRight, IsLogged, IsOnceInOrder, IsPaged, IsTakenRight, Precedes}
use Rattle.cmd_report.specs.LawfulRuns.{IsInForm}
use Rattle.cmd_report.specs.Reports.{DeviceView, ReportView}
use Rattle.cmd_report.specs.Worlds.{ReportWorld}
use Rattle.cmd_report.specs.declared.report.HeldLine.{HeldLine}
use Rattle.cmd_report.specs.declared.report.LoggedLine.{LoggedLine}
use Rattle.cmd_report.specs.declared.report.PageLine.{PageLine}
use Rattle.cmd_report.specs.declared.report.RefusedWhy.TheVariants.{NotBound}
use Rattle.cmd_report.specs.declared.report.SaidLine.{SaidLine}
use Rattle.cmd_report.specs.declared.report.SaidMark.TheVariants.{Acknowledged, Waiting, Undecided}
use Rattle.cmd_report.specs.declared.report.TakeLine.{TakeLine}
use Rattle.cmd_schedule.specs.Schedules.{ScheduleView}
use Rattle.cmd_schedule.specs.declared.schedule.Step.TheVariants.{Say}
use Rattle.cmd_schedule.specs.declared.schedule.Version.TheVariants.{One}
use Rattle.test_commands.proofs.FirstLines.{stamp_first}
use Rattle.test_commands.proofs.RunReports.{a, b, p, q, asked}
use Rattle.test_commands.proofs.WireReports.{account, archived, first_page, hold, logged, moment, of_p, of_q, one_kept, p_right, p_with, q_right, q_with, reported, right, said, second_page, take, taken, three_kept, two_kept, two_logged, two_pages, u, w, wire_schedule, worlds, worlds_once, x, z}

-- The parts.

-- a report of these takes and archives, in which p said this; q, of which no third message came live, is right
abbrev of_takes : List TakeLine → List EntryLineView → List EntryLineView → List SaidLine → ReportView
of_takes takes in_a in_b saids = reported takes in_a in_b (p_with false saids) (q_with of_q two_pages two_logged [])

-- a report in which q is so
abbrev of_q_so : DeviceView → ReportView
of_q_so device = reported taken archived archived p_right device

abbrev q_holding : List HeldLine → DeviceView
q_holding holds = q_with of_q two_pages two_logged holds

abbrev q_paged : List PageLine → List LoggedLine → DeviceView
q_paged pages log = q_with of_q pages log (hold 3 ∷ [])

-- The form.

a_moment_told : IsInForm One (record right { takes = record (take p 1 1 b) { moment = Some 10 } ∷ take q 1 1 a ∷ take p 2 1 b ∷ [] }) → ⊥
a_moment_told form = false≢true (sym form.moments.0)

a_last_number_told : IsInForm One (record right { accounts = record (account a archived) { last = 4 } ∷ account b archived ∷ [] }) → ⊥
a_last_number_told form = omega (arith, (form.lasts refl).0)

a_break_told : IsInForm One (of_q_so (q_with of_q two_pages (logged (x 1 10) ∷ record (logged (w 2 20)) { broken = true } ∷ []) (hold 3 ∷ []))) → ⊥
a_break_told form = false≢true (sym (form.unbroken refl).1.0.1.0)

-- Law 1.

-- the recipient's archive lacks what the sender's has
recipients_archive_lacks_one : IsTakenRight wire_schedule (of_takes taken archived (x 1 10 ∷ w 2 20 ∷ []) of_p) → ⊥
recipients_archive_lacks_one law = absurd (cc law.archives.1.0)

abbrev fallen : List EntryLineView
fallen = x 1 10 ∷ w 2 20 ∷ z 3 15 ∷ []

stamps_fall : IsTakenRight wire_schedule (reported taken fallen fallen p_right q_right) → ⊥
stamps_fall law = omega (arith, law.stamps.0 1 2 0 (omega arith) (omega arith))

two_stamps_of_one_message : IsTakenRight wire_schedule (reported taken (x 1 11 ∷ w 2 20 ∷ z 3 30 ∷ []) archived p_right q_right) → ⊥
two_stamps_of_one_message law = omega (arith, law.one_stamp.0.1.1.0 refl refl)

-- z was said to b
taken_for_another_account :
    IsTakenRight wire_schedule (of_takes (take p 1 1 b ∷ take q 1 1 a ∷ take p 2 1 a ∷ []) (x 1 10 ∷ w 2 20 ∷ record (z 3 30) { to = codes "a@chat.example" } ∷ []) (x 1 10 ∷ w 2 20 ∷ []) of_p) → ⊥
taken_for_another_account law =
    let same : codes "b" ≡ codes "a" = law.submitted.1.1.0 in
    omega (arith, ap (λ (s : List ℕ). get_or s 0 0) same)

-- an entry of q's second message, which it never sent
abbrev unsaid : List EntryLineView
unsaid = archived ++ record (w 4 40) { origin = codes "q.1.2"; text = [] } ∷ []

taken_and_never_said : IsTakenRight wire_schedule (reported (taken ++ take q 1 2 a ∷ []) unsaid unsaid p_right q_right) → ⊥
taken_and_never_said law = law.submitted.1.1.1.0

-- q sends a message to an account that isn't there
abbrev to_nobody : ScheduleView
to_nobody = record wire_schedule { lines = wire_schedule.lines ++ record { number = 13; step = Say q (codes "c") (codes "v") } ∷ [] }

taken_for_nobody :
    IsTakenRight to_nobody (reported (taken ++ take q 1 2 (codes "c") ∷ []) archived
    (archived ++ record (w 4 40) { to = codes "c@chat.example"; origin = codes "q.1.2"; text = codes "v" } ∷ []) p_right
    (q_with (of_q ++ said 1 2 Acknowledged (codes "c") (codes "v") ∷ []) two_pages two_logged (hold 3 ∷ []))) → ⊥
taken_for_nobody law = false≢true law.exist.1.1.1.0

-- y is p's second message
a_number_left_out :
    IsTakenRight wire_schedule (reported taken archived archived
    (p_with false (said 1 1 Acknowledged b (codes "x") ∷ said 1 3 Undecided b (codes "y") ∷ said 2 1 Acknowledged b (codes "z") ∷ said 2 2 Waiting a (codes "u") ∷ []))
    q_right) → ⊥
a_number_left_out law = go law.numbered.0.1.0
  where
    go : FollowsSubmission (said 1 1 Acknowledged b (codes "x")) (said 1 3 Undecided b (codes "y")) → ⊥
    go (inl (epoch, n)) = omega (arith, n)
    go (inr (later, n)) = omega (arith, n)

of_an_epoch_to_come : IsTakenRight wire_schedule (reported taken archived archived (record p_right { epoch = 1 }) q_right) → ⊥
of_an_epoch_to_come law = omega (arith, law.epochs.0.1.1.0.1)

-- x, as the first message of an epoch before the first
abbrev x_early : ℕ → ℕ → EntryLineView
x_early n stamp = record (x n stamp) { origin = codes "p.0.1" }

abbrev archived_early : List EntryLineView
archived_early = x_early 1 10 ∷ w 2 20 ∷ z 3 30 ∷ []

of_no_epoch :
    IsTakenRight wire_schedule (reported (take p 0 1 b ∷ take q 1 1 a ∷ take p 2 1 b ∷ []) archived_early archived_early
    (p_with false (said 0 1 Acknowledged b (codes "x") ∷ said 1 1 Undecided b (codes "y") ∷ said 2 1 Acknowledged b (codes "z") ∷ said 2 2 Waiting a (codes "u") ∷ []))
    (q_with of_q two_pages (logged (x_early 1 10) ∷ logged (w 2 20) ∷ []) (hold 3 ∷ []))) → ⊥
of_no_epoch law = omega (arith, law.epochs.0.0.0)

-- what p said, without y
abbrev without_y : List SaidLine
without_y = said 1 1 Acknowledged b (codes "x") ∷ said 2 1 Acknowledged b (codes "z") ∷ said 2 2 Waiting a (codes "u") ∷ []

a_message_that_came_to_nothing : IsTakenRight wire_schedule (reported taken archived archived (p_with false without_y) q_right) → ⊥
a_message_that_came_to_nothing law = go law.said.0
  where
    go : AreOutcomes p wire_schedule.lines without_y (record { line = 11; why = NotBound } ∷ []) → ⊥
    go (inl (to, text, inl (other, instead, rest))) =
        let same : codes "z" ≡ codes "y" = instead in
        omega (arith, ap (λ (s : List ℕ). get_or s 0 0) same)
    go (inl (to, text, inr (line, rest))) = omega (arith, line)
    go (inr (line, rest)) = omega (arith, line)

-- Law 2.

taken_twice :
    IsOnceInOrder wire_schedule (reported (taken ++ take p 2 1 b ∷ []) (archived ++ z 4 30 ∷ []) (archived ++ z 4 30 ∷ []) p_right q_right) → ⊥
taken_twice law = go law.rise.0.1.0.0
  where
    go : Precedes (take p 2 1 b) (take p 2 1 b) → ⊥
    go (inl less) = omega (arith, less)
    go (inr (same, less)) = omega (arith, less)

-- u was taken, and z before it was not
taken_without_the_one_before :
    IsOnceInOrder wire_schedule (of_takes (take p 1 1 b ∷ take q 1 1 a ∷ take p 2 2 a ∷ []) (x 1 10 ∷ w 2 20 ∷ u 3 30 ∷ []) (x 1 10 ∷ w 2 20 ∷ [])
    (said 1 1 Acknowledged b (codes "x") ∷ said 1 2 Undecided b (codes "y") ∷ said 2 1 Waiting b (codes "z") ∷ said 2 2 Waiting a (codes "u") ∷ [])) → ⊥
taken_without_the_one_before law = false≢true (law.gapless.0.1.1.0.0 refl refl refl)

-- Law 3.

-- u was taken too
abbrev also_u : List SaidLine → DeviceView → ReportView
also_u saids device = reported (taken ++ take p 2 2 a ∷ []) (archived ++ u 4 40 ∷ []) archived (record device { said = saids }) q_right

acknowledged_and_not_taken :
    IsAcknowledgedRight wire_schedule (reported taken archived archived
    (p_with false (said 1 1 Acknowledged b (codes "x") ∷ said 1 2 Undecided b (codes "y") ∷ said 2 1 Acknowledged b (codes "z") ∷ said 2 2 Acknowledged a (codes "u") ∷ []))
    q_right) → ⊥
acknowledged_and_not_taken law = false≢true (law.taken.0.1.1.1.0 refl refl)

acknowledged_after_one_that_waits :
    IsAcknowledgedRight wire_schedule (also_u (said 1 1 Acknowledged b (codes "x") ∷ said 1 2 Undecided b (codes "y") ∷ said 2 1 Waiting b (codes "z") ∷ said 2 2 Acknowledged a (codes "u") ∷ [])
    p_right) → ⊥
acknowledged_after_one_that_waits law = absurd (cc (law.first.0.1.1.0.0 refl refl))

-- one of an epoch before the present one
settled_and_one_waits :
    IsAcknowledgedRight wire_schedule (also_u (said 1 1 Acknowledged b (codes "x") ∷ said 1 2 Waiting b (codes "y") ∷ said 2 1 Acknowledged b (codes "z") ∷ said 2 2 Acknowledged a (codes "u") ∷ [])
    (record p_right { settled = true })) → ⊥
settled_and_one_waits law = (law.settled.0 refl).nothing_waits.1.0 refl

settled_with_an_unknown_fate :
    IsAcknowledgedRight wire_schedule (also_u (said 1 1 Acknowledged b (codes "x") ∷ said 1 2 Undecided b (codes "y") ∷ said 2 1 Acknowledged b (codes "z") ∷ said 2 2 Undecided a (codes "u") ∷ [])
    (record p_right { settled = true })) → ⊥
settled_with_an_unknown_fate law = absurd (cc ((law.settled.0 refl).present_epoch.1.1.1.0 refl))

-- Law 4.

-- z, which wasn't taken. The field `logged`, an equation, refuses it too
logged_and_not_archived :
    IsLogged wire_schedule (reported (take p 1 1 b ∷ take q 1 1 a ∷ []) (x 1 10 ∷ w 2 20 ∷ []) (x 1 10 ∷ w 2 20 ∷ [])
    (p_with false (said 1 1 Acknowledged b (codes "x") ∷ said 1 2 Undecided b (codes "y") ∷ said 2 1 Waiting b (codes "z") ∷ said 2 2 Waiting a (codes "u") ∷ []))
    (q_with of_q (asked None 1 None ∷ asked (Some (id_of 1)) 2 None ∷ []) (logged (x 1 10) ∷ logged (w 2 20) ∷ logged (z 3 30) ∷ []) [])) → ⊥
logged_and_not_archived law = omega (arith, law.prefix.1.0.short)

logged_out_of_order :
    IsLogged wire_schedule (of_q_so (q_paged (asked None 1 None ∷ asked (Some (id_of 2)) 1 None ∷ []) (logged (w 2 20) ∷ logged (x 1 10) ∷ []))) → ⊥
logged_out_of_order law = omega (arith, ap stamp_first law.prefix.1.0.logged)

held_twice : IsLogged wire_schedule (of_q_so (q_holding (hold 3 ∷ hold 3 ∷ []))) → ⊥
held_twice law = law.prefix.1.0.apart.0.0 refl

held_and_logged : IsLogged wire_schedule (of_q_so (q_holding (hold 2 ∷ []))) → ⊥
unfolding digits hex16_of
held_and_logged law = false≢true law.prefix.1.0.held.0

held_and_never_taken : IsLogged wire_schedule (of_q_so (q_holding (hold 4 ∷ []))) → ⊥
unfolding digits hex16_of
held_and_never_taken law = false≢true law.prefix.1.0.held.0

-- Law 5.

asked_for_from_the_start_again : IsPaged worlds wire_schedule (of_q_so (q_paged (asked None 1 None ∷ asked None 1 None ∷ []) two_logged)) → ⊥
asked_for_from_the_start_again law = absurd (cc law.pages.1.0.tiles.4.0)

more_counted_than_logged : IsPaged worlds wire_schedule (of_q_so (q_paged (asked None 1 None ∷ asked (Some (id_of 1)) 2 None ∷ []) two_logged)) → ⊥
more_counted_than_logged law = omega (arith, law.pages.1.0.tiles.4.1)

an_empty_page_that_is_not_complete : IsPaged worlds_once wire_schedule (of_q_so (q_paged (asked None 0 None ∷ []) [])) → ⊥
an_empty_page_that_is_not_complete law = omega (arith, law.pages.1.0.tiles.2 refl)

-- as many as the archive had, of which the page brought one
a_total_ahead_of_the_log : IsPaged worlds_once wire_schedule (of_q_so (q_paged (asked None 1 (Some 2) ∷ []) (logged (x 1 10) ∷ []))) → ⊥
a_total_ahead_of_the_log law = omega (arith, law.pages.1.0.tiles.3)

logged_and_in_no_page : IsPaged worlds_once wire_schedule (of_q_so (q_paged (asked None 1 None ∷ []) two_logged)) → ⊥
logged_and_in_no_page law = omega (arith, ap length law.pages.1.0.tiles.4)

-- Law 4 refuses it too: a log is a prefix of an archive, and the ids of an archive differ.
logged_twice : IsPaged worlds wire_schedule (of_q_so (q_paged two_pages (logged (x 1 10) ∷ logged (x 1 10) ∷ []))) → ⊥
logged_twice law = law.pages.1.0.distinct.0.0 refl

-- q's second page is complete
abbrev q_complete : DeviceView
q_complete = q_paged (asked None 1 None ∷ asked (Some (id_of 1)) 1 (Some 2) ∷ []) two_logged

-- z was taken before the second page was asked for
abbrev worlds_ahead : List ReportWorld
worlds_ahead = moment three_kept (first_page ∷ []) 1 ∷ moment three_kept (first_page ∷ []) 2 ∷ moment three_kept (first_page ∷ second_page ∷ []) 2 ∷ []

older_than_when_asked : IsPaged worlds_ahead wire_schedule (of_q_so q_complete) → ⊥
older_than_when_asked law =
    let fresh = law.pages.1.0.fresh 1 2 (asked (Some (id_of 1)) 1 (Some 2)) refl refl 0 1 _ _ _ _ refl refl (omega arith, omega arith) refl refl (omega arith, omega arith) in
    omega (arith, fresh.0)

-- w was taken after the second page had been taken over
abbrev worlds_after : List ReportWorld
worlds_after =
    moment one_kept (first_page ∷ []) 1
    ∷ moment one_kept (first_page ∷ []) 2
    ∷ moment one_kept (first_page ∷ second_page ∷ []) 2
    ∷ moment two_kept (first_page ∷ second_page ∷ []) 2 ∷ []

newer_than_when_taken_over : IsPaged worlds_after wire_schedule (of_q_so q_complete) → ⊥
newer_than_when_taken_over law =
    let fresh = law.pages.1.0.fresh 1 2 (asked (Some (id_of 1)) 1 (Some 2)) refl refl 0 1 _ _ _ _ refl refl (omega arith, omega arith) refl refl (omega arith, omega arith) in
    omega (arith, fresh.1)

fewer_pages_in_the_last_world : IsPaged worlds_once wire_schedule right → ⊥
fewer_pages_in_the_last_world law = omega (arith, law.pages.1.0.last)
