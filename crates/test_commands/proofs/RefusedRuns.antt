-- Reports of version 2 that are wrong in one thing, each refused by the field that speaks of it: laws 4 and 5. Each is right
-- in all other fields, but where a comment says that another field speaks of the same.
use Rattle.std.proofs.Common.{◌≡◌, ℕ, ◌^◌, ◌≤◌, ◌<◌, ◌==◌, ◌⊎◌, Bool, true, false, cond, List, [], ◌∷◌, ◌++◌, Some, None, length, get_or, map, refl, sym, ap, ◌∙◌, codes, arith, inl, inr}
use Rattle.std.proofs.lemmas.Bool.{false≢true}
use Rattle.std.proofs.lemmas.Option.{none-some, same_Some}
use Rattle.std.specs.Fmt.{digits}
use Rattle.std.specs.List.{AllByRecursion, find}
use Rattle.mam_archive.proofs.IdDigits.{id_of_same}
use Rattle.mam_archive.specs.Entries.{EntryView, entry_numbered}
use Rattle.mam_archive.specs.Ids.{id_of}
use Rattle.base_lemmas.specs.Hexadecimal.{hex16_of}
use Rattle.mam_log.specs.LogPages.{LogPage}
use Rattle.mam_pages.specs.Kept.{last_number}
use Rattle.cmd_report.specs.EntryLines.{EntryLineView}
use Rattle.cmd_report.specs.Lawful.{last_logged}
use Rattle.cmd_report.specs.LawfulRuns.{AreRuns, IsLastNumber, IsLoggedInRuns, IsPagedInRuns}
use Rattle.cmd_report.specs.Lines.{entry_line}
use Rattle.cmd_report.specs.Reports.{DeviceView, ReportView}
use Rattle.cmd_report.specs.Worlds.{ReportWorld}
use Rattle.cmd_report.specs.declared.report.LoggedLine.{LoggedLine}
use Rattle.cmd_report.specs.declared.report.PageLine.{PageLine}
use Rattle.test_commands.proofs.FirstLines.{first_id, second_id, stamp_first, text_length}
use Rattle.test_commands.proofs.RunReports.{asked, hold, kept_by_a, kept_by_b, logged, of_b, p_page, p_right, q_first, q_logged, q_pages, q_right, q_second, q_third, q_with, reported, run_schedule, s, said_by_q, t, taken, w, world, worlds, x, z}

-- The parts.

-- a report in which q is so
abbrev of_q_so : DeviceView → ReportView
of_q_so device = reported taken kept_by_a kept_by_b p_right device

-- q with these pages and this log
abbrev q_paged : List PageLine → List LoggedLine → DeviceView
q_paged pages log = q_with said_by_q pages log []

-- two pages of one entry, of which the second begins behind a break
abbrev two_pages : List PageLine
two_pages = asked None 1 None ∷ asked None 1 None ∷ []

-- The numbers of the entries that lines are.

found : {A : Type 0} (P : A → Type 0) (test : A → Bool) (xs : List A) → AllByRecursion P xs → (e : A) → find test xs ≡ Some e → P e
found P test [] all e is = absurd (none-some e is)
found P test (x ∷ xs) all e is = go (test x) (λ rest. found P test xs all.1 e rest) is
  where
    go : (hit : Bool) → (find test xs ≡ Some e → P e) → cond hit (Some x) (find test xs) ≡ Some e → P e
    go true others is = rw (← same_Some x e is) all.0
    go false others is = others is

low_in_b : AllByRecursion (λ (e : EntryView). e.number < 2 ^ 64) of_b
low_in_b = (omega arith, (omega arith, (omega arith, (omega arith, (omega arith, tt)))))

-- a line of a known number
number_of : (n : ℕ) → n < 2 ^ 64 → (e : EntryView) → entry_numbered e.number of_b ≡ Some e → id_of n ≡ id_of e.number → n ≡ e.number
number_of n low e each same = id_of_same n e.number low (found (λ (f : EntryView). f.number < 2 ^ 64) (λ f. f.number == e.number) of_b low_in_b e each) same

-- Law 4.

-- entries that are two lines
two_entries : (m n : ℕ) → m < 2 ^ 64 → n < 2 ^ 64 → (k l : EntryLineView) (es : List EntryView) → k.id ≡ id_of m → l.id ≡ id_of n
    → k ∷ l ∷ [] ≡ map entry_line es → AllByRecursion (λ e. entry_numbered e.number of_b ≡ Some e) es → map (λ (e : EntryView). e.number) es ≡ m ∷ n ∷ []
two_entries m n low_m low_n k l [] k_id l_id same each = absurd (omega (arith, ap length same))
two_entries m n low_m low_n k l (e ∷ []) k_id l_id same each = absurd (omega (arith, ap length same))
two_entries m n low_m low_n k l (e ∷ f ∷ g ∷ es) k_id l_id same each = absurd (omega (arith, ap length same))
two_entries m n low_m low_n k l (e ∷ f ∷ []) k_id l_id same each =
    let one : m ≡ e.number = number_of m low_m e each.0 (sym k_id ∙ ap first_id same) in
    let two : n ≡ f.number = number_of n low_n f each.1.0 (sym l_id ∙ ap second_id same) in
    rw (← one, ← two) refl

no_break_told : IsLoggedInRuns 2 run_schedule (of_q_so (q_paged (asked None 2 None ∷ []) (logged false (x 1) ∷ logged false (z 3) ∷ []))) → ⊥
unfolding digits hex16_of
no_break_told law =
    let log = law.runs.1.0 in
    go log.entries (two_entries 1 3 (omega arith) (omega arith) (entry_line (x 1)) (entry_line (z 3)) log.entries refl refl log.lines log.each) log.runs
  where
    go : (es : List EntryView) → map (λ (e : EntryView). e.number) es ≡ 1 ∷ 3 ∷ [] → AreRuns es (logged false (x 1) ∷ logged false (z 3) ∷ []) → ⊥
    go [] numbers runs = runs
    go (e ∷ []) numbers runs = runs.1
    go (e ∷ f ∷ g ∷ es) numbers runs = runs.1.2
    go (e ∷ f ∷ []) numbers runs =
        omega (arith, runs.1.1 refl, ap (λ (ns : List ℕ). get_or ns 0 0) numbers, ap (λ (ns : List ℕ). get_or ns 1 0) numbers)

-- Law 5 refuses it too, since archives only lose their oldest: a page begins with the oldest entry kept.
numbers_fall : IsLoggedInRuns 2 run_schedule (of_q_so (q_paged two_pages (logged false (z 3) ∷ logged true (x 1) ∷ []))) → ⊥
unfolding digits hex16_of
numbers_fall law =
    let log = law.runs.1.0 in
    go log.entries (two_entries 3 1 (omega arith) (omega arith) (entry_line (z 3)) (entry_line (x 1)) log.entries refl refl log.lines log.each) log.runs
  where
    go : (es : List EntryView) → map (λ (e : EntryView). e.number) es ≡ 3 ∷ 1 ∷ [] → AreRuns es (logged false (z 3) ∷ logged true (x 1) ∷ []) → ⊥
    go [] numbers runs = runs
    go (e ∷ []) numbers runs = runs.1
    go (e ∷ f ∷ g ∷ es) numbers runs = runs.1.2
    go (e ∷ f ∷ []) numbers runs =
        omega (arith, runs.1.0, ap (λ (ns : List ℕ). get_or ns 0 0) numbers, ap (λ (ns : List ℕ). get_or ns 1 0) numbers)

-- So does law 5: a break stands before a page behind entries alone.
begins_with_a_break : IsLoggedInRuns 2 run_schedule (of_q_so (q_paged (asked None 1 None ∷ []) (logged true (s 4) ∷ []))) → ⊥
begins_with_a_break law = go law.runs.1.0.entries law.runs.1.0.runs
  where
    go : (es : List EntryView) → AreRuns es (logged true (s 4) ∷ []) → ⊥
    go [] runs = runs
    go (e ∷ es) runs = false≢true (sym runs.0)

-- What is kept and stands before the last one isn't logged. Law 5 refuses it too: a page behind a break begins with the
-- oldest entry kept.
a_kept_one_is_not_logged : IsLoggedInRuns 2 run_schedule (of_q_so (q_paged two_pages (logged false (x 1) ∷ logged true (t 5) ∷ []))) → ⊥
unfolding digits hex16_of
a_kept_one_is_not_logged law =
    let log = law.runs.1.0 in
    let numbers = two_entries 1 5 (omega arith) (omega arith) (entry_line (x 1)) (entry_line (t 5)) log.entries refl refl log.lines log.each in
    false≢true (log.kept.0 (go log.entries numbers))
  where
    go : (es : List EntryView) → map (λ (e : EntryView). e.number) es ≡ 1 ∷ 5 ∷ [] → 4 ≤ last_number es
    go [] numbers = absurd (omega (arith, ap length numbers))
    go (e ∷ []) numbers = absurd (omega (arith, ap length numbers))
    go (e ∷ f ∷ g ∷ es) numbers = absurd (omega (arith, ap length numbers))
    go (e ∷ f ∷ []) numbers = omega (arith, ap (λ (ns : List ℕ). get_or ns 1 0) numbers)

-- an entry that its account's history lacks, or has with another text
another_text : IsLoggedInRuns 2 run_schedule (of_q_so (q_paged (asked None 1 None ∷ []) (record { entry = record (entry_line (x 1)) { text = codes "xx" }; broken = false } ∷ []))) → ⊥
unfolding digits hex16_of
another_text law = go law.runs.1.0.entries law.runs.1.0.lines law.runs.1.0.each
  where
    short : AllByRecursion (λ e. length (entry_line e).text ≡ 1) of_b
    short = (refl, (refl, (refl, (refl, (refl, tt)))))

    go : (es : List EntryView) → record (entry_line (x 1)) { text = codes "xx" } ∷ [] ≡ map entry_line es → AllByRecursion (λ e. entry_numbered e.number of_b ≡ Some e) es → ⊥
    go [] lines each = omega (arith, ap length lines)
    go (e ∷ es) lines each =
        omega (arith, ap text_length lines, found (λ (f : EntryView). length (entry_line f).text ≡ 1) (λ f. f.number == e.number) of_b short e each.0)

held_twice : IsLoggedInRuns 2 run_schedule (of_q_so (q_with said_by_q q_pages q_logged (hold 5 ∷ hold 5 ∷ []))) → ⊥
held_twice law = law.runs.1.0.apart.0.0 refl

held_and_logged : IsLoggedInRuns 2 run_schedule (of_q_so (q_with said_by_q q_pages q_logged (hold 4 ∷ []))) → ⊥
unfolding digits hex16_of
held_and_logged law = false≢true law.runs.1.0.held.0

held_and_never_taken : IsLoggedInRuns 2 run_schedule (of_q_so (q_with said_by_q q_pages q_logged (hold 6 ∷ []))) → ⊥
unfolding digits hex16_of
held_and_never_taken law = false≢true law.runs.1.0.held.0

-- Law 5.

-- a world, by the archive of b, the pages of q and how many it asked for
abbrev moment : List EntryView → List LogPage → ℕ → ReportWorld
moment kept pages many = world [] kept (p_page ∷ []) 1 pages many

-- q asks for its first page, and takes it over, while b's archive keeps these
abbrev once : List EntryView → List EntryView → List ReportWorld
once asking taking = moment asking [] 0 ∷ moment asking [] 1 ∷ moment taking [] 1 ∷ moment taking (q_first ∷ []) 1 ∷ []

-- and its second page
abbrev twice : List EntryView → List EntryView → List EntryView → List EntryView → List ReportWorld
twice asking taking asking_again taking_again =
    once asking taking
    ++ moment asking_again (q_first ∷ []) 1
    ∷ moment asking_again (q_first ∷ []) 2
    ∷ moment taking_again (q_first ∷ []) 2
    ∷ moment taking_again (q_first ∷ q_second ∷ []) 2 ∷ []

abbrev kept_first : List EntryView
kept_first = x 1 ∷ w 2 ∷ []

abbrev kept_next : List EntryView
kept_next = w 2 ∷ z 3 ∷ []

abbrev kept_then : List EntryView
kept_then = z 3 ∷ s 4 ∷ []

abbrev kept_last : List EntryView
kept_last = s 4 ∷ t 5 ∷ []

asked_after_another_id : IsPagedInRuns 2 (once kept_first kept_first) run_schedule (of_q_so (q_paged (asked (Some (id_of 1)) 1 None ∷ []) (logged false (x 1) ∷ []))) → ⊥
asked_after_another_id law = go law.pages.1.0.tiles.0
  where
    go : (Some (id_of 1) ≡ None) ⊎ (Some (id_of 1) ≡ last_logged []) → ⊥
    go (inl none) = none-some (id_of 1) (sym none)
    go (inr none) = none-some (id_of 1) (sym none)

more_counted_than_logged : IsPagedInRuns 2 (once kept_first kept_first) run_schedule (of_q_so (q_paged (asked None 2 None ∷ []) (logged false (x 1) ∷ []))) → ⊥
more_counted_than_logged law = omega (arith, law.pages.1.0.tiles.1)

an_empty_page_that_is_not_complete : IsPagedInRuns 2 (once kept_first kept_first) run_schedule (of_q_so (q_paged (asked None 0 None ∷ []) [])) → ⊥
an_empty_page_that_is_not_complete law = omega (arith, law.pages.1.0.tiles.2 refl)

-- the archive kept x alone
an_empty_page_without_an_id_after_entries :
    IsPagedInRuns 2 (twice (x 1 ∷ []) (x 1 ∷ []) (x 1 ∷ []) (x 1 ∷ [])) run_schedule (of_q_so (q_paged (asked None 1 None ∷ asked None 0 (Some 1) ∷ []) (logged false (x 1) ∷ []))) → ⊥
an_empty_page_without_an_id_after_entries law = omega (arith, law.pages.1.0.tiles.5.3 refl)

-- x was purged, and w follows it
a_break_not_told : IsPagedInRuns 2 (twice kept_first kept_first kept_next kept_next) run_schedule (of_q_so (q_paged two_pages (logged false (x 1) ∷ logged false (w 2) ∷ []))) → ⊥
a_break_not_told law = false≢true law.pages.1.0.tiles.5.4.0

a_break_within_a_page : IsPagedInRuns 2 (once kept_first kept_then) run_schedule (of_q_so (q_paged (asked None 2 None ∷ []) (logged false (x 1) ∷ logged true (z 3) ∷ []))) → ⊥
a_break_within_a_page law = false≢true (sym law.pages.1.0.tiles.4.1.0)

a_break_after_the_last_id :
    IsPagedInRuns 2 (twice kept_first kept_first kept_first kept_then) run_schedule (of_q_so (q_paged (asked None 1 None ∷ asked (Some (id_of 1)) 1 None ∷ []) (logged false (x 1) ∷ logged true (z 3) ∷ []))) → ⊥
a_break_after_the_last_id law = false≢true (sym law.pages.1.0.tiles.5.4.0)

logged_and_in_no_page : IsPagedInRuns 2 (once kept_first kept_first) run_schedule (of_q_so (q_paged (asked None 1 None ∷ []) (logged false (x 1) ∷ logged false (w 2) ∷ []))) → ⊥
logged_and_in_no_page law = omega (arith, ap length law.pages.1.0.tiles.5)

-- Law 4 refuses it too: the numbers of a log rise.
logged_twice :
    IsPagedInRuns 2 (twice kept_first kept_first kept_first kept_first) run_schedule (of_q_so (q_paged (asked None 1 None ∷ asked (Some (id_of 1)) 1 None ∷ []) (logged false (x 1) ∷ logged false (x 1) ∷ []))) → ⊥
logged_twice law = law.pages.1.0.distinct.0.0 refl

-- a last number that is 4
ends_at : (log : List LoggedLine) (last : ℕ) → last_logged log ≡ Some (id_of 4) → IsLastNumber (last_logged log) last → 4 ≡ last
ends_at log last at_end is = go (rw at_end at is)
  where
    go : IsLastNumber (Some (id_of 4)) last → 4 ≡ last
    go is = id_of_same 4 last (omega arith) (omega (arith, is.1)) is.2

a_total_above_what_is_kept : IsPagedInRuns 2 worlds run_schedule (of_q_so (q_paged (asked None 1 None ∷ asked None 1 None ∷ asked (Some (id_of 3)) 1 (Some 3) ∷ []) q_logged)) → ⊥
a_total_above_what_is_kept law = let whole = law.pages.1.0.complete 2 3 (asked (Some (id_of 3)) 1 (Some 3)) refl refl in omega (arith, whole.many)

a_total_below_what_is_kept : IsPagedInRuns 2 worlds run_schedule (of_q_so (q_paged (asked None 1 None ∷ asked None 1 None ∷ asked (Some (id_of 3)) 1 (Some 1) ∷ []) q_logged)) → ⊥
a_total_below_what_is_kept law =
    let whole = law.pages.1.0.complete 2 1 (asked (Some (id_of 3)) 1 (Some 1)) refl refl in
    omega (arith, whole.many, ends_at q_logged whole.last refl whole.number)

-- z and s were kept when the second page was asked for, and it brought s alone of them
complete_and_one_is_missing :
    IsPagedInRuns 2 (twice kept_first kept_first kept_then kept_last) run_schedule (of_q_so (q_paged (asked None 1 None ∷ asked None 1 (Some 2) ∷ []) (logged false (x 1) ∷ logged true (s 4) ∷ []))) → ⊥
unfolding digits hex16_of
complete_and_one_is_missing law =
    let whole = law.pages.1.0.complete 1 2 (asked None 1 (Some 2)) refl refl in
    let last = ends_at (logged false (x 1) ∷ logged true (s 4) ∷ []) whole.last refl whole.number in
    omega (arith, ap stamp_first (rw (← last) at whole.entries))

-- z was taken before the second page, which is empty, was asked for
older_than_when_asked :
    IsPagedInRuns 2 (twice kept_first kept_first kept_next kept_next) run_schedule (of_q_so (q_paged (asked None 2 None ∷ asked (Some (id_of 2)) 0 (Some 2) ∷ []) (logged false (x 1) ∷ logged false (w 2) ∷ []))) → ⊥
older_than_when_asked law =
    let second = asked (Some (id_of 2)) 0 (Some 2) in
    let fresh = law.pages.1.0.fresh 1 2 2 second refl refl (omega arith, omega arith, refl) 4 6 _ _ _ _ refl refl (omega arith, omega arith) refl refl (omega arith, omega arith) in
    omega (arith, fresh.0)

-- s was taken after the third page had been taken over
abbrev worlds_after : List ReportWorld
worlds_after =
    moment kept_next (q_first ∷ q_second ∷ []) 2
    ∷ moment kept_next (q_first ∷ q_second ∷ []) 3
    ∷ moment kept_next (q_first ∷ q_second ∷ q_third ∷ []) 3
    ∷ moment kept_then (q_first ∷ q_second ∷ q_third ∷ []) 3 ∷ []

-- The field `known` refuses it too, which says the same of every page, complete or not.
newer_than_when_taken_over : IsPagedInRuns 2 worlds_after run_schedule (of_q_so q_right) → ⊥
newer_than_when_taken_over law =
    let third = asked (Some (id_of 3)) 1 (Some 2) in
    let fresh = law.pages.1.0.fresh 2 2 4 third refl refl (omega arith, omega arith, refl) 0 1 _ _ _ _ refl refl (omega arith, omega arith) refl refl (omega arith, omega arith) in
    omega (arith, fresh.1)

-- z, the last of the first page, was kept when the second one had been taken over, which begins behind a break. Law 4 refuses
-- it too: the numbers of a log rise.
a_break_and_nothing_purged :
    IsPagedInRuns 2 (twice kept_first kept_next kept_next kept_next) run_schedule (of_q_so (q_paged (asked None 2 None ∷ asked None 1 None ∷ []) (logged false (x 1) ∷ logged false (z 3) ∷ logged true (w 2) ∷ []))) → ⊥
a_break_and_nothing_purged law =
    let purged = law.pages.1.0.purged 1 3 (asked None 1 None) refl refl (omega arith) (omega arith) (omega arith, omega arith, refl) 6 _ _ refl refl (omega arith, omega arith) in
    omega (arith, purged)

-- w was kept when the second page, which begins behind it, had been taken over, and was purged before the third
abbrev worlds_skipping : List ReportWorld
worlds_skipping =
    twice kept_first kept_first kept_next kept_next
    ++ moment kept_then (q_first ∷ q_second ∷ []) 2
    ∷ moment kept_then (q_first ∷ q_second ∷ []) 3
    ∷ moment kept_then (q_first ∷ q_second ∷ q_third ∷ []) 3 ∷ []

a_kept_entry_is_skipped : IsPagedInRuns 2 worlds_skipping run_schedule (of_q_so q_right) → ⊥
a_kept_entry_is_skipped law =
    let oldest = law.pages.1.0.oldest 1 3 (asked None 1 None) refl refl (omega arith, omega arith, refl) 4 6 _ _ _ _ refl refl (omega arith, omega arith) refl refl (omega arith, omega arith) in
    omega (arith, oldest.1)

-- z was purged when the second page, which begins with it, was asked for
a_purged_entry_is_brought :
    IsPagedInRuns 2 (twice kept_first kept_first kept_last kept_last) run_schedule (of_q_so (q_paged two_pages (logged false (x 1) ∷ logged true (z 3) ∷ []))) → ⊥
a_purged_entry_is_brought law =
    let oldest = law.pages.1.0.oldest 1 3 (asked None 1 None) refl refl (omega arith, omega arith, refl) 4 6 _ _ _ _ refl refl (omega arith, omega arith) refl refl (omega arith, omega arith) in
    omega (arith, oldest.0)

-- x was purged when the second page was asked for behind it
asked_after_a_purged_id :
    IsPagedInRuns 2 (twice kept_first kept_first kept_next kept_next) run_schedule (of_q_so (q_paged (asked None 1 None ∷ asked (Some (id_of 1)) 1 None ∷ []) (logged false (x 1) ∷ logged false (w 2) ∷ []))) → ⊥
asked_after_a_purged_id law =
    let following = law.pages.1.0.following 1 1 (asked (Some (id_of 1)) 1 None) refl (omega arith) (omega arith, omega arith, refl) 4 _ _ refl refl (omega arith, omega arith) in
    omega (arith, following)

-- x was taken after the first page had been taken over
brought_before_it_was_taken : IsPagedInRuns 2 (once [] []) run_schedule (of_q_so (q_paged (asked None 1 None ∷ []) (logged false (x 1) ∷ []))) → ⊥
brought_before_it_was_taken law =
    let known = law.pages.1.0.known 0 1 (asked None 1 None) refl (omega arith, omega arith, refl) 2 _ _ refl refl (omega arith, omega arith) in
    omega (arith, known)

fewer_pages_in_the_last_world : IsPagedInRuns 2 (twice kept_first kept_first kept_then kept_then) run_schedule (of_q_so q_right) → ⊥
fewer_pages_in_the_last_world law = omega (arith, law.pages.1.0.last)
