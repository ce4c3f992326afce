-- The report of a direct schedule is of the last of its worlds.
use Rattle.std.proofs.Common.{◌≡◌, ◌≢◌, ℕ, zero, suc, ◌+◌, ◌-◌, ◌<◌, ◌≤◌, ◌⊎◌, inl, inr, List, [], ◌∷◌, ◌++◌, length, map, refl, sym, ap, ◌∙◌, subst, arith, append_assoc, append-nil}
use Rattle.std.proofs.lemmas.List.{length-map}
use Rattle.std.specs.List.{AllByRecursion}
use Rattle.base_lemmas.proofs.Lists.{AllByRecursion-weaker}
use Rattle.mam_archive.proofs.Newest.{length-newest}
use Rattle.mam_archive.specs.Entries.{EntryView, newest}
use Rattle.cmd_direct.proofs.LawTakes.{acknowledged}
use Rattle.cmd_direct.specs.Direct.{account_line, device_line, direct_report, pages_of, said_at, take_at, takes_of}
use Rattle.cmd_direct.specs.History.{direct_history, world_after, worlds_from}
use Rattle.cmd_report.specs.LawfulRuns.{KeepsLaws}
use Rattle.cmd_report.specs.Lines.{page_line}
use Rattle.cmd_report.specs.Reports.{AccountView}
use Rattle.cmd_report.specs.Takes.{archive_of}
use Rattle.cmd_report.specs.Worlds.{ReportWorld}
use Rattle.cmd_report.specs.declared.report.SaidMark.{SaidMark}
use Rattle.cmd_report.specs.declared.report.SaidMark.TheVariants.{Acknowledged, Undecided, Waiting}
use Rattle.cmd_schedule.proofs.Lists.{all_map, all_of}
use Rattle.cmd_schedule.proofs.Prefixes.{along-append}
use Rattle.cmd_schedule.specs.Contents.{accounts_of, along, devices_of}
use Rattle.cmd_schedule.specs.Schedules.{ScheduleView, keep_of, steps_of}
use Rattle.cmd_schedule.specs.declared.schedule.Step.{Step}
use Rattle.law_commands.proofs.HistoriesGrow.{Extends, archive_grows, front_few, front_is, fronts_of, newest_none}
use Rattle.law_commands.specs.OfWorlds.{AreAskedFirst, AreFronts, AreKeptOf, AreMarksRight, ArePagesAsked, IsArchiveOf, IsFirst, IsLast, IsOfWorlds}
use Rattle.law_commands.proofs.Marks.{clash as waits_not}
use Rattle.law_commands.proofs.Worlds.{either}

unmap : {A B : Type 0} (P : B → Type 0) (f : A → B) (xs : List A) → AllByRecursion P (map f xs) → AllByRecursion (λ x. P (f x)) xs
unmap P f [] all = tt
unmap P f (x ∷ xs) all = (all.0, unmap P f xs all.1)

-- what keeps as many entries as there are keeps all
all_kept : (keep : ℕ) (history : List EntryView) → length history ≡ length (newest keep history) → length history ≤ keep
all_kept keep history same =
    elim (either keep (length history)) [
      | inl low ↦ low
      | inr high ↦ (let few = length-newest keep history (omega (arith, high)) in omega (arith, same, few))
    ]

module _ (keep : ℕ) (all : List Step) where
  all_from : (P : ReportWorld → Type 0) → ((before : List Step) → P (world_after keep all before)) → (before steps : List Step) → AllByRecursion P (worlds_from keep all before steps)
  all_from P each before [] = (each before, tt)
  all_from P each before (step ∷ steps) = (each before, all_from P each (before ++ step ∷ []) steps)

  first_from : (P : ReportWorld → Type 0) (before steps : List Step) → P (world_after keep all before) → IsFirst P (worlds_from keep all before steps)
  first_from P before [] is = is
  first_from P before (step ∷ steps) is = is

  last_from : (P : ReportWorld → Type 0) (before steps : List Step) → P (world_after keep all (before ++ steps)) → IsLast P (worlds_from keep all before steps)
  last_from P before [] is = subst (λ b. P (world_after keep all b)) (append-nil before) is
  last_from P before (step ∷ []) is = is
  last_from P before (step ∷ next ∷ steps) is =
      last_from P (before ++ step ∷ []) (next ∷ steps) (subst (λ b. P (world_after keep all b)) (sym (append_assoc before (step ∷ []) (next ∷ steps))) is)

  -- ---- pages

  pages_asked : (name : List ℕ) → ArePagesAsked (worlds_from keep all [] all) (device_line keep all name)
  pages_asked name =
      let pages = λ (before : List Step). pages_of keep all name before in
      let size = length-map (pages all) page_line in
      record {
        begins = first_from (λ w. w.asked name ≡ 0) [] all refl;
        each = all_from (AreAskedFirst (device_line keep all name)) (λ before. record { asked = omega arith; one = omega arith }) [] all;
        ends = last_from (λ w. (length (w.pages name) ≡ length (map page_line (pages all))) × (w.asked name ≡ length (map page_line (pages all)) + 0)) [] all (sym size, (omega (arith, size)));
        one = omega arith;
      }

  -- ---- archives

  history_after : List ℕ → List Step → List EntryView
  history_after name before = archive_of name (takes_of all before)

  grows : (name : List ℕ) (before steps : List Step) → Extends (archive_of name (takes_of all before)) (archive_of name (takes_of all (before ++ steps)))
  grows name before steps =
      let more = archive_grows name (takes_of all before) (along (take_at all) before steps) in
      (more.0, ap (archive_of name) (along-append (take_at all) [] before steps) ∙ more.1)

  kept_from : (name : List ℕ) (before steps : List Step) (least : ℕ) → before ++ steps ≡ all → least ≤ length (archive_of name (takes_of all before))
      → AreKeptOf keep name (archive_of name (takes_of all all)) least (worlds_from keep all before steps)
  kept_from name before [] least are low =
      let more = subst (λ b. Extends (archive_of name (takes_of all before)) (archive_of name (takes_of all b))) are (grows name before []) in (
        length (archive_of name (takes_of all before)),
        low,
        ap (newest keep) (sym (front_is (archive_of name (takes_of all before)) (archive_of name (takes_of all all)) more)),
        front_few (archive_of name (takes_of all before)) (archive_of name (takes_of all all)) more,
      )
  kept_from name before (step ∷ steps) least are low =
      let more = subst (λ b. Extends (archive_of name (takes_of all before)) (archive_of name (takes_of all b))) are (grows name before (step ∷ steps)) in (
        length (archive_of name (takes_of all before)),
        low,
        ap (newest keep) (sym (front_is (archive_of name (takes_of all before)) (archive_of name (takes_of all all)) more)),
        kept_from name (before ++ step ∷ []) steps (length (archive_of name (takes_of all before))) (append_assoc before (step ∷ []) steps ∙ are)
            (front_few (archive_of name (takes_of all before)) (archive_of name (takes_of all (before ++ step ∷ []))) (grows name before (step ∷ []))),
      )

  archive_is : (name : List ℕ) → IsArchiveOf keep (worlds_from keep all [] all) (account_line keep all name)
  archive_is name = record {
    history = archive_of name (takes_of all all);
    begins = first_from (λ w. w.archive name ≡ []) [] all (newest_none keep);
    each = kept_from name [] all 0 refl (omega arith);
    ends = last_from (λ w. w.archive name ≡ newest keep (archive_of name (takes_of all all))) [] all refl;
    entries = refl;
    last = refl;
  }

  -- ---- marks

  marks : (name : List ℕ) → AreMarksRight (device_line keep all name)
  marks name =
      let known = acknowledged name [] all in
      let said = along (said_at name) [] all in
      record {
        present = AllByRecursion-weaker (λ l. l.state ≡ Acknowledged) (λ l. l.state ≡ Waiting → l.epoch ≡ 1) (λ l is waits. absurd (waits_not l.state is waits)) said known;
        one_kind = AllByRecursion-weaker (λ l. l.state ≡ Acknowledged) (λ a. AllByRecursion (λ b. a.state ≡ Waiting → b.epoch ≡ 1 → b.state ≢ Undecided) said)
            (λ a is. all_of (λ b. a.state ≡ Waiting → b.epoch ≡ 1 → b.state ≢ Undecided) (λ b waits. absurd (waits_not a.state is waits)) said) said known;
      }

pub direct_of_worlds : (s : ScheduleView) → KeepsLaws (direct_history s) s (direct_report s) → IsOfWorlds (direct_history s) s (direct_report s)
unfolding direct_report
direct_of_worlds s kept =
    let keep = keep_of s.version in
    let all = steps_of s.lines in
    record {
      pages = all_map (ArePagesAsked (worlds_from keep all [] all)) (device_line keep all) (devices_of all) (all_of (λ name. ArePagesAsked (worlds_from keep all [] all) (device_line keep all name)) (pages_asked keep all) (devices_of all));
      archives = all_map (IsArchiveOf keep (worlds_from keep all [] all)) (account_line keep all) (accounts_of all) (all_of (λ name. IsArchiveOf keep (worlds_from keep all [] all) (account_line keep all name)) (archive_is keep all) (accounts_of all));
      fronts = λ none.
          all_map (λ a. AreFronts a.name (worlds_from keep all [] all)) (account_line keep all) (accounts_of all)
          (AllByRecursion-weaker (λ name. length (archive_of name (takes_of all all)) ≡ length (newest keep (archive_of name (takes_of all all)))) (λ name. AreFronts name (worlds_from keep all [] all))
          (λ name same. fronts_of keep name (archive_of name (takes_of all all)) 0 (worlds_from keep all [] all) (all_kept keep (archive_of name (takes_of all all)) same) (kept_from keep all name [] all 0 refl (omega arith)))
          (accounts_of all)
          (unmap (λ (a : AccountView). a.last ≡ a.count) (account_line keep all) (accounts_of all) (kept.form.lasts none)));
      marks = all_map AreMarksRight (device_line keep all) (devices_of all) (all_of (λ name. AreMarksRight (device_line keep all name)) (marks keep all) (devices_of all));
    }
