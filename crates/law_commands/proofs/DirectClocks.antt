-- The clock of a direct run: each take has the moment that the ticks before its line add up to.
use Rattle.std.proofs.Common.{◌≡◌, ℕ, zero, suc, ◌+◌, ◌-◌, Bool, true, false, cond, ◌&&◌, ◌||◌, List, [], ◌∷◌, ◌++◌, Option, Some, map, drop, length, refl, sym, ap, ◌∙◌, arith, inl, inr}
use Rattle.std.proofs.lemmas.Bool.{cases_Bool}
use Rattle.std.proofs.lemmas.List.{length-map, map-append}
use Rattle.std.proofs.lemmas.List.Elements.{filter-append}
use Rattle.std.specs.List.{AllByRecursion, filter}
use Rattle.std.specs.Str.{bytes_eq}
use Rattle.base_io.specs.Names.{is_among}
use Rattle.mam_archive.specs.Entries.{EntryView, newest}
use Rattle.cmd_direct.specs.Direct.{account_line, direct_report, take_at, taken, takes_of}
use Rattle.cmd_report.specs.EntryLines.{EntryLineView}
use Rattle.cmd_report.specs.LawfulRuns.{tells_moments}
use Rattle.cmd_report.specs.Lines.{entry_line, take_line}
use Rattle.cmd_report.specs.Reports.{AccountView}
use Rattle.cmd_report.specs.Takes.{Take, archive_of, concerns, entry_of, numbered_from}
use Rattle.cmd_report.specs.declared.report.TakeLine.{TakeLine}
use Rattle.cmd_schedule.proofs.Lists.{all_map, all_of}
use Rattle.cmd_schedule.proofs.Moments.{moment_push}
use Rattle.cmd_schedule.specs.Contents.{accounts_of, along, home_of, moment_after}
use Rattle.cmd_schedule.specs.Schedules.{ScheduleView, keep_of, steps_of}
use Rattle.cmd_schedule.specs.declared.schedule.Step.{Step}
use Rattle.cmd_schedule.specs.declared.schedule.Step.TheVariants.{Account, Device, Say, Private, Catchup, Tick}
use Rattle.cmd_schedule.specs.declared.schedule.Version.{Version}
use Rattle.cmd_schedule.specs.declared.schedule.Version.TheVariants.{One, Two}
use Rattle.law_commands.specs.DirectRuns.{KeepsClock, clock_after, has_addressee, is_with, moment_at, moments_along}

-- ---- lists

map-drop : {A B : Type 0} (f : A → B) (n : ℕ) (xs : List A) → map f (drop n xs) ≡ drop n (map f xs)
map-drop f zero xs = refl
map-drop f (suc n) [] = refl
map-drop f (suc n) (x ∷ xs) = map-drop f n xs

map-newest : {A B : Type 0} (f : A → B) (keep : ℕ) (xs : List A) → map f (newest keep xs) ≡ newest keep (map f xs)
map-newest f keep xs = let size = length-map xs f in rw size (map-drop f (length xs - keep) xs)

-- ---- the clock

clock_is : (before : List Step) (step : Step) → moment_after (before ++ step ∷ []) ≡ clock_after (moment_after before) step
clock_is before (Tick ms) = moment_push before (Tick ms)
clock_is before (Account name) = let push = moment_push before (Account name) in omega (arith, push)
clock_is before (Device name account) = let push = moment_push before (Device name account) in omega (arith, push)
clock_is before (Say device to text) = let push = moment_push before (Say device to text) in omega (arith, push)
clock_is before (Private device to text) = let push = moment_push before (Private device to text) in omega (arith, push)
clock_is before (Catchup device most) = let push = moment_push before (Catchup device most) in omega (arith, push)

-- What is seen of takes, where it is of the messages of which something holds, is what is seen along the steps.
module _ (all : List Step) (seen : List Take → List ℕ) (is : List Step → List ℕ → List ℕ → Bool) (none : seen [] ≡ [])
    (joins : (xs ys : List Take) → seen (xs ++ ys) ≡ seen xs ++ seen ys)
    (one : (before : List Step) (device to text : List ℕ) → seen (taken all before device to text) ≡ cond (is before device to) (moment_after before ∷ []) []) where
  seen_at : (before : List Step) (step : Step) → seen (take_at all before step) ≡ moment_at (is before) (moment_after before) step
  seen_at before (Say device to text) = one before device to text
  seen_at before (Private device to text) = one before device to text
  seen_at before (Account name) = none
  seen_at before (Device name account) = none
  seen_at before (Catchup device most) = none
  seen_at before (Tick ms) = none

  pub seen_along : (before steps : List Step) → seen (along (take_at all) before steps) ≡ moments_along is before (moment_after before) steps
  seen_along before [] = none
  seen_along before (step ∷ steps) =
      joins (take_at all before step) (along (take_at all) (before ++ step ∷ []) steps)
      ∙ ap (λ front. front ++ seen (along (take_at all) (before ++ step ∷ []) steps)) (seen_at before step)
      ∙ ap (λ rest. moment_at (is before) (moment_after before) step ++ rest)
      (seen_along (before ++ step ∷ []) steps ∙ ap (λ now. moments_along is (before ++ step ∷ []) now steps) (clock_is before step))

-- ---- takes

abbrev moment_of : Take → ℕ
moment_of t = t.moment

abbrev moments : List Take → List ℕ
moments takes = map moment_of takes

one_take : (all before : List Step) (device to text : List ℕ) → moments (taken all before device to text) ≡ cond (has_addressee all before device to) (moment_after before ∷ []) []
one_take all before device to text =
    elim (cases_Bool (is_among to (accounts_of all))) [
      | inl there ↦ rw there refl
      | inr other ↦ rw other refl
    ]

takes_along : (all : List Step) → moments (takes_of all all) ≡ moments_along (has_addressee all) [] 0 all
takes_along all = seen_along all moments (has_addressee all) refl (map-append moment_of) (one_take all) [] all

told_moments : (version : Version) (takes : List Take) → tells_moments version ≡ true → map (λ (t : TakeLine). t.moment) (map (take_line version) takes) ≡ map Some (moments takes)
told_moments One takes tells = cc tells
told_moments (Two keep) [] tells = refl
told_moments (Two keep) (t ∷ takes) tells = ap (λ rest. Some t.moment ∷ rest) (told_moments (Two keep) takes tells)

-- ---- archives

abbrev moments_with : List ℕ → List Take → List ℕ
moments_with name takes = map moment_of (filter (concerns name) takes)

joined_with : (name : List ℕ) (xs ys : List Take) → moments_with name (xs ++ ys) ≡ moments_with name xs ++ moments_with name ys
joined_with name xs ys = ap (map moment_of) (filter-append (concerns name) xs ys) ∙ map-append moment_of (filter (concerns name) xs) (filter (concerns name) ys)

one_with : (name : List ℕ) (all before : List Step) (device to text : List ℕ) → moments_with name (taken all before device to text) ≡ cond (is_with name all before device to) (moment_after before ∷ []) []
one_with name all before device to text =
    elim (cases_Bool (is_among to (accounts_of all))) [
      | inl there ↦
          rw there
          (elim (cases_Bool (bytes_eq name (home_of before device) || bytes_eq name to)) [
            | inl hit ↦ rw hit refl
            | inr miss ↦ rw miss refl
          ])
      | inr other ↦ rw other refl
    ]

with_along : (name : List ℕ) (all : List Step) → moments_with name (takes_of all all) ≡ moments_along (is_with name all) [] 0 all
with_along name all = seen_along all (moments_with name) (is_with name all) refl (joined_with name) (one_with name all) [] all

abbrev stamp_of : EntryLineView → ℕ
stamp_of e = e.stamp

stamps_are : (n : ℕ) (takes : List Take) → map stamp_of (map entry_line (numbered_from n (map entry_of takes))) ≡ moments takes
stamps_are n [] = refl
stamps_are n (t ∷ takes) = ap (λ rest. t.moment ∷ rest) (stamps_are (n + 1) takes)

archive_stamps : (name : List ℕ) (all : List Step) → map stamp_of (map entry_line (archive_of name (takes_of all all))) ≡ moments_along (is_with name all) [] 0 all
archive_stamps name all = stamps_are 1 (filter (concerns name) (takes_of all all)) ∙ with_along name all

kept_stamps : (keep : ℕ) (all : List Step) (name : List ℕ) → map (λ e. e.stamp) (account_line keep all name).entries ≡ newest keep (moments_along (is_with name all) [] 0 all)
kept_stamps keep all name =
    ap (map stamp_of) (map-newest entry_line keep (archive_of name (takes_of all all)))
    ∙ map-newest stamp_of keep (map entry_line (archive_of name (takes_of all all)))
    ∙ ap (newest keep) (archive_stamps name all)

-- ---- the law

pub clock_kept : (s : ScheduleView) → KeepsClock s (direct_report s)
unfolding direct_report
clock_kept s =
    let keep = keep_of s.version in
    let all = steps_of s.lines in
    record {
      takes = λ tells. told_moments s.version (takes_of all all) tells ∙ ap (map Some) (takes_along all);
      stamps =
          all_map (λ (a : AccountView). map (λ e. e.stamp) a.entries ≡ newest keep (moments_along (is_with a.name all) [] 0 all)) (account_line keep all) (accounts_of all)
          (all_of (λ name. map (λ e. e.stamp) (account_line keep all name).entries ≡ newest keep (moments_along (is_with name all) [] 0 all)) (kept_stamps keep all) (accounts_of all));
    }
