-- What the reading of a device has is given, and its page is short.
use Rattle.std.proofs.Common.{◌≡◌, ◌≢◌, ℕ, ◌<◌, ◌≤◌, ◌^◌, Bool, true, false, List, [], ◌∷◌, ◌++◌, Option, Some, None, length, map, refl, sym, subst, arith}
use Rattle.std.specs.List.{slice_get}
use Rattle.std.specs.Option.{IfSome}
use Rattle.mam_archive.specs.Entries.{EntryView}
use Rattle.sim_3_items.specs.Meant.{Fits}
use Rattle.sim_5_devices.specs.Shown.{AreGiven, ArePageGiven, IsReadingGiven}
use Rattle.sim_5_devices.proofs.Numbers.{AreWithin, IsWithin, after_within, are_given, log_within}
use Rattle.cmd_schedule.specs.Contents.{Owned}
use Rattle.sim_1_applications.proofs.Answered.{AResult, AnEnd, Kind, NoPlace, kind_of, numbers_of}
use Rattle.sim_1_applications.proofs.Lists.{all_front, all_weaker}
use Rattle.sim_1_applications.specs.Answers.{edge, page_answer_of, size}
use Rattle.sim_1_applications.specs.Devices.{Answer, AppWorld, Device, OpenPage, first_of, last_of}
use Rattle.sim_1_applications.specs.Kept.{DeviceRead, IsAt, IsPage, PageKept, Read, request_of}
use Rattle.sim_1_applications.specs.Stanzas.{Down, Res}
use Rattle.sim_1_applications.proofs.Rendered.{history_few, history_follows, history_long}
use Rattle.sim_1_applications.specs.Reported.{history_at}

-- ---- the open page

nothing_within : (last : ℕ) (ns : List ℕ) → ns ≡ [] → AreWithin last ns
nothing_within last ns none = subst (AreWithin last) (sym none) tt

numbers_within : (last : ℕ) (a : Answer) (page : OpenPage) → a.last ≤ last → AreWithin last (numbers_of a page)
numbers_within last a page below =
    let low = edge a.first page.after in after_within last low (size low a.last page.max) (omega (arith, below))

results_by : (last : ℕ) (a : Answer) (page : OpenPage) (z : Down) (tail : List Down) → a.last ≤ last → Kind page a z tail → AreWithin last page.results
results_by last a page z tail below (AResult n more is numbers rest) = all_front (IsWithin last) page.results (n ∷ more) (subst (AreWithin last) numbers (numbers_within last a page below))
results_by last a page z tail below (AnEnd placed is results over) = subst (AreWithin last) (sym results) (numbers_within last a page below)
results_by last a page z tail below (NoPlace lost is results over) = nothing_within last page.results results

answered_within : (last : ℕ) (a : Answer) (page : OpenPage) (rest : List Down) → a.last ≤ last → map (Res page.number) page.results ++ rest ≡ page_answer_of a.first a.last (request_of page) → rest ≢ []
    → AreWithin last page.results
answered_within last a page [] below is some = absurd (some refl)
answered_within last a page (z ∷ tail) below is some = results_by last a page z tail below (kind_of page a z tail is)

module _ (keep first last : ℕ) (d : Device) where
  progress_within : (page : OpenPage) (o : Option Answer) → IsAt keep first last d page o → AreWithin last page.results
  progress_within page None at = nothing_within last page.results at.results
  progress_within page (Some a) at = answered_within last a page a.rest at.last_rises at.answer at.some

  page_within : (o : Option OpenPage) → IsPage keep first last d o → IfSome o (λ page. AreWithin last page.results × Fits page.max)
  page_within None known = tt
  page_within (Some page) known = (let most = known.most in (progress_within page page.answer known.progress, omega (arith, most)))

  -- where the client is offline no page is open
  pub page_known : PageKept keep first last d → IfSome d.reading.page (λ page. AreWithin last page.results × Fits page.max)
  page_known kept = by d.sessions.online refl
    where
      by : (online : Bool) → d.sessions.online ≡ online → IfSome d.reading.page (λ page. AreWithin last page.results × Fits page.max)
      by true on = page_within d.reading.page (kept.page on)
      by false off = subst (λ o. IfSome o (λ page. AreWithin last page.results × Fits page.max)) (sym (kept.offline off)) tt

page_given : (history : List EntryView) (last : ℕ) (o : Option OpenPage) → ((ns : List ℕ) → AreWithin last ns → AreGiven history ns) → IfSome o (λ page. AreWithin last page.results × Fits page.max) → ArePageGiven history o
page_given history last None given known = tt
page_given history last (Some page) given known = given page.results known.0

page_fits : (last : ℕ) (o : Option OpenPage) → IfSome o (λ page. AreWithin last page.results × Fits page.max) → IfSome o (λ page. Fits page.max)
page_fits last None known = tt
page_fits last (Some page) known = known.1

-- ---- the reading

module _ (w : AppWorld) (read : Read w) (i : ℕ) (d : Device) (there : slice_get w.devices i ≡ Some d) where
  abbrev last : ℕ
  last = last_of w.takes d.account

  known : DeviceRead w.keep (first_of w.keep last) last d
  known = read.devices i d there

  pub reading_given : (owned : List Owned) → length w.takes < 2 ^ 64 → IsReadingGiven (history_at owned w.takes d.account) d.reading
  reading_given owned few =
      let history = history_at owned w.takes d.account in
      let long = history_long owned w.takes d.account in
      let fewer = history_few owned w.takes d.account in
      let small : last < 2 ^ 64 = omega (arith, few, long, fewer) in
      let given = are_given history (history_follows owned w.takes d.account) last long small in record {
        logged = given _ (log_within (first_of w.keep last) last d.reading.broken d.reading.run known.log.runs);
        page = page_given history last d.reading.page given (page_known w.keep (first_of w.keep last) last d known.page);
        held = all_weaker _ (λ n. n < 2 ^ 64) d.reading.held (λ h is. let most = is.2 in omega (arith, most, small)) known.log.held;
      }

  pub page_short : IfSome d.reading.page (λ page. Fits page.max)
  page_short = page_fits last d.reading.page (page_known w.keep (first_of w.keep last) last d known.page)
