-- What the definition of a run leaves open of its report, of the report of a schedule that goes beside a run: it has 64 bits.
use Rattle.std.proofs.Common.{leb, ◌≡◌, ℕ, ◌+◌, ◌-◌, ◌<◌, ◌≤◌, ◌^◌, Bool, true, false, cond, List, [], ◌∷◌, Option, Some, None, length, map, refl, sym, ap, subst, arith, inl, inr}
use Rattle.std.proofs.Math.Nat.{min-le_left}
use Rattle.std.proofs.lemmas.Bool.{cases_Bool}
use Rattle.std.proofs.lemmas.List.{length-append, length-map}
use Rattle.std.specs.Fmt.{decimal}
use Rattle.std.specs.List.{AllByRecursion, slice_get}
use Rattle.sim_7_schedules.proofs.LineMoments.{line_moment}
use Rattle.law_reports.proofs.Fields.{decimal_visible, marked, visible_field}
use Rattle.law_reports.specs.Numbers.{HasNumbers}
use Rattle.cmd_report.specs.Reports.{DeviceView}
use Rattle.cmd_report_reader.specs.Readable.{IsNumber, IsUnderway}
use Rattle.sim_7_schedules.specs.ShownWorlds.{shown_of}
use Rattle.cmd_schedule.specs.Contents.{accounts_of}
use Rattle.cmd_schedule.specs.Schedules.{WireView, keep_of}
use Rattle.cmd_schedule.specs.LineLists.{IsLineList, ticked_in}
use Rattle.cmd_schedule.specs.declared.schedule.WireLine.{WireLine}
use Rattle.sim_7_schedules.specs.Simulation.{ScheduleSimulates}
use Rattle.sim_1_applications.proofs.Intervals.{length_after}
use Rattle.sim_1_applications.specs.Answers.{edge, following, is_position, last_in, page_answer_of, page_from, size}
use Rattle.sim_1_applications.specs.Devices as sessions
use Rattle.sim_1_applications.specs.Devices.{Answer, Device, OpenPage, epoch_of}
use Rattle.sim_1_applications.specs.Kept.{IsAt, IsPage, PageKept, request_of}
use Rattle.sim_1_applications.specs.Stanzas.{Request}
use Rattle.sim_1_applications.specs.Stanzas.Down.{Fin, NotFound, Res}
use Rattle.sim_1_applications.proofs.LawsKept.{ground_of}
use Rattle.sim_1_applications.proofs.Owners.{LineAt}
use Rattle.sim_1_applications.proofs.TakenLaws.{each_device}
use Rattle.sim_1_applications.specs.Reported.{history_at, underway_of}
use Rattle.sim_1_applications.specs.Runs.{owned_of, steps_in}
use Rattle.sim_7_schedules.proofs.Composed.{epoch_of_device, last_beside, last_is, run_of}
use Rattle.sim_7_schedules.proofs.ConnLines.{conns_right}
use Rattle.sim_7_schedules.proofs.CountedBytes.{AreCounted, counted_behind}
use Rattle.cmd_world.specs.Histories.{history_of, world_at_start, world_of}
use Rattle.cmd_world.specs.Lines.{all_stepped, stepped}
use Rattle.cmd_world.specs.WorldReports.{report_of}
use Rattle.cmd_world.specs.Worlds.{ByteWorld}
use Rattle.sim_3_images.proofs.BookedMoves.{last_world}

-- ---- pages under way

from_few : (low first last : ℕ) (r : Request) → length (page_from low first last r) ≤ r.max + 1
from_few low first last r =
    let all = following low (size low last r.max) in
    let whole = length-append (map (Res r.number) all) (Fin r.number (leb (last - low) r.max) (last_in all) (last + 1 - first) ∷ []) in
    let mapped = length-map all (Res r.number) in
    let long = length_after low (size low last r.max) in
    let few = min-le_left r.max (last - low) in
    omega arith

answer_few : (first last : ℕ) (r : Request) → length (page_answer_of first last r) ≤ r.max + 1
answer_few first last r = by (is_position first last r.after)
  where
    by : (b : Bool) → length (cond b (page_from (edge first r.after) first last r) (NotFound r.number ∷ [])) ≤ r.max + 1
    by true = from_few (edge first r.after) first last r
    by false = omega arith

results_few : (keep first last : ℕ) (d : Device) (page : OpenPage) (o : Option Answer) → page.max ≤ 100 → IsAt keep first last d page o → length page.results ≤ 101
results_few keep first last d page None most is = let none = ap length is.results in omega arith
results_few keep first last d page (Some a) most is =
    let same = ap length is.answer in
    let both = length-append (map (Res page.number) page.results) a.rest in
    let mapped = length-map page.results (Res page.number) in
    let few = answer_few a.first a.last (request_of page) in
    omega arith

open_right : (keep first last : ℕ) (d : Device) (o : Option OpenPage) → d.reading.asked ≤ 10100001 → IsPage keep first last d o → AllByRecursion IsUnderway (underway_of o)
open_right keep first last d None few is = tt
open_right keep first last d (Some page) few is =
    let number = is.number in
    let results = results_few keep first last d page page.answer is.most is.progress in
    (record { queryid = visible_field (113 ∷ decimal page.number) (marked 113 (decimal page.number) refl (decimal_visible page.number (omega arith))); got = omega arith }, tt)

underway_right : (keep first last : ℕ) (d : Device) → d.reading.asked ≤ 10100001 → PageKept keep first last d → AllByRecursion IsUnderway (underway_of d.reading.page)
underway_right keep first last d few is =
    elim (cases_Bool d.sessions.online) [
      | inl online ↦ open_right keep first last d d.reading.page few (is.page online)
      | inr offline ↦ subst (λ o. AllByRecursion IsUnderway (underway_of o)) (sym (is.offline offline)) tt
    ]

-- ---- the moment

lines_early : (lines : List WireLine) (w : ByteWorld) → w.moment + ticked_in lines ≤ 253402207200000 → (all_stepped lines w).moment ≤ 253402207200000
lines_early [] w low = omega (arith, low)
lines_early (line ∷ lines) w low = let more = line_moment w.names (length w.wires) line.number w line.step in lines_early lines (stepped line w) (omega (arith, low, more))

module _ (s : WireView) (right : IsLineList s) (sr : ScheduleSimulates s) where
  last_early : (world_of s).moment ≤ 253402207200000
  unfolding world_of
  last_early = (let ticked : ticked_in s.lines ≤ 253402207200000 = right.ticked in lines_early s.lines (world_at_start s) (omega (arith, ticked)))

  pub clock_low : (run_of s right sr).last.clock < 2 ^ 64
  clock_low =
      let beside = (last_beside s right sr).1 in
      let clock = beside.runs.simulation.clock in
      let moment = beside.encodes.encoding.moment in
      let early = last_early in
      subst (λ (x : sessions.AppWorld). x.clock < 2 ^ 64) (sym (last_is s right sr)) (omega arith)

  abbrev AtLine : ℕ → DeviceView → Type 0
  AtLine i line = LineAt (keep_of s.version) (history_at (owned_of s) (run_of s right sr).last.takes) (owned_of s) (run_of s right sr).last.devices i line

  there : (i : ℕ) (line : DeviceView) → (at : AtLine i line) → slice_get sr.last.devices i ≡ Some at.d
  there i line at = subst (λ (x : sessions.AppWorld). slice_get x.devices i ≡ Some at.d) (last_is s right sr) at.device

  epoch_low : (i : ℕ) (line : DeviceView) → AtLine i line → IsNumber line.epoch
  epoch_low i line at =
      let beside = (last_beside s right sr).1 in
      let low = epoch_of_device s right beside.says beside.items sr.last beside.runs i at.d (there i line at) in
      let same = at.is.epoch in
      omega arith

  line_underway : (i : ℕ) (line : DeviceView) → AtLine i line → AllByRecursion IsUnderway line.underway
  line_underway i line at =
      let g = ground_of s (map shown_of (history_of s)) (report_of (world_of s)) (run_of s right sr) in
      let asked = (last_beside s right sr).1.runs.in_bounds.asked i at.d (there i line at) in
      subst (AllByRecursion IsUnderway) (sym at.is.underway) (underway_right _ _ _ at.d (omega arith) (g.read.devices i at.d at.device).page)

  counted_first : AreCounted (world_at_start s).wires
  counted_first = tt

  pub numbers : HasNumbers (report_of (world_of s))
  numbers =
      let worlds = map shown_of (history_of s) in
      let run = run_of s right sr in
      let g = ground_of s worlds (report_of (world_of s)) run in
      let end = last_beside s right sr in
      record {
        epochs = each_device (λ d. IsNumber d.epoch) (keep_of s.version) s.version (owned_of s) (accounts_of (steps_in s)) run.last (report_of (world_of s)) g epoch_low;
        underway = each_device (λ d. AllByRecursion IsUnderway d.underway) (keep_of s.version) s.version (owned_of s) (accounts_of (steps_in s)) run.last (report_of (world_of s)) g line_underway;
        conns = conns_right s right (world_of s) sr.last end.0 end.1 (last_world (λ w. AreCounted w.wires) counted_behind s counted_first);
      }
