-- The lines of a log that shows a reading are those of the reading.
use Rattle.std.proofs.Common.{◌≡◌, ℕ, ◌-◌, List, [], ◌∷◌, ◌++◌, Option, Some, None, length, map, drop, take, refl, sym, ap, ap₂, subst, ◌∙◌}
use Rattle.std.proofs.Math.Seq.{drop-append_seam, take-append_seam}
use Rattle.std.specs.Option.{option_map}
use Rattle.mam_archive.specs.Entries.{EntryView}
use Rattle.mam_archive.specs.Ids.{id_of}
use Rattle.cmd_network.specs.DeviceLines as devices
use Rattle.cmd_network.specs.DeviceLines.{underway_lines}
use Rattle.mam_log.specs.LogPages as pages
use Rattle.mam_log.specs.LogPages.{LogPage, tile_of}
use Rattle.mam_log.specs.Views.{LogView}
use Rattle.sim_5_devices.proofs.Entries.{at_both, length_at, logged_at}
use Rattle.sim_5_devices.specs.Shown.{AreGiven, ArePageGiven, IsReadingGiven, LogRepresents, id_logged, page_shown, tile_shown}
use Rattle.cmd_report.proofs.LoggedLines.{logged_by-pages}
use Rattle.cmd_report.specs.Lines.{logged_by, logged_from, page_line, tile_line}
use Rattle.cmd_report.specs.declared.report.HeldLine.{HeldLine}
use Rattle.cmd_schedule.proofs.Lists.{map-map}
use Rattle.sim_1_applications.proofs.Intervals.{length_after}
use Rattle.sim_1_applications.proofs.Lists.{all_front, all_rest}
use Rattle.sim_1_applications.specs.Answers.{following}
use Rattle.sim_1_applications.specs.Devices.{OpenPage, Reading, Tile, log_of}
use Rattle.sim_1_applications.specs.Kept.{AreTiles, TilesKept, end_of, numbers_by, start_of}
use Rattle.sim_1_applications.specs.Reported as reported
use Rattle.sim_1_applications.specs.Reported.{pages_of, pages_with, underway_of}
use Rattle.sim_5_devices.specs.Shown as shown

-- ---- the pages cut the numbers

abbrev pub AreCut : List Tile → List ℕ → Type 0
AreCut [] numbers = numbers ≡ []
AreCut (t ∷ ts) numbers = (front rest : List ℕ) × (numbers ≡ front ++ rest) × (length front ≡ t.count) × AreCut ts rest

cut_by : (keep n low high : ℕ) (ts : List Tile) → AreTiles keep n low high ts → AreCut ts (numbers_by keep n ts)
cut_by keep n low high [] are = refl
cut_by keep n low high (t ∷ ts) are =
    let front = following (start_of keep n t) (end_of keep n t - start_of keep n t) in
    let rest = numbers_by keep (end_of keep n t) ts in
    (front, rest, refl, length_after (start_of keep n t) (end_of keep n t - start_of keep n t) ∙ sym are.0.count, cut_by keep (end_of keep n t) t.last high ts are.1)

-- ---- and so they cut the entries

record AsTold (keep : ℕ) (history : List EntryView) (ts : List Tile) (numbers : List ℕ) : Type 0 where
  tiles : map tile_of (pages_with keep history ts numbers) ≡ map (tile_shown keep) ts
  log : pages.log_of (pages_with keep history ts numbers) ≡ logged_at history numbers

told_by : (keep : ℕ) (history : List EntryView) (ts : List Tile) (numbers : List ℕ) → AreCut ts numbers → AreGiven history numbers → AsTold keep history ts numbers
told_by keep history [] numbers cut given = record { tiles = refl; log = ap (logged_at history) (sym cut) }
told_by keep history (t ∷ ts) numbers (front, rest, are, many, cut) given =
    let both : AreGiven history (front ++ rest) = subst (AreGiven history) are given in
    let first : take t.count numbers ≡ front = ap₂ take (sym many) are ∙ take-append_seam front rest in
    let then : drop t.count numbers ≡ rest = ap₂ drop (sym many) are ∙ drop-append_seam front rest in
    let more = told_by keep history ts rest cut (all_rest _ front rest both) in
    let size : length (logged_at history (take t.count numbers)) ≡ t.count =
    ap (λ ns. length (logged_at history ns)) first ∙ length_at history front (all_front _ front rest both) ∙ many in
    record {
      tiles = ap₂ (λ n ls. (record (tile_shown keep t) { count = n }) ∷ ls) size (ap (λ ns. map tile_of (pages_with keep history ts ns)) then ∙ more.tiles);
      log = ap₂ (λ ns ls. logged_at history ns ++ ls) first (ap (λ ns. pages.log_of (pages_with keep history ts ns)) then ∙ more.log) ∙ sym (at_both history front rest) ∙ ap (logged_at history) (sym are);
    }

-- ---- a page under way

underway_told : (history : List EntryView) (o : Option OpenPage) → ArePageGiven history o → underway_lines (option_map (page_shown history) o) ≡ underway_of o
underway_told history None given = refl
underway_told history (Some page) given = ap (λ n. record { queryid = shown.queryid_of page.number; got = n } ∷ []) (length_at history page.results given)

-- ---- all lines of a log

pub record AreLogLines (keep : ℕ) (history : List EntryView) (log : LogView) (b : Reading) : Type 0 where
  pub pages : map tile_line log.tiles ≡ map page_line (pages_of keep history b)
  pub underway : underway_lines log.page ≡ underway_of b.page
  pub logged : logged_by 0 log.tiles log.entries ≡ logged_from 0 (pages_of keep history b)
  pub held : map devices.held_line log.held ≡ map reported.held_line b.held

abbrev line_with : List ℕ → HeldLine
line_with id = record { id = id }

pub log_lines : (keep last : ℕ) (history : List EntryView) (log : LogView) (b : Reading) → LogRepresents keep history log b → IsReadingGiven history b → TilesKept keep last b → AreLogLines keep history log b
log_lines keep last history log b represents given kept =
    let cut : AreCut b.tiles (log_of b) = subst (AreCut b.tiles) (sym kept.numbers) (cut_by keep 0 0 last b.tiles kept.tiles) in
    let told = told_by keep history b.tiles (log_of b) cut given.logged in
    let tiles : log.tiles ≡ map tile_of (pages_of keep history b) = represents.tiles ∙ sym told.tiles in
    let entries : log.entries ≡ pages.log_of (pages_of keep history b) = represents.entries ∙ sym told.log in
    record {
      pages = ap (map tile_line) tiles ∙ map-map tile_of tile_line (pages_of keep history b);
      underway = ap underway_lines represents.page ∙ underway_told history b.page given.page;
      logged = ap₂ (logged_by 0) tiles entries ∙ logged_by-pages 0 (pages_of keep history b);
      held = sym (map-map id_logged line_with log.held) ∙ ap (map line_with) represents.held ∙ map-map id_of line_with b.held;
    }
