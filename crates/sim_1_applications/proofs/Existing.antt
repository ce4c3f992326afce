-- Each run of the two applications has worlds and a report.
use Rattle.std.proofs.Common.{◌≡◌, ℕ, zero, suc, ◌≤◌, true, false, cond, List, [], ◌∷◌, Option, Some, None, length, drop, map, refl, ap, ◌∙◌, arith}
use Rattle.std.proofs.lemmas.Bool.{false≢true}
use Rattle.std.proofs.lemmas.Option.{none-some, same_Some}
use Rattle.std.specs.List.{AllByRecursion, flat_map, slice_get}
use Rattle.std.specs.Str.{bytes_eq}
use Rattle.mam_archive.specs.Entries.{EntryView, newest}
use Rattle.base_lemmas.proofs.Bytes.{bytes_eq-self}
use Rattle.mam_log.specs.LogPages.{LogPage}
use Rattle.cmd_report.specs.Lines.{logged_from, page_line, take_line}
use Rattle.cmd_report.specs.Reports.{DeviceView, ReportView}
use Rattle.cmd_report.specs.Worlds.{ReportWorld}
use Rattle.cmd_report.specs.declared.report.RefusedLine.{RefusedLine}
use Rattle.cmd_schedule.specs.Contents.{Owned, accounts_of}
use Rattle.cmd_schedule.specs.Schedules.{WireView, keep_of}
use Rattle.cmd_schedule.specs.LineLists.{IsLineList}
use Rattle.cmd_schedule.specs.WireGrammar.{nothing_above}
use Rattle.sim_1_applications.proofs.Later.{later_along}
use Rattle.sim_1_applications.specs.Devices as sessions
use Rattle.sim_1_applications.specs.Devices.{Device, Tile, epoch_of}
use Rattle.sim_1_applications.specs.Events.{AppEvent, Reaches}
use Rattle.sim_1_applications.specs.Histories.{asked_of, states_of}
use Rattle.sim_1_applications.proofs.LawsKept.{many_homes}
use Rattle.sim_1_applications.proofs.Owners.{Differ, name_other, names_differ, names_of}
use Rattle.sim_1_applications.proofs.WireSteps.{wire_stand}
use Rattle.sim_1_applications.specs.Reported.{AreDeviceLines, AreRepresented, IsShown, account_line, held_line, history_at, pages_of, pages_with, said_of, take_of, underway_of}
use Rattle.sim_1_applications.specs.Runs.{IsLineDone, IsRunOf, LineRun, begins, moves_of, owned_of, refused_by, steps_in}

-- Worlds.

abbrev device_of : List Owned → List Device → List ℕ → Option Device
device_of [] ds name = None
device_of (o ∷ os) [] name = None
device_of (o ∷ os) (d ∷ ds) name = cond (bytes_eq name o.device) (Some d) (device_of os ds name)

device_found : (owned : List Owned) (ds : List Device) (i : ℕ) (o : Owned) (d : Device) → Differ (names_of owned) → slice_get owned i ≡ Some o → slice_get ds i ≡ Some d → device_of owned ds o.device ≡ Some d
device_found [] ds i o d differ owner at = absurd (none-some o owner)
device_found (p ∷ owned) [] i o d differ owner at = absurd (none-some d at)
device_found (p ∷ owned) (e ∷ ds) zero o d differ owner at =
    let same : p ≡ o = same_Some p o owner in
    ap (λ b. cond b (Some e) (device_of owned ds o.device)) (ap (λ (q : Owned). bytes_eq o.device q.device) same ∙ bytes_eq-self o.device) ∙ ap Some (same_Some e d at)
device_found (p ∷ owned) (e ∷ ds) (suc i) o d differ owner at =
    ap (λ b. cond b (Some e) (device_of owned ds o.device)) (name_other (p ∷ owned) (suc i) 0 o differ owner (omega arith) (λ is. omega arith)) ∙ device_found owned ds i o d differ.1 owner at

abbrev pages_for : ℕ → List Owned → List sessions.Take → Option Device → List LogPage
pages_for keep owned takes None = []
pages_for keep owned takes (Some d) = pages_of keep (history_at owned takes d.account) d.reading

abbrev asked_for : Option Device → ℕ
asked_for None = 0
asked_for (Some d) = asked_of d.reading

abbrev shown_by : List Owned → sessions.AppWorld → ReportWorld
shown_by owned w = record {
  archive = λ account. newest w.keep (history_at owned w.takes account);
  pages = λ name. pages_for w.keep owned w.takes (device_of owned w.devices name);
  asked = λ name. asked_for (device_of owned w.devices name);
}

pages_many : (keep : ℕ) (history : List EntryView) (ts : List Tile) (numbers : List ℕ) → length (pages_with keep history ts numbers) ≡ length ts
pages_many keep history [] numbers = refl
pages_many keep history (t ∷ ts) numbers = ap suc (pages_many keep history ts (drop t.count numbers))

is_shown : (owned : List Owned) (w : sessions.AppWorld) → Differ (names_of owned) → IsShown owned w (shown_by owned w)
is_shown owned w differ = record {
  archive = λ account exists. refl;
  pages = λ i o d owner at. ap (λ found. length (pages_for w.keep owned w.takes found)) (device_found owned w.devices i o d differ owner at)
      ∙ pages_many w.keep (history_at owned w.takes d.account) d.reading.tiles (sessions.log_of d.reading);
  asked = λ i o d owner at. ap asked_for (device_found owned w.devices i o d differ owner at);
}

are_shown : (owned : List Owned) (ws : List sessions.AppWorld) → Differ (names_of owned) → AreRepresented owned ws (map (shown_by owned) ws)
are_shown owned [] differ = tt
are_shown owned (w ∷ ws) differ = (is_shown owned w differ, are_shown owned ws differ)

-- The report.

abbrev line_by : ℕ → (List ℕ → List EntryView) → (List ℕ → List RefusedLine) → Owned → Device → DeviceView
line_by keep history refused o d = record {
  name = o.device;
  account = o.account;
  epoch = epoch_of d.sessions;
  settled = false;
  said = said_of d.sessions;
  refused = refused o.device;
  pages = map page_line (pages_of keep (history o.account) d.reading);
  underway = underway_of d.reading.page;
  logged = logged_from 0 (pages_of keep (history o.account) d.reading);
  held = map held_line d.reading.held;
}

abbrev lines_by : ℕ → (List ℕ → List EntryView) → (List ℕ → List RefusedLine) → List Owned → List Device → List DeviceView
lines_by keep history refused [] ds = []
lines_by keep history refused (o ∷ os) [] = []
lines_by keep history refused (o ∷ os) (d ∷ ds) = line_by keep history refused o d ∷ lines_by keep history refused os ds

are_lines : (keep : ℕ) (history : List ℕ → List EntryView) (refused : List ℕ → List RefusedLine) (owned : List Owned) (ds : List Device) → length ds ≡ length owned → AreDeviceLines keep history owned ds (lines_by keep history refused owned ds)
are_lines keep history refused [] [] size = tt
are_lines keep history refused [] (d ∷ ds) size = absurd (omega arith)
are_lines keep history refused (o ∷ owned) [] size = absurd (omega arith)
are_lines keep history refused (o ∷ owned) (d ∷ ds) size = (
  record { name = refl; account = refl; epoch = refl; settled = λ never. absurd (false≢true never); said = refl; pages = refl; underway = refl; logged = refl; held = refl },
  are_lines keep history refused owned ds (omega arith),
)

all_refused : (keep : ℕ) (history : List ℕ → List EntryView) (refused : List ℕ → List RefusedLine) (owned : List Owned) (ds : List Device) → AllByRecursion (λ d. d.refused ≡ refused d.name) (lines_by keep history refused owned ds)
all_refused keep history refused [] ds = tt
all_refused keep history refused (o ∷ owned) [] = tt
all_refused keep history refused (o ∷ owned) (d ∷ ds) = (refl, all_refused keep history refused owned ds)

abbrev report_by : WireView → List LineRun → sessions.AppWorld → ReportView
report_by s runs last = record {
  version = s.version;
  wire = true;
  takes = map (take_line s.version) (map (take_of (owned_of s)) last.takes);
  accounts = map (λ name. account_line (keep_of s.version) (history_at (owned_of s) last.takes name) name) (accounts_of (steps_in s));
  conns = [];
  devices = lines_by (keep_of s.version) (history_at (owned_of s) last.takes) (λ name. refused_by name runs) (owned_of s) last.devices;
}

pub reported : (s : WireView) (runs : List LineRun) (last : sessions.AppWorld) → IsLineList s → map (λ (r : LineRun). r.line) runs ≡ s.lines → AllByRecursion (IsLineDone (owned_of s)) runs →
    Reaches (flat_map (λ (move : List AppEvent). move) (moves_of runs)) (begins s) last → length last.takes ≤ 4294967295 →
    IsRunOf s (map (shown_by (owned_of s)) (states_of (begins s) (moves_of runs))) (report_by s runs last)
reported s runs last right lines done reaches few =
    let differ = names_differ (steps_in s) (wire_stand [] nothing_above s.lines refl right.lines) in
    let later = later_along (flat_map (λ (move : List AppEvent). move) (moves_of runs)) (begins s) last reaches in
    let history = history_at (owned_of s) last.takes in
    record {
      right = right;
      runs = runs;
      of_lines = lines;
      done = done;
      last = last;
      reaches = reaches;
      few = few;
      shown = are_shown (owned_of s) (states_of (begins s) (moves_of runs)) differ;
      reported = record {
        version = refl;
        wire = refl;
        takes = refl;
        accounts = refl;
        devices = are_lines (keep_of s.version) history (λ name. refused_by name runs) (owned_of s) last.devices (later.many ∙ many_homes (owned_of s));
        refused = all_refused (keep_of s.version) history (λ name. refused_by name runs) (owned_of s) last.devices;
      };
    }

-- and so there are some
pub some_report : (s : WireView) (runs : List LineRun) (last : sessions.AppWorld) → IsLineList s → map (λ (r : LineRun). r.line) runs ≡ s.lines → AllByRecursion (IsLineDone (owned_of s)) runs →
    Reaches (flat_map (λ (move : List AppEvent). move) (moves_of runs)) (begins s) last → length last.takes ≤ 4294967295 → (worlds : List ReportWorld) × (r : ReportView) × IsRunOf s worlds r
some_report s runs last right lines done reaches few = (map (shown_by (owned_of s)) (states_of (begins s) (moves_of runs)), report_by s runs last, reported s runs last right lines done reaches few)
