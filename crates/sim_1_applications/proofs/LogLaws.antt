-- Law 4 of reports of version 2: each log is runs of its account's history.
use Rattle.std.proofs.Common.{◌≡◌, ◌≢◌, ℕ, ◌-◌, ◌<◌, ◌≤◌, ◌==◌, ◌&&◌, ◌^◌, not, false, List, [], ◌∷◌, Some, IsTrue, length, drop, map, refl, sym, ap, ◌∙◌, subst, arith}
use Rattle.std.proofs.lemmas.Bool.{and_from, eq-eqb, false≢true, or_parts}
use Rattle.std.specs.List.{AllByRecursion}
use Rattle.mam_archive.proofs.IdDigits.{id_of_same}
use Rattle.mam_archive.proofs.NumberedEntries.{FollowFrom}
use Rattle.mam_archive.specs.Entries.{EntryView, entry_numbered}
use Rattle.mam_archive.specs.Ids.{id_of}
use Rattle.base_lemmas.proofs.Lists.{AllByRecursion-weaker}
use Rattle.cmd_direct.proofs.TurnRuns.{IsIn, each_by, ids_from, in_history, kept_in, last_number_by, line_entry, line_id, lines_by, numbers_within, runs_by}
use Rattle.cmd_direct.proofs.Turns.{AreRising, ends_at, id_of_entry, pages_by, run_by}
use Rattle.base_io.specs.Names.{is_among}
use Rattle.mam_pages.specs.Kept.{last_number}
use Rattle.cmd_report.proofs.Pairs.{pairs_map}
use Rattle.cmd_report.specs.Lawful.{EachPair}
use Rattle.cmd_report.specs.LawfulRuns.{AreRuns, IsRunsOf, ids_logged}
use Rattle.cmd_report.specs.Lines.{entry_line, logged_from}
use Rattle.cmd_report.specs.Reports.{DeviceView}
use Rattle.cmd_report.specs.declared.report.HeldLine.{HeldLine}
use Rattle.cmd_report.specs.declared.report.LoggedLine.{LoggedLine}
use Rattle.cmd_schedule.proofs.Lists.{all_map}
use Rattle.sim_1_applications.specs.Devices.{Reading, log_of}
use Rattle.sim_1_applications.specs.Devices as sessions
use Rattle.sim_1_applications.specs.Events.{is_number_among}
use Rattle.sim_1_applications.specs.Kept.{AreApart, LogKept, TilesKept}
use Rattle.sim_1_applications.proofs.Rendered.{device_rendered, id_in_history, id_not_among, run_numbers, turns_of, turns_rise}
use Rattle.sim_1_applications.specs.Reported.{held_line, pages_of}

-- what is known of a device's log beside its account's history
pub record Logged (keep : ℕ) (history : List EntryView) (d : sessions.Device) : Type 0 where
  pub some : 1 ≤ keep
  pub first : ℕ
  pub tiles : TilesKept keep (length history) d.reading
  pub log : LogKept first (length history) d
  pub follow : FollowFrom 1 history
  pub few : length history ≤ 4294967295

pub rising : (keep : ℕ) (history : List EntryView) (d : sessions.Device) → Logged keep history d → AreRising 0 (length history) (turns_of d.reading.tiles)
rising keep history d g = turns_rise keep 0 0 (length history) d.reading.tiles g.tiles.tiles

pub rendered : (keep : ℕ) (history : List EntryView) (d : sessions.Device) → Logged keep history d → pages_of keep history d.reading ≡ pages_by keep history 0 (turns_of d.reading.tiles)
rendered keep history d g = device_rendered keep (length history) history d.reading g.some g.tiles refl g.follow

-- the numbers of the log
log_numbers : (keep : ℕ) (history : List EntryView) (d : sessions.Device) → Logged keep history d → map (λ (e : EntryView). e.number) (run_by keep history 0 (turns_of d.reading.tiles)) ≡ log_of d.reading
log_numbers keep history d g = run_numbers keep 0 0 (length history) history d.reading.tiles g.some (omega arith) g.tiles.tiles (omega arith) g.follow ∙ sym g.tiles.numbers

-- held ids differ
numbers_apart : (h : ℕ) (ns : List ℕ) → is_number_among h ns ≡ false → AllByRecursion (λ n. h ≢ n) ns
numbers_apart h [] none = tt
numbers_apart h (n ∷ ns) none =
    let parts = or_parts (h == n) (is_number_among h ns) none in
    ((λ same. false≢true (sym parts.0 ∙ eq-eqb h n same)), numbers_apart h ns parts.1)

all_both : (P Q R : ℕ → Type 0) → ((x : ℕ) → P x → Q x → R x) → (xs : List ℕ) → AllByRecursion P xs → AllByRecursion Q xs → AllByRecursion R xs
all_both P Q R each [] first second = tt
all_both P Q R each (x ∷ xs) first second = (each x first.0 second.0, all_both P Q R each xs first.1 second.1)

held_apart : (hs : List ℕ) → AreApart hs → AllByRecursion (λ h. h < 2 ^ 64) hs → EachPair (λ a b. id_of a ≢ id_of b) hs
held_apart [] apart small = tt
held_apart (h ∷ hs) apart small =
    (all_both (λ n. h ≢ n) (λ n. n < 2 ^ 64) (λ n. id_of h ≢ id_of n) (λ n other few same. other (id_of_same h n small.0 few same)) hs (numbers_apart h hs apart.0) small.1, held_apart hs apart.1 small.1)

held_known : (keep : ℕ) (history : List EntryView) (d : sessions.Device) (lines : List LoggedLine) → Logged keep history d → map line_id lines ≡ map id_of_entry (run_by keep history 0 (turns_of d.reading.tiles)) →
    AllByRecursion (λ h. IsTrue (is_among (id_of h) (map (λ e. id_of e.number) history) && not (is_among (id_of h) (ids_logged lines)))) d.reading.held
held_known keep history d lines g ids =
    let run = run_by keep history 0 (turns_of d.reading.tiles) in
    let few = g.few in
    let small : AllByRecursion (λ e. e.number < 2 ^ 64) run =
    AllByRecursion-weaker (λ e. e.number ≤ length history) (λ e. e.number < 2 ^ 64) (λ e is. omega arith) run (each_by (λ e. e.number ≤ length history) keep 0 history (turns_of d.reading.tiles) (numbers_within history g.follow)) in
    AllByRecursion-weaker (λ h. (is_number_among h (log_of d.reading) ≡ false) × (1 ≤ h) × (h ≤ length history))
    (λ h. IsTrue (is_among (id_of h) (map (λ e. id_of e.number) history) && not (is_among (id_of h) (ids_logged lines))))
    (λ h is.
    let low = is.1 in
    let high = is.2 in
    and_from _ _ (id_in_history h history g.follow low high)
    (ap not (ap (is_among (id_of h)) ids ∙ id_not_among h run (omega arith) small (ap (is_number_among h) (log_numbers keep history d g) ∙ is.0))))
    d.reading.held g.log.held

-- the device's line
pub runs_right : (keep : ℕ) (history : List EntryView) (d : sessions.Device) (line : DeviceView) → Logged keep history d → line.logged ≡ logged_from 0 (pages_of keep history d.reading) → line.held ≡ map held_line d.reading.held →
    IsRunsOf keep history line
runs_right keep history d line g logged held =
    let high = length history in
    let turns = turns_of d.reading.tiles in
    let run = run_by keep history 0 turns in
    let lines = logged_from 0 (pages_by keep history 0 turns) in
    let is : line.logged ≡ lines = logged ∙ ap (logged_from 0) (rendered keep history d g) in
    let rise = rising keep history d g in
    let low : 0 ≤ 0 = omega arith in
    let long : high ≤ high = omega arith in
    let same : map line_entry lines ≡ map entry_line run = lines_by keep 0 0 history turns in
    let ids : map line_id lines ≡ map id_of_entry run = ids_from lines run same in
    let last : last_number run ≡ ends_at keep 0 turns = last_number_by keep 0 0 high history turns g.some low rise long g.follow in
    let few = g.few in
    record {
      entries = run;
      lines = ap (map line_entry) is ∙ same;
      each = each_by (λ e. entry_numbered e.number history ≡ Some e) keep 0 history turns (in_history history g.follow);
      runs = subst (AreRuns run) (sym is) (runs_by keep 0 0 high 0 history turns g.some low rise long g.follow refl refl);
      kept = subst (λ ls. AllByRecursion (λ e. e.number ≤ last_number run → IsTrue (is_among (id_of e.number) (ids_logged ls))) (drop (high - keep) history)) (sym is)
          (AllByRecursion-weaker (IsIn (ends_at keep 0 turns) run) (λ e. e.number ≤ last_number run → IsTrue (is_among (id_of e.number) (ids_logged lines)))
          (λ e known within. ap (is_among (id_of e.number)) ids ∙ known (subst (λ k. e.number ≤ k) last within)) (drop (high - keep) history)
          (kept_in keep high history turns g.some rise long g.follow));
      apart = subst (EachPair (λ (a b : HeldLine). a.id ≢ b.id)) (sym held)
          (pairs_map (λ (a b : HeldLine). a.id ≢ b.id) held_line d.reading.held
          (held_apart d.reading.held g.log.apart (AllByRecursion-weaker _ (λ h. h < 2 ^ 64) (λ h of_log. let top = of_log.2 in omega arith) d.reading.held g.log.held)));
      held = subst (AllByRecursion (λ (h : HeldLine). IsTrue (is_among h.id (map (λ e. id_of e.number) history) && not (is_among h.id (ids_logged line.logged))))) (sym held)
          (all_map (λ (h : HeldLine). IsTrue (is_among h.id (map (λ e. id_of e.number) history) && not (is_among h.id (ids_logged line.logged)))) held_line d.reading.held
          (held_known keep history d line.logged g (ap (map line_id) is ∙ ids)));
    }
