-- Where an archive keeps all, each log is a prefix of it, and the pages are tiles of the log.
use Rattle.std.proofs.Common.{◌≡◌, ◌≢◌, ℕ, zero, suc, ◌+◌, ◌-◌, ◌<◌, ◌≤◌, ◌==◌, ◌||◌, true, false, List, [], IsTrue, length, drop, take, map, refl, sym, ap, ◌∙◌, subst, arith, inl, inr}
use Rattle.std.proofs.lemmas.Bool.{cases_Bool, eq-eqb, false≢true}
use Rattle.std.proofs.lemmas.List.{drop-map, length-drop, length-map, take-map}
use Rattle.std.specs.List.{AllByRecursion}
use Rattle.mam_archive.proofs.NumberedEntries.{FollowFrom, follow_drop}
use Rattle.mam_archive.proofs.ChainPositions.{follow_take}
use Rattle.mam_archive.specs.Entries.{EntryView}
use Rattle.mam_archive.specs.Ids.{id_of}
use Rattle.base_lemmas.proofs.Lists.{AllByRecursion-weaker}
use Rattle.cmd_direct.proofs.TurnRuns.{line_entry, lines_by}
use Rattle.cmd_direct.proofs.Turns.{ends_at, ends_bounds, id_of_entry, length_span, pages_by, run_by}
use Rattle.cmd_direct.proofs.PrefixLaws.{prefix_run, tiles_one, unbroken_turns}
use Rattle.base_io.specs.Names.{is_among}
use Rattle.cmd_report.specs.EntryLines.{EntryLineView}
use Rattle.cmd_report.specs.Lawful.{AreTiles, IsPrefixOf}
use Rattle.cmd_report.specs.Lines.{entry_line, logged_from, page_line}
use Rattle.cmd_report.specs.Reports.{DeviceView}
use Rattle.cmd_report.specs.declared.report.HeldLine.{HeldLine}
use Rattle.cmd_report.specs.declared.report.LoggedLine.{LoggedLine}
use Rattle.cmd_schedule.proofs.Lists.{all_map, map-map}
use Rattle.sim_1_applications.specs.Answers.{following}
use Rattle.sim_1_applications.specs.Devices as sessions
use Rattle.sim_1_applications.specs.Devices.{log_of}
use Rattle.sim_1_applications.specs.Events.{is_number_among}
use Rattle.sim_1_applications.proofs.LogLaws.{Logged, rendered, rising, runs_right}
use Rattle.sim_1_applications.proofs.Rendered.{id_from, number_of, numbers_follow, run_numbers, turns_of}
use Rattle.sim_1_applications.specs.Reported.{held_line, pages_of}

-- the log is a front of the history
record Front (keep : ℕ) (history : List EntryView) (d : sessions.Device) : Type 0 where
  end : ℕ
  within : end ≤ length history
  run_is : run_by keep history 0 (turns_of d.reading.tiles) ≡ take end history
  size : length (run_by keep history 0 (turns_of d.reading.tiles)) ≡ end
  numbers : log_of d.reading ≡ following 0 end

front_of : (keep : ℕ) (history : List EntryView) (d : sessions.Device) → Logged keep history d → length history ≤ keep → Front keep history d
front_of keep history d g wide =
    let turns = turns_of d.reading.tiles in
    let high = length history in
    let rise = rising keep history d g in
    let bounds = ends_bounds keep 0 0 high turns g.some (omega arith) rise in
    let end = ends_at keep 0 turns in
    let first : end - 0 ≡ end = omega arith in
    let whole = prefix_run keep 0 0 high history turns g.some wide (omega arith) rise (omega arith) g.follow in
    let run : run_by keep history 0 turns ≡ take end history = whole ∙ ap (λ k. take k history) first in
    let size : length (run_by keep history 0 turns) ≡ end = ap length whole ∙ length_span 0 end history bounds.1 ∙ first in
    let follow : FollowFrom 1 (take end history) = follow_take end 1 history g.follow in
    record {
      end = end;
      within = bounds.1;
      run_is = run;
      size = size;
      numbers = g.tiles.numbers ∙ sym (run_numbers keep 0 0 high history d.reading.tiles g.some (omega arith) g.tiles.tiles (omega arith) g.follow)
          ∙ ap (map number_of) run ∙ numbers_follow 0 (take end history) follow ∙ ap (following 0) (sym (ap length run) ∙ size);
    }

-- what isn't among the numbers up to n is above n
not_among : (h n k : ℕ) → is_number_among h (following n k) ≡ false → n < h → n + k < h
not_among h n zero none low = omega arith
not_among h n (suc k) none low =
    elim (cases_Bool (h == suc n)) [
      | inl same ↦ absurd (let hit : is_number_among h (following n (suc k)) ≡ true = ap (λ b. b || is_number_among h (following (suc n) k)) same in false≢true (sym none ∙ hit))
      | inr other ↦
          let rest : is_number_among h (following (suc n) k) ≡ false = sym (ap (λ b. b || is_number_among h (following (suc n) k)) other) ∙ none in
          let apart : h ≢ suc n = λ is. false≢true (sym other ∙ eq-eqb h (suc n) is) in
          let more = not_among h (suc n) k rest (beyond h n low apart) in
          omega arith
    ]
  where
    beyond : (a b : ℕ) → b < a → a ≢ suc b → suc b < a
    beyond a b low2 apart2 = omega arith

abbrev line_of_id : EntryLineView → List ℕ
line_of_id e = e.id

pub prefix_right : (keep : ℕ) (history : List EntryView) (d : sessions.Device) (line : DeviceView) (entries : List EntryLineView) → Logged keep history d → length history ≤ keep →
    line.logged ≡ logged_from 0 (pages_of keep history d.reading) → line.held ≡ map held_line d.reading.held → entries ≡ map entry_line history → IsPrefixOf entries line
prefix_right keep history d line entries g wide logged held all =
    let turns = turns_of d.reading.tiles in
    let front = front_of keep history d g wide in
    let lines = logged_from 0 (pages_by keep history 0 turns) in
    let is : line.logged ≡ lines = logged ∙ ap (logged_from 0) (rendered keep history d g) in
    let same : map line_entry lines ≡ map entry_line (take front.end history) = lines_by keep 0 0 history turns ∙ ap (map entry_line) front.run_is in
    let size : length line.logged ≡ front.end =
    ap length is ∙ sym (length-map lines line_entry) ∙ ap length (lines_by keep 0 0 history turns) ∙ length-map (run_by keep history 0 turns) entry_line ∙ front.size in
    let long : length entries ≡ length history = ap length all ∙ length-map history entry_line in
    let within = front.within in
    let runs = runs_right keep history d line g logged held in
    let after_ids : map line_of_id (drop (length line.logged) entries) ≡ map id_of_entry (drop front.end history) =
    ap (λ k. map line_of_id (drop k entries)) size ∙ ap (λ es. map line_of_id (drop front.end es)) all ∙ ap (map line_of_id) (drop-map entry_line front.end history) ∙ map-map entry_line line_of_id (drop front.end history) in
    let follow : FollowFrom (1 + front.end) (drop front.end history) = follow_drop front.end 1 history g.follow in
    record {
      short = omega arith;
      logged = ap (map line_entry) is ∙ same ∙ sym (take-map entry_line front.end history) ∙ ap (take front.end) (sym all) ∙ ap (λ k. take k entries) (sym size);
      apart = runs.apart;
      held = subst (AllByRecursion (λ (h : HeldLine). IsTrue (is_among h.id (map (λ e. e.id) (drop (length line.logged) entries))))) (sym held)
          (all_map (λ (h : HeldLine). IsTrue (is_among h.id (map (λ e. e.id) (drop (length line.logged) entries)))) held_line d.reading.held
          (AllByRecursion-weaker (λ h. (is_number_among h (log_of d.reading) ≡ false) × (1 ≤ h) × (h ≤ length history)) (λ h. is_among (id_of h) (map line_of_id (drop (length line.logged) entries)) ≡ true)
          (λ h known.
          let above : 0 + front.end < h = not_among h 0 front.end (ap (is_number_among h) (sym front.numbers) ∙ known.0) known.1 in
          let top = known.2 in
          let rest = length-drop front.end history in
          ap (is_among (id_of h)) after_ids ∙ id_from (1 + front.end) h (drop front.end history) follow (omega arith) (omega arith))
          d.reading.held g.log.held));
    }

pub unbroken_right : (keep : ℕ) (history : List EntryView) (d : sessions.Device) (line : DeviceView) → Logged keep history d → length history ≤ keep → line.logged ≡ logged_from 0 (pages_of keep history d.reading) →
    AllByRecursion (λ l. l.broken ≡ false) line.logged
unbroken_right keep history d line g wide logged =
    subst (AllByRecursion (λ (l : LoggedLine). l.broken ≡ false)) (sym (logged ∙ ap (logged_from 0) (rendered keep history d g)))
    (unbroken_turns keep 0 0 (length history) 0 history (turns_of d.reading.tiles) g.some wide (omega arith) (rising keep history d g) (omega arith) g.follow refl)

pub tiles_right : (keep : ℕ) (history : List EntryView) (d : sessions.Device) (line : DeviceView) → Logged keep history d → length history ≤ keep → line.logged ≡ logged_from 0 (pages_of keep history d.reading) →
    line.pages ≡ map page_line (pages_of keep history d.reading) → AreTiles [] line.pages line.logged
tiles_right keep history d line g wide logged pages =
    subst (AreTiles [] line.pages) (sym (logged ∙ ap (logged_from 0) (rendered keep history d g)))
    (subst (λ ps. AreTiles [] ps (logged_from 0 (pages_by keep history 0 (turns_of d.reading.tiles)))) (sym (pages ∙ ap (map page_line) (rendered keep history d g)))
    (tiles_one keep 0 0 (length history) history (turns_of d.reading.tiles) [] g.some wide (omega arith) (rising keep history d g) (omega arith) g.follow refl refl))
