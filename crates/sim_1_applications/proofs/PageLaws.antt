-- Law 5 of reports of version 2: the pages of a device are tiles of its log, each as fresh as its archive.
use Rattle.std.proofs.Common.{◌≡◌, ◌≢◌, ℕ, suc, ◌+◌, ◌-◌, ◌<◌, ◌≤◌, max, min, true, leb, List, [], ◌∷◌, ◌++◌, Some, None, length, drop, take, map, refl, sym, ap, ◌∙◌, subst, arith}
use Rattle.std.proofs.lemmas.Bool.{false≢true}
use Rattle.std.proofs.lemmas.List.{append_assoc, append-nil, drop-map, drop_at, length-append, length-map, map-append}
use Rattle.std.proofs.lemmas.Option.{same_Some, slice_get_within}
use Rattle.std.specs.List.{slice_get, sum}
use Rattle.mam_archive.proofs.NumberedEntries.{FollowFrom}
use Rattle.mam_archive.specs.Entries.{EntryView}
use Rattle.mam_archive.specs.Ids.{id_of}
use Rattle.cmd_direct.proofs.NextPages.{id_after}
use Rattle.cmd_direct.proofs.TurnRuns.{each_by, ids_differ, ids_from, line_entry, line_id, lines_by, numbers_within, pairs_unmap, runs_by}
use Rattle.cmd_direct.proofs.TurnTiles.{before_turns, complete_end, first_number_is, last_lines_by, last_number_is, length-pages_by, page_at_turn, split_at, tiles_by, total_whole, whole_by}
use Rattle.cmd_direct.proofs.Turns.{AreRising, Turn, end_of, ends_at, ends_at-append, ends_bounds, follow_span, id_of_entry, page_by, pages_by, rising_append, rising_bounds, rising_split, run_by, run_by-append, span, start_of}
use Rattle.cmd_direct.proofs.RunLaws.{asked_number, asked_without}
use Rattle.mam_pages.specs.Kept.{first_number, last_number}
use Rattle.cmd_report.proofs.Pairs.{pairs_map}
use Rattle.cmd_report.specs.EntryLines.{EntryLineView}
use Rattle.cmd_report.specs.Lawful.{EachPair, EndsWith, last_logged}
use Rattle.cmd_report.specs.LawfulRuns.{ArePagesOfRuns, AreTilesOfRuns, EndsWhole, IsFirstNumber, IsLastNumber, lines_of_page, logged_before}
use Rattle.cmd_report.specs.Lines.{entry_line, logged_from, page_line}
use Rattle.cmd_report.specs.Reports.{DeviceView}
use Rattle.cmd_report.specs.Worlds.{ReportWorld}
use Rattle.cmd_report.specs.declared.report.LoggedLine.{LoggedLine}
use Rattle.cmd_report.specs.declared.report.PageLine.{PageLine}
use Rattle.cmd_schedule.specs.Schedules.{ScheduleView}
use Rattle.sim_1_applications.specs.Devices as sessions
use Rattle.sim_1_applications.specs.Devices.{Tile}
use Rattle.sim_1_applications.proofs.LogLaws.{Logged, rendered, rising}
use Rattle.sim_1_applications.proofs.Rendered.{turn_of, turns_of}
use Rattle.sim_1_applications.specs.Reported.{pages_of}

-- what is known of a device's pages beside the worlds
pub record Paged (keep : ℕ) (worlds : List ReportWorld) (history : List EntryView) (d : sessions.Device) (line : DeviceView) : Type 0 where
  pub of_log : Logged keep history d
  pub pages_are : line.pages ≡ map page_line (pages_of keep history d.reading)
  pub logged_are : line.logged ≡ logged_from 0 (pages_of keep history d.reading)
  pub asked : (k : ℕ) (t : Tile) → slice_get d.reading.tiles k ≡ Some t → (i : ℕ) (asking : ReportWorld) → slice_get worlds i ≡ Some asking → asking.asked line.name ≤ k →
      (last_number (asking.archive line.account) ≤ t.given) × (first_number (asking.archive line.account) ≤ suc (t.given - keep))
  pub over : (k : ℕ) (t : Tile) → slice_get d.reading.tiles k ≡ Some t → (j : ℕ) (taken : ReportWorld) → slice_get worlds j ≡ Some taken → k < length (taken.pages line.name) →
      (t.given ≤ last_number (taken.archive line.account)) × (suc (t.given - keep) ≤ first_number (taken.archive line.account))
  pub ends : EndsWith worlds line

pages_line : (keep : ℕ) (worlds : List ReportWorld) (history : List EntryView) (d : sessions.Device) (line : DeviceView) → Paged keep worlds history d line →
    line.pages ≡ map page_line (pages_by keep history 0 (turns_of d.reading.tiles))
pages_line keep worlds history d line g = g.pages_are ∙ ap (map page_line) (rendered keep history d g.of_log)

logged_line : (keep : ℕ) (worlds : List ReportWorld) (history : List EntryView) (d : sessions.Device) (line : DeviceView) → Paged keep worlds history d line →
    line.logged ≡ logged_from 0 (pages_by keep history 0 (turns_of d.reading.tiles))
logged_line keep worlds history d line g = g.logged_are ∙ ap (logged_from 0) (rendered keep history d g.of_log)

-- the tile of page k
record TileAt (keep : ℕ) (history : List EntryView) (d : sessions.Device) (line : DeviceView) (k : ℕ) : Type 0 where
  front : List Tile
  t : Tile
  at : slice_get d.reading.tiles k ≡ Some t
  some : 1 ≤ t.most
  long : t.given ≤ length history
  small : t.given ≤ 4294967295
  rise : AreRising 0 t.given (turns_of front ++ turn_of t ∷ [])
  within : ends_at keep 0 (turns_of front) ≤ t.given
  page : (p : PageLine) → slice_get line.pages k ≡ Some p → page_line (page_by keep history (ends_at keep 0 (turns_of front)) (turn_of t)) ≡ p
  before_is : logged_before k line ≡ logged_from 0 (pages_by keep history 0 (turns_of front))
  through_is : logged_before (k + 1) line ≡ logged_from 0 (pages_by keep history 0 (turns_of front ++ turn_of t ∷ []))
  before : last_logged (logged_before k line) ≡ id_after (ends_at keep 0 (turns_of front))
  through : last_logged (logged_before (k + 1) line) ≡ id_after (end_of keep (ends_at keep 0 (turns_of front)) (turn_of t))

get_there : (front rest : List Tile) (t : Tile) → slice_get (front ++ t ∷ rest) (length front) ≡ Some t
get_there [] rest t = refl
get_there (x ∷ front) rest t = get_there front rest t

abbrev count_of : PageLine → ℕ
count_of page = page.count

before_line : (keep : ℕ) (worlds : List ReportWorld) (history : List EntryView) (d : sessions.Device) (line : DeviceView) → Paged keep worlds history d line → (k : ℕ) (xs ys : List Turn) →
    turns_of d.reading.tiles ≡ xs ++ ys → length xs ≡ k → logged_before k line ≡ logged_from 0 (pages_by keep history 0 xs)
before_line keep worlds history d line g k xs ys joined size =
    ap (λ ps. take (sum (map count_of (take k ps))) line.logged) (pages_line keep worlds history d line g)
    ∙ ap (take (sum (map count_of (take k (map page_line (pages_by keep history 0 (turns_of d.reading.tiles))))))) (logged_line keep worlds history d line g)
    ∙ ap (λ ts. take (sum (map count_of (take k (map page_line (pages_by keep history 0 ts))))) (logged_from 0 (pages_by keep history 0 ts))) joined
    ∙ before_turns keep k history xs ys size

tile_at : (keep : ℕ) (worlds : List ReportWorld) (history : List EntryView) (d : sessions.Device) (line : DeviceView) → Paged keep worlds history d line → (k : ℕ) (p : PageLine) → slice_get line.pages k ≡ Some p →
    TileAt keep history d line k
tile_at keep worlds history d line g k p at =
    let log = g.of_log in
    let many : length line.pages ≡ length d.reading.tiles =
    ap length (pages_line keep worlds history d line g) ∙ length-map (pages_by keep history 0 (turns_of d.reading.tiles)) page_line ∙ length-pages_by keep 0 history (turns_of d.reading.tiles) ∙ length-map d.reading.tiles turn_of in
    let there : k < length line.pages = slice_get_within line.pages k p at in
    let s = split_at d.reading.tiles k (omega arith) in
    let t = s.item in
    let front = turns_of s.front in
    let rest = turns_of s.rest in
    let joined : turns_of d.reading.tiles ≡ front ++ turn_of t ∷ rest = ap (map turn_of) s.joined ∙ map-append turn_of s.front (t ∷ s.rest) in
    let size : length front ≡ k = length-map s.front turn_of ∙ s.many in
    let whole = subst (AreRising 0 (length history)) joined (rising keep history d log) in
    let parts = rising_split 0 (length history) front rest (turn_of t) whole in
    let long : t.given ≤ length history = rising_bounds t.given (length history) rest parts.2 in
    let bounds = ends_bounds keep 0 0 t.given front log.some (omega arith) parts.0 in
    let single : AreRising t.given t.given (turn_of t ∷ []) = (omega arith, parts.1, omega arith) in
    let rise = rising_append 0 t.given t.given front (turn_of t ∷ []) parts.0 single in
    let more : (front ++ turn_of t ∷ []) ++ rest ≡ front ++ turn_of t ∷ rest = append_assoc front (turn_of t ∷ []) rest in
    let size_more : length (front ++ turn_of t ∷ []) ≡ k + 1 = omega (arith, length-append front (turn_of t ∷ []), size) in
    let before = before_line keep worlds history d line g k front (turn_of t ∷ rest) joined size in
    let through = before_line keep worlds history d line g (k + 1) (front ++ turn_of t ∷ []) rest (joined ∙ sym more) size_more in
    let few = log.few in
    record {
      front = s.front;
      t = t;
      at = ap (λ ts. slice_get ts k) s.joined ∙ ap (slice_get (s.front ++ t ∷ s.rest)) (sym s.many) ∙ get_there s.front s.rest t;
      some = parts.1;
      long = long;
      small = omega arith;
      rise = rise;
      within = bounds.1;
      page = λ q found. same_Some _ q
          (sym (page_at_turn keep 0 history front rest (turn_of t)) ∙ ap (slice_get (map page_line (pages_by keep history 0 (front ++ turn_of t ∷ rest)))) size
          ∙ ap (λ ts. slice_get (map page_line (pages_by keep history 0 ts)) k) (sym joined) ∙ ap (λ ps. slice_get ps k) (sym (pages_line keep worlds history d line g)) ∙ found);
      before_is = before;
      through_is = through;
      before = ap last_logged before ∙ last_lines_by keep t.given history front log.some parts.0 long log.follow;
      through = ap last_logged through ∙ last_lines_by keep t.given history (front ++ turn_of t ∷ []) log.some rise long log.follow ∙ ap id_after (ends_at-append keep 0 front (turn_of t ∷ []));
    }

-- a complete page reaches the archive's last number
complete_tile : (keep : ℕ) (history : List EntryView) (d : sessions.Device) (line : DeviceView) (k total : ℕ) (p : PageLine) → 1 ≤ keep → (a : TileAt keep history d line k) → slice_get line.pages k ≡ Some p → p.total ≡ Some total →
    (end_of keep (ends_at keep 0 (turns_of a.front)) (turn_of a.t) ≡ a.t.given) × (min a.t.given keep ≡ total)
complete_tile keep history d line k total p some a at is =
    let n = ends_at keep 0 (turns_of a.front) in
    let whole = total_whole (leb (a.t.given - start_of keep n (turn_of a.t)) a.t.most) (min a.t.given keep) total (ap (λ (l : PageLine). l.total) (a.page p at) ∙ is) in
    (complete_end keep n (turn_of a.t) some a.within whole.0, whole.1)

ends_whole : (keep : ℕ) (history : List EntryView) (d : sessions.Device) (line : DeviceView) (k total : ℕ) (p : PageLine) → 1 ≤ keep → FollowFrom 1 history → (a : TileAt keep history d line k) → slice_get line.pages k ≡ Some p →
    p.total ≡ Some total → EndsWhole keep history (logged_before (k + 1) line) total
ends_whole keep history d line k total p some follow a at is =
    let complete = complete_tile keep history d line k total p some a at is in
    let turns = turns_of a.front ++ turn_of a.t ∷ [] in
    let end : ends_at keep 0 turns ≡ a.t.given = ends_at-append keep 0 (turns_of a.front) (turn_of a.t ∷ []) ∙ complete.0 in
    let whole = whole_by keep history turns a.t.given some a.rise a.long a.small follow end in
    subst (λ m. EndsWhole keep history (logged_before (k + 1) line) m) complete.1
    (subst (λ lines. EndsWhole keep history lines (min a.t.given keep)) (sym a.through_is) whole)

fresh_number : (keep : ℕ) (history : List EntryView) (d : sessions.Device) (line : DeviceView) (k total last : ℕ) (p : PageLine) → 1 ≤ keep → (a : TileAt keep history d line k) → slice_get line.pages k ≡ Some p →
    p.total ≡ Some total → IsLastNumber (last_logged (logged_before (k + 1) line)) last → a.t.given ≡ last
fresh_number keep history d line k total last p some a at is number =
    let complete = complete_tile keep history d line k total p some a at is in
    last_number_is a.t.given last a.small (subst (λ id. IsLastNumber id last) (a.through ∙ ap id_after complete.0) number)

le_small : {a b : ℕ} → a ≤ b → b ≤ 4294967295 → a ≤ 4294967295
le_small low small = omega arith

-- of a page that was asked for without an id, the last number before it was purged
purged_number : (keep : ℕ) (history : List EntryView) (d : sessions.Device) (line : DeviceView) (k : ℕ) (p : PageLine) (a : TileAt keep history d line k) → slice_get line.pages k ≡ Some p → p.after ≡ None →
    ends_at keep 0 (turns_of a.front) ≤ a.t.given - keep
purged_number keep history d line k p a at after =
    asked_without (ends_at keep 0 (turns_of a.front)) (a.t.given - keep) (ap (λ (l : PageLine). l.after) (a.page p at) ∙ after)

-- the ids of a page's lines
ids_of_page : (keep : ℕ) (history : List EntryView) (d : sessions.Device) (line : DeviceView) (k : ℕ) (a : TileAt keep history d line k) → map line_id (lines_of_page k line)
    ≡ map id_of_entry (span (start_of keep (ends_at keep 0 (turns_of a.front)) (turn_of a.t)) (end_of keep (ends_at keep 0 (turns_of a.front)) (turn_of a.t)) history)
ids_of_page keep history d line k a =
    let n = ends_at keep 0 (turns_of a.front) in
    let front = run_by keep history 0 (turns_of a.front) in
    let entries = span (start_of keep n (turn_of a.t)) (end_of keep n (turn_of a.t)) history in
    let turns = turns_of a.front ++ turn_of a.t ∷ [] in
    let before = logged_from 0 (pages_by keep history 0 (turns_of a.front)) in
    let lines = logged_from 0 (pages_by keep history 0 turns) in
    let count = length (logged_before k line) in
    let ids_before : map line_id before ≡ map id_of_entry front = ids_from before front (lines_by keep 0 0 history (turns_of a.front)) in
    let ids : map line_id lines ≡ map id_of_entry (run_by keep history 0 turns) = ids_from lines (run_by keep history 0 turns) (lines_by keep 0 0 history turns) in
    let joined : run_by keep history 0 turns ≡ front ++ entries = run_by-append keep 0 history (turns_of a.front) (turn_of a.t ∷ []) ∙ ap (λ es. front ++ es) (append-nil entries) in
    let size : count ≡ length (map id_of_entry front) = ap length a.before_is ∙ sym (length-map before line_id) ∙ ap length ids_before in
    sym (drop-map line_id count (logged_before (k + 1) line))
    ∙ ap (λ ls. drop count (map line_id ls)) a.through_is
    ∙ ap (λ c. drop c (map line_id lines)) size
    ∙ ap (drop (length (map id_of_entry front))) (ids ∙ ap (map id_of_entry) joined ∙ map-append id_of_entry front entries)
    ∙ drop_at (map id_of_entry front) (map id_of_entry entries) (length (map id_of_entry front)) refl

oldest_number : (keep : ℕ) (history : List EntryView) (d : sessions.Device) (line : DeviceView) (k first : ℕ) (p : PageLine) → FollowFrom 1 history → (a : TileAt keep history d line k) → slice_get line.pages k ≡ Some p →
    p.after ≡ None → IsFirstNumber (lines_of_page k line) first → first ≡ suc (a.t.given - keep)
oldest_number keep history d line k first p follow a at after number =
    let n = ends_at keep 0 (turns_of a.front) in
    let gone = purged_number keep history d line k p a at after in
    let s = start_of keep n (turn_of a.t) in
    let same : first ≡ suc s =
    first_number_is s first (lines_of_page k line) (span s (end_of keep n (turn_of a.t)) history) (let within = a.within in let small = a.small in omega arith) (ids_of_page keep history d line k a)
    (follow_span s (end_of keep n (turn_of a.t)) history follow) number in
    starts keep n first a.t.given gone same
  where
    starts : (k2 m one last : ℕ) → m ≤ last - k2 → one ≡ suc (max m (last - k2)) → one ≡ suc (last - k2)
    starts k2 m one last gone same = omega arith

-- the end of a page is no greater than the archive's last number
end_within : (keep n : ℕ) (t : Turn) → end_of keep n t ≤ t.last
end_within keep n t = omega arith

distinct_lines : (keep : ℕ) (history : List EntryView) (turns : List Turn) → 1 ≤ keep → AreRising 0 (length history) turns → FollowFrom 1 history → length history ≤ 4294967295 →
    EachPair (λ a b. a.entry.id ≢ b.entry.id) (logged_from 0 (pages_by keep history 0 turns))
distinct_lines keep history turns some rise follow few =
    let high = length history in
    let run = run_by keep history 0 turns in
    let lines = logged_from 0 (pages_by keep history 0 turns) in
    let runs = runs_by keep 0 0 high 0 history turns some (omega arith) rise (omega arith) follow refl refl in
    let apart : EachPair (λ a b. id_of a.number ≢ id_of b.number) run = ids_differ high run lines (omega arith) (each_by (λ e. e.number ≤ high) keep 0 history turns (numbers_within history follow)) runs in
    let mapped : EachPair (λ (a b : EntryLineView). a.id ≢ b.id) (map entry_line run) = pairs_map (λ (a b : EntryLineView). a.id ≢ b.id) entry_line run apart in
    pairs_unmap (λ (a b : EntryLineView). a.id ≢ b.id) line_entry lines
    (subst (λ es. EachPair (λ (a b : EntryLineView). a.id ≢ b.id) es) (sym (lines_by keep 0 0 history turns)) mapped)

pub pages_right : (keep : ℕ) (worlds : List ReportWorld) (schedule : ScheduleView) (history : List EntryView) (d : sessions.Device) (line : DeviceView) → schedule.wire ≡ true → Paged keep worlds history d line →
    ArePagesOfRuns keep worlds schedule history line
pages_right keep worlds schedule history d line wire g =
    let log = g.of_log in
    let turns = turns_of d.reading.tiles in
    let is = logged_line keep worlds history d line g in
    let rise = rising keep history d log in
    record {
      tiles = subst (λ ls. AreTilesOfRuns [] line.pages ls) (sym is) (subst (λ ps. AreTilesOfRuns [] ps (logged_from 0 (pages_by keep history 0 turns))) (sym (pages_line keep worlds history d line g))
          (tiles_by keep 0 0 (length history) history turns [] log.some (omega arith) rise (omega arith) log.follow refl));
      distinct = subst (EachPair (λ (a b : LoggedLine). a.entry.id ≢ b.entry.id)) (sym is) (distinct_lines keep history turns log.some rise log.follow log.few);
      complete = λ k total p at whole. ends_whole keep history d line k total p log.some log.follow (tile_at keep worlds history d line g k p at) at whole;
      fresh = λ k total last p at whole number i j asking asked taking taken here next asks there further takes.
          let a = tile_at keep worlds history d line g k p at in
          let same = fresh_number keep history d line k total last p log.some a at whole number in
          let low = (g.asked k a.t a.at i asking here asks.0).0 in
          let high = (g.over k a.t a.at (j + 1) taken further takes.1).0 in
          (omega arith, omega arith);
      purged = λ k last p at after count one number j taking taken there further takes.
          let a = tile_at keep worlds history d line g k p at in
          let gone = purged_number keep history d line k p a at after in
          let same = last_number_is (ends_at keep 0 (turns_of a.front)) last (le_small a.within a.small) (subst (λ id. IsLastNumber id last) a.before number) in
          let high = (g.over k a.t a.at (j + 1) taken further takes.1).1 in
          omega arith;
      oldest = λ k first p at after number i j asking asked taking taken here next asks there further takes.
          let a = tile_at keep worlds history d line g k p at in
          let same = oldest_number keep history d line k first p log.follow a at after number in
          let low = (g.asked k a.t a.at i asking here asks.0).1 in
          let high = (g.over k a.t a.at (j + 1) taken further takes.1).1 in
          (omega arith, omega arith);
      following = λ k last p at one number i asking asked here next asks.
          let a = tile_at keep worlds history d line g k p at in
          let after = ap (λ (l : PageLine). l.after) (a.page p at) in
          let is_asked = asked_number (ends_at keep 0 (turns_of a.front)) (a.t.given - keep) last (le_small a.within a.small) one (subst (λ id. IsLastNumber id last) (sym after) number) in
          let low = (g.asked k a.t a.at i asking here asks.0).1 in
          let same = is_asked.0 in
          let newer = is_asked.1 in
          omega arith;
      known = λ k last p at number j taking taken there further takes.
          let a = tile_at keep worlds history d line g k p at in
          let within = end_within keep (ends_at keep 0 (turns_of a.front)) (turn_of a.t) in
          let same = last_number_is (end_of keep (ends_at keep 0 (turns_of a.front)) (turn_of a.t)) last (le_small within a.small) (subst (λ id. IsLastNumber id last) a.through number) in
          let high = (g.over k a.t a.at (j + 1) taken further takes.1).0 in
          through_both same within high;
      last = g.ends;
      answered = λ direct. absurd (false≢true (sym direct ∙ wire));
    }
  where
    through_both : {e last given high : ℕ} → e ≡ last → e ≤ given → given ≤ high → last ≤ high
    through_both same within high = omega arith
