-- Laws 4 and 5 of version 2: the log of each device is runs of its account's history, and its pages are tiles of it.
use Rattle.std.proofs.Common.{◌≡◌, ◌≢◌, ℕ, zero, suc, add-one, ◌+◌, ◌-◌, ◌<◌, ◌≤◌, min, max, true, cond, leb, List, [], ◌∷◌, ◌++◌, Some, None, is_some, length, drop, map, refl, sym, ap, subst, ◌∙◌, arith, inl, inr}
use Rattle.std.proofs.lemmas.Bool.{cases_Bool, leb-false, leb-true}
use Rattle.std.proofs.lemmas.List.{append_assoc, append-nil, drop-map, drop_at, length-append, length-map, map-append}
use Rattle.std.proofs.lemmas.Option.{none-some, same_Some, slice_get_within}
use Rattle.std.specs.List.{count_by, slice_get}
use Rattle.mam_archive.proofs.IdDigits.{id_of_same}
use Rattle.mam_archive.proofs.NumberedEntries.{FollowFrom}
use Rattle.mam_archive.specs.Entries.{EntryView, entry_numbered, newest}
use Rattle.mam_archive.specs.Ids.{id_of}
use Rattle.base_lemmas.proofs.Lists.{AllByRecursion-weaker}
use Rattle.cmd_direct.proofs.NextPages.{id_after}
use Rattle.cmd_direct.proofs.PageRuns.{ArePaged, IsPageOf, IsTurnOf, completed, front_at, history_at, history_few, history_follows, last_at, last_grows, page_of_step, paged_at, pages_at, turn_of}
use Rattle.cmd_direct.proofs.TurnRuns.{IsIn, each_by, ids_differ, ids_from, in_history, kept_in, last_number_by, line_entry, line_id, lines_by, number_follow, numbers_within, pairs_unmap, runs_by}
use Rattle.cmd_direct.proofs.TurnTiles.{before_turns, complete_end, complete_lines, first_number_is, last_lines_by, last_number_is, page_at_turn, tiles_by, total_whole, whole_by}
use Rattle.cmd_direct.proofs.Turns.{AreRising, Turn, end_of, ends_at, ends_at-append, ends_bounds, follow_span, id_of_entry, length_span, newest_span, page_by, rising_append, rising_bounds, rising_split, run_by, run_by-append, span, start_of}
use Rattle.cmd_direct.specs.Direct.{device_line, device_with, pages_of, takes_of}
use Rattle.cmd_direct.specs.History.{world_after, worlds_from, worlds_of}
use Rattle.base_io.specs.Names.{is_among}
use Rattle.mam_pages.specs.Kept.{first_number, last_number, last_number_or}
use Rattle.cmd_report.proofs.Pairs.{pairs_map}
use Rattle.cmd_report.specs.EntryLines.{EntryLineView}
use Rattle.cmd_report.specs.Lawful.{EachPair, EndsWith, last_logged}
use Rattle.cmd_report.specs.LawfulRuns.{ArePagesOfRuns, AreTilesOfRuns, EndsWhole, IsFirstNumber, IsFreshTo, IsGivenBy, IsKeptWhenAsked, IsLastNumber, IsOldestKept, IsPurgedBy, IsRunsOf, ids_logged, lines_of_page, logged_before}
use Rattle.cmd_report.specs.Lines.{entry_line, logged_from, page_line}
use Rattle.cmd_report.specs.Reports.{DeviceView}
use Rattle.cmd_report.specs.Takes.{archive_of}
use Rattle.cmd_report.specs.Worlds.{ReportWorld}
use Rattle.cmd_report.specs.declared.report.LoggedLine.{LoggedLine}
use Rattle.cmd_report.specs.declared.report.PageLine.{PageLine}
use Rattle.cmd_schedule.proofs.StandingSteps.{AreStanding}
use Rattle.cmd_schedule.specs.Contents.{home_of, is_catchup_of}
use Rattle.cmd_schedule.specs.Schedules.{ScheduleView, steps_of}
use Rattle.cmd_schedule.specs.declared.schedule.Step.{Step}

-- Law 4.

runs_of_turns : (keep : ℕ) (all : List Step) (name : List ℕ) (turns : List Turn) → 1 ≤ keep → AreRising 0 (length (history_at all name)) turns →
    IsRunsOf keep (history_at all name) (device_with all name (pages_at keep all name turns))
runs_of_turns keep all name turns some rise =
    let history = history_at all name in
    let high = length history in
    let run = run_by keep history 0 turns in
    let lines = logged_from 0 (pages_at keep all name turns) in
    let follow = history_follows all name in
    let low : 0 ≤ 0 = omega arith in
    let long : high ≤ high = omega arith in
    let same : map line_entry lines ≡ map entry_line run = lines_by keep 0 0 history turns in
    let ids : map line_id lines ≡ map id_of_entry run = ids_from lines run same in
    let last : last_number run ≡ ends_at keep 0 turns = last_number_by keep 0 0 high history turns some low rise long follow in
    record {
      entries = run;
      lines = same;
      each = each_by (λ e. entry_numbered e.number history ≡ Some e) keep 0 history turns (in_history history follow);
      runs = runs_by keep 0 0 high 0 history turns some low rise long follow refl refl;
      kept = AllByRecursion-weaker (IsIn (ends_at keep 0 turns) run) (λ e. e.number ≤ last_number run → is_among (id_of e.number) (ids_logged lines) ≡ true)
          (λ e known within. ap (is_among (id_of e.number)) ids ∙ known (subst (λ k. e.number ≤ k) last within)) (drop (high - keep) history)
          (kept_in keep high history turns some rise long follow);
      apart = tt;
      held = tt;
    }

runs_of_pages : (keep : ℕ) (all : List Step) (name : List ℕ) → 1 ≤ keep → ArePaged keep all name all → IsRunsOf keep (history_at all name) (device_line keep all name)
runs_of_pages keep all name some known =
    subst (λ pages. IsRunsOf keep (history_at all name) (device_with all name pages)) (sym known.are) (runs_of_turns keep all name known.turns some known.rise)

-- each device's log is runs of its account's history
pub runs_right : (keep : ℕ) (all : List Step) (name : List ℕ) → 1 ≤ keep → AreStanding [] all → length all ≤ 100000 →
    IsRunsOf keep (archive_of (home_of all name) (takes_of all all)) (device_line keep all name)
runs_right keep all name some stand few = runs_of_pages keep all name some (paged_at keep all name all [] (append-nil all) stand few some)

-- Moves.

first_world : (keep : ℕ) (all before steps : List Step) → slice_get (worlds_from keep all before steps) zero ≡ Some (world_after keep all before)
first_world keep all before [] = refl
first_world keep all before (step ∷ steps) = refl

-- a step of these, and the worlds before and after it
pub record IsMove (keep : ℕ) (all whole : List Step) (world next : ReportWorld) : Type 1 where
  pub before : List Step
  pub step : Step
  pub rest : List Step
  pub joined : before ++ step ∷ rest ≡ whole
  pub was : world_after keep all before ≡ world
  pub is : world_after keep all (before ++ step ∷ []) ≡ next

pub move_at : (keep : ℕ) (all before steps : List Step) (i : ℕ) (world next : ReportWorld) → slice_get (worlds_from keep all before steps) i ≡ Some world →
    slice_get (worlds_from keep all before steps) (suc i) ≡ Some next → IsMove keep all (before ++ steps) world next
move_at keep all before [] i world next at following = absurd (none-some next following)
move_at keep all before (step ∷ steps) zero world next at following = record {
  before = before;
  step = step;
  rest = steps;
  joined = refl;
  was = same_Some (world_after keep all before) world at;
  is = same_Some (world_after keep all (before ++ step ∷ [])) next (sym (first_world keep all (before ++ step ∷ []) steps) ∙ following);
}
move_at keep all before (step ∷ steps) (suc i) world next at following =
    rw (append_assoc before (step ∷ []) steps) at (move_at keep all (before ++ step ∷ []) steps i world next at following)

pub ends_with : (keep : ℕ) (all before steps : List Step) (device : DeviceView) → length (pages_of keep all device.name (before ++ steps)) ≡ length device.pages →
    EndsWith (worlds_from keep all before steps) device
ends_with keep all before [] device same = rw append-nil at same
ends_with keep all before (x ∷ []) device same = same
ends_with keep all before (x ∷ y ∷ steps) device same =
    ends_with keep all (before ++ x ∷ []) (y ∷ steps) device (rw (append_assoc before (x ∷ []) (y ∷ steps)) same)

-- in a direct run as many pages were asked for as were taken over
pub asked_as_taken : (keep : ℕ) (all : List Step) (name : List ℕ) (world next : ReportWorld) → IsMove keep all all world next →
    (world.asked name ≡ length (world.pages name)) × (next.asked name ≡ length (next.pages name))
asked_as_taken keep all name world next move = (
  ap (λ (w : ReportWorld). w.asked name) (sym move.was) ∙ ap (λ (w : ReportWorld). length (w.pages name)) move.was,
  ap (λ (w : ReportWorld). w.asked name) (sym move.is) ∙ ap (λ (w : ReportWorld). length (w.pages name)) move.is,
)

-- the turn of a page that a move brought
pub page_of_move : (keep : ℕ) (all : List Step) (name : List ℕ) (world next : ReportWorld) (move : IsMove keep all all world next) (k : ℕ) → 1 ≤ keep → AreStanding [] all →
    length all ≤ 100000 → length (world.pages name) ≤ k → k < length (next.pages name) → IsPageOf keep all name move.before k
page_of_move keep all name world next move k some stand few low high =
    let was : length (pages_of keep all name move.before) ≡ length (world.pages name) = ap (λ (w : ReportWorld). length (w.pages name)) move.was in
    let is_now : length (pages_of keep all name (move.before ++ move.step ∷ [])) ≡ length (next.pages name) = ap (λ (w : ReportWorld). length (w.pages name)) move.is in
    page_of_step keep all name move.before move.rest move.step k move.joined stand few some (omega arith) (omega arith)

-- what an archive had before the move that brought a page is no later than what it had for the page
pub no_later : {was before last : ℕ} → was ≡ before → before ≡ last → was ≤ last
no_later is same = omega arith

-- and what it had behind that move is no earlier
pub no_earlier : {now after before last : ℕ} → now ≡ after → before ≡ last → before ≤ after → last ≤ now
no_earlier is same grows = omega arith

-- what is no greater than a small number is small
le_small : {a b : ℕ} → a ≤ b → b ≤ 4294967295 → a ≤ 4294967295
le_small low small = omega arith

-- The numbers that an archive keeps.

last_of_span : (keep last : ℕ) (history : List EntryView) → 1 ≤ keep → last ≤ length history → FollowFrom 1 history → last_number (span (last - keep) last history) ≡ last
last_of_span keep last history some long follow =
    let entries = span (last - keep) last history in
    let size : length entries ≡ last - (last - keep) = length_span (last - keep) last history long in
    let end : (last - keep) + length entries ≡ last = omega arith in
    ap (last_number_or 0) (sym (append-nil entries))
    ∙ number_follow 0 (last - keep) entries [] (follow_span (last - keep) last history follow) (λ none. nothing_purged (length entries) last keep some size none)
    ∙ end
  where
    nothing_purged : (size last keep : ℕ) → 1 ≤ keep → size ≡ last - (last - keep) → size ≡ 0 → 0 ≡ last - keep
    nothing_purged size last keep some is none = omega arith

pub first_follow : (s : ℕ) (es : List EntryView) → FollowFrom (suc s) es → (length es ≡ 0 → s ≡ 0) → first_number es ≡ suc s
first_follow s [] follow empty = ap suc (sym (empty refl))
first_follow s (e ∷ es) follow empty = follow.0

first_of_span : (keep last : ℕ) (history : List EntryView) → 1 ≤ keep → last ≤ length history → FollowFrom 1 history → first_number (span (last - keep) last history) ≡ suc (last - keep)
first_of_span keep last history some long follow =
    let entries = span (last - keep) last history in
    let size : length entries ≡ last - (last - keep) = length_span (last - keep) last history long in
    first_follow (last - keep) entries (follow_span (last - keep) last history follow) (λ none. nothing_purged (length entries) last keep some size none)
  where
    nothing_purged : (size last keep : ℕ) → 1 ≤ keep → size ≡ last - (last - keep) → size ≡ 0 → last - keep ≡ 0
    nothing_purged size last keep some is none = omega arith

-- the archive of a world, as what is kept of the history
pub kept_of_world : (keep : ℕ) (all : List Step) (name : List ℕ) (before rest : List Step) (world : ReportWorld) → before ++ rest ≡ all → world_after keep all before ≡ world →
    world.archive (home_of all name) ≡ span (last_at all name before - keep) (last_at all name before) (history_at all name)
kept_of_world keep all name before rest world whole is =
    let front = front_at all name before rest whole in
    ap (λ (w : ReportWorld). w.archive (home_of all name)) (sym is)
    ∙ ap (newest keep) front.same
    ∙ newest_span keep (last_at all name before) (history_at all name) front.within

pub last_of_world : (keep : ℕ) (all : List Step) (name : List ℕ) (before rest : List Step) (world : ReportWorld) → 1 ≤ keep → before ++ rest ≡ all →
    world_after keep all before ≡ world → last_number (world.archive (home_of all name)) ≡ last_at all name before
last_of_world keep all name before rest world some whole is =
    let front = front_at all name before rest whole in
    ap last_number (kept_of_world keep all name before rest world whole is)
    ∙ last_of_span keep (last_at all name before) (history_at all name) some front.within (history_follows all name)

pub first_of_world : (keep : ℕ) (all : List Step) (name : List ℕ) (before rest : List Step) (world : ReportWorld) → 1 ≤ keep → before ++ rest ≡ all →
    world_after keep all before ≡ world → first_number (world.archive (home_of all name)) ≡ suc (last_at all name before - keep)
first_of_world keep all name before rest world some whole is =
    let front = front_at all name before rest whole in
    ap first_number (kept_of_world keep all name before rest world whole is)
    ∙ first_of_span keep (last_at all name before) (history_at all name) some front.within (history_follows all name)

-- A page's turn.

pub line_of_turn : (keep : ℕ) (all : List Step) (name : List ℕ) (k : ℕ) (t : IsTurnOf keep all name k) (line : PageLine) →
    slice_get (map page_line (pages_of keep all name all)) k ≡ Some line → page_line (page_by keep (history_at all name) (ends_at keep 0 t.front) t.turn) ≡ line
line_of_turn keep all name k t line at =
    let history = history_at all name in
    let lines = map page_line (pages_at keep all name (t.front ++ t.turn ∷ t.rest)) in
    same_Some (page_line (page_by keep history (ends_at keep 0 t.front) t.turn)) line
    (sym (page_at_turn keep 0 history t.front t.rest t.turn) ∙ ap (slice_get lines) t.many ∙ ap (λ pages. slice_get (map page_line pages) k) (sym t.are) ∙ at)

pub before_of_turn : (keep : ℕ) (all : List Step) (name : List ℕ) (k : ℕ) (t : IsTurnOf keep all name k) →
    logged_before k (device_line keep all name) ≡ logged_from 0 (pages_at keep all name t.front)
before_of_turn keep all name k t =
    ap (λ pages. logged_before k (device_with all name pages)) t.are ∙ before_turns keep k (history_at all name) t.front (t.turn ∷ t.rest) t.many

pub through_turn : (keep : ℕ) (all : List Step) (name : List ℕ) (k : ℕ) (t : IsTurnOf keep all name k) →
    logged_before (k + 1) (device_line keep all name) ≡ logged_from 0 (pages_at keep all name (t.front ++ t.turn ∷ []))
through_turn keep all name k t =
    let size : length (t.front ++ t.turn ∷ []) ≡ k + 1 = omega (arith, length-append t.front (t.turn ∷ []), t.many) in
    ap (λ pages. logged_before (k + 1) (device_with all name pages)) t.are
    ∙ ap (λ ts. logged_before (k + 1) (device_with all name (pages_at keep all name ts))) (sym (append_assoc t.front (t.turn ∷ []) t.rest))
    ∙ before_turns keep (k + 1) (history_at all name) (t.front ++ t.turn ∷ []) t.rest size

-- what is known up to a page's turn
pub record Reaches (keep : ℕ) (all : List Step) (name : List ℕ) (k : ℕ) (t : IsTurnOf keep all name k) : Type 0 where
  pub long : t.turn.last ≤ length (history_at all name)
  pub small : t.turn.last ≤ 4294967295
  pub front : AreRising 0 t.turn.last t.front
  pub rise : AreRising 0 t.turn.last (t.front ++ t.turn ∷ [])
  pub within : ends_at keep 0 t.front ≤ t.turn.last
  pub before : last_logged (logged_before k (device_line keep all name)) ≡ id_after (ends_at keep 0 t.front)
  pub through : last_logged (logged_before (k + 1) (device_line keep all name)) ≡ id_after (end_of keep (ends_at keep 0 t.front) t.turn)

pub reaches : (keep : ℕ) (all : List Step) (name : List ℕ) (k : ℕ) (t : IsTurnOf keep all name k) → 1 ≤ keep → length all ≤ 100000 → Reaches keep all name k t
reaches keep all name k t some few =
    let history = history_at all name in
    let high = length history in
    let last = t.turn.last in
    let follow = history_follows all name in
    let parts = rising_split 0 high t.front t.rest t.turn t.rise in
    let long : last ≤ high = rising_bounds last high t.rest parts.2 in
    let bounds = ends_bounds keep 0 0 last t.front some (omega arith) parts.0 in
    let single : AreRising last last (t.turn ∷ []) = (omega arith, parts.1, omega arith) in
    let rise = rising_append 0 last last t.front (t.turn ∷ []) parts.0 single in
    record {
      long = long;
      small = omega (arith, history_few all name few);
      front = parts.0;
      rise = rise;
      within = bounds.1;
      before = ap last_logged (before_of_turn keep all name k t) ∙ last_lines_by keep last history t.front some parts.0 long follow;
      through = ap last_logged (through_turn keep all name k t) ∙ last_lines_by keep last history (t.front ++ t.turn ∷ []) some rise long follow
          ∙ ap id_after (ends_at-append keep 0 t.front (t.turn ∷ []));
    }

-- a complete page reaches the archive's last number
pub complete_turn : (keep : ℕ) (all : List Step) (name : List ℕ) (k total : ℕ) (t : IsTurnOf keep all name k) (line : PageLine) → 1 ≤ keep → length all ≤ 100000 →
    slice_get (map page_line (pages_of keep all name all)) k ≡ Some line → line.total ≡ Some total →
    (end_of keep (ends_at keep 0 t.front) t.turn ≡ t.turn.last) × (min t.turn.last keep ≡ total)
complete_turn keep all name k total t line some few at is =
    let n = ends_at keep 0 t.front in
    let known = reaches keep all name k t some few in
    let whole = total_whole (leb (t.turn.last - start_of keep n t.turn) t.turn.most) (min t.turn.last keep) total (ap (λ (l : PageLine). l.total) (line_of_turn keep all name k t line at) ∙ is) in
    (complete_end keep n t.turn some known.within whole.0, whole.1)

-- Law 5.

position_of_line : (keep : ℕ) (all : List Step) (name : List ℕ) (k : ℕ) (line : PageLine) → slice_get (map page_line (pages_of keep all name all)) k ≡ Some line →
    k < length (pages_of keep all name all)
position_of_line keep all name k line at =
    omega (arith, slice_get_within (map page_line (pages_of keep all name all)) k line at, length-map (pages_of keep all name all) page_line)

whole_at : (keep : ℕ) (all : List Step) (name : List ℕ) (k total : ℕ) (line : PageLine) (t : IsTurnOf keep all name k) → 1 ≤ keep → length all ≤ 100000 →
    slice_get (map page_line (pages_of keep all name all)) k ≡ Some line → line.total ≡ Some total →
    EndsWhole keep (history_at all name) (logged_before (k + 1) (device_line keep all name)) total
whole_at keep all name k total line t some few at is =
    let history = history_at all name in
    let known = reaches keep all name k t some few in
    let complete = complete_turn keep all name k total t line some few at is in
    let end : ends_at keep 0 (t.front ++ t.turn ∷ []) ≡ t.turn.last = ends_at-append keep 0 t.front (t.turn ∷ []) ∙ complete.0 in
    let whole = whole_by keep history (t.front ++ t.turn ∷ []) t.turn.last some known.rise known.long known.small (history_follows all name) end in
    subst (λ m. EndsWhole keep history (logged_before (k + 1) (device_line keep all name)) m) complete.1
    (subst (λ lines. EndsWhole keep history lines (min t.turn.last keep)) (sym (through_turn keep all name k t)) whole)

ends_whole : (keep : ℕ) (all : List Step) (name : List ℕ) → 1 ≤ keep → AreStanding [] all → length all ≤ 100000 → (k total : ℕ) (line : PageLine) →
    slice_get (map page_line (pages_of keep all name all)) k ≡ Some line → line.total ≡ Some total →
    EndsWhole keep (history_at all name) (logged_before (k + 1) (device_line keep all name)) total
ends_whole keep all name some stand few k total line at is =
    whole_at keep all name k total line (turn_of keep all name k stand few some (position_of_line keep all name k line at)) some few at is

-- the number of the last entry logged with a complete page is the archive's last number of the page's moment
fresh_last : (keep : ℕ) (all : List Step) (name : List ℕ) (before : List Step) (k total last : ℕ) (line : PageLine) → 1 ≤ keep → length all ≤ 100000 →
    IsPageOf keep all name before k → slice_get (map page_line (pages_of keep all name all)) k ≡ Some line → line.total ≡ Some total →
    IsLastNumber (last_logged (logged_before (k + 1) (device_line keep all name))) last → last_at all name before ≡ last
fresh_last keep all name before k total last line some few page at is number =
    let t = page.turn_of in
    let known = reaches keep all name k t some few in
    let complete = complete_turn keep all name k total t line some few at is in
    sym page.last ∙ last_number_is t.turn.last last known.small (subst (λ id. IsLastNumber id last) (known.through ∙ ap id_after complete.0) number)

is_fresh_to : (keep : ℕ) (all : List Step) (name : List ℕ) → 1 ≤ keep → AreStanding [] all → length all ≤ 100000 → (k total last : ℕ) (line : PageLine) →
    slice_get (map page_line (pages_of keep all name all)) k ≡ Some line → line.total ≡ Some total →
    IsLastNumber (last_logged (logged_before (k + 1) (device_line keep all name))) last → IsFreshTo (worlds_of keep all) (device_line keep all name) k last
is_fresh_to keep all name some stand few k total last line at is number i j asking asked taking taken here next asks there further takes =
    let ask = move_at keep all [] all i asking asked here (rw add-one at next) in
    let take = move_at keep all [] all j taking taken there (rw add-one at further) in
    let counts = asked_as_taken keep all name asking asked ask in
    let first = page_of_move keep all name asking asked ask k some stand few (omega (arith, counts.0, asks.0)) (omega (arith, counts.1, asks.1)) in
    let second = page_of_move keep all name taking taken take k some stand few takes.0 takes.1 in
    let low : last_at all name ask.before ≡ last = fresh_last keep all name ask.before k total last line some few first at is number in
    let high : last_at all name take.before ≡ last = fresh_last keep all name take.before k total last line some few second at is number in
    let was : last_number (asking.archive (home_of all name)) ≡ last_at all name ask.before =
    last_of_world keep all name ask.before (ask.step ∷ ask.rest) asking some ask.joined ask.was in
    let now : last_number (taken.archive (home_of all name)) ≡ last_at all name (take.before ++ take.step ∷ []) =
    last_of_world keep all name (take.before ++ take.step ∷ []) take.rest taken some (append_assoc take.before (take.step ∷ []) take.rest ∙ take.joined) take.is in
    let grows : last_at all name take.before ≤ last_at all name (take.before ++ take.step ∷ []) = last_grows all name take.before (take.step ∷ []) in
    (no_later was low, no_earlier now high grows)

pub asked_without : (n old : ℕ) → cond (leb n old) None (Some (id_of n)) ≡ None → n ≤ old
asked_without n old none =
    elim (cases_Bool (leb n old)) [
      | inl gone ↦ leb-true n old gone
      | inr there ↦ absurd (let given : Some (id_of n) ≡ None = rw there at none in none-some (id_of n) (sym given))
    ]

purged_number : (keep : ℕ) (all : List Step) (name : List ℕ) (before : List Step) (k last : ℕ) (line : PageLine) → 1 ≤ keep → length all ≤ 100000 →
    IsPageOf keep all name before k → slice_get (map page_line (pages_of keep all name all)) k ≡ Some line → line.after ≡ None →
    IsLastNumber (last_logged (logged_before k (device_line keep all name))) last → last ≤ last_at all name before - keep
purged_number keep all name before k last line some few page at after number =
    let t = page.turn_of in
    let n = ends_at keep 0 t.front in
    let known = reaches keep all name k t some few in
    let gone : n ≤ t.turn.last - keep = asked_without n (t.turn.last - keep) (ap (λ (l : PageLine). l.after) (line_of_turn keep all name k t line at) ∙ after) in
    let same : n ≡ last = last_number_is n last (le_small known.within known.small) (subst (λ id. IsLastNumber id last) known.before number) in
    below keep page.last same gone
  where
    below : (keep : ℕ) {n last given before : ℕ} → given ≡ before → n ≡ last → n ≤ given - keep → last ≤ before - keep
    below keep at same gone = omega arith

is_purged_by : (keep : ℕ) (all : List Step) (name : List ℕ) → 1 ≤ keep → AreStanding [] all → length all ≤ 100000 → (k last : ℕ) (line : PageLine) →
    slice_get (map page_line (pages_of keep all name all)) k ≡ Some line → line.after ≡ None → IsLastNumber (last_logged (logged_before k (device_line keep all name))) last →
    IsPurgedBy (worlds_of keep all) (device_line keep all name) k last
is_purged_by keep all name some stand few k last line at after number j taking taken there further takes =
    let take = move_at keep all [] all j taking taken there (rw add-one at further) in
    let page = page_of_move keep all name taking taken take k some stand few takes.0 takes.1 in
    let gone : last ≤ last_at all name take.before - keep = purged_number keep all name take.before k last line some few page at after number in
    let now : first_number (taken.archive (home_of all name)) ≡ suc (last_at all name (take.before ++ take.step ∷ []) - keep) =
    first_of_world keep all name (take.before ++ take.step ∷ []) take.rest taken some (append_assoc take.before (take.step ∷ []) take.rest ∙ take.joined) take.is in
    let grows : last_at all name take.before ≤ last_at all name (take.before ++ take.step ∷ []) = last_grows all name take.before (take.step ∷ []) in
    below keep now gone grows
  where
    below : (keep : ℕ) {first next last before : ℕ} → first ≡ suc (next - keep) → last ≤ before - keep → before ≤ next → last < first
    below keep is gone grows = omega arith

-- the ids of a page's lines
ids_of_page : (keep : ℕ) (all : List Step) (name : List ℕ) (k : ℕ) (t : IsTurnOf keep all name k) → map line_id (lines_of_page k (device_line keep all name))
    ≡ map id_of_entry (span (start_of keep (ends_at keep 0 t.front) t.turn) (end_of keep (ends_at keep 0 t.front) t.turn) (history_at all name))
ids_of_page keep all name k t =
    let history = history_at all name in
    let n = ends_at keep 0 t.front in
    let front = run_by keep history 0 t.front in
    let entries = span (start_of keep n t.turn) (end_of keep n t.turn) history in
    let turns = t.front ++ t.turn ∷ [] in
    let before = logged_from 0 (pages_at keep all name t.front) in
    let lines = logged_from 0 (pages_at keep all name turns) in
    let count = length (logged_before k (device_line keep all name)) in
    let ids_before : map line_id before ≡ map id_of_entry front = ids_from before front (lines_by keep 0 0 history t.front) in
    let ids : map line_id lines ≡ map id_of_entry (run_by keep history 0 turns) = ids_from lines (run_by keep history 0 turns) (lines_by keep 0 0 history turns) in
    let joined : run_by keep history 0 turns ≡ front ++ entries = run_by-append keep 0 history t.front (t.turn ∷ []) ∙ ap (λ es. front ++ es) (append-nil entries) in
    let size : count ≡ length (map id_of_entry front) =
    ap length (before_of_turn keep all name k t) ∙ sym (length-map before line_id) ∙ ap length ids_before in
    sym (drop-map line_id count (logged_before (k + 1) (device_line keep all name)))
    ∙ ap (λ ls. drop count (map line_id ls)) (through_turn keep all name k t)
    ∙ ap (λ c. drop c (map line_id lines)) size
    ∙ ap (drop (length (map id_of_entry front))) (ids ∙ ap (map id_of_entry) joined ∙ map-append id_of_entry front entries)
    ∙ drop_at (map id_of_entry front) (map id_of_entry entries) (length (map id_of_entry front)) refl

-- a page that was asked for without an id begins behind what was purged
oldest_number : (keep : ℕ) (all : List Step) (name : List ℕ) (before : List Step) (k first : ℕ) (line : PageLine) → 1 ≤ keep → length all ≤ 100000 →
    IsPageOf keep all name before k → slice_get (map page_line (pages_of keep all name all)) k ≡ Some line → line.after ≡ None →
    IsFirstNumber (lines_of_page k (device_line keep all name)) first → first ≡ suc (last_at all name before - keep)
oldest_number keep all name before k first line some few page at after number =
    let t = page.turn_of in
    let n = ends_at keep 0 t.front in
    let s = start_of keep n t.turn in
    let known = reaches keep all name k t some few in
    let gone : n ≤ t.turn.last - keep = asked_without n (t.turn.last - keep) (ap (λ (l : PageLine). l.after) (line_of_turn keep all name k t line at) ∙ after) in
    let same : first ≡ suc s =
    first_number_is s first (lines_of_page k (device_line keep all name)) (span s (end_of keep n t.turn) (history_at all name)) (start_small keep n t.turn.last known.within known.small)
    (ids_of_page keep all name k t) (follow_span s (end_of keep n t.turn) (history_at all name) (history_follows all name)) number in
    starts keep page.last same gone
  where
    start_small : (keep n last : ℕ) → n ≤ last → last ≤ 4294967295 → max n (last - keep) ≤ 4294967295
    start_small keep n last within small = omega arith

    starts : (keep : ℕ) {n first last before : ℕ} → last ≡ before → first ≡ suc (max n (last - keep)) → n ≤ last - keep → first ≡ suc (before - keep)
    starts keep at same gone = omega arith

is_oldest_kept : (keep : ℕ) (all : List Step) (name : List ℕ) → 1 ≤ keep → AreStanding [] all → length all ≤ 100000 → (k first : ℕ) (line : PageLine) →
    slice_get (map page_line (pages_of keep all name all)) k ≡ Some line → line.after ≡ None → IsFirstNumber (lines_of_page k (device_line keep all name)) first →
    IsOldestKept (worlds_of keep all) (device_line keep all name) k first
is_oldest_kept keep all name some stand few k first line at after number i j asking asked taking taken here next asks there further takes =
    let ask = move_at keep all [] all i asking asked here (rw add-one at next) in
    let take = move_at keep all [] all j taking taken there (rw add-one at further) in
    let counts = asked_as_taken keep all name asking asked ask in
    let one = page_of_move keep all name asking asked ask k some stand few (omega (arith, counts.0, asks.0)) (omega (arith, counts.1, asks.1)) in
    let two = page_of_move keep all name taking taken take k some stand few takes.0 takes.1 in
    let low : first ≡ suc (last_at all name ask.before - keep) = oldest_number keep all name ask.before k first line some few one at after number in
    let high : first ≡ suc (last_at all name take.before - keep) = oldest_number keep all name take.before k first line some few two at after number in
    let was : first_number (asking.archive (home_of all name)) ≡ suc (last_at all name ask.before - keep) =
    first_of_world keep all name ask.before (ask.step ∷ ask.rest) asking some ask.joined ask.was in
    let now : first_number (taken.archive (home_of all name)) ≡ suc (last_at all name (take.before ++ take.step ∷ []) - keep) =
    first_of_world keep all name (take.before ++ take.step ∷ []) take.rest taken some (append_assoc take.before (take.step ∷ []) take.rest ∙ take.joined) take.is in
    let grows : last_at all name take.before ≤ last_at all name (take.before ++ take.step ∷ []) = last_grows all name take.before (take.step ∷ []) in
    (no_later was (sym low), up_to keep now high grows)
  where
    up_to : (keep : ℕ) {now next first there : ℕ} → now ≡ suc (next - keep) → first ≡ suc (there - keep) → there ≤ next → first ≤ now
    up_to keep is same grows = omega arith

-- the number behind which a page was asked for
pub asked_number : (n old last : ℕ) → n ≤ 4294967295 → 1 ≤ last → IsLastNumber (cond (leb n old) None (Some (id_of n))) last → (n ≡ last) × (old < n)
asked_number n old last small one is =
    elim (cases_Bool (leb n old)) [
      | inl gone ↦ absurd (let none : last ≡ 0 = subst (λ b. IsLastNumber (cond b None (Some (id_of n))) last) gone is in omega arith)
      | inr there ↦
          let number : IsLastNumber (Some (id_of n)) last = subst (λ b. IsLastNumber (cond b None (Some (id_of n))) last) there is in
          let newer : old < n = leb-false n old there in
          let high : last ≤ 4294967295 = number.1 in
          (id_of_same n last (omega arith) (omega arith) number.2, newer)
    ]

after_number : (keep : ℕ) (all : List Step) (name : List ℕ) (before : List Step) (k last : ℕ) (line : PageLine) → 1 ≤ keep → length all ≤ 100000 →
    IsPageOf keep all name before k → slice_get (map page_line (pages_of keep all name all)) k ≡ Some line → 1 ≤ last → IsLastNumber line.after last →
    last_at all name before - keep < last
after_number keep all name before k last line some few page at one number =
    let t = page.turn_of in
    let n = ends_at keep 0 t.front in
    let known = reaches keep all name k t some few in
    let after = ap (λ (l : PageLine). l.after) (line_of_turn keep all name k t line at) in
    let asked = asked_number n (t.turn.last - keep) last (le_small known.within known.small) one (subst (λ id. IsLastNumber id last) (sym after) number) in
    above keep page.last asked.0 asked.1
  where
    above : (keep : ℕ) {n last given before : ℕ} → given ≡ before → n ≡ last → given - keep < n → before - keep < last
    above keep at same newer = omega arith

is_kept_when_asked : (keep : ℕ) (all : List Step) (name : List ℕ) → 1 ≤ keep → AreStanding [] all → length all ≤ 100000 → (k last : ℕ) (line : PageLine) →
    slice_get (map page_line (pages_of keep all name all)) k ≡ Some line → 1 ≤ last → IsLastNumber line.after last →
    IsKeptWhenAsked (worlds_of keep all) (device_line keep all name) k last
is_kept_when_asked keep all name some stand few k last line at one number i asking asked here next asks =
    let ask = move_at keep all [] all i asking asked here (rw add-one at next) in
    let counts = asked_as_taken keep all name asking asked ask in
    let page = page_of_move keep all name asking asked ask k some stand few (omega (arith, counts.0, asks.0)) (omega (arith, counts.1, asks.1)) in
    let newer : last_at all name ask.before - keep < last = after_number keep all name ask.before k last line some few page at one number in
    let was : first_number (asking.archive (home_of all name)) ≡ suc (last_at all name ask.before - keep) =
    first_of_world keep all name ask.before (ask.step ∷ ask.rest) asking some ask.joined ask.was in
    above was newer
  where
    above : {first purged last : ℕ} → first ≡ suc purged → purged < last → first ≤ last
    above is newer = omega arith

-- a page brings nothing behind the archive's last number
given_number : (keep : ℕ) (all : List Step) (name : List ℕ) (before : List Step) (k last : ℕ) → 1 ≤ keep → length all ≤ 100000 → IsPageOf keep all name before k →
    IsLastNumber (last_logged (logged_before (k + 1) (device_line keep all name))) last → last ≤ last_at all name before
given_number keep all name before k last some few page number =
    let t = page.turn_of in
    let n = ends_at keep 0 t.front in
    let known = reaches keep all name k t some few in
    let within : end_of keep n t.turn ≤ t.turn.last = min_below (start_of keep n t.turn + t.turn.most) t.turn.last in
    let same : end_of keep n t.turn ≡ last =
    last_number_is (end_of keep n t.turn) last (le_small within known.small) (subst (λ id. IsLastNumber id last) known.through number) in
    below page.last same within
  where
    min_below : (a b : ℕ) → min a b ≤ b
    min_below a b = omega arith

    below : {end last given before : ℕ} → given ≡ before → end ≡ last → end ≤ given → last ≤ before
    below at same within = omega arith

is_given_by : (keep : ℕ) (all : List Step) (name : List ℕ) → 1 ≤ keep → AreStanding [] all → length all ≤ 100000 → (k last : ℕ) →
    IsLastNumber (last_logged (logged_before (k + 1) (device_line keep all name))) last → IsGivenBy (worlds_of keep all) (device_line keep all name) k last
is_given_by keep all name some stand few k last number j taking taken there further takes =
    let take = move_at keep all [] all j taking taken there (rw add-one at further) in
    let page = page_of_move keep all name taking taken take k some stand few takes.0 takes.1 in
    let given : last ≤ last_at all name take.before = given_number keep all name take.before k last some few page number in
    let now : last_number (taken.archive (home_of all name)) ≡ last_at all name (take.before ++ take.step ∷ []) =
    last_of_world keep all name (take.before ++ take.step ∷ []) take.rest taken some (append_assoc take.before (take.step ∷ []) take.rest ∙ take.joined) take.is in
    let grows : last_at all name take.before ≤ last_at all name (take.before ++ take.step ∷ []) = last_grows all name take.before (take.step ∷ []) in
    up_to now given grows
  where
    up_to : {now next last there : ℕ} → now ≡ next → last ≤ there → there ≤ next → last ≤ now
    up_to is given grows = omega arith

tiles_of_turns : (keep : ℕ) (all : List Step) (name : List ℕ) (turns : List Turn) → 1 ≤ keep → AreRising 0 (length (history_at all name)) turns →
    AreTilesOfRuns [] (map page_line (pages_at keep all name turns)) (logged_from 0 (pages_at keep all name turns))
tiles_of_turns keep all name turns some rise =
    tiles_by keep 0 0 (length (history_at all name)) (history_at all name) turns [] some (omega arith) rise (omega arith) (history_follows all name) refl

distinct_of_turns : (keep : ℕ) (all : List Step) (name : List ℕ) (turns : List Turn) → 1 ≤ keep → length all ≤ 100000 → AreRising 0 (length (history_at all name)) turns →
    EachPair (λ a b. a.entry.id ≢ b.entry.id) (logged_from 0 (pages_at keep all name turns))
distinct_of_turns keep all name turns some few rise =
    let history = history_at all name in
    let high = length history in
    let follow = history_follows all name in
    let run = run_by keep history 0 turns in
    let lines = logged_from 0 (pages_at keep all name turns) in
    let runs = runs_by keep 0 0 high 0 history turns some (omega arith) rise (omega arith) follow refl refl in
    let apart : EachPair (λ a b. id_of a.number ≢ id_of b.number) run =
    ids_differ high run lines (omega (arith, history_few all name few)) (each_by (λ e. e.number ≤ high) keep 0 history turns (numbers_within history follow)) runs in
    let mapped : EachPair (λ (a b : EntryLineView). a.id ≢ b.id) (map entry_line run) = pairs_map (λ (a b : EntryLineView). a.id ≢ b.id) entry_line run apart in
    pairs_unmap (λ (a b : EntryLineView). a.id ≢ b.id) line_entry lines
    (subst (λ es. EachPair (λ (a b : EntryLineView). a.id ≢ b.id) es) (sym (lines_by keep 0 0 history turns)) mapped)

tiles_right : (keep : ℕ) (all : List Step) (name : List ℕ) → 1 ≤ keep → (known : ArePaged keep all name all) →
    AreTilesOfRuns [] (map page_line (pages_of keep all name all)) (logged_from 0 (pages_of keep all name all))
tiles_right keep all name some known =
    subst (λ pages. AreTilesOfRuns [] (map page_line pages) (logged_from 0 pages)) (sym known.are) (tiles_of_turns keep all name known.turns some known.rise)

pub distinct_right : (keep : ℕ) (all : List Step) (name : List ℕ) → 1 ≤ keep → length all ≤ 100000 → (known : ArePaged keep all name all) →
    EachPair (λ a b. a.entry.id ≢ b.entry.id) (logged_from 0 (pages_of keep all name all))
distinct_right keep all name some few known =
    subst (λ pages. EachPair (λ (a b : LoggedLine). a.entry.id ≢ b.entry.id) (logged_from 0 pages)) (sym known.are) (distinct_of_turns keep all name known.turns some few known.rise)

pub answered_right : (keep : ℕ) (s : ScheduleView) (all : List Step) (name : List ℕ) → steps_of s.lines ≡ all → (known : ArePaged keep all name all) →
    count_by (λ (page : PageLine). is_some page.total) (device_line keep all name).pages ≡ count_by (is_catchup_of name) (steps_of s.lines)
answered_right keep s all name steps known =
    complete_lines (pages_of keep all name all) ∙ ap completed known.are ∙ known.count ∙ ap (count_by (is_catchup_of name)) (sym steps)

-- each device's pages are tiles of its log, each as fresh as its account's archive
pub pages_right : (keep : ℕ) (s : ScheduleView) (all : List Step) (name : List ℕ) → steps_of s.lines ≡ all → 1 ≤ keep → AreStanding [] all → length all ≤ 100000 →
    ArePagesOfRuns keep (worlds_of keep all) s (archive_of (home_of all name) (takes_of all all)) (device_line keep all name)
pages_right keep s all name steps some stand few =
    let known = paged_at keep all name all [] (append-nil all) stand few some in
    record {
      tiles = tiles_right keep all name some known;
      distinct = distinct_right keep all name some few known;
      complete = λ k total line at is. ends_whole keep all name some stand few k total line at is;
      fresh = λ k total last line at is number. is_fresh_to keep all name some stand few k total last line at is number;
      purged = λ k last line at after count one number. is_purged_by keep all name some stand few k last line at after number;
      oldest = λ k first line at after number. is_oldest_kept keep all name some stand few k first line at after number;
      following = λ k last line at one number. is_kept_when_asked keep all name some stand few k last line at one number;
      known = λ k last line at number. is_given_by keep all name some stand few k last number;
      last = ends_with keep all [] all (device_line keep all name) (sym (length-map (pages_of keep all name all) page_line));
      answered = λ direct. answered_right keep s all name steps known;
    }
