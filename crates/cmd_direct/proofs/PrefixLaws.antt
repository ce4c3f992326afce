-- Laws 4 and 5 of version 1: where an archive keeps as many entries as can come, nothing is purged, so that the log of
-- each device is a prefix of its account's archive, and its pages are tiles of it.
use Rattle.std.proofs.Common.{◌≡◌, ℕ, zero, suc, add-one, ◌+◌, ◌-◌, ◌<◌, ◌≤◌, min, Bool, true, false, cond, leb, List, [], ◌∷◌, ◌++◌, Some, None, IfSome, length, take, drop, map, refl, sym, ap, subst, ◌∙◌, arith}
use Rattle.std.proofs.lemmas.Bool.{le-leb, lt-leb}
use Rattle.std.proofs.lemmas.List.{append_assoc, append-nil, drop_at, length-append, length-map, take-map, take_at}
use Rattle.std.specs.List.{AllByRecursion, slice_get}
use Rattle.mam_archive.proofs.Newest.{newest_few}
use Rattle.mam_archive.proofs.NumberedEntries.{FollowFrom}
use Rattle.mam_archive.specs.Entries.{EntryView, newest}
use Rattle.mam_archive.specs.Ids.{id_of}
use Rattle.cmd_direct.proofs.NextPages.{id_after}
use Rattle.cmd_direct.proofs.PageRuns.{ArePaged, IsPageOf, front_at, history_at, history_few, history_follows, last_at, last_grows, paged_at, pages_at}
use Rattle.cmd_direct.proofs.Prefixes.{takes_few}
use Rattle.cmd_direct.proofs.RunLaws.{asked_as_taken, answered_right, complete_turn, distinct_right, ends_with, kept_of_world, move_at, no_earlier, no_later, page_of_move, reaches}
use Rattle.cmd_direct.proofs.TurnRuns.{goes, le_two, length_after, line_entry, lines_by}
use Rattle.cmd_direct.proofs.TurnTiles.{complete_end, last_after, partial_some, some_count, total_partial}
use Rattle.cmd_direct.proofs.Turns.{AreRising, Turn, end_of, ends_at, ends_bounds, length_span, page_by, pages_by, rising_bounds, run_by, span, span_join, start_of}
use Rattle.cmd_direct.specs.Direct.{account_line, as_logged, device_line, device_with, pages_of, takes_of}
use Rattle.cmd_direct.specs.History.{world_after, worlds_of}
use Rattle.mam_log.specs.declared.log_entry.LogEntry.{LogEntry}
use Rattle.cmd_report.proofs.TakenArchives.{archive_few as taken_few}
use Rattle.cmd_report.specs.Lawful.{ArePages, AreTiles, IsFresh, IsPrefixOf, last_logged}
use Rattle.cmd_report.specs.Lines.{entry_line, is_break, logged_after, logged_from, logged_line, page_line}
use Rattle.cmd_report.specs.Takes.{archive_of}
use Rattle.cmd_report.specs.Worlds.{ReportWorld}
use Rattle.cmd_report.specs.declared.report.LoggedLine.{LoggedLine}
use Rattle.cmd_report.specs.declared.report.PageLine.{PageLine}
use Rattle.cmd_schedule.proofs.Lists.{all_append, all_map, all_of}
use Rattle.cmd_schedule.proofs.StandingSteps.{AreStanding}
use Rattle.cmd_schedule.specs.Contents.{home_of}
use Rattle.cmd_schedule.specs.Schedules.{ScheduleView, steps_of}
use Rattle.cmd_schedule.specs.declared.schedule.Step.{Step}

-- Law 4.

-- where nothing is purged, turns go on where the log ends
start_is : (keep n : ℕ) (turn : Turn) → turn.last ≤ keep → start_of keep n turn ≡ n
start_is keep n turn wide = omega arith

-- the log ends where the turn does
ends_there : {c n s k m t : ℕ} → c ≡ n → s ≡ n → k ≡ m → s + m ≡ t → c + k ≡ t
ends_there is same size whole = omega arith

top_within : {last high keep : ℕ} → last ≤ high → high ≤ keep → last ≤ keep
top_within top wide = omega arith

pub prefix_run : (keep n low high : ℕ) (history : List EntryView) (turns : List Turn) → 1 ≤ keep → high ≤ keep → n ≤ low → AreRising low high turns →
    high ≤ length history → FollowFrom 1 history → run_by keep history n turns ≡ span n (ends_at keep n turns) history
prefix_run keep n low high history [] some wide within rise long follow = let none : n - n ≡ 0 = omega arith in ap (λ k. take k (drop n history)) (sym none)
prefix_run keep n low high history (turn ∷ turns) some wide within rise long follow =
    let t = end_of keep n turn in
    let top = rising_bounds turn.last high turns rise.2 in
    let go = goes keep n low high history turn some within rise.0 rise.1 top long follow in
    let same : start_of keep n turn ≡ n = start_is keep n turn (top_within top wide) in
    let bounds = ends_bounds keep t turn.last high turns some go.within rise.2 in
    ap (λ k. span k t history ++ run_by keep history t turns) same
    ∙ ap (λ es. span n t history ++ es) (prefix_run keep t turn.last high history turns some wide go.within rise.2 long follow)
    ∙ span_join n t (ends_at keep t turns) history (le_two go.on go.up) bounds.0

prefix_of_turns : (keep : ℕ) (all : List Step) (name : List ℕ) (turns : List Turn) → 100000 ≤ keep → length all ≤ 100000 → AreRising 0 (length (history_at all name)) turns →
    IsPrefixOf (map entry_line (newest keep (history_at all name))) (device_with all name (pages_at keep all name turns))
prefix_of_turns keep all name turns wide few rise =
    let history = history_at all name in
    let high = length history in
    let short : high ≤ 100000 = history_few all name few in
    let some : 1 ≤ keep = omega arith in
    let follow = history_follows all name in
    let run = run_by keep history 0 turns in
    let end = ends_at keep 0 turns in
    let lines = logged_from 0 (pages_at keep all name turns) in
    let bounds = ends_bounds keep 0 0 high turns some (omega arith) rise in
    let first : end - 0 ≡ end = omega arith in
    let front : run ≡ take end history = prefix_run keep 0 0 high history turns some (omega arith) (omega arith) rise (omega arith) follow ∙ ap (λ k. take k history) first in
    let entries : map line_entry lines ≡ map entry_line run = lines_by keep 0 0 history turns in
    let long : length run ≡ end = ap length (prefix_run keep 0 0 high history turns some (omega arith) (omega arith) rise (omega arith) follow) ∙ length_span 0 end history bounds.1 ∙ first in
    let size : length lines ≡ end = sym (length-map lines line_entry) ∙ ap length entries ∙ length-map run entry_line ∙ long in
    let all_kept : map entry_line (newest keep history) ≡ map entry_line history = ap (map entry_line) (newest_few keep history (omega arith)) in
    let whole : length (map entry_line (newest keep history)) ≡ high = ap length all_kept ∙ length-map history entry_line in
    record {
      short = omega (arith, bounds.1);
      logged = entries ∙ ap (map entry_line) front ∙ sym (take-map entry_line end history) ∙ ap (take end) (sym all_kept)
          ∙ ap (λ k. take k (map entry_line (newest keep history))) (sym size);
      apart = tt;
      held = tt;
    }

prefix_of_pages : (keep : ℕ) (all : List Step) (name : List ℕ) → 100000 ≤ keep → length all ≤ 100000 → ArePaged keep all name all →
    IsPrefixOf (map entry_line (newest keep (history_at all name))) (device_line keep all name)
prefix_of_pages keep all name wide few known =
    subst (λ pages. IsPrefixOf (map entry_line (newest keep (history_at all name))) (device_with all name pages)) (sym known.are)
    (prefix_of_turns keep all name known.turns wide few known.rise)

-- each device's log is a prefix of its account's archive
pub prefix_right : (keep : ℕ) (all : List Step) (name : List ℕ) → 100000 ≤ keep → AreStanding [] all → length all ≤ 100000 →
    IsPrefixOf (account_line keep all (home_of all name)).entries (device_line keep all name)
prefix_right keep all name wide stand few = prefix_of_pages keep all name wide few (paged_at keep all name all [] (append-nil all) stand few (omega arith))

-- an account's archive gave as many numbers as it keeps entries
pub account_whole : (keep : ℕ) (all : List Step) (account : List ℕ) → 100000 ≤ keep → length all ≤ 100000 →
    (account_line keep all account).last ≡ (account_line keep all account).count
account_whole keep all account wide few =
    let history = archive_of account (takes_of all all) in
    let short : length history ≤ keep = omega (arith, taken_few account (takes_of all all), takes_few all all) in
    sym (ap length (newest_few keep history short))

-- No line is broken.

after_is : (n old : ℕ) → old ≡ 0 → cond (leb n old) None (Some (id_of n)) ≡ id_after n
after_is zero old none = let test : leb zero old ≡ true = le-leb zero old (omega arith) in rw test refl
after_is (suc n) old none = let test : leb (suc n) old ≡ false = lt-leb (suc n) old (omega arith) in rw test refl

nothing_purged : (keep n : ℕ) (turn : Turn) → turn.last ≤ keep → turn.last - keep ≡ 0
nothing_purged keep n turn wide = omega arith

no_break : (n : ℕ) → is_break n (id_after n) ≡ false
no_break zero = refl
no_break (suc n) = refl

unbroken_after : (broken : Bool) (es : List LogEntry) → broken ≡ false → AllByRecursion (λ l. l.broken ≡ false) (logged_after broken es)
unbroken_after broken [] is = tt
unbroken_after broken (e ∷ es) is = (is, all_map (λ l. l.broken ≡ false) (logged_line false) es (all_of (λ l. false ≡ false) (λ l. refl) es))

pub unbroken_turns : (keep n low high c : ℕ) (history : List EntryView) (turns : List Turn) → 1 ≤ keep → high ≤ keep → n ≤ low → AreRising low high turns →
    high ≤ length history → FollowFrom 1 history → c ≡ n → AllByRecursion (λ l. l.broken ≡ false) (logged_from c (pages_by keep history n turns))
unbroken_turns keep n low high c history [] some wide within rise long follow is = tt
unbroken_turns keep n low high c history (turn ∷ turns) some wide within rise long follow is =
    let t = end_of keep n turn in
    let top = rising_bounds turn.last high turns rise.2 in
    let go = goes keep n low high history turn some within rise.0 rise.1 top long follow in
    let entries = span (start_of keep n turn) t history in
    let after = cond (leb n (turn.last - keep)) None (Some (id_of n)) in
    let given : after ≡ id_after n = after_is n (turn.last - keep) (nothing_purged keep n turn (top_within top wide)) in
    let joined : is_break c after ≡ false = ap (is_break c) given ∙ ap (λ k. is_break k (id_after n)) is ∙ no_break n in
    let size : length (map as_logged entries) ≡ length entries = length-map entries as_logged in
    let same : start_of keep n turn ≡ n = start_is keep n turn (top_within top wide) in
    let next : c + length (map as_logged entries) ≡ t = ends_there is same size go.whole in
    all_append (λ l. l.broken ≡ false) (logged_after (is_break c after) (map as_logged entries)) (logged_from (c + length (map as_logged entries)) (pages_by keep history t turns))
    (unbroken_after (is_break c after) (map as_logged entries) joined)
    (unbroken_turns keep t turn.last high (c + length (map as_logged entries)) history turns some wide go.within rise.2 long follow next)

unbroken_pages : (keep : ℕ) (all : List Step) (name : List ℕ) → 100000 ≤ keep → length all ≤ 100000 → (known : ArePaged keep all name all) →
    AllByRecursion (λ l. l.broken ≡ false) (device_line keep all name).logged
unbroken_pages keep all name wide few known =
    let high = length (history_at all name) in
    let short : high ≤ 100000 = history_few all name few in
    subst (λ pages. AllByRecursion (λ (l : LoggedLine). l.broken ≡ false) (logged_from 0 pages)) (sym known.are)
    (unbroken_turns keep 0 0 high 0 (history_at all name) known.turns (omega arith) (omega arith) (omega arith) known.rise (omega arith) (history_follows all name) refl)

pub unbroken_right : (keep : ℕ) (all : List Step) (name : List ℕ) → 100000 ≤ keep → AreStanding [] all → length all ≤ 100000 →
    AllByRecursion (λ l. l.broken ≡ false) (device_line keep all name).logged
unbroken_right keep all name wide stand few = unbroken_pages keep all name wide few (paged_at keep all name all [] (append-nil all) stand few (omega arith))

-- Law 5.

total_if : (complete : Bool) (total : ℕ) (P : ℕ → Type 0) → (complete ≡ true → P total) → IfSome (cond complete (Some total) None) P
total_if true total P holds = holds refl
total_if false total P holds = tt

tile_step : (before lines more : List LoggedLine) (page : PageLine) (pages : List PageLine) → length lines ≡ page.count → page.after ≡ last_logged before →
    (page.total ≡ None → 0 < page.count) → IfSome page.total (λ total. total ≡ length before + page.count) → AreTiles (before ++ lines) pages more →
    AreTiles before (page ∷ pages) (lines ++ more)
tile_step before lines more page pages size after some whole rest =
    let front : take page.count (lines ++ more) ≡ lines = take_at lines more page.count size in
    let following : drop page.count (lines ++ more) ≡ more = drop_at lines more page.count size in
    let within : page.count ≤ length (lines ++ more) = omega (arith, length-append lines more) in
    (after, within, some, whole, rw (front, following) rest)

whole_total : (keep n : ℕ) (turn : Turn) (count many : ℕ) → 1 ≤ keep → n ≤ turn.last → turn.last ≤ keep → many ≡ n → count ≡ end_of keep n turn - start_of keep n turn →
    leb (turn.last - start_of keep n turn) turn.most ≡ true → min turn.last keep ≡ many + count
whole_total keep n turn count many some within wide before size complete =
    let end : end_of keep n turn ≡ turn.last = complete_end keep n turn some within complete in
    let start : start_of keep n turn ≡ n = start_is keep n turn wide in
    let all_kept : min turn.last keep ≡ turn.last = omega arith in
    let pieces : count ≡ turn.last - n = size ∙ ap (λ t. t - start_of keep n turn) end ∙ ap (λ s. turn.last - s) start in
    all_kept ∙ summed within before pieces
  where
    summed : {last n many count : ℕ} → n ≤ last → many ≡ n → count ≡ last - n → last ≡ many + count
    summed within before pieces = omega arith

pub tiles_one : (keep n low high : ℕ) (history : List EntryView) (turns : List Turn) (before : List LoggedLine) → 1 ≤ keep → high ≤ keep → n ≤ low → AreRising low high turns →
    high ≤ length history → FollowFrom 1 history → last_logged before ≡ id_after n → length before ≡ n →
    AreTiles before (map page_line (pages_by keep history n turns)) (logged_from (length before) (pages_by keep history n turns))
tiles_one keep n low high history [] before some wide within rise long follow known many = refl
tiles_one keep n low high history (turn ∷ turns) before some wide within rise long follow known many =
    let s = start_of keep n turn in
    let t = end_of keep n turn in
    let page = page_by keep history n turn in
    let pages = pages_by keep history t turns in
    let entries = span s t history in
    let broken = is_break (length before) page.after in
    let lines = logged_after broken (map as_logged entries) in
    let top = rising_bounds turn.last high turns rise.2 in
    let go = goes keep n low high history turn some within rise.0 rise.1 top long follow in
    let size : length lines ≡ length (map as_logged entries) = length_after broken (map as_logged entries) in
    let mapped : length (map as_logged entries) ≡ length entries = length-map entries as_logged in
    let whole : length (before ++ lines) ≡ length before + length (map as_logged entries) = length-append before lines ∙ ap (λ k. length before + k) size in
    let same : s ≡ n = start_is keep n turn (top_within top wide) in
    let next : length (before ++ lines) ≡ t = whole ∙ ends_there many same mapped go.whole in
    let later : AreTiles (before ++ lines) (map page_line pages) (logged_from (length (before ++ lines)) pages) =
    tiles_one keep t turn.last high history turns (before ++ lines) some wide go.within rise.2 long follow (last_after keep n history turn broken before go known) next in
    tile_step before lines (logged_from (length before + length (map as_logged entries)) pages) (page_line page) (map page_line pages) size
    (after_is n (turn.last - keep) (nothing_purged keep n turn (top_within top wide)) ∙ sym known)
    (λ partial. some_count (mapped ∙ go.size) (partial_some keep n turn rise.1 (total_partial page.complete page.total partial)))
    (total_if page.complete page.total (λ total. total ≡ length before + length (map as_logged entries))
    (λ complete. whole_total keep n turn (length (map as_logged entries)) (length before) some go.inside (top_within top wide) many (mapped ∙ go.size) complete))
    (subst (λ c. AreTiles (before ++ lines) (map page_line pages) (logged_from c pages)) whole later)

-- the archive of a world is as long as its last number says
long_world : (keep : ℕ) (all : List Step) (name : List ℕ) (before rest : List Step) (world : ReportWorld) → 100000 ≤ keep → length all ≤ 100000 →
    last_at all name before ≤ length (history_at all name) → before ++ rest ≡ all → world_after keep all before ≡ world →
    length (world.archive (home_of all name)) ≡ last_at all name before
long_world keep all name before rest world wide few within whole is =
    let last = last_at all name before in
    let short : length (history_at all name) ≤ 100000 = history_few all name few in
    let all_kept : last - (last - keep) ≡ last = omega arith in
    ap length (kept_of_world keep all name before rest world whole is) ∙ length_span (last - keep) last (history_at all name) within ∙ all_kept

-- the TOTAL of a page is the archive's last number of its moment
total_of_page : (keep : ℕ) (all : List Step) (name : List ℕ) (before : List Step) (k total : ℕ) (line : PageLine) → 100000 ≤ keep → length all ≤ 100000 →
    IsPageOf keep all name before k → slice_get (map page_line (pages_of keep all name all)) k ≡ Some line → line.total ≡ Some total → last_at all name before ≡ total
total_of_page keep all name before k total line wide few page at is =
    let t = page.turn_of in
    let some : 1 ≤ keep = omega arith in
    let known = reaches keep all name k t some few in
    let short : length (history_at all name) ≤ 100000 = history_few all name few in
    let complete = complete_turn keep all name k total t line some few at is in
    let all_kept : min t.turn.last keep ≡ t.turn.last = kept_all wide short known.long in
    sym page.last ∙ sym all_kept ∙ complete.1
  where
    kept_all : {last high keep : ℕ} → 100000 ≤ keep → high ≤ 100000 → last ≤ high → min last keep ≡ last
    kept_all wide short long = omega arith

is_fresh : (keep : ℕ) (all : List Step) (name : List ℕ) → 100000 ≤ keep → AreStanding [] all → length all ≤ 100000 → (k total : ℕ) (line : PageLine) →
    slice_get (map page_line (pages_of keep all name all)) k ≡ Some line → line.total ≡ Some total → IsFresh (worlds_of keep all) (device_line keep all name) k total
is_fresh keep all name wide stand few k total line at is i j asking asked taking taken here next asks there further takes =
    let some : 1 ≤ keep = omega arith in
    let ask = move_at keep all [] all i asking asked here (rw add-one at next) in
    let take = move_at keep all [] all j taking taken there (rw add-one at further) in
    let counts = asked_as_taken keep all name asking asked ask in
    let first = page_of_move keep all name asking asked ask k some stand few (omega (arith, counts.0, asks.0)) (omega (arith, counts.1, asks.1)) in
    let second = page_of_move keep all name taking taken take k some stand few takes.0 takes.1 in
    let low : last_at all name ask.before ≡ total = total_of_page keep all name ask.before k total line wide few first at is in
    let high : last_at all name take.before ≡ total = total_of_page keep all name take.before k total line wide few second at is in
    let joined : (take.before ++ take.step ∷ []) ++ take.rest ≡ all = append_assoc take.before (take.step ∷ []) take.rest ∙ take.joined in
    let was : length (asking.archive (home_of all name)) ≡ last_at all name ask.before =
    long_world keep all name ask.before (ask.step ∷ ask.rest) asking wide few (front_at all name ask.before (ask.step ∷ ask.rest) ask.joined).within ask.joined ask.was in
    let now : length (taken.archive (home_of all name)) ≡ last_at all name (take.before ++ take.step ∷ []) =
    long_world keep all name (take.before ++ take.step ∷ []) take.rest taken wide few (front_at all name (take.before ++ take.step ∷ []) take.rest joined).within joined take.is in
    let grows : last_at all name take.before ≤ last_at all name (take.before ++ take.step ∷ []) = last_grows all name take.before (take.step ∷ []) in
    (no_later was low, no_earlier now high grows)

tiles_right : (keep : ℕ) (all : List Step) (name : List ℕ) → 100000 ≤ keep → length all ≤ 100000 → (known : ArePaged keep all name all) →
    AreTiles [] (map page_line (pages_of keep all name all)) (logged_from 0 (pages_of keep all name all))
tiles_right keep all name wide few known =
    let high = length (history_at all name) in
    let short : high ≤ 100000 = history_few all name few in
    subst (λ pages. AreTiles [] (map page_line pages) (logged_from 0 pages)) (sym known.are)
    (tiles_one keep 0 0 high (history_at all name) known.turns [] (omega arith) (omega arith) (omega arith) known.rise (omega arith) (history_follows all name) refl refl)

-- each device's pages are tiles of its log, each as long as its account's archive
pub prefix_pages_right : (keep : ℕ) (s : ScheduleView) (all : List Step) (name : List ℕ) → steps_of s.lines ≡ all → 100000 ≤ keep → AreStanding [] all → length all ≤ 100000 →
    ArePages (worlds_of keep all) s (device_line keep all name)
prefix_pages_right keep s all name steps wide stand few =
    let some : 1 ≤ keep = omega arith in
    let known = paged_at keep all name all [] (append-nil all) stand few some in
    record {
      tiles = tiles_right keep all name wide few known;
      distinct = distinct_right keep all name some few known;
      fresh = λ k total line at is. is_fresh keep all name wide stand few k total line at is;
      last = ends_with keep all [] all (device_line keep all name) (sym (length-map (pages_of keep all name all) page_line));
      answered = λ direct. answered_right keep s all name steps known;
    }
