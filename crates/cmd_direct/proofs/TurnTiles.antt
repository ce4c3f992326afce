-- The pages of a log by turns: they are tiles of it, and after a complete one the log ends with all that the archive
-- kept.
use Rattle.std.proofs.Common.{◌≡◌, ℕ, zero, suc, ◌+◌, ◌-◌, ◌<◌, ◌≤◌, min, Bool, true, false, cond, leb, List, [], ◌∷◌, ◌++◌, Option, Some, None, is_some, length, get_or, take, drop, map, refl, sym, ap, subst, ◌∙◌, ◌⊎◌, arith, inl, inr}
use Rattle.std.proofs.lemmas.Bool.{cases_Bool, false≢true, le-leb, leb-false, leb-true}
use Rattle.std.proofs.lemmas.List.{append_assoc, drop-map, drop_at, length-append, length-map, map-append, take-map, take_at}
use Rattle.std.proofs.lemmas.List.Concat.{length-flat_map}
use Rattle.std.proofs.lemmas.List.Sums.{sum-map, sum_by-cons}
use Rattle.std.proofs.lemmas.Option.{none-some, same_Some}
use Rattle.std.specs.List.{count_by, slice_get, sum}
use Rattle.mam_archive.proofs.IdDigits.{id_of_same}
use Rattle.mam_archive.proofs.NumberedEntries.{FollowFrom}
use Rattle.mam_archive.specs.Entries.{EntryView, newest}
use Rattle.mam_archive.specs.Ids.{id_of}
use Rattle.cmd_direct.proofs.NextPages.{id_after}
use Rattle.cmd_direct.proofs.TurnRuns.{Goes, ends_by, goes, ids_from, length_after, length_logged, line_entry, line_id, last_logged_of, lines_by}
use Rattle.cmd_direct.proofs.Turns.{AreRising, Turn, end_of, ends_at, follow_ids, id_of_entry, last_by, last_of, length_span, newest_span, page_by, pages_by, pages_by-append, rising_bounds, run_by, span, start_of}
use Rattle.cmd_direct.specs.Direct.{as_logged}
use Rattle.mam_log.specs.LogPages.{LogPage, log_of}
use Rattle.mam_log.specs.declared.log_entry.LogEntry.{LogEntry}
use Rattle.cmd_report.specs.Lawful.{last_logged}
use Rattle.cmd_report.specs.LawfulRuns.{AreTilesOfRuns, BeginsRun, EndsWhole, IsFirstNumber, IsLastNumber}
use Rattle.cmd_report.specs.Lines.{entry_line, is_break, logged_after, logged_from, logged_line, page_line}
use Rattle.cmd_report.specs.declared.report.LoggedLine.{LoggedLine}
use Rattle.cmd_report.specs.declared.report.PageLine.{PageLine}
use Rattle.cmd_schedule.proofs.Lists.{all_map, all_of, map-map}

-- Tiles.

pub total_partial : (complete : Bool) (total : ℕ) → cond complete (Some total) None ≡ None → complete ≡ false
total_partial true total is = absurd (cc)
total_partial false total is = refl

pub total_whole : (complete : Bool) (n total : ℕ) → cond complete (Some n) None ≡ Some total → (complete ≡ true) × (n ≡ total)
total_whole true n total is = (refl, same_Some n total is)
total_whole false n total is = absurd (none-some total is)

-- a page that isn't complete has an entry
pub partial_some : (keep n : ℕ) (turn : Turn) → 1 ≤ turn.most → leb (turn.last - start_of keep n turn) turn.most ≡ false → 1 ≤ end_of keep n turn - start_of keep n turn
partial_some keep n turn asked partial =
    let long : turn.most < turn.last - start_of keep n turn = leb-false (turn.last - start_of keep n turn) turn.most partial in
    omega arith

-- a complete one has all
pub complete_end : (keep n : ℕ) (turn : Turn) → 1 ≤ keep → n ≤ turn.last → leb (turn.last - start_of keep n turn) turn.most ≡ true → end_of keep n turn ≡ turn.last
complete_end keep n turn some within complete =
    let short : turn.last - start_of keep n turn ≤ turn.most = leb-true (turn.last - start_of keep n turn) turn.most complete in
    omega arith

asked_after : (n old : ℕ) (last : Option (List ℕ)) → last ≡ id_after n →
    (cond (leb n old) None (Some (id_of n)) ≡ None) ⊎ (cond (leb n old) None (Some (id_of n)) ≡ last)
asked_after zero old last is = let first : leb zero old ≡ true = le-leb zero old (omega arith) in inl (rw first refl)
asked_after (suc n) old last is =
    elim (cases_Bool (leb (suc n) old)) [
      | inl gone ↦ inl (rw gone refl)
      | inr there ↦ inr (rw there (sym is))
    ]

none_logged : (lines : List LoggedLine) → last_logged lines ≡ None → length lines ≡ 0
none_logged [] none = refl
none_logged (l ∷ []) none = absurd (none-some l.entry.id (sym none))
none_logged (l ∷ m ∷ lines) none = absurd (omega (arith, none_logged (m ∷ lines) none))

gone_some : (keep n : ℕ) (turn : Turn) (before : List LoggedLine) → 1 ≤ keep → 1 ≤ turn.most → last_logged before ≡ id_after n → n ≤ turn.last - keep →
    is_break (length before) None ≡ true → 1 ≤ end_of keep n turn - start_of keep n turn
gone_some keep zero turn before some asked known old broken =
    absurd (let unbroken : is_break 0 None ≡ true = rw (none_logged before known) at broken in false≢true unbroken)
gone_some keep (suc n) turn before some asked known old broken = omega arith

-- a page that was asked for anew behind entries has one
broken_some : (keep n : ℕ) (turn : Turn) (before : List LoggedLine) → 1 ≤ keep → 1 ≤ turn.most → last_logged before ≡ id_after n →
    is_break (length before) (cond (leb n (turn.last - keep)) None (Some (id_of n))) ≡ true → 1 ≤ end_of keep n turn - start_of keep n turn
broken_some keep n turn before some asked known broken =
    elim (cases_Bool (leb n (turn.last - keep))) [
      | inl gone ↦ gone_some keep n turn before some asked known (leb-true n (turn.last - keep) gone) (rw gone at broken)
      | inr there ↦ absurd (let unbroken : is_break (length before) (Some (id_of n)) ≡ true = rw there at broken in false≢true unbroken)
    ]

begins : (broken : Bool) (es : List LogEntry) → BeginsRun broken (logged_after broken es)
begins broken [] = tt
begins broken (e ∷ es) = (refl, all_map (λ m. m.broken ≡ false) (logged_line false) es (all_of (λ l. false ≡ false) (λ l. refl) es))

tile_step : (before lines more : List LoggedLine) (page : PageLine) (pages : List PageLine) → length lines ≡ page.count →
    ((page.after ≡ None) ⊎ (page.after ≡ last_logged before)) → (page.total ≡ None → 0 < page.count) → (is_break (length before) page.after ≡ true → 0 < page.count) →
    BeginsRun (is_break (length before) page.after) lines → AreTilesOfRuns (before ++ lines) pages more → AreTilesOfRuns before (page ∷ pages) (lines ++ more)
tile_step before lines more page pages size after some anew run rest =
    let front : take page.count (lines ++ more) ≡ lines = take_at lines more page.count size in
    let following : drop page.count (lines ++ more) ≡ more = drop_at lines more page.count size in
    let within : page.count ≤ length (lines ++ more) = omega (arith, length-append lines more) in
    (after, within, some, anew, rw front run, rw (front, following) rest)

pub ids_after : (broken : Bool) (es : List EntryView) → map line_id (logged_after broken (map as_logged es)) ≡ map id_of_entry es
ids_after broken [] = refl
ids_after broken (e ∷ es) =
    ap (λ ids. id_of e.number ∷ ids) (map-map (logged_line false) line_id (map as_logged es) ∙ map-map as_logged (λ (l : LogEntry). line_id (logged_line false l)) es)

-- behind one turn more the last id is that of its last number
pub last_after : (keep n : ℕ) (history : List EntryView) (turn : Turn) (broken : Bool) (before : List LoggedLine) → Goes keep n history turn →
    last_logged before ≡ id_after n →
    last_logged (before ++ logged_after broken (map as_logged (span (start_of keep n turn) (end_of keep n turn) history))) ≡ id_after (end_of keep n turn)
last_after keep n history turn broken before go known =
    let entries = span (start_of keep n turn) (end_of keep n turn) history in
    last_logged_of (before ++ logged_after broken (map as_logged entries))
    ∙ ap last_of (map-append line_id before (logged_after broken (map as_logged entries)))
    ∙ ap (λ ids. last_of (map line_id before ++ ids)) (ids_after broken entries)
    ∙ follow_ids (map line_id before) n (start_of keep n turn) entries go.follow (sym (last_logged_of before) ∙ known) go.empty
    ∙ ap id_after go.whole

-- a page with an entry counts one
pub some_count : {a b : ℕ} → a ≡ b → 1 ≤ b → 0 < a
some_count same some = omega arith

pub tiles_by : (keep n low high : ℕ) (history : List EntryView) (turns : List Turn) (before : List LoggedLine) → 1 ≤ keep → n ≤ low → AreRising low high turns →
    high ≤ length history → FollowFrom 1 history → last_logged before ≡ id_after n →
    AreTilesOfRuns before (map page_line (pages_by keep history n turns)) (logged_from (length before) (pages_by keep history n turns))
tiles_by keep n low high history [] before some within rise long follow known = refl
tiles_by keep n low high history (turn ∷ turns) before some within rise long follow known =
    let s = start_of keep n turn in
    let t = end_of keep n turn in
    let page = page_by keep history n turn in
    let pages = pages_by keep history t turns in
    let entries = span s t history in
    let broken = is_break (length before) page.after in
    let lines = logged_after broken (map as_logged entries) in
    let go = goes keep n low high history turn some within rise.0 rise.1 (rising_bounds turn.last high turns rise.2) long follow in
    let size : length lines ≡ length (map as_logged entries) = length_after broken (map as_logged entries) in
    let count : length (map as_logged entries) ≡ t - s = length-map entries as_logged ∙ go.size in
    let whole : length (before ++ lines) ≡ length before + length (map as_logged entries) = length-append before lines ∙ ap (λ k. length before + k) size in
    let later : AreTilesOfRuns (before ++ lines) (map page_line pages) (logged_from (length (before ++ lines)) pages) =
    tiles_by keep t turn.last high history turns (before ++ lines) some go.within rise.2 long follow (last_after keep n history turn broken before go known) in
    tile_step before lines (logged_from (length before + length (map as_logged entries)) pages) (page_line page) (map page_line pages) size
    (asked_after n (turn.last - keep) (last_logged before) known)
    (λ partial. some_count count (partial_some keep n turn rise.1 (total_partial page.complete page.total partial)))
    (λ anew. some_count count (broken_some keep n turn before some rise.1 known anew))
    (begins broken (map as_logged entries))
    (subst (λ c. AreTilesOfRuns (before ++ lines) (map page_line pages) (logged_from c pages)) whole later)

-- What was logged before a page.

logged_more : (c : ℕ) (xs ys : List LogPage) → (more : List LoggedLine) × (logged_from c (xs ++ ys) ≡ logged_from c xs ++ more)
logged_more c [] ys = (logged_from c ys, refl)
logged_more c (x ∷ xs) ys =
    let rest = logged_more (c + length x.entries) xs ys in
    let lines = logged_after (is_break c x.after) x.entries in
    (rest.0, ap (λ ls. lines ++ ls) rest.1 ∙ sym (append_assoc lines (logged_from (c + length x.entries) xs) rest.0))

abbrev count_of_page : PageLine → ℕ
count_of_page page = page.count

counts_of : (pages : List LogPage) → sum (map count_of_page (map page_line pages)) ≡ length (log_of pages)
counts_of pages =
    ap sum (map-map page_line count_of_page pages)
    ∙ sum-map (λ (page : LogPage). length page.entries) pages
    ∙ sym (length-flat_map (λ (page : LogPage). page.entries) pages)

before_pages : (xs ys : List LogPage) (k : ℕ) → length xs ≡ k →
    take (sum (map count_of_page (take k (map page_line (xs ++ ys))))) (logged_from 0 (xs ++ ys)) ≡ logged_from 0 xs
before_pages xs ys k size =
    let front : take k (map page_line (xs ++ ys)) ≡ map page_line xs = take-map page_line k (xs ++ ys) ∙ ap (map page_line) (take_at xs ys k size) in
    let more = logged_more 0 xs ys in
    let count : sum (map count_of_page (take k (map page_line (xs ++ ys)))) ≡ length (log_of xs) = ap (λ ps. sum (map count_of_page ps)) front ∙ counts_of xs in
    ap (λ n. take n (logged_from 0 (xs ++ ys))) count
    ∙ ap (take (length (log_of xs))) more.1
    ∙ take_at (logged_from 0 xs) more.0 (length (log_of xs)) (length_logged 0 xs)

pub length-pages_by : (keep n : ℕ) (history : List EntryView) (turns : List Turn) → length (pages_by keep history n turns) ≡ length turns
length-pages_by keep n history [] = refl
length-pages_by keep n history (turn ∷ turns) = ap suc (length-pages_by keep (end_of keep n turn) history turns)

-- before page k is logged what the first k turns brought
pub before_turns : (keep k : ℕ) (history : List EntryView) (xs ys : List Turn) → length xs ≡ k →
    take (sum (map count_of_page (take k (map page_line (pages_by keep history 0 (xs ++ ys)))))) (logged_from 0 (pages_by keep history 0 (xs ++ ys)))
    ≡ logged_from 0 (pages_by keep history 0 xs)
before_turns keep k history xs ys size =
    let first = pages_by keep history 0 xs in
    let rest = pages_by keep history (ends_at keep 0 xs) ys in
    ap (λ pages. take (sum (map count_of_page (take k (map page_line pages)))) (logged_from 0 pages)) (pages_by-append keep 0 history xs ys)
    ∙ before_pages first rest k (length-pages_by keep 0 history xs ∙ size)

-- A place among the turns.

pub record Split {A : Type 0} (xs : List A) (k : ℕ) : Type 0 where
  pub front : List A
  pub item : A
  pub rest : List A
  pub joined : xs ≡ front ++ item ∷ rest
  pub many : length front ≡ k

pub split_at : {A : Type 0} (xs : List A) (k : ℕ) → k < length xs → Split xs k
split_at [] k within = absurd (omega arith)
split_at (x ∷ xs) zero within = record { front = []; item = x; rest = xs; joined = refl; many = refl }
split_at (x ∷ xs) (suc k) within =
    let rest = split_at xs k (omega arith) in
    record { front = x ∷ rest.front; item = rest.item; rest = rest.rest; joined = ap (λ ys. x ∷ ys) rest.joined; many = ap suc rest.many }

pub page_at_turn : (keep n : ℕ) (history : List EntryView) (front rest : List Turn) (turn : Turn) →
    slice_get (map page_line (pages_by keep history n (front ++ turn ∷ rest))) (length front) ≡ Some (page_line (page_by keep history (ends_at keep n front) turn))
page_at_turn keep n history [] rest turn = refl
page_at_turn keep n history (x ∷ front) rest turn = page_at_turn keep (end_of keep n x) history front rest turn

-- Last numbers.

pub is_last_number : (n : ℕ) → n ≤ 4294967295 → IsLastNumber (id_after n) n
is_last_number zero few = refl
is_last_number (suc n) few = (omega arith, few, refl)

pub last_number_is : (m n : ℕ) → m ≤ 4294967295 → IsLastNumber (id_after m) n → m ≡ n
last_number_is zero n few is = sym is
last_number_is (suc m) n few is =
    let high : n ≤ 4294967295 = is.1 in
    id_of_same (suc m) n (omega arith) (omega arith) is.2

-- the first of a page's lines, whose entries are those behind number s
pub first_number_is : (s first : ℕ) (lines : List LoggedLine) (es : List EntryView) → s ≤ 4294967295 → map line_id lines ≡ map id_of_entry es → FollowFrom (suc s) es →
    IsFirstNumber lines first → first ≡ suc s
first_number_is s first [] es small same follow is = absurd is
first_number_is s first (l ∷ lines) [] small same follow is = absurd (omega (arith, ap length same))
first_number_is s first (l ∷ lines) (e ∷ es) small same follow is =
    let high : first ≤ 4294967295 = is.1 in
    let number : e.number ≡ suc s = follow.0 in
    let id : l.entry.id ≡ id_of e.number = ap (λ ids. get_or ids 0 []) same in
    id_of_same first (suc s) (omega arith) (omega arith) (sym is.2 ∙ id ∙ ap id_of number)

pub last_lines_by : (keep high : ℕ) (history : List EntryView) (turns : List Turn) → 1 ≤ keep → AreRising 0 high turns → high ≤ length history → FollowFrom 1 history →
    last_logged (logged_from 0 (pages_by keep history 0 turns)) ≡ id_after (ends_at keep 0 turns)
last_lines_by keep high history turns some rise long follow =
    last_logged_of (logged_from 0 (pages_by keep history 0 turns))
    ∙ ap last_of (ids_from (logged_from 0 (pages_by keep history 0 turns)) (run_by keep history 0 turns) (lines_by keep 0 0 history turns))
    ∙ last_by keep 0 0 high history turns [] some (omega arith) rise long follow refl

-- After a complete page.

newest_end : (t : ℕ) (lines : List LoggedLine) (front es : List EntryView) → map line_entry lines ≡ map entry_line (front ++ es) → length es ≡ t →
    map line_entry (newest t lines) ≡ map entry_line es
newest_end t lines front es same size =
    let entries = map entry_line front in
    let many : length lines ≡ length front + length es = sym (length-map lines line_entry) ∙ ap length same ∙ length-map (front ++ es) entry_line ∙ length-append front es in
    let position : length lines - t ≡ length entries = omega (arith, length-map front entry_line) in
    sym (drop-map line_entry (length lines - t) lines)
    ∙ ap (λ k. drop k (map line_entry lines)) position
    ∙ ap (drop (length entries)) (same ∙ map-append entry_line front es)
    ∙ drop_at entries (map entry_line es) (length entries) refl

-- the log behind a complete turn ends with all that the archive kept
pub whole_by : (keep : ℕ) (history : List EntryView) (turns : List Turn) (last : ℕ) → 1 ≤ keep → AreRising 0 last turns → last ≤ length history → last ≤ 4294967295 →
    FollowFrom 1 history → ends_at keep 0 turns ≡ last → EndsWhole keep history (logged_from 0 (pages_by keep history 0 turns)) (min last keep)
whole_by keep history turns last some rise long few follow end =
    let lines = logged_from 0 (pages_by keep history 0 turns) in
    let p = last - keep in
    let below : p ≤ ends_at keep 0 turns = omega arith in
    let ending = ends_by keep last p history turns some rise long follow (omega arith) below in
    let joined : run_by keep history 0 turns ≡ ending.front ++ span p last history = ending.joined ∙ ap (λ k. ending.front ++ span p k history) end in
    let size : length (span p last history) ≡ min last keep = let many = length_span p last history long in omega arith in
    let same : map line_entry lines ≡ map entry_line (ending.front ++ span p last history) = lines_by keep 0 0 history turns ∙ ap (map entry_line) joined in
    let position : last - min last keep ≡ last - keep = omega arith in
    let kept : newest (min last keep) (take last history) ≡ span p last history =
    newest_span (min last keep) last history long ∙ ap (λ k. span k last history) position in
    let id : last_logged lines ≡ id_after last = last_lines_by keep last history turns some rise long follow ∙ ap id_after end in
    record {
      last = last;
      number = subst (λ i. IsLastNumber i last) (sym id) (is_last_number last few);
      many = refl;
      entries = newest_end (min last keep) lines ending.front (span p last history) same size ∙ ap (map entry_line) (sym kept);
    }

-- Complete pages.

abbrev counted : Bool → ℕ
counted test = cond test 1 0

counted_once : (complete : Bool) (total : ℕ) → counted (is_some (cond complete (Some total) None)) ≡ counted complete
counted_once true total = refl
counted_once false total = refl

-- as many pages are complete as the device's line says
pub complete_lines : (pages : List LogPage) → count_by (λ (line : PageLine). is_some line.total) (map page_line pages) ≡ count_by (λ (page : LogPage). page.complete) pages
complete_lines [] = refl
complete_lines (page ∷ pages) =
    sum_by-cons (λ (line : PageLine). cond (is_some line.total) 1 0) (page_line page) (map page_line pages)
    ∙ ap (λ n. cond (is_some (page_line page).total) 1 0 + n) (complete_lines pages)
    ∙ ap (λ n. n + count_by (λ (p : LogPage). p.complete) pages) (counted_once page.complete page.total)
    ∙ sym (sum_by-cons (λ (p : LogPage). cond p.complete 1 0) page pages)
