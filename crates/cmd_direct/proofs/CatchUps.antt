-- A catch-up of a direct run: turns at one archive, the last of which is complete and ends with the archive's last entry.
use Rattle.std.proofs.Common.{◌≡◌, ℕ, zero, suc, ◌+◌, ◌-◌, ◌<◌, ◌≤◌, max, Bool, true, false, cond, leb, List, [], ◌∷◌, ◌++◌, Some, length, take, map, refl, sym, ap, subst, ◌∙◌, arith}
use Rattle.std.proofs.lemmas.Bool.{cond_both, leb-false}
use Rattle.std.proofs.lemmas.List.{append_assoc, append-nil, map-append}
use Rattle.std.proofs.lemmas.List.Concat.{flat_map-append}
use Rattle.std.proofs.lemmas.List.Sums.{sum_by-cons}
use Rattle.std.specs.List.{AllByRecursion, count_by}
use Rattle.mam_archive.proofs.NumberedEntries.{FollowFrom, numbered_following}
use Rattle.mam_archive.specs.Entries.{AreKept, EntryView, newest}
use Rattle.cmd_direct.proofs.NextPages.{id_after, next_page_is}
use Rattle.cmd_direct.proofs.TurnRuns.{Goes, goes}
use Rattle.cmd_direct.proofs.TurnTiles.{complete_end}
use Rattle.cmd_direct.proofs.Turns.{AreRising, Turn, end_of, ends_at, follow_ids, follow_span, id_of_entry, last_of, last_of_log, length_span, newest_span, page_by, page_is, pages_by, span, start_of}
use Rattle.cmd_direct.specs.Direct.{as_logged, catch_up, next_page}
use Rattle.mam_log.specs.LogPages.{LogPage, last_id, log_of}
use Rattle.mam_log.specs.declared.log_entry.LogEntry.{LogEntry}
use Rattle.mam_pages.specs.Kept.{kept_by}
use Rattle.cmd_schedule.proofs.Lists.{map-map}

-- what an archive keeps of a history up to its last number
pub kept_right : (keep last : ℕ) (history : List EntryView) → 1 ≤ keep → last ≤ length history → last ≤ 4294967295 → FollowFrom 1 history →
    AreKept keep last (newest keep (take last history))
kept_right keep last history some long few follow =
    let entries = span (last - keep) last history in
    let size : length entries ≡ last - (last - keep) = length_span (last - keep) last history long in
    let end : suc (last - keep) + length entries ≡ last + 1 = omega arith in
    subst (λ es. AreKept keep last es) (sym (newest_span keep last history long)) (record {
      numbers = numbered_following (suc (last - keep)) last entries (follow_span (last - keep) last history follow) end;
      some = some;
      few = omega arith;
      within = omega arith;
      most = few;
      none = λ empty. omega arith;
    })

abbrev pub turn_at : ℕ → ℕ → Turn
turn_at last most = record { last = last; most = most }

-- one page more has the last id of its turn
last_push : (keep n : ℕ) (history : List EntryView) (turn : Turn) (pages : List LogPage) → Goes keep n history turn → last_id (log_of pages) ≡ id_after n →
    last_id (log_of (pages ++ page_by keep history n turn ∷ [])) ≡ id_after (end_of keep n turn)
last_push keep n history turn pages go following =
    let entries = span (start_of keep n turn) (end_of keep n turn) history in
    let log = log_of pages in
    let ids : map (λ (l : LogEntry). l.id) (map as_logged entries) ≡ map id_of_entry entries = map-map as_logged (λ (l : LogEntry). l.id) entries in
    ap last_id (flat_map-append (λ (page : LogPage). page.entries) pages (page_by keep history n turn ∷ []) ∙ ap (λ es. log ++ es) (append-nil (map as_logged entries)))
    ∙ last_of_log (log ++ map as_logged entries)
    ∙ ap last_of (map-append (λ (l : LogEntry). l.id) log (map as_logged entries))
    ∙ ap (λ is. last_of (map (λ (l : LogEntry). l.id) log ++ is)) ids
    ∙ follow_ids (map (λ (l : LogEntry). l.id) log) n (start_of keep n turn) entries go.follow (sym (last_of_log log) ∙ following) go.empty
    ∙ ap id_after go.whole

-- what a catch-up comes to, behind a log whose last entry has number n
pub record CaughtUp (keep : ℕ) (history : List EntryView) (last n : ℕ) (pages result : List LogPage) : Type 0 where
  pub more : List Turn
  pub joined : result ≡ pages ++ pages_by keep history n more
  pub rise : AreRising last last more
  pub lasts : AllByRecursion (λ turn. turn.last ≡ last) more
  pub one : count_by (λ page. page.complete) (pages_by keep history n more) ≡ 1
  pub end : ends_at keep n more ≡ last

-- one turn of it
catch_up_turn : (turns most keep n last : ℕ) (owner : List ℕ) (history : List EntryView) (pages : List LogPage) → most ≤ 100 → 1 ≤ keep → n ≤ last →
    last ≤ length history → last ≤ 4294967295 → FollowFrom 1 history → last_id (log_of pages) ≡ id_after n →
    catch_up (suc turns) most (kept_by owner (newest keep (take last history))) pages
    ≡ cond (leb (last - start_of keep n (turn_at last most)) most)
    (pages ++ page_by keep history n (turn_at last most) ∷ [])
    (catch_up turns most (kept_by owner (newest keep (take last history))) (pages ++ page_by keep history n (turn_at last most) ∷ []))
catch_up_turn turns most keep n last owner history pages limit some within long few follow following =
    let found : next_page most (kept_by owner (newest keep (take last history))) pages ≡ Some (page_by keep history n (turn_at last most)) =
    next_page_is keep n last most owner (newest keep (take last history)) pages (kept_right keep last history some long few follow) limit within following
    ∙ ap Some (page_is keep n most last history within long) in
    rw found refl

last_turn : (most keep n last : ℕ) (history : List EntryView) (pages : List LogPage) → 1 ≤ most → 1 ≤ keep → n ≤ last →
    leb (last - start_of keep n (turn_at last most)) most ≡ true →
    CaughtUp keep history last n pages (pages ++ page_by keep history n (turn_at last most) ∷ [])
last_turn most keep n last history pages asked some within complete = record {
  more = turn_at last most ∷ [];
  joined = refl;
  rise = (omega arith, asked, omega arith);
  lasts = (refl, tt);
  one = rw complete refl;
  end = complete_end keep n (turn_at last most) some within complete;
}

abbrev counted : Bool → ℕ
counted test = cond test 1 0

one_more : {total first more : ℕ} → total ≡ first + more → first ≡ 0 → more ≡ 1 → total ≡ 1
one_more whole none one = omega arith

further_turn : (most keep n last : ℕ) (history : List EntryView) (pages result : List LogPage) → 1 ≤ most →
    leb (last - start_of keep n (turn_at last most)) most ≡ false →
    CaughtUp keep history last (end_of keep n (turn_at last most)) (pages ++ page_by keep history n (turn_at last most) ∷ []) result →
    CaughtUp keep history last n pages result
further_turn most keep n last history pages result asked partial later =
    let turn = turn_at last most in
    let page = page_by keep history n turn in
    let rest = pages_by keep history (end_of keep n turn) later.more in
    let none : counted (leb (last - start_of keep n turn) most) ≡ 0 = rw partial refl in
    record {
      more = turn ∷ later.more;
      joined = later.joined ∙ append_assoc pages (page ∷ []) rest;
      rise = (omega arith, asked, later.rise);
      lasts = (refl, later.lasts);
      one = one_more (sum_by-cons (λ (p : LogPage). cond p.complete 1 0) page rest) none later.one;
      end = later.end;
    }

-- each turn that isn't complete leaves less
less_left : (most keep n last turns : ℕ) → 1 ≤ most → most < last - max n (last - keep) → last - max n (last - keep) < suc turns →
    last - max (end_of keep n (turn_at last most)) (last - keep) < turns
less_left most keep n last turns asked long enough = omega arith

pub catch_up_is : (turns most keep n last : ℕ) (owner : List ℕ) (history : List EntryView) (pages : List LogPage) → 1 ≤ most → most ≤ 100 → 1 ≤ keep → n ≤ last →
    last ≤ length history → last ≤ 4294967295 → FollowFrom 1 history → last_id (log_of pages) ≡ id_after n → last - max n (last - keep) < turns →
    CaughtUp keep history last n pages (catch_up turns most (kept_by owner (newest keep (take last history))) pages)
catch_up_is zero most keep n last owner history pages asked limit some within long few follow following enough = absurd (omega arith)
catch_up_is (suc turns) most keep n last owner history pages asked limit some within long few follow following enough =
    let turn = turn_at last most in
    let page = page_by keep history n turn in
    let kept = kept_by owner (newest keep (take last history)) in
    let go = goes keep n last last history turn some within (omega arith) asked (omega arith) long follow in
    subst (λ result. CaughtUp keep history last n pages result) (sym (catch_up_turn turns most keep n last owner history pages limit some within long few follow following))
    (cond_both (leb (last - start_of keep n turn) most) (pages ++ page ∷ []) (catch_up turns most kept (pages ++ page ∷ [])) (λ result. CaughtUp keep history last n pages result)
    (λ complete. last_turn most keep n last history pages asked some within complete)
    (λ partial.
    let left : last - max (end_of keep n turn) (last - keep) < turns =
    less_left most keep n last turns asked (leb-false (last - start_of keep n turn) most partial) enough in
    further_turn most keep n last history pages (catch_up turns most kept (pages ++ page ∷ [])) asked partial
    (catch_up_is turns most keep (end_of keep n turn) last owner history (pages ++ page ∷ []) asked limit some go.within long few follow (last_push keep n history turn pages go following) left)))
