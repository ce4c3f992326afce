-- A catch-up goes on from the log's end, and each of its turns takes the next entries of the archive.
use Rattle.std.proofs.Common.{◌≡◌, ℕ, zero, suc, add-one, ◌+◌, ◌-◌, ◌<◌, ◌≤◌, Bool, true, false, cond, not, leb, List, [], ◌∷◌, ◌++◌, Some, length, refl, sym, ap, ◌∙◌, arith}
use Rattle.std.proofs.lemmas.Bool.{cond_both, leb-false}
use Rattle.std.proofs.lemmas.List.{append-nil, length-drop, map_push}
use Rattle.std.proofs.lemmas.List.Concat.{flat_map-append}
use Rattle.mam_archive.specs.Entries.{AreKept, EntryView}
use Rattle.cmd_direct.proofs.NextPages.{next_page_is}
use Rattle.cmd_direct.specs.Direct.{catch_up, next_page}
use Rattle.cmd_direct.specs.NextPages.{kept_after, last_logged, purged}
use Rattle.mam_log.specs.LogPages.{LogPage, last_id, log_of, tile_of}
use Rattle.mam_log.specs.Views.{LogView}
use Rattle.mam_pages.specs.Kept.{kept_by}
use Rattle.cmd_replay.proofs.InOrder.{in_order_more, last_after, last_id_is, last_within}
use Rattle.cmd_replay.specs.Turns.{IsInOrder, IsLogOf, caught_up, log_after, turn_of, with_turn}

log_of_push : (pages : List LogPage) (page : LogPage) → log_of (pages ++ page ∷ []) ≡ log_of pages ++ page.entries
log_of_push pages page =
    flat_map-append (λ (p : LogPage). p.entries) pages (page ∷ [])
    ∙ ap (λ t. log_of pages ++ t) (append-nil page.entries)

-- a page more, in the definitions and in the log
turn_taken : (pages : List LogPage) (log : LogView) (page : LogPage) → IsLogOf pages log → IsLogOf (pages ++ page ∷ []) (with_turn log page)
turn_taken pages log page known = record {
  entries = ap (λ t. t ++ page.entries) known.entries ∙ sym (log_of_push pages page);
  tiles = ap (λ t. t ++ tile_of page ∷ []) known.tiles ∙ sym (map_push tile_of pages page);
  closed = refl;
}

-- a choice of two values by one test, twice
cond_pair : {A B : Type 0} (P : A → B → Type 0) (b : Bool) (x y : A) (u v : B) → (b ≡ true → P x u) → (b ≡ false → P y v) → P (cond b x y) (cond b u v)
cond_pair P true x y u v yes_case no_case = yes_case refl
cond_pair P false x y u v yes_case no_case = no_case refl

pub turn_in_order : (keep most last : ℕ) (kept : List EntryView) (log : LogView) → AreKept keep last kept → IsInOrder last log.entries →
    IsInOrder last (with_turn log (turn_of most last kept log)).entries
turn_in_order keep most last kept log known is = in_order_more keep last most kept log.entries known is

-- where the definitions stand on pages, the log stands on the log
pub catch_up_logged : (turns keep most last : ℕ) (owner : List ℕ) (kept : List EntryView) (pages : List LogPage) (log : LogView) → AreKept keep last kept → most ≤ 100 →
    IsLogOf pages log → IsInOrder last log.entries → IsLogOf (catch_up turns most (kept_by owner kept) pages) (log_after turns most last kept log)
catch_up_logged zero keep most last owner kept pages log known cap is order = is
catch_up_logged (suc turns) keep most last owner kept pages log known cap is order =
    let page : next_page most (kept_by owner kept) pages ≡ Some (turn_of most last kept log) =
    next_page_is keep (last_logged log.entries) last most owner kept pages known cap (last_within last log.entries order)
    (ap last_id (sym is.entries) ∙ last_id_is last log.entries order) in
    let next = turn_taken pages log (turn_of most last kept log) is in
    rw page (cond_pair (λ p l. IsLogOf p l) (leb (length (kept_after (last_logged log.entries) last kept)) most) _ _ _ _
    (λ complete. next)
    (λ more. catch_up_logged turns keep most last owner kept (pages ++ turn_of most last kept log ∷ []) (with_turn log (turn_of most last kept log))
    known cap next (turn_in_order keep most last kept log known order)))

pub log_after_in_order : (turns keep most last : ℕ) (kept : List EntryView) (log : LogView) → AreKept keep last kept → IsInOrder last log.entries →
    IsInOrder last (log_after turns most last kept log).entries
log_after_in_order zero keep most last kept log known order = order
log_after_in_order (suc turns) keep most last kept log known order =
    cond_both (leb (length (kept_after (last_logged log.entries) last kept)) most) _ _ (λ (l : LogView). IsInOrder last l.entries)
    (λ complete. turn_in_order keep most last kept log known order)
    (λ more. log_after_in_order turns keep most last kept (with_turn log (turn_of most last kept log)) known (turn_in_order keep most last kept log known order))

-- how much is left after a page that isn't complete
turn_leaves : (keep most last : ℕ) (kept : List EntryView) (log : LogView) → AreKept keep last kept → 1 ≤ most →
    leb (length (kept_after (last_logged log.entries) last kept)) most ≡ false →
    length (kept_after (last_logged (with_turn log (turn_of most last kept log)).entries) last kept) + most ≡ length (kept_after (last_logged log.entries) last kept)
turn_leaves keep most last kept log known low more =
    let many : most < length (kept_after (last_logged log.entries) last kept) = leb-false _ _ more in
    let ends = last_after keep last most kept log.entries known low (omega arith) in
    let before : length (kept_after (last_logged log.entries) last kept) ≡ length kept - (last_logged log.entries - purged last kept) =
    length-drop (last_logged log.entries - purged last kept) kept in
    let after : length (kept_after (last_logged (with_turn log (turn_of most last kept log)).entries) last kept)
    ≡ length kept - (last_logged (with_turn log (turn_of most last kept log)).entries - purged last kept) =
    length-drop (last_logged (with_turn log (turn_of most last kept log)).entries - purged last kept) kept in
    omega (arith, after, before, ends, many)

-- so many turns are enough, and more change nothing
turns_enough : (turns others keep most last : ℕ) (kept : List EntryView) (log : LogView) → AreKept keep last kept → 1 ≤ most →
    length (kept_after (last_logged log.entries) last kept) < turns → length (kept_after (last_logged log.entries) last kept) < others →
    log_after turns most last kept log ≡ log_after others most last kept log
turns_enough zero others keep most last kept log known low enough also = absurd (omega arith)
turns_enough (suc turns) zero keep most last kept log known low enough also = absurd (omega arith)
turns_enough (suc turns) (suc others) keep most last kept log known low enough also =
    cond_pair (λ (a b : LogView). a ≡ b) (leb (length (kept_after (last_logged log.entries) last kept)) most) _ _ _ _
    (λ complete. refl)
    (λ more.
    let size = turn_leaves keep most last kept log known low more in
    (turns_enough turns others keep most last kept (with_turn log (turn_of most last kept log)) known low (omega (arith, size)) (omega (arith, size))))

-- a turn of a catch-up
caught_up_turn : (keep most last : ℕ) (kept : List EntryView) (log : LogView) → AreKept keep last kept → 1 ≤ most →
    caught_up most last kept log
    ≡ cond (leb (length (kept_after (last_logged log.entries) last kept)) most)
    (with_turn log (turn_of most last kept log))
    (caught_up most last kept (with_turn log (turn_of most last kept log)))
caught_up_turn keep most last kept log known low =
    ap (λ n. log_after n most last kept log) (add-one (length kept))
    ∙ (cond_pair (λ (a b : LogView). a ≡ b) (leb (length (kept_after (last_logged log.entries) last kept)) most) _ _ _ _
    (λ complete. refl)
    (λ more.
    let size = turn_leaves keep most last kept log known low more in
    let whole : length (kept_after (last_logged log.entries) last kept) ≡ length kept - (last_logged log.entries - purged last kept) = length-drop (last_logged log.entries - purged last kept) kept in
    (turns_enough (length kept) (length kept + 1) keep most last kept (with_turn log (turn_of most last kept log)) known low (omega (arith, size)) (omega (arith, size)))))

-- one turn of the loop, which goes on where the page isn't complete
pub turn_kept : (keep most last : ℕ) (kept : List EntryView) (log next whole : LogView) (complete : Bool) → AreKept keep last kept → 1 ≤ most →
    caught_up most last kept log ≡ whole → next ≡ with_turn log (turn_of most last kept log) →
    complete ≡ leb (length (kept_after (last_logged log.entries) last kept)) most →
    cond (not complete) (caught_up most last kept next) next ≡ whole
turn_kept keep most last kept log next whole complete known low rest is tells =
    rw (is, tells) (swapped (leb (length (kept_after (last_logged log.entries) last kept)) most) _ _ ∙ sym (caught_up_turn keep most last kept log known low) ∙ rest)
  where
    swapped : (b : Bool) (x y : LogView) → cond (not b) y x ≡ cond b x y
    swapped true x y = refl
    swapped false x y = refl

pub turn_smaller : (keep most last : ℕ) (kept : List EntryView) (log next : LogView) (complete : Bool) → AreKept keep last kept → 1 ≤ most →
    next ≡ with_turn log (turn_of most last kept log) →
    complete ≡ leb (length (kept_after (last_logged log.entries) last kept)) most →
    cond (not complete) (length (kept_after (last_logged next.entries) last kept) + 1) 0 < length (kept_after (last_logged log.entries) last kept) + 1
turn_smaller keep most last kept log next true known low is tells = omega arith
turn_smaller keep most last kept log next false known low is tells =
    rw is (omega (arith, turn_leaves keep most last kept log known low (sym tells)))
