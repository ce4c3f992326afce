-- A result comes, a page begins, begins anew or is given up, and a message is held.
use Rattle.std.proofs.Common.{◌≡◌, inl, inr, arith, ℕ, suc, ◌+◌, ◌<◌, ◌^◌, nat_le, nat_lt, Bool, true, false, not, ◌&&◌, ◌||◌, if◌then◌else◌, List, [], ◌∷◌, ◌++◌, Some, None, map, length, refl, sym, ap, ap₂, ◌∙◌}
use Rattle.std.proofs.lemmas.Bool.{false≢true, true≢false}
use Rattle.std.proofs.lemmas.Bool.Decides.{leb_tells}
use Rattle.std.proofs.lemmas.List.{length-map, map-append}
use Rattle.std.specs.List.{AllByRecursion, list_any}
use Rattle.std.specs.Option.{option_map}
use Rattle.std.specs.Str.{bytes_eq}
use Rattle.mam_archive.specs.Entries.{EntryView}
use Rattle.mam_archive.specs.Ids.{id_of}
use Rattle.cmd_direct.specs.Direct.{as_logged}
use Rattle.mam_log.specs.LogCalls.{after_hold, may_hold, with_restart}
use Rattle.mam_log.specs.LogPages.{ids_of, last_id}
use Rattle.mam_log.specs.Views.{LogView, OpenPage as LogPage, with_begun, with_result, without_page}
use Rattle.mam_log.specs.declared.log_entry.LogEntry.{LogEntry}
use Rattle.sim_5_devices.proofs.Entries.{among_ids, at_both, at_first, ids_at, last_at, logged_at}
use Rattle.sim_5_devices.specs.Shown.{AreGiven, IsGiven, IsReadingGiven, LogRepresents, id_logged, page_shown, queryid_of}
use Rattle.sim_1_applications.proofs.Lists.{all_weaker}
use Rattle.sim_1_applications.specs.Answers.{last_in}
use Rattle.sim_1_applications.specs.Devices.{OpenPage, Reading, log_of}
use Rattle.sim_1_applications.specs.Events.{asking, hold, holds, is_number_among}

below_or_not : (k n : ℕ) → nat_lt k n ≡ not (nat_le n k)
below_or_not k n = elim (leb_tells (suc k) n) [
  | inl below ↦ elim (leb_tells n k) [
    | inl above ↦ absurd (let one = below.1 in let two = above.1 in omega (arith, one, two))
    | inr other ↦ below.0 ∙ sym (ap not other.0)
  ]
  | inr not_below ↦ elim (leb_tells n k) [
    | inl above ↦ not_below.0 ∙ sym (ap not above.0)
    | inr other ↦ absurd (let one = not_below.1 in let two = other.1 in omega (arith, one, two))
  ]
]

module _ (keep : ℕ) (history : List EntryView) (log : LogView) (b : Reading) (represents : LogRepresents keep history log b) where
  pub result_represents : (n : ℕ) (page : OpenPage) (g : IsGiven history n) → b.page ≡ Some page
      → LogRepresents keep history (with_result log (as_logged g.entry)) (record b { page = Some (record page { results = page.results ++ n ∷ []; answer = page.answer }) })
  result_represents n page g is = record {
    entries = represents.entries;
    tiles = represents.tiles;
    page =
        ap (option_map (λ (p : LogPage). record p { results = p.results ++ as_logged g.entry ∷ [] })) (represents.page ∙ ap (option_map (page_shown history)) is)
        ∙ ap (λ results. Some (record (page_shown history page) { results = results }))
        (ap (λ es. logged_at history page.results ++ map as_logged es) (sym (at_first history n [] g)) ∙ sym (at_both history page.results (n ∷ [])));
    held = represents.held;
  }

  pub begun_represents : (max began : ℕ) → AreGiven history (log_of b)
      → LogRepresents keep history (with_begun log (queryid_of (b.asked + 1)) max) (asking (last_in (log_of b)) max began b).reading
  begun_represents max began g = record {
    entries = represents.entries;
    tiles = represents.tiles;
    page = ap (λ after. Some (record { queryid = queryid_of (b.asked + 1); max = max; after = after; results = [] })) (ap last_id represents.entries ∙ last_at history (log_of b) g);
    held = represents.held;
  }

  pub restarted_represents : (page : OpenPage) (began : ℕ) → b.page ≡ Some page
      → LogRepresents keep history (with_restart log (queryid_of (b.asked + 1))) (asking None page.max began b).reading
  restarted_represents page began is = record {
    entries = represents.entries;
    tiles = represents.tiles;
    page = ap (option_map (λ (p : LogPage). record p { queryid = queryid_of (b.asked + 1); after = None; results = [] })) (represents.page ∙ ap (option_map (page_shown history)) is);
    held = represents.held;
  }

  pub dropped_represents : LogRepresents keep history (without_page log) (record b { page = None })
  dropped_represents = record { entries = represents.entries; tiles = represents.tiles; page = refl; held = represents.held }

  -- ---- what is held

  ids_held : ids_of log.held ≡ map id_of b.held
  ids_held = represents.held

  many_held : length log.held ≡ length b.held
  many_held = sym (length-map log.held id_logged) ∙ ap length represents.held ∙ length-map b.held id_of

  small_log : AreGiven history (log_of b) → AllByRecursion (λ m. m < 2 ^ 64) (log_of b)
  small_log g = all_weaker (IsGiven history) (λ m. m < 2 ^ 64) (log_of b) (λ m given. given.small) g

  may_is : (n : ℕ) → IsReadingGiven history b → n < 2 ^ 64 → may_hold log (id_of n) ≡ not (holds n b)
  may_is n g few =
      ap₂ (λ x y. not x && (not y && nat_lt (length log.held) 10000))
      (ap (λ ids. list_any (λ other. bytes_eq (id_of n) other) ids) (ap ids_of represents.entries ∙ ids_at history (log_of b) g.logged) ∙ among_ids n (log_of b) few (small_log g.logged))
      (ap (λ ids. list_any (λ other. bytes_eq (id_of n) other) ids) ids_held ∙ among_ids n b.held few g.held)
      ∙ ap (λ k. not (is_number_among n (log_of b)) && (not (is_number_among n b.held) && nat_lt k 10000)) many_held
      ∙ by (is_number_among n (log_of b)) (is_number_among n b.held) (length b.held)
    where
      by : (x y : Bool) (k : ℕ) → (not x && (not y && nat_lt k 10000)) ≡ not (x || y || nat_le 10000 k)
      by true y k = refl
      by false true k = refl
      by false false k = below_or_not k 10000

  held_by : (e : LogEntry) (n : ℕ) → e.id ≡ id_of n → (may : Bool) (held : Bool) → may ≡ not held
      → LogRepresents keep history (if may then record log { held = log.held ++ e ∷ [] } else log) (record b { held = if held then b.held else b.held ++ n ∷ [] })
  held_by e n is true true same = absurd (true≢false same)
  held_by e n is true false same = record {
    entries = represents.entries;
    tiles = represents.tiles;
    page = represents.page;
    held = map-append id_logged log.held (e ∷ []) ∙ ap₂ (λ xs x. xs ++ x ∷ []) represents.held is ∙ sym (map-append id_of b.held (n ∷ []));
  }
  held_by e n is false true same = represents
  held_by e n is false false same = absurd (false≢true same)

  pub held_represents : (e : LogEntry) (n : ℕ) → e.id ≡ id_of n → n < 2 ^ 64 → IsReadingGiven history b → LogRepresents keep history (after_hold log e) (hold n b)
  held_represents e n is few g = held_by e n is (may_hold log e.id) (holds n b) (ap (may_hold log) is ∙ may_is n g few)
