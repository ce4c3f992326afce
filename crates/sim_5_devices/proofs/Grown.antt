-- What a log has of a history stays where the history grows.
use Rattle.std.proofs.Common.{◌≡◌, ℕ, ◌+◌, filter, Bool, true, false, List, [], ◌∷◌, ◌++◌, Option, Some, None, map, refl, subst, sym, ap, ◌∙◌, if◌then◌else◌}
use Rattle.std.specs.Option.{option_map}
use Rattle.std.specs.Prelude.{find}
use Rattle.mam_archive.specs.Entries.{EntryView}
use Rattle.cmd_direct.specs.Direct.{as_logged}
use Rattle.cmd_direct.proofs.PageRuns.{numbered_more}
use Rattle.mam_log.specs.Views.{LogView}
use Rattle.sim_5_devices.proofs.Entries.{at_first}
use Rattle.sim_5_devices.specs.Shown.{AreGiven, ArePageGiven, IsGiven, IsReadingGiven, LogRepresents, page_shown}
use Rattle.sim_1_applications.proofs.Lists.{all_weaker}
use Rattle.sim_1_applications.specs.Devices.{OpenPage, Reading, log_of}
use Rattle.sim_1_applications.specs.Reported.{entries_at, history_at, take_of}
use Rattle.cmd_report.specs.Takes.{Take, concerns, entry_of, numbered_from}
use Rattle.cmd_schedule.specs.Contents.{Owned}
use Rattle.sim_1_applications.specs.Devices as sessions
use Rattle.std.proofs.lemmas.List.{map-append}
use Rattle.std.proofs.lemmas.List.Elements.{filter-append}

-- what is found in front is found
found_in_front : {A : Type 0} (p : A → Bool) (xs ys : List A) (a : A) → find p xs ≡ Some a → find p (xs ++ ys) ≡ Some a
found_in_front p [] ys a is = absurd (let no_way : ⊥ = cc in no_way)
found_in_front p (x ∷ xs) ys a is = by (p x) (found_in_front p xs ys a) is
  where
    by : (b : Bool) → (find p xs ≡ Some a → find p (xs ++ ys) ≡ Some a) → (if b then Some x else find p xs) ≡ Some a → (if b then Some x else find p (xs ++ ys)) ≡ Some a
    by true rest is = is
    by false rest is = rest is

module _ (history more : List EntryView) where
  abbrev one_given : (n : ℕ) → IsGiven history n → IsGiven (history ++ more) n
  one_given n g = record { entry = g.entry; there = found_in_front _ history more g.entry g.there; number = g.number; small = g.small }

  all_given : (ns : List ℕ) → AreGiven history ns → AreGiven (history ++ more) ns
  all_given ns g = all_weaker (IsGiven history) (IsGiven (history ++ more)) ns one_given g

  same_entries : (ns : List ℕ) → AreGiven history ns → entries_at (history ++ more) ns ≡ entries_at history ns
  same_entries [] g = refl
  same_entries (n ∷ ns) g = at_first (history ++ more) n ns (one_given n g.0) ∙ ap (λ es. g.0.entry ∷ es) (same_entries ns g.1) ∙ sym (at_first history n ns g.0)

  page_given : (o : Option OpenPage) → ArePageGiven history o → ArePageGiven (history ++ more) o × (option_map (page_shown (history ++ more)) o ≡ option_map (page_shown history) o)
  page_given None g = (tt, refl)
  page_given (Some page) g = (all_given page.results g, ap (λ es. Some (record (page_shown history page) { results = map as_logged es })) (same_entries page.results g))

  pub reading_given : (b : Reading) → IsReadingGiven history b → IsReadingGiven (history ++ more) b
  reading_given b g = record { logged = all_given (log_of b) g.logged; page = (page_given b.page g.page).0; held = g.held }

  pub log_grown : (keep : ℕ) (log : LogView) (b : Reading) → IsReadingGiven history b → LogRepresents keep history log b → LogRepresents keep (history ++ more) log b
  log_grown keep log b g represents = record {
    entries = represents.entries ∙ ap (map as_logged) (sym (same_entries (log_of b) g.logged));
    tiles = represents.tiles;
    page = represents.page ∙ sym (page_given b.page g.page).1;
    held = represents.held;
  }

-- ---- a history of takes

pub history_more : (owned : List Owned) (takes new : List sessions.Take) (account : List ℕ) → (more : List EntryView) × (history_at owned (takes ++ new) account ≡ history_at owned takes account ++ more)
history_more owned takes new account =
    let mine = λ (ts : List Take). filter (concerns account) ts in
    let all = numbered_more 1 (map entry_of (mine (map (take_of owned) takes))) (map entry_of (mine (map (take_of owned) new))) in (
      all.0,
      ap (numbered_from 1)
          (ap (λ ts. map entry_of (mine ts)) (map-append (take_of owned) takes new)
          ∙ ap (map entry_of) (filter-append (concerns account) (map (take_of owned) takes) (map (take_of owned) new))
          ∙ map-append entry_of (mine (map (take_of owned) takes)) (mine (map (take_of owned) new)))
          ∙ all.1,
    )

pub takes_grown : (keep : ℕ) (owned : List Owned) (takes new : List sessions.Take) (account : List ℕ) (log : LogView) (b : Reading)
    → LogRepresents keep (history_at owned takes account) log b × IsReadingGiven (history_at owned takes account) b
    → LogRepresents keep (history_at owned (takes ++ new) account) log b × IsReadingGiven (history_at owned (takes ++ new) account) b
takes_grown keep owned takes new account log b read =
    let history = history_at owned takes account in
    let more = history_more owned takes new account in
    subst (λ h. LogRepresents keep h log b × IsReadingGiven h b) (sym more.1) (log_grown history more.0 keep log b read.1 read.0, reading_given history more.0 b read.1)
