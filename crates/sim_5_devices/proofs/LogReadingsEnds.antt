-- The end of a page: where the application takes it over, so does the log, and then the two are the same still.
use Rattle.std.proofs.Common.{◌≡◌, inl, inr, arith, ℕ, suc, ◌<◌, ◌^◌, ◌==◌, nat_lt, min, Bool, true, false, not, ◌&&◌, ◌||◌, if◌then◌else◌, List, [], ◌∷◌, ◌++◌, Option, Some, None, Ok, Err, map, filter, length, refl, sym, ap, ap₂, subst, ◌∙◌, append_assoc, append-nil}
use Rattle.std.proofs.Math.Bool.{and-false, or-false, or_comm}
use Rattle.std.proofs.lemmas.Bool.{and_parts, false≢true, not-true, true≢false}
use Rattle.std.proofs.lemmas.Bool.Decides.{leb_tells}
use Rattle.std.proofs.lemmas.List.{map-append}
use Rattle.std.proofs.lemmas.List.Concat.{flat_map-append}
use Rattle.std.proofs.lemmas.List.Folds.{list_any-append}
use Rattle.std.proofs.lemmas.Option.{none-some, same_Some}
use Rattle.std.specs.List.{AllByRecursion, flat_map, list_any}
use Rattle.std.specs.Option.{option_map, option_map_or}
use Rattle.std.specs.Str.{bytes_eq}
use Rattle.mam_archive.specs.Entries.{EntryView}
use Rattle.mam_archive.specs.Ids.{id_of}
use Rattle.mam_log.specs.LogPages.{ids_of, last_id}
use Rattle.mam_log.specs.Views.{LogView, advance_of, after_fin, end_of, first_repeat, outcome_of, same_id, unheld, with_page}
use Rattle.mam_log.specs.declared.fin.FinFault.TheVariants as fault
use Rattle.mam_log.specs.declared.log_entry.LogEntry.{LogEntry}
use Rattle.sim_5_devices.proofs.Entries.{among_ids, at_both, ids_at, last_at, length_at, logged_at, same_ids}
use Rattle.sim_5_devices.specs.Shown.{AreGiven, ArePageGiven, IsFinOf, IsGiven, IsReadingGiven, LogRepresents, id_logged, page_shown, tile_shown}
use Rattle.mam_pages.specs.declared.fin.Fin.{Fin}
use Rattle.sim_1_applications.proofs.Lists.{all_weaker}
use Rattle.sim_1_applications.specs.Answers.{last_in}
use Rattle.sim_1_applications.specs.Devices.{OpenPage, Reading, log_of}
use Rattle.sim_1_applications.specs.Events.{Around, are_new, is_broken, is_empty, is_number_among, over, same_position, tile}

abbrev Small : List ℕ → Type 0
Small ns = AllByRecursion (λ n. n < 2 ^ 64) ns

small_of : (history : List EntryView) (ns : List ℕ) → AreGiven history ns → Small ns
small_of history ns g = all_weaker (IsGiven history) (λ m. m < 2 ^ 64) ns (λ m given. given.small) g

-- ---- ids that come twice

-- the same numbers stand in both
abbrev Alike : List ℕ → List ℕ → Type 0
Alike xs ys = (n : ℕ) → is_number_among n xs ≡ is_number_among n ys

among_both : (n : ℕ) (xs ys : List ℕ) → is_number_among n (xs ++ ys) ≡ (is_number_among n xs || is_number_among n ys)
among_both n xs ys = list_any-append (λ m. n == m) xs ys

-- one more in both, at either end
alike_more : (n : ℕ) (xs ys : List ℕ) → Alike xs ys → Alike (xs ++ n ∷ []) (n ∷ ys)
alike_more n xs ys same m =
    among_both m xs (n ∷ []) ∙ ap₂ (λ x y. x || y) (same m) (or-false (m == n)) ∙ or_comm (is_number_among m ys) (m == n)

no_repeat : (known : List ℕ) (ns : List ℕ) (log : List ℕ) → Small known → Small ns → Alike known log → are_new log ns ≡ true → first_repeat (map id_of known) (map id_of ns) ≡ None
no_repeat known [] log small few alike new = refl
no_repeat known (n ∷ ns) log small few alike new =
    let parts = and_parts (not (is_number_among n log)) (are_new (n ∷ log) ns) new in
    let fresh : list_any (λ other. bytes_eq (id_of n) other) (map id_of known) ≡ false = among_ids n known few.0 small ∙ alike n ∙ not-true (is_number_among n log) parts.0 in
    rw fresh
    (ap (λ ids. first_repeat ids (map id_of ns)) (sym (map-append id_of known (n ∷ [])))
    ∙ no_repeat (known ++ n ∷ []) ns (n ∷ log) (all_after known n small few.0) few.1 (alike_more n known log alike) parts.1)
  where
    all_after : (known : List ℕ) (n : ℕ) → Small known → n < 2 ^ 64 → Small (known ++ n ∷ [])
    all_after [] n small one = (one, tt)
    all_after (m ∷ known) n small one = (small.0, all_after known n small.1 one)

-- ---- places

same_positions : (m n : Option ℕ) → ((k : ℕ) → m ≡ Some k → k < 2 ^ 64) → ((k : ℕ) → n ≡ Some k → k < 2 ^ 64) → same_id (option_map id_of m) (option_map id_of n) ≡ same_position m n
same_positions None None few less = refl
same_positions None (Some n) few less = refl
same_positions (Some m) None few less = refl
same_positions (Some m) (Some n) few less = same_ids m n (few m refl) (less n refl)

-- ---- what is held no more

unheld_by : (ids : List (List ℕ)) (ns : List ℕ) → ids ≡ map id_of ns → Small ns → (held : List LogEntry) (hs : List ℕ) → Small hs → map id_logged held ≡ map id_of hs
    → map id_logged (unheld ids held) ≡ map id_of (filter (λ h. not (is_number_among h ns)) hs)
unheld_by ids ns are small [] [] few same = refl
unheld_by ids ns are small [] (h ∷ hs) few same = absurd (nil_cons same)
  where
    nil_cons : {x : List ℕ} {xs : List (List ℕ)} → [] ≡ x ∷ xs → ⊥
    nil_cons e = cc
unheld_by ids ns are small (e ∷ held) [] few same = absurd (cons_nil same)
  where
    cons_nil : {x : List ℕ} {xs : List (List ℕ)} → x ∷ xs ≡ [] → ⊥
    cons_nil e = cc
unheld_by ids ns are small (e ∷ held) (h ∷ hs) few same =
    by (is_number_among h ns) (list_any (λ other. bytes_eq e.id other) ids)
    (ap₂ (λ id others. list_any (λ other. bytes_eq id other) others) (head_of same) are ∙ among_ids h ns few.0 small) refl
    (unheld_by ids ns are small held hs few.1 (tail_of same))
  where
    head_of : {x y : List ℕ} {xs ys : List (List ℕ)} → x ∷ xs ≡ y ∷ ys → x ≡ y
    head_of e = cc

    tail_of : {x y : List ℕ} {xs ys : List (List ℕ)} → x ∷ xs ≡ y ∷ ys → xs ≡ ys
    tail_of e = cc

    by : (b a : Bool) → a ≡ b → b ≡ b → map id_logged (unheld ids held) ≡ map id_of (filter (λ h. not (is_number_among h ns)) hs)
        → map id_logged (if not a then e ∷ unheld ids held else unheld ids held) ≡ map id_of (if not b then h ∷ filter (λ h. not (is_number_among h ns)) hs else filter (λ h. not (is_number_among h ns)) hs)
    by true true one two rest = rest
    by true false one two rest = absurd (false≢true one)
    by false true one two rest = absurd (true≢false one)
    by false false one two rest = ap₂ (λ x xs. x ∷ xs) (head_of same) rest

-- ---- the log behind the page

some_not_below : (m : ℕ) → nat_lt (suc m) 1 ≡ false
some_not_below m = elim (leb_tells (suc (suc m)) 1) [
  | inl below ↦ absurd (let one = below.1 in omega (arith, one))
  | inr other ↦ other.0
]

log_grows : (page : OpenPage) (b : Reading) (way : Bool) → flat_map (λ run. run) (if way then b.broken ++ b.run ∷ [] else b.broken) ++ (if way then page.results else b.run ++ page.results) ≡ log_of b ++ page.results
log_grows page b true = ap (λ l. l ++ page.results) (flat_map-append (λ run. run) b.broken (b.run ∷ []) ∙ ap (λ l. flat_map (λ run. run) b.broken ++ l) (append-nil b.run))
log_grows page b false = sym (append_assoc (flat_map (λ run. run) b.broken) b.run page.results)

module _ (keep : ℕ) (history : List EntryView) (log : LogView) (b : Reading) (represents : LogRepresents keep history log b) (given : IsReadingGiven history b) (page : OpenPage) (is : b.page ≡ Some page) where
  results : AreGiven history page.results
  results = by b.page is given.page
    where
      by : (o : Option OpenPage) → o ≡ Some page → ArePageGiven history o → AreGiven history page.results
      by None e g = absurd (none-some page e)
      by (Some p) e g = subst (λ (q : OpenPage). AreGiven history q.results) (same_Some p page e) g

  small_last : (k : ℕ) → last_in page.results ≡ Some k → k < 2 ^ 64
  small_last k = by page.results results k
    where
      by : (ns : List ℕ) → AreGiven history ns → (k : ℕ) → last_in ns ≡ Some k → k < 2 ^ 64
      by [] g k e = absurd (none-some k e)
      by (n ∷ []) g k e = subst (λ m. m < 2 ^ 64) (same_Some n k e) g.0.small
      by (n ∷ m ∷ ns) g k e = by (m ∷ ns) g.1 k e

  module _ (q : ℕ) (complete : Bool) (last : Option ℕ) (count : ℕ) (fin : Fin) (fits : IsFinOf fin complete last count) (small : (k : ℕ) → last ≡ Some k → k < 2 ^ 64) where
    -- what the application asks of an end
    abbrev pub IsGood : Type 0
    IsGood = (page.number == q && same_position last (last_in page.results) && are_new (log_of b) page.results && (complete || not (is_empty page.results))) ≡ true

    pub ends_well : IsGood → end_of log (page_shown history page) fin ≡ Ok (outcome_of complete)
    ends_well good =
        let parts = and_parts (page.number == q && same_position last (last_in page.results) && are_new (log_of b) page.results) (complete || not (is_empty page.results)) good in
        let before = and_parts (page.number == q && same_position last (last_in page.results)) (are_new (log_of b) page.results) parts.0 in
        let position = and_parts (page.number == q) (same_position last (last_in page.results)) before.0 in
        let same : same_id fin.last (last_id (logged_at history page.results)) ≡ true =
        ap₂ same_id fits.last (last_at history page.results results) ∙ same_positions last (last_in page.results) small small_last ∙ position.1 in
        let fresh : first_repeat (ids_of log.entries) (ids_of (logged_at history page.results)) ≡ None =
        ap₂ first_repeat (ap ids_of represents.entries ∙ ids_at history (log_of b) given.logged) (ids_at history page.results results)
        ∙ no_repeat (log_of b) page.results (log_of b) (small_of history (log_of b) given.logged) (small_of history page.results results) (λ n. refl) before.1 in
        rw same (rw fresh (ap (λ c. advance_of c (page_shown history page)) fits.complete ∙ advances complete page.results results parts.1))
      where
        advances : (c : Bool) (ns : List ℕ) → AreGiven history ns → (c || not (is_empty ns)) ≡ true
            → (if nat_lt (length (logged_at history ns)) 1 && not c then Err fault.NoAdvance else Ok (outcome_of c)) ≡ Ok (outcome_of c)
        advances true ns g some = rw (and-false (nat_lt (length (logged_at history ns)) 1)) refl
        advances false [] g some = absurd (false≢true some)
        advances false (n ∷ ns) g some = rw (length_at history (n ∷ ns) g) (rw (some_not_below (length ns)) refl)

  pub over_represents : (a : Around) (complete : Bool) (last : Option ℕ) (count : ℕ) (fin : Fin) → IsFinOf fin complete last count → count ≡ min (option_map_or (λ answer. answer.last) page.answer a.last) keep → LogRepresents keep history (after_fin log fin) (over a complete count page b)
  over_represents a complete last count fin fits total =
      subst (λ l. LogRepresents keep history l (over a complete count page b)) (sym (ap (λ o. elim o [ None ↦ log | Some p ↦ with_page log p fin ]) (represents.page ∙ ap (option_map (page_shown history)) is)))
      (record {
        entries =
            ap (λ es. es ++ logged_at history page.results) represents.entries ∙ sym (at_both history (log_of b) page.results)
            ∙ ap (logged_at history) (sym (log_grows page b (is_broken page.after b.run page.results)));
        tiles =
            ap₂ (λ ts t. ts ++ t ∷ []) represents.tiles (tile_is complete fits.complete)
            ∙ sym (map-append (tile_shown keep) b.tiles (tile a complete count page ∷ []));
        page = refl;
        held = unheld_by (ids_of (logged_at history page.results)) page.results (ids_at history page.results results) (small_of history page.results results) log.held b.held given.held represents.held;
      })
    where
      tile_is : (c : Bool) → fin.complete ≡ c
          → record { after = option_map id_of page.after; count = length (logged_at history page.results); complete = fin.complete; total = fin.count } ≡ tile_shown keep (tile a c count page)
      tile_is true e =
          ap₂ (λ n f. record { after = option_map id_of page.after; count = n; complete = f; total = fin.count }) (length_at history page.results results) e
          ∙ ap (λ t. record { after = option_map id_of page.after; count = length page.results; complete = true; total = t }) (fits.count ∙ total)
      tile_is false e =
          ap₂ (λ n f. record { after = option_map id_of page.after; count = n; complete = f; total = fin.count }) (length_at history page.results results) e
          ∙ ap (λ t. record { after = option_map id_of page.after; count = length page.results; complete = false; total = t }) (fits.count ∙ total)
