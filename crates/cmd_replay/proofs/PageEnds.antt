-- The page that the archive answered to a log ends well: its ids are new, and it has an entry where entries remain.
use Rattle.std.proofs.Common.{◌≡◌, ℕ, zero, suc, ◌+◌, ◌-◌, ◌<◌, ◌≤◌, min, Bool, true, false, cond, ◌&&◌, leb, ltb, List, [], ◌∷◌, ◌++◌, Option, Some, None, Ok, length, take, get_or, map, refl, sym, ap, ◌∙◌, arith}
use Rattle.std.proofs.lemmas.Bool.{le-leb, le-ltb, leb-false}
use Rattle.std.proofs.lemmas.List.{append-nil, append_assoc, get_or-drop, get_or-map, get_or-take, length-drop, length-map, length-take, map_push, take_more}
use Rattle.std.proofs.lemmas.Option.{get_or_from_slice_get, none-some, same_Some}
use Rattle.std.specs.List.{slice_get}
use Rattle.std.specs.Option.{IsSomeAnd, option_map}
use Rattle.std.specs.Str.{bytes_eq}
use Rattle.mam_archive.proofs.NumberedEntries.{FollowFrom}
use Rattle.mam_archive.specs.Entries.{AreKept, EntryView}
use Rattle.mam_archive.specs.Ids.{id_of}
use Rattle.base_lemmas.proofs.Bytes.{bytes_eq-self}
use Rattle.cmd_direct.proofs.NextPages.{id_after, same_id-self}
use Rattle.cmd_direct.specs.Direct.{as_logged}
use Rattle.cmd_direct.specs.NextPages.{cut_at, is_purged, kept_after, last_logged, purged}
use Rattle.mam_log.specs.LogPages.{last_id}
use Rattle.mam_log.specs.Views.{LogView, OpenPage, advance_of, after_fin, fin_answer, outcome_of, page_for, same_id, with_result}
use Rattle.mam_log.specs.declared.log_entry.LogEntry.{LogEntry}
use Rattle.mam_pages.specs.Cuts.{fin_of}
use Rattle.mam_pages.specs.Spans.{number_of_entry, numbers_of}
use Rattle.mam_pages.specs.declared.fin.Fin.{Fin}
use Rattle.cmd_replay.proofs.InOrder.{after_follows, last_id_is, page_is_new}
use Rattle.cmd_replay.specs.Turns.{IsInOrder, opened, turn_of, with_results, with_turn}

-- the id of a page's last entry
last_of_page : (es : List EntryView) → option_map id_of (slice_get (numbers_of es) (length (numbers_of es) - 1)) ≡ last_id (map as_logged es)
last_of_page [] = refl
last_of_page (e ∷ []) = refl
last_of_page (e ∷ f ∷ es) =
    let there : suc (suc (length (numbers_of es))) - 1 ≡ suc (length (numbers_of es)) = omega arith in
    let here : suc (length (numbers_of es)) - 1 ≡ length (numbers_of es) = omega arith in
    rw there (rw here at (last_of_page (f ∷ es)))

-- the last entry's id
pub last_read : (es : List LogEntry) (e : LogEntry) → slice_get es (length es - 1) ≡ Some e → last_id es ≡ Some e.id
last_read [] e is = absurd (none-some e is)
last_read (x ∷ []) e is = ap (λ (d : LogEntry). Some d.id) (same_Some x e is)
last_read (x ∷ y ∷ es) e is =
    let there : suc (suc (length es)) - 1 ≡ suc (length es) = omega arith in
    let here : suc (length es) - 1 ≡ length es = omega arith in
    last_read (y ∷ es) e (rw here (rw there at is))

cond_neither : {X : Type 0} (b : Bool) (x y : X) → cond (b && false) x y ≡ y
cond_neither true x y = refl
cond_neither false x y = refl

-- a page that is not the last has an entry
page_advances : (most : ℕ) (left : List EntryView) (page : OpenPage) (complete : Bool) → 1 ≤ most → page.results ≡ map as_logged (take most left) →
    complete ≡ leb (length left) most → advance_of complete page ≡ Ok (outcome_of complete)
page_advances most left page true low results is = cond_neither (ltb (length page.results) 1) _ _
page_advances most left page false low results is =
    let many : most < length left = leb-false _ _ (sym is) in
    let got : length (take most left) ≡ min most (length left) = length-take most left in
    let mapped : length (map as_logged (take most left)) ≡ length (take most left) = length-map (take most left) as_logged in
    let some : ltb (length page.results) 1 ≡ false = le-ltb (length page.results) 1 (omega (arith, ap length results)) in
    rw some refl

-- so the page that was answered is taken over
pub page_ends_well : (keep last most : ℕ) (kept : List EntryView) (queryid : List ℕ) (after : Option (List ℕ)) (log now : LogView) (fin : Fin) →
    AreKept keep last kept → 1 ≤ most → IsInOrder last log.entries →
    fin ≡ fin_of (cut_at (last_logged log.entries) most last kept) →
    now ≡ opened queryid most after log (map as_logged (take most (kept_after (last_logged log.entries) last kept))) →
    fin_answer now queryid fin ≡ Ok (outcome_of fin.complete)
page_ends_well keep last most kept queryid after log now fin known low order told opens =
    let page = take most (kept_after (last_logged log.entries) last kept) in
    let named : bytes_eq queryid queryid ≡ true = bytes_eq-self queryid in
    let ends : fin.last ≡ last_id (map as_logged (take most (kept_after (last_logged log.entries) last kept))) =
    ap (λ (f : Fin). f.last) told ∙ last_of_page (take most (kept_after (last_logged log.entries) last kept)) in
    let ids : same_id fin.last (last_id (map as_logged (take most (kept_after (last_logged log.entries) last kept)))) ≡ true =
    rw ends (same_id-self (last_id (map as_logged (take most (kept_after (last_logged log.entries) last kept))))) in
    let new = page_is_new keep last most kept log.entries known order in
    rw opens (rw (named, ids, new) (page_advances most (kept_after (last_logged log.entries) last kept)
    (record { queryid = queryid; max = most; after = after; results = map as_logged (take most (kept_after (last_logged log.entries) last kept)) })
    fin.complete low refl (ap (λ (f : Fin). f.complete) told)))

-- what a page was asked for behind: nothing where its archive has purged the log's last entry, or there is none
asked_after : (n last : ℕ) (kept : List EntryView) → cond (is_purged n last kept) None (id_after n) ≡ cond (leb n (purged last kept)) None (Some (id_of n))
asked_after zero last kept = let low : leb zero (purged last kept) ≡ true = le-leb zero (purged last kept) (omega arith) in rw low refl
asked_after (suc n) last kept = refl

-- and its entries and its tile join the log
pub page_taken_over : (keep last most : ℕ) (kept : List EntryView) (queryid : List ℕ) (anew : Bool) (log now next : LogView) (fin : Fin) →
    AreKept keep last kept → IsInOrder last log.entries →
    fin ≡ fin_of (cut_at (last_logged log.entries) most last kept) →
    anew ≡ is_purged (last_logged log.entries) last kept →
    now ≡ opened queryid most (cond anew None (last_id log.entries)) log (map as_logged (take most (kept_after (last_logged log.entries) last kept))) →
    next ≡ after_fin now fin → next ≡ with_turn log (turn_of most last kept log)
page_taken_over keep last most kept queryid anew log now next fin known order told purges opens over =
    let page = map as_logged (take most (kept_after (last_logged log.entries) last kept)) in
    let after : cond anew None (last_id log.entries) ≡ cond (leb (last_logged log.entries) (purged last kept)) None (Some (id_of (last_logged log.entries))) =
    ap (λ b. cond b None (last_id log.entries)) purges
    ∙ ap (cond (is_purged (last_logged log.entries) last kept) None) (last_id_is last log.entries order)
    ∙ asked_after (last_logged log.entries) last kept in
    over
    ∙ ap (λ l. after_fin l fin) (opens ∙ ap (λ a. opened queryid most a log page) after)
    ∙ ap (after_fin (opened queryid most (cond (leb (last_logged log.entries) (purged last kept)) None (Some (id_of (last_logged log.entries)))) log page)) told

-- ---- one result after the other

-- the page of this query, without results yet
abbrev HasBegun : List ℕ → ℕ → Option OpenPage → Type 0
HasBegun queryid most page = IsSomeAnd (page_for queryid page) (λ p. (p.max ≡ most) × (p.results ≡ []))

abbrev more_results : List LogEntry → OpenPage → OpenPage
more_results results page = record page { results = page.results ++ results }

pub opened_begins : (queryid : List ℕ) (most : ℕ) (after : Option (List ℕ)) (log : LogView) → HasBegun queryid most (opened queryid most after log []).page
opened_begins queryid most after log = let named : bytes_eq queryid queryid ≡ true = bytes_eq-self queryid in rw named (refl, refl)

room_in : (queryid : List ℕ) (most : ℕ) (results : List LogEntry) (page : Option OpenPage) → length results < most → HasBegun queryid most page →
    IsSomeAnd (page_for queryid (option_map (more_results results) page)) (λ p. length p.results < p.max)
room_in queryid most results None few begun = begun
room_in queryid most results (Some p) few begun = go (bytes_eq p.queryid queryid) begun
  where
    go : (hit : Bool) → IsSomeAnd (cond hit (Some p) None) (λ (q : OpenPage). (q.max ≡ most) × (q.results ≡ [])) →
        IsSomeAnd (cond hit (Some (more_results results p)) None) (λ (q : OpenPage). length q.results < q.max)
    go true known = rw (known.0, known.1) few
    go false known = known

-- the open page has room for a result more
pub page_has_room : (queryid : List ℕ) (most at : ℕ) (log now : LogView) (xs : List EntryView) → at < most → HasBegun queryid most log.page →
    now ≡ with_results log (map as_logged (take at xs)) → IsSomeAnd (page_for queryid now.page) (λ page. length page.results < page.max)
page_has_room queryid most at log now xs few begun is =
    let size : length (map as_logged (take at xs)) ≡ length (take at xs) = length-map (take at xs) as_logged in
    let short : length (take at xs) ≡ min at (length xs) = length-take at xs in
    rw is (room_in queryid most (map as_logged (take at xs)) log.page (omega arith) begun)

one_more : (page : Option OpenPage) (results : List LogEntry) (e : LogEntry) →
    option_map (λ (p : OpenPage). record p { results = p.results ++ e ∷ [] }) (option_map (more_results results) page) ≡ option_map (more_results (results ++ e ∷ [])) page
one_more None results e = refl
one_more (Some p) results e = ap (λ rs. let q : OpenPage = record p { results = rs } in Some q) (append_assoc p.results results (e ∷ []))

result_added : (log : LogView) (results : List LogEntry) (e : LogEntry) → with_result (with_results log results) e ≡ with_results log (results ++ e ∷ [])
result_added log results e = ap (λ (page : Option OpenPage). let l : LogView = record log { page = page } in l) (one_more log.page results e)

none_more : (page : Option OpenPage) → page ≡ option_map (more_results []) page
none_more None = refl
none_more (Some p) = ap (λ rs. let q : OpenPage = record p { results = rs } in Some q) (sym (append-nil p.results))

-- the page before its first result
pub no_results : (log : LogView) → log ≡ with_results log []
no_results log = ap (λ (page : Option OpenPage). let l : LogView = record log { page = page } in l) (none_more log.page)

abbrev pub any_entry : EntryView
any_entry = record { number = 0; stamp = 0; from = []; to = []; normal = false; id = []; origin = []; bodies = [] }

number_following : (s : ℕ) (es : List EntryView) (i : ℕ) (d : EntryView) → FollowFrom s es → i < length es → (get_or es i d).number ≡ s + i
number_following s [] i d follow low = absurd (omega arith)
number_following s (e ∷ es) zero d follow low = omega (arith, follow.0)
number_following s (e ∷ es) (suc i) d follow low = omega (arith, number_following (suc s) es i d follow.1 (omega arith))

-- the number at a place of a page, and where its entry stands in the archive
pub number_at : (keep n last most at : ℕ) (kept : List EntryView) (numbers : List ℕ) → AreKept keep last kept →
    numbers ≡ numbers_of (take most (kept_after n last kept)) → at < length numbers →
    (get_or numbers at 0 ≡ purged last kept + 1 + (n - purged last kept) + at) × (at < most) × (n - purged last kept + at < length kept)
number_at keep n last most at kept numbers known are there =
    let page = take most (kept_after n last kept) in
    let size : length numbers ≡ length (take most (kept_after n last kept)) = ap length are ∙ length-map (take most (kept_after n last kept)) number_of_entry in
    let short : length (take most (kept_after n last kept)) ≡ min most (length (kept_after n last kept)) = length-take most (kept_after n last kept) in
    let rest : length (kept_after n last kept) ≡ length kept - (n - purged last kept) = length-drop (n - purged last kept) kept in
    let read : get_or numbers at 0 ≡ (get_or (kept_after n last kept) at any_entry).number =
    ap (λ ns. get_or ns at 0) are
    ∙ get_or-map number_of_entry (take most (kept_after n last kept)) at any_entry 0 (omega arith)
    ∙ ap number_of_entry (get_or-take most (kept_after n last kept) at any_entry (omega arith)) in
    let number : (get_or (kept_after n last kept) at any_entry).number ≡ purged last kept + 1 + (n - purged last kept) + at =
    number_following (purged last kept + 1 + (n - purged last kept)) (kept_after n last kept) at any_entry (after_follows keep n last kept known) (omega arith) in
    (read ∙ number, omega arith, omega arith)

-- a result more in the open page
pub result_taken : (keep n last most at : ℕ) (kept : List EntryView) (numbers : List ℕ) (log now next : LogView) →
    AreKept keep last kept → numbers ≡ numbers_of (take most (kept_after n last kept)) → at < length numbers →
    now ≡ with_results log (map as_logged (take at (kept_after n last kept))) →
    ((d : EntryView) → next ≡ with_result now (as_logged (get_or kept (get_or numbers at 0 + length kept - 1 - last) d))) →
    next ≡ with_results log (map as_logged (take (at + 1) (kept_after n last kept)))
result_taken keep n last most at kept numbers log now next known are there is taken =
    let position = number_at keep n last most at kept numbers known are there in
    let spot : get_or numbers at 0 + length kept - 1 - last ≡ n - purged last kept + at = omega (arith, position.0, known.within) in
    let rest : length (kept_after n last kept) ≡ length kept - (n - purged last kept) = length-drop (n - purged last kept) kept in
    let entry : get_or kept (n - purged last kept + at) any_entry ≡ get_or (kept_after n last kept) at any_entry = sym (get_or-drop (n - purged last kept) kept at any_entry) in
    taken any_entry
    ∙ ap (λ i. with_result now (as_logged (get_or kept i any_entry))) spot
    ∙ ap (λ e. with_result now (as_logged e)) entry
    ∙ ap (λ l. with_result l (as_logged (get_or (kept_after n last kept) at any_entry))) is
    ∙ result_added log (map as_logged (take at (kept_after n last kept))) (as_logged (get_or (kept_after n last kept) at any_entry))
    ∙ ap (with_results log)
    (sym (map_push as_logged (take at (kept_after n last kept)) (get_or (kept_after n last kept) at any_entry))
    ∙ ap (map as_logged) (sym (take_more (kept_after n last kept) at any_entry (omega (arith, position.2)))))

-- with all results of the page
pub results_taken : (n last most at : ℕ) (kept : List EntryView) (numbers : List ℕ) (log now : LogView) →
    numbers ≡ numbers_of (take most (kept_after n last kept)) → at ≡ length numbers →
    now ≡ with_results log (map as_logged (take at (kept_after n last kept))) →
    now ≡ with_results log (map as_logged (take most (kept_after n last kept)))
results_taken n last most at kept numbers log now are end is =
    let size : at ≡ length (take most (kept_after n last kept)) =
    end ∙ ap length are ∙ length-map (take most (kept_after n last kept)) number_of_entry in
    is ∙ ap (λ k. with_results log (map as_logged (take k (kept_after n last kept)))) size
    ∙ ap (λ es. with_results log (map as_logged es)) (take_whole most (kept_after n last kept))
  where
    take_whole : (k : ℕ) (xs : List EntryView) → take (length (take k xs)) xs ≡ take k xs
    take_whole zero xs = refl
    take_whole (suc k) [] = refl
    take_whole (suc k) (x ∷ xs) = ap (λ t. x ∷ t) (take_whole k xs)

-- an entry that was copied with its id is the one at its number's place, as it is logged
pub result_copied : (archive : List EntryView) (position : ℕ) (e copy d : EntryView) (id : List ℕ) → slice_get archive position ≡ Some e → copy ≡ e → id ≡ id_of e.number →
    (let logged : LogEntry = record { id = id; entry = copy } in logged) ≡ as_logged (get_or archive position d)
result_copied archive position e copy d id there same is =
    ap (λ i. let logged : LogEntry = record { id = i; entry = copy } in logged) (is ∙ ap (λ (v : EntryView). id_of v.number) (sym same))
    ∙ ap as_logged (same ∙ sym (get_or_from_slice_get archive position e d there))
