-- Pages that are tiled stay so with a page behind them.
use Rattle.std.proofs.Common.{◌≡◌, ◌≢◌, ℕ, ◌+◌, ◌<◌, Bool, true, false, cond, List, [], ◌∷◌, ◌++◌, Option, Some, None, length, map, get_or, IfSome, arith, refl, sym, ap, subst, ◌∙◌, append-nil, append_assoc}
use Rattle.std.specs.List.{AllPairs, list_any}
use Rattle.std.specs.Str.{bytes_eq}
use Rattle.std.proofs.lemmas.Bool.{false≢true}
use Rattle.std.proofs.lemmas.Grind.{flat_map-append}
use Rattle.std.proofs.lemmas.List.{length-append, map-append}
use Rattle.std.proofs.lemmas.List.Folds.{list_any_at}
use Rattle.std.proofs.lemmas.List.Quantifiers.{all_pairs_push}
use Rattle.std.proofs.lemmas.Slice.Eq.{bytes_eq-Decides}
use Rattle.mam_log.proofs.Repeats.{first_id}
use Rattle.mam_log.proofs.Unlogged.{unlogged-joined}
use Rattle.mam_log.specs.Breaks.{break_at, breaks_from, breaks_of}
use Rattle.mam_log.specs.LogPages.{LogPage, FollowsOn, IsAfter, ids_of, log_of, tile_of}
use Rattle.mam_log.specs.Orders.{IsOrderOf}
use Rattle.mam_log.specs.Tilings.{IsTiling, IsSound}
use Rattle.mam_log.specs.Views.{OpenPage, first_repeat, page_for, unheld}
use Rattle.mam_log.specs.declared.log_entry.LogEntry.{LogEntry}
use Rattle.mam_log.specs.declared.tile.Tile.{Tile}

-- a page that was asked for behind all others follows on
FollowsOn-push : (before : List LogEntry) (pages : List LogPage) (page : LogPage) → FollowsOn before pages → IsAfter (before ++ log_of pages) page.after → (page.complete ≡ false → 0 < length page.entries) → FollowsOn before (pages ++ page ∷ [])
FollowsOn-push before [] page f e c = (subst (λ (es : List LogEntry). IsAfter es page.after) (append-nil before) e, c, tt)
FollowsOn-push before (p ∷ ps) page f e c =
    (f.0, f.1, FollowsOn-push (before ++ p.entries) ps page f.2 (subst (λ (es : List LogEntry). IsAfter es page.after) (sym (append_assoc before p.entries (log_of ps))) e) c)

-- an id that is not among others differs from each of them
pub differs : (ids : List (List ℕ)) (id : List ℕ) → list_any (λ other. bytes_eq id other) ids ≡ false → (k : ℕ) (d : List ℕ) → k < length ids → get_or ids k d ≢ id
differs ids id none k d below same =
    false≢true (sym none ∙ list_any_at (λ other. bytes_eq id other) ids k d below ((bytes_eq-Decides id (get_or ids k d)).1 (sym same)))

-- ids in which none repeats are distinct
distinct-append : (known ids : List (List ℕ)) → AllPairs (λ a b. a ≢ b) known → first_repeat known ids ≡ None → AllPairs (λ a b. a ≢ b) (known ++ ids)
distinct-append known [] h none = rw append-nil h
distinct-append known (id ∷ ids) h none =
    let one = first_id known id ids none in
    let more = all_pairs_push (λ (a b : List ℕ). a ≢ b) known id h (differs known id one.0) in
    rw (← append_assoc known (id ∷ []) ids) (distinct-append (known ++ id ∷ []) ids more one.1)

log_of-push : (pages : List LogPage) (page : LogPage) → log_of (pages ++ page ∷ []) ≡ log_of pages ++ page.entries
log_of-push pages page = flat_map-append (λ (p : LogPage). p.entries) pages (page ∷ []) ∙ ap (λ es. log_of pages ++ es) (append-nil page.entries)

-- no entry, of no page
pub IsTiling-nil : IsTiling [] []
IsTiling-nil = record { pages = []; tiled = record { follows = tt; distinct = λ i j d below above. absurd (omega arith) }; joined = refl; kept = refl }

-- one more page
pub IsTiling-push : (entries : List LogEntry) (tiles : List Tile) (page : LogPage) → IsTiling entries tiles → IsAfter entries page.after → (page.complete ≡ false → 0 < length page.entries) → first_repeat (ids_of entries) (ids_of page.entries) ≡ None → IsTiling (entries ++ page.entries) (tiles ++ tile_of page ∷ [])
IsTiling-push entries tiles page h following advances none =
    let distinct = distinct-append (ids_of (log_of h.pages)) (ids_of page.entries) h.tiled.distinct (rw h.joined none) in
    record {
      pages = h.pages ++ page ∷ [];
      tiled = record {
        follows = FollowsOn-push [] h.pages page h.tiled.follows (subst (λ (es : List LogEntry). IsAfter es page.after) (sym h.joined) following) advances;
        distinct = rw (log_of-push h.pages page, map-append (λ (e : LogEntry). e.id) (log_of h.pages) page.entries) distinct;
      };
      joined = log_of-push h.pages page ∙ ap (λ es. es ++ page.entries) h.joined;
      kept = map-append tile_of h.pages (page ∷ []) ∙ ap (λ ts. ts ++ tile_of page ∷ []) h.kept;
    }

named_at : (b : Bool) (p page : OpenPage) → Some page ≡ cond b (Some p) None → p ≡ page
named_at true p page e = cc
named_at false p page e = absurd cc

-- what is so of the open page is so of the page with a query id
page_for-if : (queryid : List ℕ) (o : Option OpenPage) (page : OpenPage) (P : OpenPage → Type 0) → Some page ≡ page_for queryid o → IfSome o P → P page
page_for-if queryid None page P e h = absurd cc
page_for-if queryid (Some p) page P e h = subst P (named_at (bytes_eq p.queryid queryid) p page e) h

breaks_from-push : (n : ℕ) (pages : List LogPage) (tile : Tile) → breaks_from n (map tile_of pages ++ tile ∷ []) ≡ breaks_from n (map tile_of pages) ++ break_at (n + length (log_of pages)) tile
breaks_from-push n [] tile = append-nil (break_at n tile) ∙ ap (λ m. break_at m tile) (omega arith)
breaks_from-push n (page ∷ pages) tile =
    let count : n + length page.entries + length (log_of pages) ≡ n + length (page.entries ++ log_of pages) = omega (arith, length-append page.entries (log_of pages)) in
    ap (λ bs. break_at n (tile_of page) ++ bs) (breaks_from-push (n + length page.entries) pages tile ∙ ap (λ m. breaks_from (n + length page.entries) (map tile_of pages) ++ break_at m tile) count)
    ∙ sym (append_assoc (break_at n (tile_of page)) (breaks_from (n + length page.entries) (map tile_of pages)) (break_at (n + length (page.entries ++ log_of pages)) tile))

-- one more page breaks the log, or doesn't, behind all entries
breaks-push : (entries : List LogEntry) (tiles : List Tile) (tile : Tile) → IsTiling entries tiles → breaks_of (tiles ++ tile ∷ []) ≡ breaks_of tiles ++ break_at (length entries) tile
breaks-push entries tiles tile h =
    let count : 0 + length (log_of h.pages) ≡ length (log_of h.pages) = omega arith in
    rw (← h.kept, ← h.joined) (breaks_from-push 0 h.pages tile ∙ ap (λ m. breaks_from 0 (map tile_of h.pages) ++ break_at m tile) count)

-- a log that took over its open page
pub IsSound-joined : (order new_order : List ℕ) (entries new_entries : List LogEntry) (tiles new_tiles : List Tile) (breaks new_breaks : List ℕ) (held new_held : List LogEntry) (o left : Option OpenPage) (queryid : List ℕ) (page : OpenPage) (complete : Bool) (total : ℕ)
    → IsSound order entries tiles breaks o held
    → Some page ≡ page_for queryid o
    → left ≡ None
    → IsOrderOf new_order (ids_of new_entries)
    → first_repeat (ids_of entries) (ids_of page.results) ≡ None
    → (complete ≡ false → 0 < length page.results)
    → new_entries ≡ entries ++ page.results
    → new_tiles ≡ tiles ++ record { after = page.after; count = length page.results; complete = complete; total = total } ∷ []
    → new_breaks ≡ breaks ++ break_at (length entries) (record { after = page.after; count = length page.results; complete = complete; total = total })
    → new_held ≡ unheld (ids_of page.results) held
    → IsSound new_order new_entries new_tiles new_breaks left new_held
IsSound-joined order new_order entries new_entries tiles new_tiles breaks new_breaks held new_held o left queryid page complete total sound named none ordered fresh advances e f g h =
    let taken : LogPage = record { after = page.after; entries = page.results; complete = complete; total = total } in
    let following = page_for-if queryid o page (λ p. IsAfter entries p.after) named sound.following in
    rw (e, f, g, h, none) (record {
      ordered = rw e at ordered;
      tiling = IsTiling-push entries tiles taken sound.tiling following advances fresh;
      broken = rw sound.broken (sym (breaks-push entries tiles (tile_of taken) sound.tiling));
      following = tt;
      bound = tt;
      unlogged = unlogged-joined entries page.results held sound.unlogged;
    })
