-- The pages of a device by turns: each turn is one page of an archive that had given a last number. Pages, the entries
-- that they have and the number of the last are computed from the turns and the account's history.
use Rattle.std.proofs.Common.{◌≡◌, ℕ, zero, suc, ◌+◌, ◌-◌, ◌≤◌, min, max, cond, leb, List, [], ◌∷◌, ◌++◌, Option, Some, None, length, take, drop, map, refl, sym, ap, ◌∙◌, arith, inl, inr}
use Rattle.std.proofs.Math.Seq.{take-add}
use Rattle.std.proofs.lemmas.Bool.{cases_lt}
use Rattle.std.proofs.lemmas.List.{append_assoc, append-nil, drop-drop, drop-take, length-drop, length-take, length-take-le, map-append, take-take, take_all}
use Rattle.mam_archive.proofs.NumberedEntries.{FollowFrom, follow_drop}
use Rattle.mam_archive.specs.Entries.{EntryView, newest}
use Rattle.mam_archive.specs.Ids.{id_of}
use Rattle.cmd_direct.proofs.NextPages.{id_after}
use Rattle.cmd_direct.specs.Direct.{as_logged}
use Rattle.cmd_direct.specs.NextPages.{kept_after, page_at, purged}
use Rattle.mam_log.specs.LogPages.{LogPage, last_id, log_of}
use Rattle.mam_log.specs.declared.log_entry.LogEntry.{LogEntry}
use Rattle.mam_archive.proofs.ChainPositions.{follow_take}

-- one page: the greatest number that the archive had given, and how many entries were asked for
pub record Turn : Type 0 where
  pub last : ℕ
  pub most : ℕ

-- behind a log whose last entry has number n, the page has the entries from the one behind this number
abbrev pub start_of : ℕ → ℕ → Turn → ℕ
start_of keep n turn = max n (turn.last - keep)

-- to the one with this number
abbrev pub end_of : ℕ → ℕ → Turn → ℕ
end_of keep n turn = min (start_of keep n turn + turn.most) turn.last

-- the entries of a history behind number s, to number t
abbrev pub span : ℕ → ℕ → List EntryView → List EntryView
span s t history = take (t - s) (drop s history)

abbrev pub page_by : ℕ → List EntryView → ℕ → Turn → LogPage
page_by keep history n turn = record {
  after = cond (leb n (turn.last - keep)) None (Some (id_of n));
  entries = map as_logged (span (start_of keep n turn) (end_of keep n turn) history);
  complete = leb (turn.last - start_of keep n turn) turn.most;
  total = min turn.last keep;
}

abbrev pub pages_by : ℕ → List EntryView → ℕ → List Turn → List LogPage
pages_by keep history n [] = []
pages_by keep history n (turn ∷ turns) = page_by keep history n turn ∷ pages_by keep history (end_of keep n turn) turns

-- the entries of the pages
abbrev pub run_by : ℕ → List EntryView → ℕ → List Turn → List EntryView
run_by keep history n [] = []
run_by keep history n (turn ∷ turns) =
    span (start_of keep n turn) (end_of keep n turn) history ++ run_by keep history (end_of keep n turn) turns

-- the number of the last entry behind the turns
abbrev pub ends_at : ℕ → ℕ → List Turn → ℕ
ends_at keep n [] = n
ends_at keep n (turn ∷ turns) = ends_at keep (end_of keep n turn) turns

-- the archive's last number doesn't fall, and each turn asks for an entry
abbrev pub AreRising : ℕ → ℕ → List Turn → Type 0
AreRising low high [] = low ≤ high
AreRising low high (turn ∷ turns) = (low ≤ turn.last) × (1 ≤ turn.most) × AreRising turn.last high turns

pub rising_bounds : (low high : ℕ) (turns : List Turn) → AreRising low high turns → low ≤ high
rising_bounds low high [] rise = rise
rising_bounds low high (turn ∷ turns) rise = let rest = rising_bounds turn.last high turns rise.2 in omega (arith, rise.0)

pub rising_from : (lower low high : ℕ) (turns : List Turn) → lower ≤ low → AreRising low high turns → AreRising lower high turns
rising_from lower low high [] down rise = omega arith
rising_from lower low high (turn ∷ turns) down rise = (omega (arith, rise.0), rise.1, rise.2)

pub rising_to : (low high higher : ℕ) (turns : List Turn) → high ≤ higher → AreRising low high turns → AreRising low higher turns
rising_to low high higher [] up rise = omega arith
rising_to low high higher (turn ∷ turns) up rise = (rise.0, rise.1, rising_to turn.last high higher turns up rise.2)

pub rising_append : (low mid high : ℕ) (xs ys : List Turn) → AreRising low mid xs → AreRising mid high ys → AreRising low high (xs ++ ys)
rising_append low mid high [] ys rise more = rising_from low mid high ys rise more
rising_append low mid high (x ∷ xs) ys rise more = (rise.0, rise.1, rising_append x.last mid high xs ys rise.2 more)

pub rising_split : (low high : ℕ) (front rest : List Turn) (turn : Turn) → AreRising low high (front ++ turn ∷ rest) →
    AreRising low turn.last front × (1 ≤ turn.most) × AreRising turn.last high rest
rising_split low high [] rest turn rise = rise
rising_split low high (x ∷ xs) rest turn rise =
    let parts = rising_split x.last high xs rest turn rise.2 in
    ((rise.0, rise.1, parts.0), parts.1, parts.2)

-- a turn goes on from n or further, and not past the archive's last number
pub turn_bounds : (keep n : ℕ) (turn : Turn) → 1 ≤ keep → 1 ≤ turn.most → n ≤ turn.last →
    (n ≤ start_of keep n turn) × (start_of keep n turn ≤ end_of keep n turn) × (end_of keep n turn ≤ turn.last)
turn_bounds keep n turn some asked within = (omega arith, omega arith, omega arith)

-- a turn without an entry leaves the number
pub turn_empty : (keep n : ℕ) (turn : Turn) → 1 ≤ keep → 1 ≤ turn.most → n ≤ turn.last →
    end_of keep n turn - start_of keep n turn ≡ 0 → n ≡ start_of keep n turn
turn_empty keep n turn some asked within empty = omega arith

pub ends_bounds : (keep n low high : ℕ) (turns : List Turn) → 1 ≤ keep → n ≤ low → AreRising low high turns →
    (n ≤ ends_at keep n turns) × (ends_at keep n turns ≤ high)
ends_bounds keep n low high [] some within rise = (omega arith, omega arith)
ends_bounds keep n low high (turn ∷ turns) some within rise =
    let here = turn_bounds keep n turn some rise.1 (omega (arith, rise.0)) in
    let rest = ends_bounds keep (end_of keep n turn) turn.last high turns some here.2 rise.2 in
    let below : n ≤ end_of keep n turn = omega (arith, here.0, here.1) in
    (le_trans below rest.0, rest.1)
  where
    le_trans : {a b c : ℕ} → a ≤ b → b ≤ c → a ≤ c
    le_trans first second = omega arith

-- turns and more turns
pub pages_by-append : (keep n : ℕ) (history : List EntryView) (xs ys : List Turn) →
    pages_by keep history n (xs ++ ys) ≡ pages_by keep history n xs ++ pages_by keep history (ends_at keep n xs) ys
pages_by-append keep n history [] ys = refl
pages_by-append keep n history (x ∷ xs) ys = ap (λ pages. page_by keep history n x ∷ pages) (pages_by-append keep (end_of keep n x) history xs ys)

pub run_by-append : (keep n : ℕ) (history : List EntryView) (xs ys : List Turn) →
    run_by keep history n (xs ++ ys) ≡ run_by keep history n xs ++ run_by keep history (ends_at keep n xs) ys
run_by-append keep n history [] ys = refl
run_by-append keep n history (x ∷ xs) ys =
    ap (λ es. span (start_of keep n x) (end_of keep n x) history ++ es) (run_by-append keep (end_of keep n x) history xs ys)
    ∙ sym (append_assoc (span (start_of keep n x) (end_of keep n x) history) (run_by keep history (end_of keep n x) xs) (run_by keep history (ends_at keep (end_of keep n x) xs) ys))

pub ends_at-append : (keep n : ℕ) (xs ys : List Turn) → ends_at keep n (xs ++ ys) ≡ ends_at keep (ends_at keep n xs) ys
ends_at-append keep n [] ys = refl
ends_at-append keep n (x ∷ xs) ys = ends_at-append keep (end_of keep n x) xs ys

pub log_by : (keep n : ℕ) (history : List EntryView) (turns : List Turn) → log_of (pages_by keep history n turns) ≡ map as_logged (run_by keep history n turns)
log_by keep n history [] = refl
log_by keep n history (turn ∷ turns) =
    let entries = span (start_of keep n turn) (end_of keep n turn) history in
    ap (λ es. map as_logged entries ++ es) (log_by keep (end_of keep n turn) history turns)
    ∙ sym (map-append as_logged entries (run_by keep history (end_of keep n turn) turns))

-- Spans.

pub length_span : (s t : ℕ) (history : List EntryView) → t ≤ length history → length (span s t history) ≡ t - s
length_span s t history within = omega (arith, length-take (t - s) (drop s history), length-drop s history)

pub span_join : (s m t : ℕ) (history : List EntryView) → s ≤ m → m ≤ t → span s m history ++ span m t history ≡ span s t history
span_join s m t history low high =
    let size : t - s ≡ (m - s) + (t - m) = omega arith in
    let position : s + (m - s) ≡ m = omega arith in
    let further : drop (m - s) (drop s history) ≡ drop m history = drop-drop (m - s) s history ∙ ap (λ k. drop k history) position in
    ap (λ es. take (m - s) (drop s history) ++ take (t - m) es) (sym further)
    ∙ sym (take-add (m - s) (t - m) (drop s history))
    ∙ ap (λ k. take k (drop s history)) (sym size)

pub cut_span : (s most last : ℕ) (history : List EntryView) → s ≤ last → last ≤ length history →
    take most (span s last history) ≡ span s (min (s + most) last) history
cut_span s most last history low within =
    elim (cases_lt (last - s) most) [
      | inl few ↦
          let size : min (s + most) last - s ≡ last - s = omega arith in
          take_all most (span s last history) (omega (arith, length_span s last history within)) ∙ ap (λ k. take k (drop s history)) (sym size)
      | inr many ↦
          let size : min (s + most) last - s ≡ most = omega arith in
          take-take most (last - s) (drop s history) many ∙ ap (λ k. take k (drop s history)) (sym size)
    ]

pub follow_span : (s t : ℕ) (history : List EntryView) → FollowFrom 1 history → FollowFrom (suc s) (span s t history)
follow_span s t history follow =
    let first : 1 + s ≡ suc s = omega arith in
    follow_take (t - s) (suc s) (drop s history) (rw first at (follow_drop s 1 history follow))

-- What an archive keeps of a history.

pub length_kept : (keep last : ℕ) (history : List EntryView) → last ≤ length history → length (newest keep (take last history)) ≡ min last keep
length_kept keep last history within =
    omega (arith, length-take-le last history within, length-drop (length (take last history) - keep) (take last history))

pub purged_is : (keep last : ℕ) (history : List EntryView) → last ≤ length history → purged last (newest keep (take last history)) ≡ last - keep
purged_is keep last history within = let size = length_kept keep last history within in omega arith

pub drop_front : (s last : ℕ) (history : List EntryView) → s ≤ last → drop s (take last history) ≡ span s last history
drop_front s last history low =
    let size : s + (last - s) ≡ last = omega arith in
    ap (λ k. drop s (take k history)) (sym size) ∙ drop-take s (last - s) history

pub newest_span : (keep last : ℕ) (history : List EntryView) → last ≤ length history → newest keep (take last history) ≡ span (last - keep) last history
newest_span keep last history within =
    let size : length (take last history) - keep ≡ last - keep = ap (λ k. k - keep) (length-take-le last history within) in
    ap (λ k. drop k (take last history)) size ∙ drop_front (last - keep) last history (omega arith)

kept_rest : (keep n last : ℕ) (history : List EntryView) → n ≤ last → last ≤ length history →
    kept_after n last (newest keep (take last history)) ≡ span (max n (last - keep)) last history
kept_rest keep n last history low within =
    let size : length (take last history) - keep ≡ last - keep = ap (λ k. k - keep) (length-take-le last history within) in
    let position : (last - keep) + (n - (last - keep)) ≡ max n (last - keep) = omega arith in
    ap (λ k. drop (n - k) (newest keep (take last history))) (purged_is keep last history within)
    ∙ ap (λ k. drop (n - (last - keep)) (drop k (take last history))) size
    ∙ drop-drop (n - (last - keep)) (last - keep) (take last history)
    ∙ ap (λ k. drop k (take last history)) position
    ∙ drop_front (max n (last - keep)) last history (omega arith)

-- the page of its parts
abbrev page_made : ℕ → ℕ → ℕ → List EntryView → ℕ → LogPage
page_made n most old rest total = record {
  after = cond (leb n old) None (Some (id_of n));
  entries = map as_logged (take most rest);
  complete = leb (length rest) most;
  total = total;
}

-- the page that the archive gives is the one of the turn
pub page_is : (keep n most last : ℕ) (history : List EntryView) → n ≤ last → last ≤ length history →
    page_at n most last (newest keep (take last history)) ≡ page_by keep history n (record { last = last; most = most })
page_is keep n most last history low within =
    let kept = newest keep (take last history) in
    let start = max n (last - keep) in
    let few : start ≤ last = omega arith in
    let cut : take most (span start last history) ≡ span start (min (start + most) last) history = cut_span start most last history few within in
    let size : length (span start last history) ≡ last - start = length_span start last history within in
    ap (λ old. page_made n most old (kept_after n last kept) (length kept)) (purged_is keep last history within)
    ∙ ap (λ rest. page_made n most (last - keep) rest (length kept)) (kept_rest keep n last history low within)
    ∙ ap (λ total. page_made n most (last - keep) (span start last history) total) (length_kept keep last history within)
    ∙ ap (λ es. record { after = cond (leb n (last - keep)) None (Some (id_of n)); entries = map as_logged es; complete = leb (length (span start last history)) most; total = min last keep }) cut
    ∙ ap (λ k. record { after = cond (leb n (last - keep)) None (Some (id_of n)); entries = map as_logged (span start (min (start + most) last) history); complete = leb k most; total = min last keep }) size

-- Ids.

-- the last of a list
abbrev pub last_of : List (List ℕ) → Option (List ℕ)
last_of [] = None
last_of (x ∷ []) = Some x
last_of (x ∷ y ∷ xs) = last_of (y ∷ xs)

last_of_push : (xs : List (List ℕ)) (x : List ℕ) → last_of (xs ++ x ∷ []) ≡ Some x
last_of_push [] x = refl
last_of_push (y ∷ []) x = refl
last_of_push (y ∷ z ∷ xs) x = last_of_push (z ∷ xs) x

pub last_of_log : (es : List LogEntry) → last_id es ≡ last_of (map (λ e. e.id) es)
last_of_log [] = refl
last_of_log (e ∷ []) = refl
last_of_log (e ∷ f ∷ es) = last_of_log (f ∷ es)

abbrev pub id_of_entry : EntryView → List ℕ
id_of_entry e = id_of e.number

pub follow_ids : (before : List (List ℕ)) (n s : ℕ) (es : List EntryView) → FollowFrom (suc s) es → last_of before ≡ id_after n → (length es ≡ 0 → n ≡ s) →
    last_of (before ++ map id_of_entry es) ≡ id_after (s + length es)
follow_ids before n s [] follow following empty =
    let same : n ≡ s + 0 = omega (arith, empty refl) in
    ap last_of (append-nil before) ∙ following ∙ ap id_after same
follow_ids before n s (e ∷ es) follow following empty =
    let number : e.number ≡ suc s = follow.0 in
    let size : suc s + length es ≡ s + length (e ∷ es) = omega arith in
    ap last_of (sym (append_assoc before (id_of e.number ∷ []) (map id_of_entry es)))
    ∙ follow_ids (before ++ id_of e.number ∷ []) (suc s) (suc s) es follow.1 (last_of_push before (id_of e.number) ∙ ap (λ k. Some (id_of k)) number) (λ none. refl)
    ∙ ap id_after size

-- behind the turns the last id is that of the last number
pub last_by : (keep n low high : ℕ) (history : List EntryView) (turns : List Turn) (before : List (List ℕ)) → 1 ≤ keep → n ≤ low → AreRising low high turns →
    high ≤ length history → FollowFrom 1 history → last_of before ≡ id_after n →
    last_of (before ++ map id_of_entry (run_by keep history n turns)) ≡ id_after (ends_at keep n turns)
last_by keep n low high history [] before some within rise long follow following = ap last_of (append-nil before) ∙ following
last_by keep n low high history (turn ∷ turns) before some within rise long follow following =
    let s = start_of keep n turn in
    let t = end_of keep n turn in
    let entries = span s t history in
    let rest = run_by keep history t turns in
    let inside : n ≤ turn.last = omega (arith, rise.0) in
    let bounds = turn_bounds keep n turn some rise.1 inside in
    let top : turn.last ≤ high = rising_bounds turn.last high turns rise.2 in
    let size : length entries ≡ t - s = length_span s t history (le_both bounds.2 top long) in
    let end : s + length entries ≡ t = sum_back size bounds.1 in
    let here : last_of (before ++ map id_of_entry entries) ≡ id_after t =
    follow_ids before n s entries (follow_span s t history follow) following (λ none. turn_empty keep n turn some rise.1 inside (sym size ∙ none)) ∙ ap id_after end in
    ap (λ ids. last_of (before ++ ids)) (map-append id_of_entry entries rest)
    ∙ ap last_of (sym (append_assoc before (map id_of_entry entries) (map id_of_entry rest)))
    ∙ last_by keep t turn.last high history turns (before ++ map id_of_entry entries) some bounds.2 rise.2 long follow here
  where
    le_both : {a b c d : ℕ} → a ≤ b → b ≤ c → c ≤ d → a ≤ d
    le_both first second third = omega arith

    sum_back : {a s t : ℕ} → a ≡ t - s → s ≤ t → s + a ≡ t
    sum_back is low = omega arith

pub last_id_by : (keep high : ℕ) (history : List EntryView) (turns : List Turn) → 1 ≤ keep → AreRising 0 high turns → high ≤ length history → FollowFrom 1 history →
    last_id (log_of (pages_by keep history 0 turns)) ≡ id_after (ends_at keep 0 turns)
last_id_by keep high history turns some rise long follow =
    ap last_id (log_by keep 0 history turns)
    ∙ last_of_log (map as_logged (run_by keep history 0 turns))
    ∙ ap last_of (ids_again (run_by keep history 0 turns))
    ∙ last_by keep 0 0 high history turns [] some (omega arith) rise long follow refl
  where
    ids_again : (es : List EntryView) → map (λ (l : LogEntry). l.id) (map as_logged es) ≡ map id_of_entry es
    ids_again [] = refl
    ids_again (e ∷ es) = ap (λ ids. id_of e.number ∷ ids) (ids_again es)
