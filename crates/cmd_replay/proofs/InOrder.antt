-- Logs whose entries are in the order of their numbers: their last entry, and what stays so as they grow.
use Rattle.std.proofs.Common.{◌≡◌, ℕ, zero, suc, ◌+◌, ◌-◌, ◌<◌, ◌≤◌, ◌^◌, min, false, List, [], ◌∷◌, ◌++◌, Some, None, length, take, map, refl, sym, ap, ◌∙◌, subst, arith}
use Rattle.std.proofs.lemmas.List.{append_assoc, length-drop, length-take, map-append}
use Rattle.std.specs.List.{AllByRecursion, list_any}
use Rattle.std.specs.Str.{bytes_eq}
use Rattle.mam_archive.proofs.NumberedEntries.{FollowFrom, follow_drop}
use Rattle.mam_archive.specs.Entries.{AreKept, EntryView}
use Rattle.mam_archive.specs.Ids.{id_of}
use Rattle.cmd_direct.proofs.NextPages.{id_after, kept_follow, other_id}
use Rattle.cmd_direct.specs.Direct.{as_logged}
use Rattle.cmd_direct.specs.NextPages.{kept_after, last_logged, purged}
use Rattle.mam_log.specs.LogPages.{ids_of, last_id}
use Rattle.mam_log.specs.Views.{first_repeat}
use Rattle.mam_log.specs.declared.log_entry.LogEntry.{LogEntry}
use Rattle.mam_pages.specs.Kept.{last_number_or}
use Rattle.mam_pages.specs.Spans.{Rises}
use Rattle.cmd_replay.specs.Turns.{IsInOrder}
use Rattle.cmd_schedule.proofs.Lists.{all_append}

abbrev pub logged_entry : LogEntry → EntryView
logged_entry l = l.entry

abbrev pub logged_number : LogEntry → ℕ
logged_number l = l.entry.number

abbrev pub HasItsId : LogEntry → Type 0
HasItsId l = l.id ≡ id_of l.entry.number

-- ---- numbers that rise

-- the last of them, or another where there is none
abbrev pub last_or : ℕ → List ℕ → ℕ
last_or n [] = n
last_or n (m ∷ ms) = last_or m ms

pub rises_last : (low high : ℕ) (ns : List ℕ) → low ≤ high → Rises low high ns → (low ≤ last_or low ns) × (last_or low ns ≤ high)
rises_last low high [] within rises = (omega arith, within)
rises_last low high (n ∷ ns) within rises =
    let rest = rises_last n high ns rises.1 rises.2 in (omega (arith, rest.0, rises.0), rest.1)

pub rises_higher : (low high more : ℕ) (ns : List ℕ) → high ≤ more → Rises low high ns → Rises low more ns
rises_higher low high more [] room rises = tt
rises_higher low high more (n ∷ ns) room rises = (rises.0, omega (arith, rises.1), rises_higher n high more ns room rises.2)

pub rises_append : (low high : ℕ) (ns ms : List ℕ) → Rises low high ns → Rises (last_or low ns) high ms → Rises low high (ns ++ ms)
rises_append low high [] ms front rest = rest
rises_append low high (n ∷ ns) ms front rest = (front.0, front.1, rises_append n high ns ms front.2 rest)

-- what stands in front of a number is below it
below_next : (low high m : ℕ) (ns ms : List ℕ) → Rises low high (ns ++ m ∷ ms) → low < m
below_next low high m [] ms rises = rises.0
below_next low high m (n ∷ ns) ms rises = let rest = below_next n high m ns ms rises.2 in omega (arith, rises.0)

all_below : (low high m : ℕ) (ns ms : List ℕ) → Rises low high (ns ++ m ∷ ms) → AllByRecursion (λ n. n < m) ns
all_below low high m [] ms rises = tt
all_below low high m (n ∷ ns) ms rises = (below_next n high m ns ms rises.2, all_below n high m ns ms rises.2)

high_enough : (low high m : ℕ) (ns ms : List ℕ) → Rises low high (ns ++ m ∷ ms) → m ≤ high
high_enough low high m [] ms rises = rises.1
high_enough low high m (n ∷ ns) ms rises = high_enough n high m ns ms rises.2

-- ---- ids of numbers that rise

new_id : (m : ℕ) (ns : List ℕ) → m < 2 ^ 64 → AllByRecursion (λ n. n < m) ns → list_any (λ other. bytes_eq (id_of m) other) (map id_of ns) ≡ false
new_id m [] small below = refl
new_id m (n ∷ ns) small below =
    let here : bytes_eq (id_of m) (id_of n) ≡ false = other_id m n small (omega (arith, below.0)) (λ same. omega (arith, below.0)) in
    rw here (new_id m ns small below.1)

-- none of the ids repeats
pub none_repeats : (high : ℕ) (ns ms : List ℕ) → high < 2 ^ 64 → Rises 0 high (ns ++ ms) → first_repeat (map id_of ns) (map id_of ms) ≡ None
none_repeats high ns [] small rises = refl
none_repeats high ns (m ∷ ms) small rises =
    let bound : m ≤ high = high_enough 0 high m ns ms rises in
    let here = new_id m ns (omega arith) (all_below 0 high m ns ms rises) in
    let moved : Rises 0 high ((ns ++ m ∷ []) ++ ms) = subst (Rises 0 high) (sym (append_assoc ns (m ∷ []) ms)) rises in
    let rest = none_repeats high (ns ++ m ∷ []) ms small moved in
    rw here (ap (λ known. first_repeat known (map id_of ms)) (sym (map-append id_of ns (m ∷ []))) ∙ rest)

pub ids_are : (logged : List LogEntry) → AllByRecursion HasItsId logged → ids_of logged ≡ map id_of (map logged_number logged)
ids_are [] all = refl
ids_are (l ∷ ls) all = rw all.0 (ap (λ t. id_of l.entry.number ∷ t) (ids_are ls all.1))

-- ---- the last entry of a log

last_numbers : (n : ℕ) (logged : List LogEntry) → last_number_or n (map logged_entry logged) ≡ last_or n (map logged_number logged)
last_numbers n [] = refl
last_numbers n (l ∷ ls) = last_numbers l.entry.number ls

pub last_is : (logged : List LogEntry) → last_logged logged ≡ last_or 0 (map logged_number logged)
last_is logged = last_numbers 0 logged

pub last_within : (last : ℕ) (logged : List LogEntry) → IsInOrder last logged → last_logged logged ≤ last
last_within last logged is = rw (last_is logged) (rises_last 0 last (map logged_number logged) (omega arith) is.rise).1

last_named : (n : ℕ) (l : LogEntry) (ls : List LogEntry) → AllByRecursion HasItsId (l ∷ ls) → last_id (l ∷ ls) ≡ Some (id_of (last_or n (map logged_number (l ∷ ls))))
last_named n l [] all = ap Some all.0
last_named n l (m ∷ ls) all = last_named l.entry.number m ls all.1

positive : (n : ℕ) → 1 ≤ n → Some (id_of n) ≡ id_after n
positive zero some = absurd (omega arith)
positive (suc n) some = refl

-- its id is that of its number
pub last_id_is : (last : ℕ) (logged : List LogEntry) → IsInOrder last logged → last_id logged ≡ id_after (last_logged logged)
last_id_is last [] is = refl
last_id_is last (l ∷ ls) is =
    let low : 0 < l.entry.number = is.rise.0 in
    let after = rises_last l.entry.number last (map logged_number ls) is.rise.1 is.rise.2 in
    last_named 0 l ls is.ids ∙ rw (last_is (l ∷ ls)) (positive (last_or l.entry.number (map logged_number ls)) (omega (arith, after.0)))

-- ---- the entries of a page

follow_take : (s k : ℕ) (es : List EntryView) → FollowFrom s es → FollowFrom s (take k es)
follow_take s zero es follow = tt
follow_take s (suc k) [] follow = tt
follow_take s (suc k) (e ∷ es) follow = (follow.0, follow_take (suc s) k es follow.1)

numbers_logged : (es : List EntryView) → map logged_number (map as_logged es) ≡ map (λ (e : EntryView). e.number) es
numbers_logged [] = refl
numbers_logged (e ∷ es) = ap (λ t. e.number ∷ t) (numbers_logged es)

ids_logged : (es : List EntryView) → AllByRecursion HasItsId (map as_logged es)
ids_logged [] = tt
ids_logged (e ∷ es) = (refl, ids_logged es)

follow_rises : (n s last : ℕ) (es : List EntryView) → n < s → s + length es ≤ last + 1 → FollowFrom s es → Rises n last (map (λ (e : EntryView). e.number) es)
follow_rises n s last [] low room follow = tt
follow_rises n s last (e ∷ es) low room follow =
    (omega (arith, follow.0), omega (arith, follow.0), follow_rises e.number (suc s) last es (omega (arith, follow.0)) (omega arith) follow.1)

last_follows : (n s : ℕ) (es : List EntryView) → 1 ≤ length es → FollowFrom s es → last_number_or n es + 1 ≡ s + length es
last_follows n s [] some follow = absurd (omega arith)
last_follows n s (e ∷ []) some follow = omega (arith, follow.0)
last_follows n s (e ∷ f ∷ es) some follow = let rest : last_number_or e.number (f ∷ es) + 1 ≡ suc s + length (f ∷ es) = last_follows e.number (suc s) (f ∷ es) (omega arith) follow.1 in omega arith

-- the kept entries behind a number go on from it, or from the first one kept
pub after_follows : (keep n last : ℕ) (kept : List EntryView) → AreKept keep last kept → FollowFrom (purged last kept + 1 + (n - purged last kept)) (kept_after n last kept)
after_follows keep n last kept known = follow_drop (n - purged last kept) (purged last kept + 1) kept (kept_follow keep last kept known)

pub page_rises : (keep n last most : ℕ) (kept : List EntryView) → AreKept keep last kept → n ≤ last →
    Rises n last (map logged_number (map as_logged (take most (kept_after n last kept))))
page_rises keep n last most kept known within =
    rw (numbers_logged (take most (kept_after n last kept)))
    (follow_rises n (purged last kept + 1 + (n - purged last kept)) last (take most (kept_after n last kept))
    (omega arith)
    (omega (arith, length-take most (kept_after n last kept), length-drop (n - purged last kept) kept, known.within))
    (follow_take (purged last kept + 1 + (n - purged last kept)) most (kept_after n last kept) (after_follows keep n last kept known)))

-- the log with a page at its end is in order
pub in_order_more : (keep last most : ℕ) (kept : List EntryView) (logged : List LogEntry) → AreKept keep last kept → IsInOrder last logged →
    IsInOrder last (logged ++ map as_logged (take most (kept_after (last_logged logged) last kept)))
in_order_more keep last most kept logged known is = record {
  ids = all_append HasItsId logged (map as_logged (take most (kept_after (last_logged logged) last kept))) is.ids (ids_logged (take most (kept_after (last_logged logged) last kept)));
  rise = rw (map-append logged_number logged (map as_logged (take most (kept_after (last_logged logged) last kept))))
      (rises_append 0 last (map logged_number logged) (map logged_number (map as_logged (take most (kept_after (last_logged logged) last kept)))) is.rise
      (subst (λ n. Rises n last (map logged_number (map as_logged (take most (kept_after (last_logged logged) last kept))))) (last_is logged)
      (page_rises keep (last_logged logged) last most kept known (last_within last logged is))));
}

-- and none of its ids stands twice
pub page_is_new : (keep last most : ℕ) (kept : List EntryView) (logged : List LogEntry) → AreKept keep last kept → IsInOrder last logged →
    first_repeat (ids_of logged) (ids_of (map as_logged (take most (kept_after (last_logged logged) last kept)))) ≡ None
page_is_new keep last most kept logged known is =
    let page = map as_logged (take most (kept_after (last_logged logged) last kept)) in
    let all = in_order_more keep last most kept logged known is in
    rw (ids_are logged is.ids, ids_are (map as_logged (take most (kept_after (last_logged logged) last kept))) (ids_logged (take most (kept_after (last_logged logged) last kept))))
    (none_repeats last (map logged_number logged) (map logged_number (map as_logged (take most (kept_after (last_logged logged) last kept))))
    (omega (arith, known.most))
    (subst (Rises 0 last) (map-append logged_number logged (map as_logged (take most (kept_after (last_logged logged) last kept)))) all.rise))

-- the log's last number after a page that has entries
pub last_after : (keep last most : ℕ) (kept : List EntryView) (logged : List LogEntry) → AreKept keep last kept →
    1 ≤ most → 1 ≤ length (kept_after (last_logged logged) last kept) →
    last_logged (logged ++ map as_logged (take most (kept_after (last_logged logged) last kept)))
    ≡ purged last kept + (last_logged logged - purged last kept) + min most (length (kept_after (last_logged logged) last kept))
last_after keep last most kept logged known low some =
    let page = take most (kept_after (last_logged logged) last kept) in
    let size : length (take most (kept_after (last_logged logged) last kept)) ≡ min most (length (kept_after (last_logged logged) last kept)) = length-take most (kept_after (last_logged logged) last kept) in
    let follow = follow_take (purged last kept + 1 + (last_logged logged - purged last kept)) most (kept_after (last_logged logged) last kept) (after_follows keep (last_logged logged) last kept known) in
    let ends : last_number_or (last_logged logged) (take most (kept_after (last_logged logged) last kept)) + 1
    ≡ purged last kept + 1 + (last_logged logged - purged last kept) + length (take most (kept_after (last_logged logged) last kept)) =
    last_follows (last_logged logged) (purged last kept + 1 + (last_logged logged - purged last kept)) (take most (kept_after (last_logged logged) last kept)) (omega arith) follow in
    ap (λ es. last_number_or 0 es) (map-append logged_entry logged (map as_logged (take most (kept_after (last_logged logged) last kept))))
    ∙ joined 0 (map logged_entry logged) (map logged_entry (map as_logged (take most (kept_after (last_logged logged) last kept))))
    ∙ ap (last_number_or (last_logged logged)) (entries_logged (take most (kept_after (last_logged logged) last kept)))
    ∙ omega arith
  where
    joined : (n : ℕ) (es fs : List EntryView) → last_number_or n (es ++ fs) ≡ last_number_or (last_number_or n es) fs
    joined n [] fs = refl
    joined n (e ∷ es) fs = joined e.number es fs

    entries_logged : (es : List EntryView) → map logged_entry (map as_logged es) ≡ es
    entries_logged [] = refl
    entries_logged (e ∷ es) = ap (λ t. e ∷ t) (entries_logged es)
