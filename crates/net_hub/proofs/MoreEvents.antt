-- Events of a journal, and one more.
use Rattle.std.proofs.Common.{◌≡◌, ℕ, suc, ◌<◌, ◌≤◌, ◌==◌, true, List, [], ◌∷◌, ◌++◌, length, map, append-nil, Fits, get_or, w8, ap, refl, subst, sym, ◌∙◌, arith}
use Rattle.std.proofs.lemmas.Bool.{and_from, and_parts, le-leb, lt-ltb, ltb-true}
use Rattle.std.proofs.lemmas.Grind.{flat_map-append}
use Rattle.std.proofs.lemmas.List.{map-append}
use Rattle.std.specs.List.{AllByRecursion}
use Rattle.std.specs.Prelude.{IsTrue, ◌&&◌, nat_le, nat_lt}
use Rattle.cmd_journal.specs.Journals.{AreEvents, Connect, EventView, Gone, Piece, are_bytes, begun_last, event_view, is_connection, is_moment, may_happen}
use Rattle.cmd_journal.specs.declared.event.Event.{Event}
use Rattle.cmd_journal.specs.declared.event.TheConstants.{LAST_CONNECTION}
use Rattle.net_hub.specs.Records.{bare, bares_of, entropies_of, entropy_of, last_begun, moments_of, views_of}
use Rattle.cmd_rerun.specs.Reruns.{AreFresh, IsFresh, Run, after_event, after_events}
use Rattle.cmd_schedule.specs.Reading.{not_empty}
use Rattle.net_hub.proofs.Numbers.{other_number}
use Rattle.cmd_rerun.specs.Happening.{moment_of}
use Rattle.cmd_rerun.specs.Silence.{IsOther}

pub views_more : (events : List Event) (e : Event) → views_of (events ++ e ∷ []) ≡ views_of events ++ event_view e ∷ []
views_more events e = map-append event_view events (e ∷ [])

pub bares_are : (events : List Event) → bares_of events ≡ map bare (views_of events)
bares_are [] = refl
bares_are (e ∷ events) = ap (λ l. bare (event_view e) ∷ l) (bares_are events)

-- the same, where events are told without their moments
pub bares_more : (old new : List Event) (e : EventView) → views_of new ≡ views_of old ++ e ∷ [] → bares_of new ≡ bares_of old ++ bare e ∷ []
bares_more old new e more =
    bares_are new ∙ ap (map bare) more ∙ map-append bare (views_of old) (e ∷ []) ∙ ap (λ l. l ++ bare e ∷ []) (sym (bares_are old))

pub are_more : (last : ℕ) (events : List EventView) (e : EventView) → AreEvents last events → IsTrue (may_happen (last_begun last events) e) → AreEvents last (events ++ e ∷ [])
are_more last [] e are may = (may, tt)
are_more last (x ∷ events) e are may = (are.0, are_more (begun_last last x) events e are.1 may)

pub last_more : (last : ℕ) (events : List EventView) (e : EventView) → last_begun last (events ++ e ∷ []) ≡ begun_last (last_begun last events) e
last_more last [] e = refl
last_more last (x ∷ events) e = last_more (begun_last last x) events e

pub told_more : (moments : List ℕ) (events : List EventView) (e : EventView) → moments_of events ≡ moments → moments_of (events ++ e ∷ []) ≡ moments ++ moment_of e ∷ []
told_more moments events e are = map-append moment_of events (e ∷ []) ∙ ap (λ l. l ++ moment_of e ∷ []) are

pub drawn_more : (drawn : List ℕ) (events : List EventView) (e : EventView) → entropies_of events ≡ drawn → entropies_of (events ++ e ∷ []) ≡ drawn ++ entropy_of e
drawn_more drawn events e are =
    flat_map-append entropy_of events (e ∷ []) ∙ ap (λ l. l ++ (entropy_of e ++ [])) are ∙ ap (λ l. drawn ++ l) (append-nil (entropy_of e))

pub fresh_last : (events : List EventView) (e : EventView) (r : Run) → AreFresh (events ++ e ∷ []) r → IsFresh e (after_events events r).server
fresh_last [] e r fresh = fresh.0
fresh_last (x ∷ events) e r fresh = fresh_last events e (after_event x r) fresh.1

-- ---- which events may be

pub is_connection_of : (k : ℕ) → 1 ≤ k → k ≤ LAST_CONNECTION → IsTrue (is_connection k)
is_connection_of k some most = and_from (nat_le 1 k) (nat_le k LAST_CONNECTION) (le-leb 1 k some) (le-leb k LAST_CONNECTION most)

pub may_connect : (last k now : ℕ) (entropy : List ℕ) → last < k → k ≤ LAST_CONNECTION → IsTrue (is_moment now) → length entropy ≡ 24 → IsTrue (are_bytes entropy) → IsTrue (may_happen last (Connect k now entropy))
may_connect last k now entropy above most moment many bytes =
    and_from (is_connection k && nat_lt last k && is_moment now && (length entropy == 24)) (are_bytes entropy)
    (and_from (is_connection k && nat_lt last k && is_moment now) (length entropy == 24)
    (and_from (is_connection k && nat_lt last k) (is_moment now)
    (and_from (is_connection k) (nat_lt last k) (is_connection_of k (omega (arith, above)) most) (lt-ltb last k above)) moment) (subst (λ n. (n == 24) ≡ true) (sym many) refl)) bytes

pub may_give : (last k now : ℕ) (bytes : List ℕ) → IsTrue (is_connection k) → IsTrue (is_moment now) → IsTrue (not_empty bytes) → IsTrue (are_bytes bytes) → IsTrue (may_happen last (Piece k now bytes))
may_give last k now bytes number moment some are =
    and_from (is_connection k && is_moment now && not_empty bytes) (are_bytes bytes)
    (and_from (is_connection k && is_moment now) (not_empty bytes) (and_from (is_connection k) (is_moment now) number moment) some) are

pub may_leave : (last k now : ℕ) → IsTrue (is_connection k) → IsTrue (is_moment now) → IsTrue (may_happen last (Gone k now))
may_leave last k now number moment = and_from (is_connection k) (is_moment now) number moment

pub some_bytes : (bytes : List ℕ) → 0 < length bytes → IsTrue (not_empty bytes)
some_bytes [] some = absurd (omega (arith, some))
some_bytes (b ∷ bytes) some = refl

-- what a clock tells
pub is_moment_told : (now : ℕ) → now ≤ 253402207200000 → IsTrue (is_moment now)
is_moment_told now last = le-leb now 253402207200000 last

-- what a slice of bytes has
pub every_byte : (buf : List ℕ) → ((i : ℕ) → Fits w8 (get_or buf i 0)) → are_bytes buf ≡ true
every_byte [] fits = refl
every_byte (b ∷ buf) fits = and_from (nat_lt b 256) (are_bytes buf) (lt-ltb b 256 (fits 0).fits) (every_byte buf (λ i. fits (suc i)))

-- ---- no connection begins above the last

begins_later : (last : ℕ) (e : EventView) → IsTrue (may_happen last e) → last ≤ begun_last last e
begins_later last (Connect k now entropy) may =
    let all = and_parts (is_connection k && nat_lt last k && is_moment now && (length entropy == 24)) (are_bytes entropy) may in
    let four = and_parts (is_connection k && nat_lt last k && is_moment now) (length entropy == 24) all.0 in
    let three = and_parts (is_connection k && nat_lt last k) (is_moment now) four.0 in
    let two = and_parts (is_connection k) (nat_lt last k) three.0 in
    let above : last < k = ltb-true last k two.1 in omega (arith, above)
begins_later last (Piece k now bytes) may = omega arith
begins_later last (Gone k now) may = omega arith

pub later_last : (last : ℕ) (events : List EventView) → AreEvents last events → last ≤ last_begun last events
later_last last [] are = omega arith
later_last last (e ∷ events) are = let a = begins_later last e are.0 in let b = later_last (begun_last last e) events are.1 in omega (arith, a, b)

other_event : (last k : ℕ) (e : EventView) → begun_last last e < k → IsOther k e
other_event last k (Connect j now entropy) below = other_number k j (λ same. omega (arith, same, below))
other_event last k (Piece j now bytes) below = tt
other_event last k (Gone j now) below = tt

pub all_others : (last k : ℕ) (events : List EventView) → AreEvents last events → last_begun last events < k → AllByRecursion (IsOther k) events
all_others last k [] are below = tt
all_others last k (e ∷ events) are below =
    let b = later_last (begun_last last e) events are.1 in (other_event last k e (omega (arith, b, below)), all_others (begun_last last e) k events are.1 below)
