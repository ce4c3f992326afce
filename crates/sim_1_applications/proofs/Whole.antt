-- All stanzas of a session, by what was said and how many pages were asked for.
use Rattle.std.proofs.Common.{◌≡◌, ℕ, ◌+◌, ◌*◌, ◌≤◌, List, [], ◌∷◌, ◌++◌, Some, length, arith}
use Rattle.std.proofs.lemmas.List.{length-append}
use Rattle.std.specs.List.{AllByRecursion, slice_get}
use Rattle.sim_1_applications.specs.Stanzas.{messages}
use Rattle.sim_1_applications.specs.Devices.{AppWorld, Device, Session, up_put}
use Rattle.sim_1_applications.specs.Events as events
use Rattle.sim_1_applications.specs.Histories.{spoken_in}
use Rattle.sim_1_applications.proofs.Lists.{all_append}
use Rattle.sim_1_applications.specs.Counts.{IsDownFew, IsUpFew, OfEach, requested_in, said_by, sessions_of}
use Rattle.sim_1_applications.proofs.EachDevice.{from_beginning, in_reached}
use Rattle.sim_1_applications.proofs.Down.{DownKept, down_begins, down_kept}
use Rattle.sim_1_applications.proofs.Up.{UpKept, few_of, up_begins, up_kept}
use Rattle.sim_1_applications.proofs.Requests.{AreNumbered, all_requested, each_within, numbers_begin, numbers_kept}
use Rattle.sim_1_applications.proofs.Said.{messages_few, takes_few}

pub down_of : (k : ℕ) (d : Device) → DownKept k d → OfEach (IsDownFew k) d
down_of k d kept = all_append (IsDownFew k) d.sessions.past (d.sessions.now ∷ []) kept.past (kept.now, tt)

pub up_of : (k : ℕ) (d : Device) → UpKept k d → OfEach IsUpFew d
up_of k d kept = all_append IsUpFew d.sessions.past (d.sessions.now ∷ []) kept.past (few_of d.sessions.now kept.now, tt)

pub requests_of : (k : ℕ) (d : Device) → AreNumbered k d → OfEach (λ s. length (requested_in s) ≤ d.reading.asked) d
requests_of k d known = let all = all_requested d k known in each_within requested_in d.sessions d.reading.asked (omega arith)

-- so many were said of the device, asked for, and said of all
abbrev pub IsWhole : ℕ → ℕ → ℕ → Session → Type 0
IsWhole said asked all s = (length (up_put s) ≤ 2 + said + asked) × (length (s.down_got ++ s.down_rest) ≤ 101 * (2 + said + asked) + all)

one : (said asked all takes : ℕ) (s : Session) → takes ≤ all → IsDownFew takes s → IsUpFew s → length (messages (up_put s)) ≤ said → length (requested_in s) ≤ asked → IsWhole said asked all s
one said asked all takes s few down up many most =
    let got = length-append s.up_got s.up_rest in
    (omega arith, omega arith)

each : (said asked all takes : ℕ) (ss : List Session) → takes ≤ all → AllByRecursion (IsDownFew takes) ss → AllByRecursion IsUpFew ss → AllByRecursion (λ s. length (messages (up_put s)) ≤ said) ss →
    AllByRecursion (λ s. length (requested_in s) ≤ asked) ss → AllByRecursion (IsWhole said asked all) ss
each said asked all takes [] few down up many most = tt
each said asked all takes (s ∷ ss) few down up many most = (one said asked all takes s few down.0 up.0 many.0 most.0, each said asked all takes ss few down.1 up.1 many.1 most.1)

pub whole : (keep : ℕ) (accounts homes : List (List ℕ)) (all : List events.AppEvent) (w : AppWorld) → events.Reaches all (events.beginning keep accounts homes) w →
    (i : ℕ) (d : Device) → slice_get w.devices i ≡ Some d → OfEach (IsWhole (length (said_by i all)) d.reading.asked (length (spoken_in all))) d
whole keep accounts homes all w led i d at =
    let k = length w.takes in
    each (length (said_by i all)) d.reading.asked (length (spoken_in all)) k (sessions_of d.sessions)
    (takes_few keep accounts homes all w led)
    (down_of k d (from_beginning DownKept down_kept down_begins keep accounts homes all w led i d at))
    (up_of k d (from_beginning UpKept up_kept up_begins keep accounts homes all w led i d at))
    (messages_few keep accounts homes all w led i d at)
    (requests_of k d (from_beginning AreNumbered numbers_kept numbers_begin keep accounts homes all w led i d at))

pub down : (w : AppWorld) → events.Reached w → (i : ℕ) (d : Device) → slice_get w.devices i ≡ Some d → OfEach (IsDownFew (length w.takes)) d
down w reached i d at = down_of (length w.takes) d (in_reached DownKept down_kept down_begins w reached i d at)

pub up : (w : AppWorld) → events.Reached w → (i : ℕ) (d : Device) → slice_get w.devices i ≡ Some d → OfEach IsUpFew d
up w reached i d at = up_of (length w.takes) d (in_reached UpKept up_kept up_begins w reached i d at)

pub numbered : (w : AppWorld) → events.Reached w → (i : ℕ) (d : Device) → slice_get w.devices i ≡ Some d → AreNumbered (length w.takes) d
numbered w reached i d at = in_reached AreNumbered numbers_kept numbers_begin w reached i d at

pub few : (w : AppWorld) → events.Reached w → (i : ℕ) (d : Device) → slice_get w.devices i ≡ Some d → OfEach (λ s. length (requested_in s) ≤ d.reading.asked) d
few w reached i d at = requests_of (length w.takes) d (numbered w reached i d at)
