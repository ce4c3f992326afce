-- What each act keeps of its own device, and what hearing of a take keeps, holds of each device of a world that is
-- reached. It may speak of how many takes there were.
use Rattle.std.proofs.Common.{◌≡◌, ℕ, suc, ◌+◌, ◌==◌, cond, List, [], ◌∷◌, ◌++◌, Some, length, sym, ap, subst, arith}
use Rattle.std.proofs.lemmas.List.{length-append}
use Rattle.std.specs.List.{slice_get}
use Rattle.sim_1_applications.specs.Devices.{AppWorld, Device, Take, new_device}
use Rattle.sim_1_applications.specs.Events as events
use Rattle.sim_1_applications.specs.Events.AppEvent.{At, Tick}
use Rattle.sim_1_applications.specs.Kept.{SessionsKept, Taken}
use Rattle.sim_1_applications.proofs.Runs.{one_of, taken_beginning, taken_moves}
use Rattle.sim_1_applications.proofs.Worlds.{at_position, same_position, was_device}

-- of a device, and of how many takes there were
pub record IsKept (P : ℕ → Device → Type 0) : Type 0 where
  pub acts : (a : events.Around) (act : events.Act) (d : Device) (k : ℕ) → events.May act d → SessionsKept d.sessions → P k d → P k (events.own a act d)
  pub hears : (takes : List Take) (full : List ℕ) (t : Take) (j : ℕ) (d : Device) (k : ℕ) → P k d → P (suc k) (events.hear takes full t j d)

hears_all : (P : ℕ → Device → Type 0) → IsKept P → (takes : List Take) (full : List ℕ) (ts : List Take) (j : ℕ) (d : Device) (k : ℕ) → P k d → P (k + length ts) (events.hear_all takes full ts j d)
hears_all P is takes full [] j d k known = subst (λ n. P n d) (let same : k ≡ k + 0 = omega arith in same) known
hears_all P is takes full (t ∷ ts) j d k known =
    subst (λ n. P n (events.hear_all takes full ts j (events.hear takes full t j d))) (let same : suc k + length ts ≡ k + suc (length ts) = omega arith in same)
    (hears_all P is takes full ts j (events.hear takes full t j d) (suc k) (is.hears takes full t j d k known))

abbrev pub OfDevices : (ℕ → Device → Type 0) → AppWorld → Type 0
OfDevices P w = (i : ℕ) (d : Device) → slice_get w.devices i ≡ Some d → P (length w.takes) d

becomes : (P : ℕ → Device → Type 0) → IsKept P → (w : AppWorld) (new : List Take) (i : ℕ) (act : events.Act) (own : Device) (j : ℕ) (d : Device) →
    slice_get w.devices i ≡ Some own → events.May act own → slice_get w.devices j ≡ Some d → SessionsKept d.sessions → P (length w.takes) d →
    P (length (w.takes ++ new)) (events.becomes w new i act j d)
becomes P is w new i act own j d at may here sessions known =
    subst (λ n. P n (events.becomes w new i act j d)) (sym (length-append w.takes new))
    (hears_all P is (w.takes ++ new) (events.full_of act) new j (cond (j == i) (events.own (events.around w d) act d) d) (length w.takes)
    (at_position (j == i) _ _ (P (length w.takes))
    (λ same. let position = same_position j i same in
    let one : own ≡ d = (let g : slice_get w.devices j ≡ slice_get w.devices i = ap (slice_get w.devices) position in cc) in
    is.acts (events.around w d) act d (length w.takes) (subst (events.May act) one may) sessions known)
    (λ _. known)))

moves : (P : ℕ → Device → Type 0) → IsKept P → (event : events.AppEvent) (w next : AppWorld) → events.Moves event w next → Taken w → OfDevices P w → OfDevices P next
moves P is (Tick ms) w next led taken known = subst (OfDevices P) (sym led) (λ i d at. known i d at)
moves P is (At i act) w next led taken known =
    subst (OfDevices P) (sym led.3) (λ j e here.
    let new = events.taken_by w.accounts w.clock i led.0 act in
    let before = was_device (events.becomes w new i act) w.devices j e here in
    subst (P (length (w.takes ++ new))) (sym before.2)
    (becomes P is w new i act led.0 j before.0 led.1 led.2 before.1 (taken.devices j before.0 before.1).sessions (known j before.0 before.1)))

along : (P : ℕ → Device → Type 0) → IsKept P → (all : List events.AppEvent) (w last : AppWorld) → events.Reaches all w last → Taken w → OfDevices P w → OfDevices P last
along P is [] w last led taken known = subst (OfDevices P) (sym led) known
along P is (event ∷ all) w last led taken known =
    along P is all led.0 last led.2 (taken_moves event w led.0 led.1 taken) (moves P is event w led.0 led.1 taken known)

pub from_beginning : (P : ℕ → Device → Type 0) → IsKept P → ((account : List ℕ) → P 0 (new_device account)) →
    (keep : ℕ) (accounts homes : List (List ℕ)) (all : List events.AppEvent) (w : AppWorld) → events.Reaches all (events.beginning keep accounts homes) w → OfDevices P w
from_beginning P is new keep accounts homes all w led =
    along P is all (events.beginning keep accounts homes) w led (taken_beginning keep accounts homes) (λ i d at. one_of (λ j e. P 0 e) homes i d new at)

pub in_reached : (P : ℕ → Device → Type 0) → IsKept P → ((account : List ℕ) → P 0 (new_device account)) → (w : AppWorld) → events.Reached w → OfDevices P w
in_reached P is new w reached = from_beginning P is new reached.keep reached.accounts reached.homes reached.events w reached.reaches
