-- What the clients of devices asked for and the server hasn't handled is for pages of 100 entries at most, behind numbers that
-- the archives of their accounts have given. So it is wherever events lead, also where a client is offline by now.
use Rattle.std.proofs.Common.{◌≡◌, ℕ, ◌≤◌, ◌==◌, Bool, true, false, cond, List, [], ◌∷◌, ◌++◌, Option, Some, None, refl, sym, ap, subst, ◌∙◌, arith, inl, inr}
use Rattle.std.proofs.lemmas.Bool.{false≢true}
use Rattle.std.specs.List.{AllByRecursion, flat_map, slice_get}
use Rattle.sim_5_devices.proofs.Numbers.{AreWithin, IsWithin, log_within}
use Rattle.sim_5_moves.specs.Placed.{ArePlaced, IsPlaced}
use Rattle.sim_1_applications.proofs.Archives.{account_becomes, last_grows}
use Rattle.sim_1_applications.proofs.Lists.{all_rest, all_weaker}
use Rattle.sim_1_applications.proofs.Runs.{one_of, taken_beginning, taken_moves}
use Rattle.sim_1_applications.proofs.TileRuns.{read_beginning, read_moves}
use Rattle.sim_1_applications.proofs.Worlds.{at_position, same_position, was_device}
use Rattle.sim_1_applications.specs.Answers.{last_in}
use Rattle.sim_1_applications.specs.Devices.{Answer, AppWorld, Device, OpenPage, Take, first_of, last_of}
use Rattle.sim_1_applications.specs.Events as events
use Rattle.sim_1_applications.specs.Events.{At, Tick}
use Rattle.sim_1_applications.specs.Kept.{DeviceRead, IsAsked, IsAt, IsPage, Read, Taken}
use Rattle.sim_1_applications.specs.Stanzas.{Carbons, Down, Message, Presence, Query, Request, Up, requests}
use Rattle.sim_1_applications.specs.Pages.{IsGiven}

-- ---- a client that is online has asked for its open page alone

last_within : (last : ℕ) (ns : List ℕ) → AreWithin last ns → IsGiven last (last_in ns)
last_within last [] within = tt
last_within last (n ∷ []) within = within.0
last_within last (n ∷ m ∷ ns) within = last_within last (m ∷ ns) within.1

module _ (keep first last : ℕ) (d : Device) (known : DeviceRead keep first last d) where
  run_within : AreWithin last d.reading.run
  run_within = all_rest (IsWithin last) (flat_map (λ run. run) d.reading.broken) d.reading.run (log_within first last d.reading.broken d.reading.run known.log.runs)

  asked_position : (page : OpenPage) → IsAsked first last d page → IsGiven last page.after
  asked_position page is = elim is.position.following [
    | inl same ↦ subst (IsGiven last) (sym same) (last_within last d.reading.run run_within)
    | inr none ↦ subst (IsGiven last) (sym none.0) tt
  ]

  of_answer : (page : OpenPage) (a : Option Answer) → page.max ≤ 100 → IsAt keep first last d page a → ArePlaced last d
  of_answer page None few is = subst (AllByRecursion (IsPlaced last)) (sym is.request) ((asked_position page is, few), tt)
  of_answer page (Some a) few is = subst (AllByRecursion (IsPlaced last)) (sym is.request) tt

  of_page : (o : Option OpenPage) → IsPage keep first last d o → ArePlaced last d
  of_page None is = subst (AllByRecursion (IsPlaced last)) (sym is.0) tt
  of_page (Some page) is = of_answer page page.answer is.most is.progress

  online_placed : d.sessions.online ≡ true → ArePlaced last d
  online_placed on = of_page d.reading.page (known.page.page on)

-- ---- one that is offline asks for nothing more

still_given : (last more : ℕ) → last ≤ more → (r : Request) → IsPlaced last r → IsPlaced more r
still_given last more low r is = (by r.after is.0, is.1)
  where
    by : (o : Option ℕ) → IsGiven last o → IsGiven more o
    by None known = tt
    by (Some n) known = (known.0, let high = known.1 in omega (arith, high, low))

rest_placed : (last : ℕ) (z : Up) (rest : List Up) → AllByRecursion (IsPlaced last) (requests (z ∷ rest)) → AllByRecursion (IsPlaced last) (requests rest)
rest_placed last Carbons rest are = are
rest_placed last Presence rest are = are
rest_placed last (Message m) rest are = are
rest_placed last (Query r) rest are = are.1

module _ (last : ℕ) (a : events.Around) where
  served_placed : (fits : ℕ) (zs : List Up) (d : Device) → d.sessions.now.up_rest ≡ zs → ArePlaced last d → ArePlaced last (events.served a fits zs d)
  served_placed fits [] d is placed = placed
  served_placed fits (z ∷ rest) d is placed = rest_placed last z rest (subst (λ zs. AllByRecursion (IsPlaced last) (requests zs)) is placed)

  read_online : (zs : List Down) (d : Device) → (events.read a zs d).sessions.online ≡ d.sessions.online
  read_online [] d = refl
  read_online (z ∷ rest) d = refl

  own_placed : (act : events.Act) (d : Device) → events.May act d → (events.own a act d).sessions.online ≡ false → ArePlaced last d → ArePlaced last (events.own a act d)
  own_placed events.Bind d may off placed = placed
  own_placed (events.ReadBound live) d may off placed = tt
  own_placed events.Enable d may off placed = placed
  own_placed events.ReadEnabled d may off placed = absurd (false≢true (sym off))
  own_placed events.End d may off placed = placed
  own_placed events.Drop d may off placed = placed
  own_placed (events.Acknowledge n) d may off placed = placed
  own_placed (events.Say to text private) d may off placed = absurd (false≢true (sym off ∙ may))
  own_placed (events.CatchUp max) d may off placed = absurd (false≢true (sym off ∙ may.0))
  own_placed (events.ServerHandles fits full) d may off placed = served_placed fits d.sessions.now.up_rest d refl placed
  own_placed events.ClientHandles d may off placed = absurd (false≢true (sym off ∙ read_online d.sessions.now.down_rest d ∙ may.0))

hears_rest : (takes : List Take) (full : List ℕ) (ts : List Take) (j : ℕ) (d : Device) → (events.hear_all takes full ts j d).sessions.now.up_rest ≡ d.sessions.now.up_rest
hears_rest takes full [] j d = refl
hears_rest takes full (t ∷ ts) j d = hears_rest takes full ts j (events.hear takes full t j d)

hears_online : (takes : List Take) (full : List ℕ) (ts : List Take) (j : ℕ) (d : Device) → (events.hear_all takes full ts j d).sessions.online ≡ d.sessions.online
hears_online takes full [] j d = refl
hears_online takes full (t ∷ ts) j d = hears_online takes full ts j (events.hear takes full t j d)

-- ---- worlds

abbrev pub Placed : AppWorld → Type 0
Placed w = (i : ℕ) (d : Device) → slice_get w.devices i ≡ Some d → ArePlaced (last_of w.takes d.account) d

module _ (w : AppWorld) (i : ℕ) (act : events.Act) (own : Device) (at : slice_get w.devices i ≡ Some own) (may : events.May act own) (read : Read (events.acted w i act own)) (placed : Placed w) where
  abbrev new : List Take
  new = events.taken_by w.accounts w.clock i own act

  abbrev f : ℕ → Device → Device
  f = events.becomes w new i act

  off_placed : (j : ℕ) (d : Device) → slice_get w.devices j ≡ Some d → (f j d).sessions.online ≡ false → ArePlaced (last_of (w.takes ++ new) (f j d).account) (f j d)
  off_placed j d there off =
      let mid = cond (j == i) (events.own (events.around w d) act d) d in
      let last = last_of (w.takes ++ new) (f j d).account in
      let grows = last_grows w.takes new d.account in
      let same = ap (last_of (w.takes ++ new)) (account_becomes w new i act j d) in
      let before : ArePlaced last d = all_weaker (IsPlaced (last_of w.takes d.account)) (IsPlaced last) (requests d.sessions.now.up_rest) (still_given (last_of w.takes d.account) last (omega (arith, grows, same))) (placed j d there) in
      let here : (j == i) ≡ true → (events.own (events.around w d) act d).sessions.online ≡ false → ArePlaced last (events.own (events.around w d) act d) =
      λ is off2. let position = same_position j i is in
      let one : own ≡ d = (let g : slice_get w.devices j ≡ slice_get w.devices i = ap (slice_get w.devices) position in cc) in
      own_placed last (events.around w d) act d (subst (events.May act) one may) off2 before in
      subst (λ zs. AllByRecursion (IsPlaced last) (requests zs)) (sym (hears_rest (w.takes ++ new) (events.full_of act) new j mid))
      (at_position (j == i) _ _ (λ y. y.sessions.online ≡ false → ArePlaced last y) here (λ other off2. before) (sym (hears_online (w.takes ++ new) (events.full_of act) new j mid) ∙ off))

  acted_placed : Placed (events.acted w i act own)
  acted_placed j e here = by e.sessions.online refl
    where
      by : (online : Bool) → e.sessions.online ≡ online → ArePlaced (last_of (w.takes ++ new) e.account) e
      by true on = online_placed w.keep (first_of w.keep (last_of (w.takes ++ new) e.account)) (last_of (w.takes ++ new) e.account) e (read.devices j e here) on
      by false off =
          let was = was_device f w.devices j e here in
          subst (λ (y : Device). y.sessions.online ≡ false → ArePlaced (last_of (w.takes ++ new) y.account) y) (sym was.2) (off_placed j was.0 was.1) off

placed_moves : (event : events.AppEvent) (w next : AppWorld) → events.Moves event w next → Read next → Placed w → Placed next
placed_moves (Tick ms) w next led read placed = subst Placed (sym led) (λ i d at. placed i d at)
placed_moves (At i act) w next led read placed = subst Placed (sym led.3) (acted_placed w i act led.0 led.1 led.2 (subst Read led.3 read) placed)

pub placed_along : (all : List events.AppEvent) (w last : AppWorld) → events.Reaches all w last → Taken w → Read w → Placed w → Placed last
placed_along [] w last is taken read placed = subst Placed (sym is) placed
placed_along (event ∷ all) w last led taken read placed =
    let more = read_moves event w led.0 led.1 taken read in
    placed_along all led.0 last led.2 (taken_moves event w led.0 led.1 taken) more (placed_moves event w led.0 led.1 more placed)

pub from_beginning : (keep : ℕ) → 1 ≤ keep → (accounts homes : List (List ℕ)) (all : List events.AppEvent) (w : AppWorld) → events.Reaches all (events.beginning keep accounts homes) w → Placed w
from_beginning keep some accounts homes all w led =
    placed_along all (events.beginning keep accounts homes) w led (taken_beginning keep accounts homes) (read_beginning keep some accounts homes)
    (λ i d at. one_of (λ j (e : Device). ArePlaced (last_of [] e.account) e) homes i d (λ account. tt) at)
