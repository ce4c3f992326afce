-- The number of a device's last request stays at an event, or rises by one; and a device is there before an event where
-- it is there behind it.
use Rattle.std.proofs.Common.{◌≡◌, ◌≢◌, ◌⊎◌, ℕ, ◌+◌, ◌≤◌, ◌==◌, true, false, cond, List, [], ◌∷◌, ◌++◌, Some, refl, sym, ap, ◌∙◌, subst, arith, inl, inr}
use Rattle.std.proofs.lemmas.Bool.{cases_Bool, eq-eqb, both_ways}
use Rattle.std.proofs.lemmas.Option.{same_Some}
use Rattle.std.specs.List.{slice_get}
use Rattle.std.specs.Option.{option_map}
use Rattle.sim_1_applications.specs.Stanzas.{Up, Down}
use Rattle.sim_1_applications.specs.Devices.{AppWorld, Device, Take}
use Rattle.sim_1_applications.specs.Events as events
use Rattle.sim_1_applications.specs.Events.AppEvent.{At, Tick}
use Rattle.sim_1_applications.proofs.Worlds.{get_each, same_position, was_device}
use Rattle.sim_1_applications.specs.Counts.{MayAsk}
use Rattle.sim_1_applications.proofs.Reactions.{reacts, Reacts, Stays, Asks}
use Rattle.sim_1_applications.proofs.Requests.{asked_served}
pub use Rattle.sim_1_applications.proofs.TileRuns.{same_hear_all as reading_hears}

-- what a device becomes at an event: what its own act and hearing make of it, or hearing alone
pub data Becomes (w : AppWorld) (event : events.AppEvent) (i : ℕ) (d e : Device) : Type 0 where
  Stayed : (ms : ℕ) → event ≡ Tick ms → e ≡ d → Becomes w event i d e
  Acted : (act : events.Act) → event ≡ At i act → events.May act d → (new : List Take) → new ≡ events.taken_by w.accounts w.clock i d act →
      e ≡ events.hear_all (w.takes ++ new) (events.full_of act) new i (events.own (events.around w d) act d) → Becomes w event i d e
  Heard : (j : ℕ) (act : events.Act) → event ≡ At j act → j ≢ i → (new : List Take) → e ≡ events.hear_all (w.takes ++ new) (events.full_of act) new i d → Becomes w event i d e

-- the device before, and what became of it
pub becomes : (event : events.AppEvent) (w next : AppWorld) → events.Moves event w next → (i : ℕ) (e : Device) → slice_get next.devices i ≡ Some e →
    (d : Device) × (slice_get w.devices i ≡ Some d) × Becomes w event i d e
becomes (Tick ms) w next led i e at = (e, ap (λ (v : AppWorld). slice_get v.devices i) (sym led) ∙ at, Stayed ms refl refl)
becomes (At j act) w next led i e at = (before.0, before.1, elim (cases_Bool (i == j)) [ inl is ↦ here is | inr other ↦ there other ])
  where
    new : List Take
    new = events.taken_by w.accounts w.clock j led.0 act

    before : (d : Device) × (slice_get w.devices i ≡ Some d) × (e ≡ events.becomes w new j act i d)
    before = was_device (events.becomes w new j act) w.devices i e (ap (λ (v : AppWorld). slice_get v.devices i) (sym led.3) ∙ at)

    heard : Device → Device
    heard d = events.hear_all (w.takes ++ new) (events.full_of act) new i d

    here : (i == j) ≡ true → Becomes w (At j act) i before.0 e
    here is =
        let position : i ≡ j = same_position i j is in
        let one : led.0 ≡ before.0 = same_Some led.0 before.0 (sym led.1 ∙ ap (slice_get w.devices) (sym position) ∙ before.1) in
        Acted act (ap (λ k. At k act) (sym position)) (subst (events.May act) one led.2) new
        (ap (λ k. events.taken_by w.accounts w.clock k led.0 act) (sym position) ∙ ap (λ d. events.taken_by w.accounts w.clock i d act) one)
        (before.2 ∙ ap (λ b. heard (cond b (events.own (events.around w before.0) act before.0) before.0)) is)

    there : (i == j) ≡ false → Becomes w (At j act) i before.0 e
    there other =
        Heard j act refl (λ same. both_ways (i == j) other (self i j (sym same))) new
        (before.2 ∙ ap (λ b. heard (cond b (events.own (events.around w before.0) act before.0) before.0)) other)
      where
        self : (a b : ℕ) → a ≡ b → (a == b) ≡ true
        self a b same = eq-eqb a b same

-- the device that it was, where it is told
pub becomes_of : (event : events.AppEvent) (w next : AppWorld) → events.Moves event w next → (i : ℕ) (d e : Device) → slice_get w.devices i ≡ Some d → slice_get next.devices i ≡ Some e → Becomes w event i d e
becomes_of event w next led i d e there here =
    let b = becomes event w next led i e here in
    subst (λ c. Becomes w event i c e) (same_Some b.0 d (sym b.1 ∙ there)) b.2

-- a device that is there before an event is there behind it
pub there_after : (event : events.AppEvent) (w next : AppWorld) (i : ℕ) (d : Device) → events.Moves event w next → slice_get w.devices i ≡ Some d → (e : Device) × (slice_get next.devices i ≡ Some e)
there_after (Tick ms) w next i d led at = (d, ap (λ (v : AppWorld). slice_get v.devices i) led ∙ at)
there_after (At j act) w next i d led at =
    let f = events.becomes w (events.taken_by w.accounts w.clock j led.0 act) j act in
    (f (0 + i) d, ap (λ (v : AppWorld). slice_get v.devices i) led.3 ∙ get_each 0 f w.devices i ∙ ap (option_map (f (0 + i))) at)

-- it stays, or rises by one
abbrev pub RisesByOne : ℕ → ℕ → Type 0
RisesByOne before now = (now ≡ before) ⊎ (now ≡ before + 1)

asked_read : (a : events.Around) (zs : List Down) (d : Device) → RisesByOne d.reading.asked (events.read a zs d).reading.asked
asked_read a [] d = inl refl
asked_read a (z ∷ rest) d = by (events.reads a z d.reading) (reacts a z d.reading)
  where
    by : (r : events.Reaction) → Reacts d.reading r → RisesByOne d.reading.asked r.reading.asked
    by r (Stays request asked page) = inl asked
    by r (Asks asks) = inr asks.asked

asked_serves : (a : events.Around) (fits : ℕ) (zs : List Up) (d : Device) → (events.served a fits zs d).reading.asked ≡ d.reading.asked
asked_serves a fits [] d = refl
asked_serves a fits (z ∷ rest) d = asked_served a z d

-- the acts that put a request
abbrev IsAsker : events.Act → Type 0
IsAsker (events.Act.CatchUp max) = Unit {0}
IsAsker events.Act.ClientHandles = Unit {0}
IsAsker _ = ⊥

asked_acts : (a : events.Around) (act : events.Act) (d : Device) → RisesByOne d.reading.asked (events.own a act d).reading.asked × ((IsAsker act → ⊥) → (events.own a act d).reading.asked ≡ d.reading.asked)
asked_acts a events.Act.Bind d = (inl refl, λ none. refl)
asked_acts a (events.Act.ReadBound live) d = (inl refl, λ none. refl)
asked_acts a events.Act.Enable d = (inl refl, λ none. refl)
asked_acts a events.Act.ReadEnabled d = (inl refl, λ none. refl)
asked_acts a events.Act.End d = (inl refl, λ none. refl)
asked_acts a events.Act.Drop d = (inl refl, λ none. refl)
asked_acts a (events.Act.Acknowledge n) d = (inl refl, λ none. refl)
asked_acts a (events.Act.Say to text private) d = (inl refl, λ none. refl)
asked_acts a (events.Act.CatchUp max) d = (inr refl, λ none. absurd (none tt))
asked_acts a (events.Act.ServerHandles fits full) d = (inl (asked_serves a fits d.sessions.now.up_rest d), λ none. asked_serves a fits d.sessions.now.up_rest d)
asked_acts a events.Act.ClientHandles d = (asked_read a d.sessions.now.down_rest d, λ none. absurd (none tt))

may_ask : (i : ℕ) (act : events.Act) → IsAsker act → MayAsk i (At i act)
may_ask i (events.Act.CatchUp max) is = refl
may_ask i events.Act.ClientHandles is = refl
may_ask i events.Act.Bind is = absurd is
may_ask i (events.Act.ReadBound live) is = absurd is
may_ask i events.Act.Enable is = absurd is
may_ask i events.Act.ReadEnabled is = absurd is
may_ask i events.Act.End is = absurd is
may_ask i events.Act.Drop is = absurd is
may_ask i (events.Act.Acknowledge n) is = absurd is
may_ask i (events.Act.Say to text private) is = absurd is
may_ask i (events.Act.ServerHandles fits full) is = absurd is

asked_becomes : (w : AppWorld) (event : events.AppEvent) (i : ℕ) (d e : Device) → Becomes w event i d e →
    RisesByOne d.reading.asked e.reading.asked × ((MayAsk i event → ⊥) → e.reading.asked ≡ d.reading.asked)
asked_becomes w event i d e (Stayed ms is same) = (inl (ap (λ (x : Device). x.reading.asked) same), λ none. ap (λ (x : Device). x.reading.asked) same)
asked_becomes w event i d e (Heard j act is other new same) =
    let stays = ap (λ (x : Device). x.reading.asked) same ∙ ap (λ b. b.asked) (reading_hears (w.takes ++ new) (events.full_of act) new i d) in
    (inl stays, λ none. stays)
asked_becomes w event i d e (Acted act is may new took same) =
    let own = events.own (events.around w d) act d in
    let heard : e.reading.asked ≡ own.reading.asked = ap (λ (x : Device). x.reading.asked) same ∙ ap (λ b. b.asked) (reading_hears (w.takes ++ new) (events.full_of act) new i own) in
    let known = asked_acts (events.around w d) act d in (
      subst (RisesByOne d.reading.asked) (sym heard) known.0,
      λ none. heard ∙ known.1 (λ asker. none (subst (MayAsk i) (sym is) (may_ask i act asker))),
    )

pub asked_moves : (event : events.AppEvent) (w next : AppWorld) → events.Moves event w next → (i : ℕ) (d e : Device) → slice_get w.devices i ≡ Some d → slice_get next.devices i ≡ Some e →
    RisesByOne d.reading.asked e.reading.asked × ((MayAsk i event → ⊥) → e.reading.asked ≡ d.reading.asked)
asked_moves event w next led i d e there here = asked_becomes w event i d e (becomes_of event w next led i d e there here)

pub rises : (m n : ℕ) → RisesByOne m n → (m ≤ n) × (n ≤ m + 1)
rises m n (inl same) = (omega arith, omega arith)
rises m n (inr more) = (omega arith, omega arith)
