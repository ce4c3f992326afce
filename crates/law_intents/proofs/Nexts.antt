-- A device before an event and after it.
use Rattle.std.proofs.Common.{◌≡◌, ℕ, ◌+◌, ◌≤◌, ◌==◌, Bool, true, false, cond, List, [], ◌∷◌, ◌++◌, Option, Some, None, length, refl, sym, ap, ◌∙◌, subst, arith, inl, inr, ◌⊎◌}
use Rattle.std.specs.List.{AllByRecursion, filter, slice_get}
use Rattle.std.proofs.lemmas.List.{append-nil}
use Rattle.sim_1_applications.specs.Stanzas.{Up, Down}
use Rattle.sim_1_applications.specs.Devices.{Device, Take, AppWorld, epoch_of}
use Rattle.sim_1_applications.specs.Events as events
use Rattle.sim_1_applications.specs.Events.AppEvent.{At, Tick}
use Rattle.sim_1_applications.specs.Kept.{Read, SessionsKept, Taken, is_of}
use Rattle.sim_1_applications.proofs.Archives.{taken_epoch}
use Rattle.sim_1_applications.proofs.Later.{Extends, extends_same, later_moves}
use Rattle.sim_1_applications.proofs.Runs.{epoch_own}
use Rattle.sim_1_applications.proofs.Takes.{is_of_taken}
use Rattle.sim_1_applications.proofs.TileRuns.{same_hear_all}
use Rattle.sim_1_applications.proofs.Worlds.{at_position, same_position, was_device}

pub some_is : {A : Type 0} (x y : A) → Some x ≡ Some y → x ≡ y
some_is x y e = cc

-- its epoch is the same, or no page is under way
abbrev pub Enters : Device → Device → Type 0
Enters d x = (epoch_of x.sessions ≡ epoch_of d.sessions) ⊎ ((epoch_of d.sessions ≤ epoch_of x.sessions) × (x.reading.page ≡ None))

-- the device that it was
pub record Prev (i : ℕ) (w next : AppWorld) (x : Device) : Type 0 where
  pub d : Device
  pub at : slice_get w.devices i ≡ Some d
  pub account : x.account ≡ d.account
  pub tiles : Extends d.reading.tiles x.reading.tiles
  pub keep : next.keep ≡ w.keep
  pub new : List Take
  pub takes : next.takes ≡ w.takes ++ new
  pub later : AllByRecursion (λ t. t.said.epoch ≡ epoch_of d.sessions) (filter (is_of i) new)
  pub epoch : Enters d x

same_served : (a : events.Around) (fits : ℕ) (zs : List Up) (d : Device) → epoch_of (events.served a fits zs d).sessions ≡ epoch_of d.sessions
same_served a fits [] d = refl
same_served a fits (z ∷ rest) d = refl

same_read : (a : events.Around) (zs : List Down) (d : Device) → epoch_of (events.read a zs d).sessions ≡ epoch_of d.sessions
same_read a [] d = refl
same_read a (z ∷ rest) d = refl

epoch_acts : (a : events.Around) (act : events.Act) (d : Device) → events.May act d → (d.sessions.online ≡ false → d.reading.page ≡ None) → Enters d (events.own a act d)
epoch_acts a events.Act.Bind d may off = inl refl
epoch_acts a (events.Act.ReadBound true) d may off = inr (epoch_own a (events.Act.ReadBound true) d, off may.0)
epoch_acts a (events.Act.ReadBound false) d may off = inr (epoch_own a (events.Act.ReadBound false) d, off may.0)
epoch_acts a events.Act.Enable d may off = inl refl
epoch_acts a events.Act.ReadEnabled d may off = inl refl
epoch_acts a events.Act.End d may off = inl refl
epoch_acts a events.Act.Drop d may off = inl refl
epoch_acts a (events.Act.Acknowledge n) d may off = inl refl
epoch_acts a (events.Act.Say to text private) d may off = inl refl
epoch_acts a (events.Act.CatchUp max) d may off = inl refl
epoch_acts a (events.Act.ServerHandles fits full) d may off = inl (same_served a fits d.sessions.now.up_rest d)
epoch_acts a events.Act.ClientHandles d may off = inl (same_read a d.sessions.now.down_rest d)

epoch_hears : (takes : List Take) (full : List ℕ) (ts : List Take) (j : ℕ) (d : Device) → epoch_of (events.hear_all takes full ts j d).sessions ≡ epoch_of d.sessions
epoch_hears takes full [] j d = refl
epoch_hears takes full (t ∷ ts) j d = epoch_hears takes full ts j (events.hear takes full t j d)

heard : (takes : List Take) (full : List ℕ) (ts : List Take) (j : ℕ) (d x : Device) → Enters d x → Enters d (events.hear_all takes full ts j x)
heard takes full ts j d x (inl same) = inl (epoch_hears takes full ts j x ∙ same)
heard takes full ts j d x (inr more) =
    inr (above more.0 (epoch_hears takes full ts j x), ap (λ b. b.page) (same_hear_all takes full ts j x) ∙ more.1)
  where
    above : {a b c : ℕ} → a ≤ b → c ≡ b → a ≤ c
    above low is = omega arith

new_epoch : (w : AppWorld) (i j : ℕ) (act : events.Act) (own d : Device) → slice_get w.devices i ≡ Some d → slice_get w.devices j ≡ Some own → SessionsKept d.sessions →
    AllByRecursion (λ t. t.said.epoch ≡ epoch_of d.sessions) (filter (is_of i) (events.taken_by w.accounts w.clock j own act))
new_epoch w i j act own d here at kept =
    subst (AllByRecursion (λ t. t.said.epoch ≡ epoch_of d.sessions)) (sym (is_of_taken w.accounts w.clock j act own i)) (chosen (i == j) refl)
  where
    chosen : (c : Bool) → (i == j) ≡ c → AllByRecursion (λ t. t.said.epoch ≡ epoch_of d.sessions) (cond c (events.taken_by w.accounts w.clock j own act) [])
    chosen false is = tt
    chosen true is =
        let i_is_j = same_position i j is in
        let same : own ≡ d = (let g : slice_get w.devices i ≡ slice_get w.devices j = ap (slice_get w.devices) i_is_j in cc) in
        subst (λ x. AllByRecursion (λ t. t.said.epoch ≡ epoch_of d.sessions) (events.taken_by w.accounts w.clock j x act)) (sym same) (taken_epoch w.accounts w.clock j act d kept)

enters : (w : AppWorld) (new : List Take) (i j : ℕ) (act : events.Act) (own d : Device) → slice_get w.devices i ≡ Some d → slice_get w.devices j ≡ Some own → events.May act own →
    (d.sessions.online ≡ false → d.reading.page ≡ None) → Enters d (events.becomes w new j act i d)
enters w new i j act own d here at may off =
    at_position (i == j) (events.own (events.around w d) act d) d (λ x. Enters d (events.hear_all (w.takes ++ new) (events.full_of act) new i x))
    (λ is.
    let i_is_j = same_position i j is in
    let same : own ≡ d = (let g : slice_get w.devices i ≡ slice_get w.devices j = ap (slice_get w.devices) i_is_j in cc) in
    heard (w.takes ++ new) (events.full_of act) new i d (events.own (events.around w d) act d) (epoch_acts (events.around w d) act d (subst (events.May act) same may) off))
    (λ _. heard (w.takes ++ new) (events.full_of act) new i d d (inl refl))

pub prev_of : (event : events.AppEvent) (w next : AppWorld) (i : ℕ) (x : Device) → events.Moves event w next → Taken w → Read w → slice_get next.devices i ≡ Some x → Prev i w next x
prev_of (Tick ms) w next i x is taken read at =
    subst (λ v. Prev i w v x) (sym is) (record {
      d = x;
      at = subst (λ v. slice_get v.devices i ≡ Some x) is at;
      account = refl;
      tiles = extends_same x.reading.tiles x.reading.tiles refl;
      keep = refl;
      new = [];
      takes = sym (append-nil w.takes);
      later = tt;
      epoch = inl refl;
    })
prev_of (At j act) w next i x is taken read at =
    let new = events.taken_by w.accounts w.clock j is.0 act in
    let was = was_device (events.becomes w new j act) w.devices i x (subst (λ v. slice_get v.devices i ≡ Some x) is.3 at) in
    let later = later_moves (At j act) w next is in
    let there = later.devices i was.0 was.1 in
    let same : there.device ≡ x = some_is there.device x (sym there.at ∙ at) in
    record {
      d = was.0;
      at = was.1;
      account = ap (λ (y : Device). y.account) (sym same) ∙ there.later.account;
      tiles = subst (λ (y : Device). Extends was.0.reading.tiles y.reading.tiles) same there.later.tiles;
      keep = later.keep;
      new = new;
      takes = ap (λ (v : AppWorld). v.takes) is.3;
      later = new_epoch w i j act is.0 was.0 was.1 is.1 (taken.devices i was.0 was.1).sessions;
      epoch = subst (Enters was.0) (sym was.2) (enters w new i j act is.0 was.0 was.1 is.1 is.2 (read.devices i was.0 was.1).page.offline);
    }

-- its epoch doesn't fall
pub epoch_rises : (i : ℕ) (w next : AppWorld) (x : Device) (prev : Prev i w next x) → epoch_of prev.d.sessions ≤ epoch_of x.sessions
epoch_rises i w next x prev = elim prev.epoch [ inl same ↦ low same | inr more ↦ more.0 ]
  where
    low : {a b : ℕ} → a ≡ b → b ≤ a
    low is = omega arith
