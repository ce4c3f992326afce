-- A1 to A5 and A10 along every run.
use Rattle.std.proofs.Common.{◌≡◌, ℕ, suc, zero, ◌<◌, ◌≤◌, ◌==◌, Bool, true, false, cond, List, [], ◌∷◌, ◌++◌, Some, length, refl, sym, ap, subst, arith}
use Rattle.std.proofs.lemmas.List.{length-append, length_push}
use Rattle.std.proofs.Math.Seq.{drop-append_seam}
use Rattle.std.proofs.lemmas.Option.{same_Some, slice_get_within}
use Rattle.std.specs.List.{filter, AllByRecursion, slice_get}
use Rattle.sim_1_applications.specs.Stanzas.{Up}
use Rattle.sim_1_applications.specs.Stanzas.Up.{Carbons, Presence, Message, Query}
use Rattle.sim_1_applications.specs.Devices.{Device, Take, Made, AppWorld, epoch_of, new_device}
use Rattle.sim_1_applications.specs.Events as events
use Rattle.sim_1_applications.specs.Events.AppEvent.{At, Tick}
use Rattle.sim_1_applications.specs.Kept.{IsOfDevice, is_of, SessionsKept, IsSettledAt, MadeKept, DeviceTaken, Taken}
use Rattle.sim_1_applications.proofs.Lists.{all_append, all_weaker}
use Rattle.sim_1_applications.proofs.Takes.{is_of_taken}
use Rattle.sim_1_applications.proofs.Archives.{taken_epoch, takes_becomes, moments_more, moments_tick, taken_now, settled_all}
use Rattle.sim_1_applications.proofs.SessionSteps.{fresh_session}
use Rattle.sim_1_applications.proofs.Worlds.{length_each, same_position, at_position, was_device, sessions_becomes}

-- A10 where the device acts, and where it hears

made_of_served : (P : Made → Type 0) (a : events.Around) (e : ℕ) (z : Up) (ms : List Made) → ((number : ℕ) → P (record { epoch = e; number = number; takes = a.takes })) →
    AllByRecursion P ms → AllByRecursion P (events.made_served a e z ms)
made_of_served P a e Carbons ms one old = old
made_of_served P a e Presence ms one old = old
made_of_served P a e (Message m) ms one old = old
made_of_served P a e (Query r) ms one old = all_append P ms _ old (one r.number, tt)

made_served : (P : Made → Type 0) (a : events.Around) (fits : ℕ) (zs : List Up) (d : Device) → ((number : ℕ) → P (record { epoch = epoch_of d.sessions; number = number; takes = a.takes })) →
    AllByRecursion P d.made → AllByRecursion P (events.served a fits zs d).made
made_served P a fits [] d one old = old
made_served P a fits (z ∷ rest) d one old = made_of_served P a (epoch_of d.sessions) z d.made one old

made_read : (P : Made → Type 0) (a : events.Around) (zs : _) (d : Device) → AllByRecursion P d.made → AllByRecursion P (events.read a zs d).made
made_read P a [] d old = old
made_read P a (z ∷ rest) d old = old

pub made_own : (P : Made → Type 0) (a : events.Around) (act : events.Act) (d : Device) → ((number : ℕ) → P (record { epoch = epoch_of d.sessions; number = number; takes = a.takes })) →
    AllByRecursion P d.made → AllByRecursion P (events.own a act d).made
made_own P a events.Act.Bind d one old = old
made_own P a (events.Act.ReadBound live) d one old = old
made_own P a events.Act.Enable d one old = old
made_own P a events.Act.ReadEnabled d one old = old
made_own P a events.Act.End d one old = old
made_own P a events.Act.Drop d one old = old
made_own P a (events.Act.Acknowledge n) d one old = old
made_own P a (events.Act.Say to text private) d one old = old
made_own P a (events.Act.CatchUp max) d one old = old
made_own P a (events.Act.ServerHandles fits full) d one old = made_served P a fits d.sessions.now.up_rest d one old
made_own P a events.Act.ClientHandles d one old = made_read P a d.sessions.now.down_rest d old

epoch_served : (a : events.Around) (fits : ℕ) (zs : List Up) (d : Device) → epoch_of d.sessions ≤ epoch_of (events.served a fits zs d).sessions
epoch_served a fits [] d = omega arith
epoch_served a fits (z ∷ rest) d = omega arith

epoch_read : (a : events.Around) (zs : _) (d : Device) → epoch_of d.sessions ≤ epoch_of (events.read a zs d).sessions
epoch_read a [] d = omega arith
epoch_read a (z ∷ rest) d = omega arith

-- epochs rise
pub epoch_own : (a : events.Around) (act : events.Act) (d : Device) → epoch_of d.sessions ≤ epoch_of (events.own a act d).sessions
epoch_own a events.Act.Bind d = omega arith
epoch_own a (events.Act.ReadBound live) d = let one = length_push d.sessions.past d.sessions.now in omega arith
epoch_own a events.Act.Enable d = omega arith
epoch_own a events.Act.ReadEnabled d = omega arith
epoch_own a events.Act.End d = omega arith
epoch_own a events.Act.Drop d = omega arith
epoch_own a (events.Act.Acknowledge n) d = omega arith
epoch_own a (events.Act.Say to text private) d = omega arith
epoch_own a (events.Act.CatchUp max) d = omega arith
epoch_own a (events.Act.ServerHandles fits full) d = epoch_served a fits d.sessions.now.up_rest d
epoch_own a events.Act.ClientHandles d = epoch_read a d.sessions.now.down_rest d

made_hear_all : (takes all : List Take) (full : List ℕ) (ts : List Take) (j : ℕ) (d : Device) → MadeKept all j d → MadeKept all j (events.hear_all takes full ts j d)
made_hear_all takes all full [] j d kept = kept
made_hear_all takes all full (t ∷ ts) j d kept =
    made_hear_all takes all full ts j (events.hear takes full t j d) (record { settled = kept.settled; epochs = kept.epochs })

-- behind all takes so far
settled_now : (takes new : List Take) (j e number : ℕ) → AllByRecursion (λ t. e ≤ t.said.epoch) (filter (is_of j) new) → IsSettledAt (takes ++ new) j (record { epoch = e; number = number; takes = length takes })
settled_now takes new j e number later = record {
  before = let more = length-append takes new in omega arith;
  later = subst (λ ts. AllByRecursion (λ t. e ≤ t.said.epoch) (filter (is_of j) ts)) (sym (drop-append_seam takes new)) later;
}

made_more : (takes new : List Take) (j : ℕ) (d : Device) → AllByRecursion (λ t. epoch_of d.sessions ≤ t.said.epoch) (filter (is_of j) new) → MadeKept takes j d → MadeKept (takes ++ new) j d
made_more takes new j d later kept = record { settled = settled_all takes new j (epoch_of d.sessions) d.made later kept.epochs kept.settled; epochs = kept.epochs }

made_acts : (w : AppWorld) (new : List Take) (act : events.Act) (j : ℕ) (d : Device) → AllByRecursion (λ t. epoch_of d.sessions ≤ t.said.epoch) (filter (is_of j) new) → MadeKept w.takes j d →
    MadeKept (w.takes ++ new) j (events.own (events.around w d) act d)
made_acts w new act j d later kept =
    let grown = epoch_own (events.around w d) act d in
    record {
      settled = made_own (IsSettledAt (w.takes ++ new) j) (events.around w d) act d (λ number. settled_now w.takes new j (epoch_of d.sessions) number later)
          (settled_all w.takes new j (epoch_of d.sessions) d.made later kept.epochs kept.settled);
      epochs = made_own (λ m. m.epoch ≤ epoch_of (events.own (events.around w d) act d).sessions) (events.around w d) act d (λ number. grown)
          (all_weaker (λ m. m.epoch ≤ epoch_of d.sessions) (λ m. m.epoch ≤ epoch_of (events.own (events.around w d) act d).sessions) d.made (λ m low. omega arith) kept.epochs);
    }

made_becomes : (w : AppWorld) (i : ℕ) (act : events.Act) (own : Device) (j : ℕ) (d : Device) →
    slice_get w.devices i ≡ Some own → slice_get w.devices j ≡ Some d → SessionsKept d.sessions → MadeKept w.takes j d →
    MadeKept (w.takes ++ events.taken_by w.accounts w.clock i own act) j (events.becomes w (events.taken_by w.accounts w.clock i own act) i act j d)
made_becomes w i act own j d at here sessions kept =
    let new = events.taken_by w.accounts w.clock i own act in
    let later : AllByRecursion (λ t. epoch_of d.sessions ≤ t.said.epoch) (filter (is_of j) new) =
    subst (AllByRecursion (λ t. epoch_of d.sessions ≤ t.said.epoch)) (sym (is_of_taken w.accounts w.clock i act own j)) (chosen (j == i) refl) in
    made_hear_all (w.takes ++ new) (w.takes ++ new) (events.full_of act) new j _
    (at_position (j == i) _ _ (MadeKept (w.takes ++ new) j) (λ _. made_acts w new act j d later kept) (λ _. made_more w.takes new j d later kept))
  where
    chosen : (b : Bool) → (j == i) ≡ b → AllByRecursion (λ t. epoch_of d.sessions ≤ t.said.epoch) (cond b (events.taken_by w.accounts w.clock i own act) [])
    chosen false is = tt
    chosen true is =
        let j_is_i = same_position j i is in
        let same : d ≡ own = (let g : slice_get w.devices j ≡ slice_get w.devices i = ap (slice_get w.devices) j_is_i in cc) in
        subst (λ e. AllByRecursion (λ t. epoch_of d.sessions ≤ t.said.epoch) (events.taken_by w.accounts w.clock i e act)) same
        (all_weaker (λ t. t.said.epoch ≡ epoch_of d.sessions) (λ t. epoch_of d.sessions ≤ t.said.epoch) _ (λ t is. omega arith) (taken_epoch w.accounts w.clock i act d sessions))

-- Each take is of a device, and of a message to an account that exists.

placed_taking : (accounts : List (List ℕ)) (many moment i : ℕ) (account : List ℕ) (zs : List Up) → i < many → AllByRecursion (IsOfDevice accounts many) (events.taking accounts moment i account zs)
placed_taking accounts many moment i account [] within = tt
placed_taking accounts many moment i account (Carbons ∷ zs) within = tt
placed_taking accounts many moment i account (Presence ∷ zs) within = tt
placed_taking accounts many moment i account (Query r ∷ zs) within = tt
placed_taking accounts many moment i account (Message m ∷ zs) within = chosen (events.is_among m.to accounts) refl
  where
    chosen : (b : Bool) → events.is_among m.to accounts ≡ b →
        AllByRecursion (IsOfDevice accounts many) (cond b (record { device = i; account = account; said = m; moment = moment } ∷ []) [])
    chosen true exists = (record { device = within; exists = exists }, tt)
    chosen false exists = tt

placed_by : (accounts : List (List ℕ)) (many moment i : ℕ) (act : events.Act) (d : Device) → i < many → AllByRecursion (IsOfDevice accounts many) (events.taken_by accounts moment i d act)
placed_by accounts many moment i events.Act.Bind d within = tt
placed_by accounts many moment i (events.Act.ReadBound live) d within = tt
placed_by accounts many moment i events.Act.Enable d within = tt
placed_by accounts many moment i events.Act.ReadEnabled d within = tt
placed_by accounts many moment i events.Act.End d within = tt
placed_by accounts many moment i events.Act.Drop d within = tt
placed_by accounts many moment i (events.Act.Acknowledge n) d within = tt
placed_by accounts many moment i (events.Act.Say to text private) d within = tt
placed_by accounts many moment i (events.Act.CatchUp max) d within = tt
placed_by accounts many moment i (events.Act.ServerHandles fits full) d within = placed_taking accounts many moment i d.account d.sessions.now.up_rest within
placed_by accounts many moment i events.Act.ClientHandles d within = tt

-- One event.

taken_tick : (w : AppWorld) (ms : ℕ) → Taken w → Taken (events.after w (Tick ms))
taken_tick w ms kept = record {
  placed = kept.placed;
  moments = moments_tick 0 w.clock ms w.takes kept.moments;
  devices = λ i d at. let was = kept.devices i d at in record { sessions = was.sessions; takes = was.takes; made = was.made };
}

taken_acted : (w : AppWorld) (i : ℕ) (act : events.Act) (own : Device) → slice_get w.devices i ≡ Some own → events.May act own → Taken w → Taken (events.acted w i act own)
taken_acted w i act own at may kept =
    let new = events.taken_by w.accounts w.clock i own act in
    record {
      placed = subst (λ many. AllByRecursion (IsOfDevice w.accounts many) (w.takes ++ new)) (sym (length_each 0 (events.becomes w new i act) w.devices))
          (all_append (IsOfDevice w.accounts (length w.devices)) w.takes new kept.placed
          (placed_by w.accounts (length w.devices) w.clock i act own (slice_get_within w.devices i own at)));
      moments = moments_more 0 w.clock w.takes new (taken_now w.accounts w.clock i act own) kept.moments;
      devices = λ j e here.
          let before = was_device (events.becomes w new i act) w.devices j e here in
          let was = kept.devices j before.0 before.1 in
          subst (DeviceTaken (events.acted w i act own) j) (sym before.2) (record {
            sessions = sessions_becomes w new i act own j before.0 at may before.1 was.sessions;
            takes = takes_becomes w i act own j before.0 at before.1 was.takes;
            made = made_becomes w i act own j before.0 at before.1 was.sessions was.made;
          });
    }

pub taken_moves : (event : events.AppEvent) (w next : AppWorld) → events.Moves event w next → Taken w → Taken next
taken_moves (Tick ms) w next is kept = subst Taken (sym is) (taken_tick w ms kept)
taken_moves (At i act) w next is kept = subst Taken (sym is.3) (taken_acted w i act is.0 is.1 is.2 kept)

-- The beginning.

new_taken : (keep : ℕ) (accounts homes : List (List ℕ)) (i : ℕ) (account : List ℕ) → DeviceTaken (events.beginning keep accounts homes) i (new_device account)
new_taken keep accounts homes i account = record {
  sessions = record {
    epochs = record {
      bound = omega arith;
      present = λ e. absurd (let no : ⊥ = cc in no);
      online = λ e. absurd (let no : ⊥ = cc in no);
    };
    past = tt;
    now = fresh_session 0;
    n = refl;
  };
  takes = record { are = refl; home = tt };
  made = record { settled = tt; epochs = tt };
}

pub one_of : (P : ℕ → Device → Type 0) (homes : List (List ℕ)) (i : ℕ) (d : Device) → ((account : List ℕ) → P i (new_device account)) → slice_get (events.devices_of homes) i ≡ Some d → P i d
one_of P [] i d new at = absurd (let no : ⊥ = cc in no)
one_of P (home ∷ homes) zero d new at = subst (P zero) (same_Some _ _ at) (new home)
one_of P (home ∷ homes) (suc i) d new at = one_of (λ j e. P (suc j) e) homes i d new at

pub taken_beginning : (keep : ℕ) (accounts homes : List (List ℕ)) → Taken (events.beginning keep accounts homes)
taken_beginning keep accounts homes = record {
  placed = tt;
  moments = omega arith;
  devices = λ i d at. one_of (DeviceTaken (events.beginning keep accounts homes)) homes i d (λ account. new_taken keep accounts homes i account) at;
}

pub taken_along : (all : List events.AppEvent) (w last : AppWorld) → events.Reaches all w last → Taken w → Taken last
taken_along [] w last is kept = subst Taken (sym is) kept
taken_along (event ∷ all) w last reaches kept = taken_along all reaches.0 last reaches.2 (taken_moves event w reaches.0 reaches.1 kept)

-- A1 to A5 and A10 hold in each world that is reached
pub taken_reached : (w : AppWorld) → events.Reached w → Taken w
taken_reached w reached = taken_along reached.events (events.beginning reached.keep reached.accounts reached.homes) w reached.reaches (taken_beginning reached.keep reached.accounts reached.homes)
