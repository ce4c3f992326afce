-- A4: what was taken of a device is what was handled of its sessions; and what follows for the archives.
use Rattle.std.proofs.Common.{◌≡◌, ℕ, Bool, true, false, cond, List, [], ◌∷◌, ◌++◌, Some, map, refl, sym, ap, ◌∙◌, append_assoc, inl, inr}
use Rattle.std.proofs.lemmas.Bool.{eqb-true, eq-eqb, false_from_ne_true}
use Rattle.std.proofs.lemmas.Bool.Decides.{eqb_tells}
use Rattle.std.proofs.lemmas.List.{append-nil}
use Rattle.std.proofs.lemmas.List.Concat.{flat_map-append}
use Rattle.std.proofs.lemmas.List.Elements.{filter-append}
use Rattle.std.specs.List.{filter, flat_map, slice_get}
use Rattle.std.specs.Prelude.{◌==◌}
use Rattle.sim_1_applications.specs.Stanzas.{Up, messages}
use Rattle.sim_1_applications.specs.Stanzas.Up.{Carbons, Presence, Message, Query}
use Rattle.sim_1_applications.specs.Devices.{Sessions, Device, Take, AppWorld}
use Rattle.sim_1_applications.specs.Events as events
use Rattle.sim_1_applications.specs.Kept.{is_of, accepted, handled, said_in}
use Rattle.sim_1_applications.proofs.Numbered.{messages_append}
use Rattle.sim_1_applications.proofs.Worlds.{same_position}

handled_bound : (accounts : List (List ℕ)) (live : Bool) (s : Sessions) → handled accounts (events.reads_bound live s) ≡ handled accounts s
handled_bound accounts live s =
    append-nil (flat_map (accepted accounts) (s.past ++ s.now ∷ []))
    ∙ flat_map-append (accepted accounts) s.past (s.now ∷ [])
    ∙ ap (λ ms. flat_map (accepted accounts) s.past ++ ms) (append-nil (accepted accounts s.now))

-- one stanza more is handled
accepted_push : (accounts : List (List ℕ)) (got : List Up) (z : Up) →
    filter (λ m. events.is_among m.to accounts) (messages (got ++ z ∷ []))
    ≡ filter (λ m. events.is_among m.to accounts) (messages got) ++ filter (λ m. events.is_among m.to accounts) (messages (z ∷ []))
accepted_push accounts got z =
    ap (filter (λ m. events.is_among m.to accounts)) (messages_append got (z ∷ [])) ∙ filter-append (λ m. events.is_among m.to accounts) (messages got) (messages (z ∷ []))

-- what it takes
taken_of : (accounts : List (List ℕ)) (moment i : ℕ) (account : List ℕ) (z : Up) (rest : List Up) →
    map said_in (events.taking accounts moment i account (z ∷ rest)) ≡ filter (λ m. events.is_among m.to accounts) (messages (z ∷ []))
taken_of accounts moment i account Carbons rest = refl
taken_of accounts moment i account Presence rest = refl
taken_of accounts moment i account (Query r) rest = refl
taken_of accounts moment i account (Message m) rest = chosen (events.is_among m.to accounts)
  where
    chosen : (b : Bool) → map said_in (cond b (record { device = i; account = account; said = m; moment = moment } ∷ []) []) ≡ cond b (m ∷ []) []
    chosen true = refl
    chosen false = refl

handled_served : (accounts : List (List ℕ)) (moment i : ℕ) (a : events.Around) (fits : ℕ) (zs : List Up) (d : Device) →
    handled accounts (events.served a fits zs d).sessions ≡ handled accounts d.sessions ++ map said_in (events.taking accounts moment i d.account zs)
handled_served accounts moment i a fits [] d = sym (append-nil (handled accounts d.sessions))
handled_served accounts moment i a fits (z ∷ rest) d =
    let old = accepted accounts d.sessions.now in
    let new = map said_in (events.taking accounts moment i d.account (z ∷ rest)) in
    let now : accepted accounts (events.served a fits (z ∷ rest) d).sessions.now ≡ old ++ new =
    accepted_push accounts d.sessions.now.up_got z ∙ ap (λ l. old ++ l) (sym (taken_of accounts moment i d.account z rest)) in
    ap (λ l. flat_map (accepted accounts) d.sessions.past ++ l) now ∙ sym (append_assoc (flat_map (accepted accounts) d.sessions.past) old new)

handled_read : (accounts : List (List ℕ)) (a : events.Around) (zs : _) (d : Device) → handled accounts (events.read a zs d).sessions ≡ handled accounts d.sessions
handled_read accounts a [] d = refl
handled_read accounts a (z ∷ rest) d = refl

-- an act adds what it takes
pub handled_own : (accounts : List (List ℕ)) (moment i : ℕ) (a : events.Around) (act : events.Act) (d : Device) →
    handled accounts (events.own a act d).sessions ≡ handled accounts d.sessions ++ map said_in (events.taken_by accounts moment i d act)
handled_own accounts moment i a events.Act.Bind d = sym (append-nil (handled accounts d.sessions))
handled_own accounts moment i a (events.Act.ReadBound live) d = handled_bound accounts live d.sessions ∙ sym (append-nil (handled accounts d.sessions))
handled_own accounts moment i a events.Act.Enable d = sym (append-nil (handled accounts d.sessions))
handled_own accounts moment i a events.Act.ReadEnabled d = sym (append-nil (handled accounts d.sessions))
handled_own accounts moment i a events.Act.End d = sym (append-nil (handled accounts d.sessions))
handled_own accounts moment i a events.Act.Drop d = sym (append-nil (handled accounts d.sessions))
handled_own accounts moment i a (events.Act.Acknowledge n) d = sym (append-nil (handled accounts d.sessions))
handled_own accounts moment i a (events.Act.Say to text private) d = sym (append-nil (handled accounts d.sessions))
handled_own accounts moment i a (events.Act.CatchUp max) d = sym (append-nil (handled accounts d.sessions))
handled_own accounts moment i a (events.Act.ServerHandles fits full) d = handled_served accounts moment i a fits d.sessions.now.up_rest d
handled_own accounts moment i a events.Act.ClientHandles d = handled_read accounts a d.sessions.now.down_rest d ∙ sym (append-nil (handled accounts d.sessions))

-- what is heard changes nothing of it
pub handled_hear_all : (accounts : List (List ℕ)) (takes : List Take) (full : List ℕ) (ts : List Take) (j : ℕ) (d : Device) →
    handled accounts (events.hear_all takes full ts j d).sessions ≡ handled accounts d.sessions
handled_hear_all accounts takes full [] j d = refl
handled_hear_all accounts takes full (t ∷ ts) j d = handled_hear_all accounts takes full ts j (events.hear takes full t j d)

pub account_hear_all : (takes : List Take) (full : List ℕ) (ts : List Take) (j : ℕ) (d : Device) → (events.hear_all takes full ts j d).account ≡ d.account
account_hear_all takes full [] j d = refl
account_hear_all takes full (t ∷ ts) j d = account_hear_all takes full ts j (events.hear takes full t j d)

account_served : (a : events.Around) (fits : ℕ) (zs : List Up) (d : Device) → (events.served a fits zs d).account ≡ d.account
account_served a fits [] d = refl
account_served a fits (z ∷ rest) d = refl

account_read : (a : events.Around) (zs : _) (d : Device) → (events.read a zs d).account ≡ d.account
account_read a [] d = refl
account_read a (z ∷ rest) d = refl

pub account_own : (a : events.Around) (act : events.Act) (d : Device) → (events.own a act d).account ≡ d.account
account_own a events.Act.Bind d = refl
account_own a (events.Act.ReadBound live) d = refl
account_own a events.Act.Enable d = refl
account_own a events.Act.ReadEnabled d = refl
account_own a events.Act.End d = refl
account_own a events.Act.Drop d = refl
account_own a (events.Act.Acknowledge n) d = refl
account_own a (events.Act.Say to text private) d = refl
account_own a (events.Act.CatchUp max) d = refl
account_own a (events.Act.ServerHandles fits full) d = account_served a fits d.sessions.now.up_rest d
account_own a events.Act.ClientHandles d = account_read a d.sessions.now.down_rest d

-- The takes of an act are of its device: all of them are of place i, and none of another.
of_one : (i j : ℕ) (t : Take) → t.device ≡ i → filter (is_of j) (t ∷ []) ≡ cond (j == i) (t ∷ []) []
of_one i j t device = elim (eqb_tells i j) [
  | inl same ↦
      let here : is_of j t ≡ true = ap (λ k. k == j) device ∙ same.0 in
      let there : (j == i) ≡ true = eq-eqb j i (sym same.1) in
      ap (λ b. cond b (t ∷ []) []) (here ∙ sym there)
  | inr other ↦
      let here : is_of j t ≡ false = ap (λ k. k == j) device ∙ other.0 in
      let there : (j == i) ≡ false = false_from_ne_true (j == i) (λ h. other.1 (sym (eqb-true j i h))) in
      ap (λ b. cond b (t ∷ []) []) (here ∙ sym there)
]

cond_nil : (b : Bool) → (let none : List Take = [] in none ≡ cond b none none)
cond_nil true = refl
cond_nil false = refl

is_of_taking : (accounts : List (List ℕ)) (moment i : ℕ) (account : List ℕ) (zs : List Up) (j : ℕ) →
    filter (is_of j) (events.taking accounts moment i account zs) ≡ cond (j == i) (events.taking accounts moment i account zs) []
is_of_taking accounts moment i account [] j = cond_nil (j == i)
is_of_taking accounts moment i account (Carbons ∷ rest) j = cond_nil (j == i)
is_of_taking accounts moment i account (Presence ∷ rest) j = cond_nil (j == i)
is_of_taking accounts moment i account (Query r ∷ rest) j = cond_nil (j == i)
is_of_taking accounts moment i account (Message m ∷ rest) j = chosen (events.is_among m.to accounts)
  where
    t : Take
    t = record { device = i; account = account; said = m; moment = moment }

    chosen : (b : Bool) → filter (is_of j) (cond b (t ∷ []) []) ≡ cond (j == i) (cond b (t ∷ []) []) []
    chosen true = of_one i j t refl
    chosen false = cond_nil (j == i)

-- the takes of an act are of its device
pub is_of_taken : (accounts : List (List ℕ)) (moment i : ℕ) (act : events.Act) (d : Device) (j : ℕ) →
    filter (is_of j) (events.taken_by accounts moment i d act) ≡ cond (j == i) (events.taken_by accounts moment i d act) []
is_of_taken accounts moment i events.Act.Bind d j = cond_nil (j == i)
is_of_taken accounts moment i (events.Act.ReadBound live) d j = cond_nil (j == i)
is_of_taken accounts moment i events.Act.Enable d j = cond_nil (j == i)
is_of_taken accounts moment i events.Act.ReadEnabled d j = cond_nil (j == i)
is_of_taken accounts moment i events.Act.End d j = cond_nil (j == i)
is_of_taken accounts moment i events.Act.Drop d j = cond_nil (j == i)
is_of_taken accounts moment i (events.Act.Acknowledge n) d j = cond_nil (j == i)
is_of_taken accounts moment i (events.Act.Say to text private) d j = cond_nil (j == i)
is_of_taken accounts moment i (events.Act.CatchUp max) d j = cond_nil (j == i)
is_of_taken accounts moment i (events.Act.ServerHandles fits full) d j = is_of_taking accounts moment i d.account d.sessions.now.up_rest j
is_of_taken accounts moment i events.Act.ClientHandles d j = cond_nil (j == i)

-- A4, of each device of the next world: the takes of the act are those of the device where it acts
pub handled_becomes : (w : AppWorld) (i : ℕ) (act : events.Act) (own : Device) (j : ℕ) (d : Device) →
    slice_get w.devices i ≡ Some own → slice_get w.devices j ≡ Some d →
    handled w.accounts (events.becomes w (events.taken_by w.accounts w.clock i own act) i act j d).sessions
    ≡ handled w.accounts d.sessions ++ map said_in (filter (is_of j) (events.taken_by w.accounts w.clock i own act))
handled_becomes w i act own j d at here =
    let new = events.taken_by w.accounts w.clock i own act in
    handled_hear_all w.accounts (w.takes ++ new) (events.full_of act) new j (cond (j == i) (events.own (events.around w d) act d) d)
    ∙ chosen (j == i) refl
    ∙ ap (λ ts. handled w.accounts d.sessions ++ map said_in ts) (sym (is_of_taken w.accounts w.clock i act own j))
  where
    chosen : (b : Bool) → (j == i) ≡ b →
        handled w.accounts (cond b (events.own (events.around w d) act d) d).sessions
        ≡ handled w.accounts d.sessions ++ map said_in (cond b (events.taken_by w.accounts w.clock i own act) [])
    chosen true is =
        let j_is_i = same_position j i is in
        let same : d ≡ own = (let g : slice_get w.devices j ≡ slice_get w.devices i = ap (slice_get w.devices) j_is_i in cc) in
        handled_own w.accounts w.clock i (events.around w d) act d
        ∙ ap (λ e. handled w.accounts d.sessions ++ map said_in (events.taken_by w.accounts w.clock i e act)) same
    chosen false is = sym (append-nil (handled w.accounts d.sessions))
