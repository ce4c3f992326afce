-- To whom the message of a try goes: what the user of a device says along events has numbers that rise.
use Rattle.std.proofs.Common.{◌≡◌, ◌⊎◌, ℕ, suc, ◌+◌, ◌≤◌, ◌<◌, ◌==◌, Bool, true, List, [], ◌∷◌, ◌++◌, Option, Some, None, length, refl, sym, ap, ◌∙◌, subst, arith, append_assoc, inl, inr}
use Rattle.std.proofs.lemmas.Bool.{and_parts, eqb-true}
use Rattle.std.proofs.lemmas.List.{append-nil, length-append}
use Rattle.std.proofs.lemmas.List.Concat.{flat_map-append}
use Rattle.std.specs.List.{AllByRecursion, flat_map, slice_get}
use Rattle.std.specs.Option.{option_map}
use Rattle.law_intents.proofs.Handled.{numbers_within}
use Rattle.sim_1_applications.proofs.SessionSteps.{no_message}
use Rattle.sim_1_applications.specs.Stanzas.{Down, Request, Submission, Up, messages}
use Rattle.sim_1_applications.specs.Stanzas.Up.{Carbons, Presence, Message, Query}
use Rattle.sim_1_applications.specs.Devices.{AppWorld, Device, Session, Sessions, Take, epoch_of, up_put}
use Rattle.sim_1_applications.specs.Answers.{last_in}
use Rattle.sim_1_applications.specs.Events as events
use Rattle.sim_1_applications.specs.Events.AppEvent.{At, Tick}
use Rattle.sim_1_applications.specs.Histories.{Spoken, spoken_by, spoken_in}
use Rattle.sim_1_applications.specs.Kept.{AreNumbered, ArePast, SessionsKept}
use Rattle.sim_1_applications.proofs.Lists.{all_append, all_front, all_rest, all_weaker}
use Rattle.sim_1_applications.proofs.Numbered.{messages_append}
use Rattle.sim_1_applications.proofs.Spoken.{put_of, submitted}
use Rattle.sim_1_applications.proofs.Worlds.{at_position, get_each, same_position}
use Rattle.law_intents.specs.Intents.{IsNext, Try, is_submission}

-- ---- what an event adds to what was submitted

-- a device goes on: its epoch rises, or its number doesn't fall
abbrev Onward : Sessions → Sessions → Type 0
Onward s t = (epoch_of s < epoch_of t) ⊎ ((epoch_of s ≡ epoch_of t) × (s.n ≤ t.n))

-- what the user of a device says among these goes to an account
abbrev pub AreTo : List ℕ → ℕ → List Spoken → Type 0
AreTo to i said = AllByRecursion (λ (s : Spoken). s.device ≡ i → s.to ≡ to) said

record Grown (to : List ℕ) (i : ℕ) (said : List Spoken) (s t : Sessions) : Type 0 where
  new : List Submission
  are : submitted t ≡ submitted s ++ new
  numbers : AllByRecursion (λ m. (m.epoch ≡ epoch_of s) × (m.n ≡ s.n + 1)) new
  goes : AreTo to i said → AllByRecursion (λ m. m.to ≡ to) new
  onward : Onward s t

-- its past and its number stay, and so does what was submitted
same_of : (to : List ℕ) (i : ℕ) (said : List Spoken) (s t : Sessions) → submitted t ≡ submitted s → t.past ≡ s.past → t.n ≡ s.n → Grown to i said s t
same_of to i said s t same past number = record {
  new = [];
  are = same ∙ sym (append-nil (submitted s));
  numbers = tt;
  goes = λ is. tt;
  onward = inr (ap length (sym past), (let equal = number in omega (arith, equal)));
}

put_none : (zs : List Up) (s : Session) → messages zs ≡ [] → messages (s.up_got ++ (s.up_rest ++ zs)) ≡ put_of s
put_none zs s none = ap messages (sym (append_assoc s.up_got s.up_rest zs)) ∙ messages_append (up_put s) zs ∙ ap (λ ms. put_of s ++ ms) none ∙ append-nil (put_of s)

put_one : (m : Submission) (s : Session) → messages (s.up_got ++ (s.up_rest ++ Message m ∷ [])) ≡ put_of s ++ m ∷ []
put_one m s = ap messages (sym (append_assoc s.up_got s.up_rest (Message m ∷ []))) ∙ messages_append (up_put s) (Message m ∷ [])

bound_same : (live : Bool) (s : Sessions) → submitted (events.reads_bound live s) ≡ submitted s
bound_same live s =
    append-nil (flat_map put_of (s.past ++ s.now ∷ [])) ∙ flat_map-append put_of s.past (s.now ∷ []) ∙ ap (λ ms. flat_map put_of s.past ++ ms) (append-nil (put_of s.now))

bound_grown : (to : List ℕ) (i : ℕ) (said : List Spoken) (live : Bool) (s : Sessions) → Grown to i said s (events.reads_bound live s)
bound_grown to i said live s = record {
  new = [];
  are = bound_same live s ∙ sym (append-nil (submitted s));
  numbers = tt;
  goes = λ is. tt;
  onward = inl (let more = length-append s.past (s.now ∷ []) in omega (arith, more));
}

served_grown : (to : List ℕ) (i : ℕ) (said : List Spoken) (x : events.Around) (fits : ℕ) (zs : List Up) (d : Device) → d.sessions.now.up_rest ≡ zs → Grown to i said d.sessions (events.served x fits zs d).sessions
served_grown to i said x fits [] d split = same_of to i said d.sessions d.sessions refl refl refl
served_grown to i said x fits (z ∷ rest) d split =
    same_of to i said d.sessions (events.served x fits (z ∷ rest) d).sessions
    (ap (λ ms. flat_map put_of d.sessions.past ++ ms) (ap messages (append_assoc d.sessions.now.up_got (z ∷ []) rest) ∙ ap (λ us. messages (d.sessions.now.up_got ++ us)) (sym split)))
    refl refl

read_grown : (to : List ℕ) (i : ℕ) (said : List Spoken) (x : events.Around) (zs : List Down) (d : Device) → Grown to i said d.sessions (events.read x zs d).sessions
read_grown to i said x [] d = same_of to i said d.sessions d.sessions refl refl refl
read_grown to i said x (z ∷ rest) d =
    same_of to i said d.sessions (events.read x (z ∷ rest) d).sessions
    (ap (λ ms. flat_map put_of d.sessions.past ++ ms) (put_none (events.queries (events.reads x z d.reading).request) d.sessions.now (no_message (events.reads x z d.reading).request)))
    refl refl

own_grown : (to : List ℕ) (i : ℕ) (x : events.Around) (act : events.Act) (d : Device) → Grown to i (spoken_by (At i act)) d.sessions (events.own x act d).sessions
own_grown to i x events.Act.Bind d = same_of to i [] d.sessions (events.own x events.Act.Bind d).sessions refl refl refl
own_grown to i x (events.Act.ReadBound live) d = bound_grown to i [] live d.sessions
own_grown to i x events.Act.Enable d = same_of to i [] d.sessions (events.own x events.Act.Enable d).sessions refl refl refl
own_grown to i x events.Act.ReadEnabled d =
    same_of to i [] d.sessions (events.own x events.Act.ReadEnabled d).sessions (ap (λ ms. flat_map put_of d.sessions.past ++ ms) (put_none (Carbons ∷ Presence ∷ []) d.sessions.now refl)) refl refl
own_grown to i x events.Act.End d = same_of to i [] d.sessions (events.own x events.Act.End d).sessions refl refl refl
own_grown to i x events.Act.Drop d = same_of to i [] d.sessions (events.own x events.Act.Drop d).sessions refl refl refl
own_grown to i x (events.Act.Acknowledge n) d = same_of to i [] d.sessions (events.own x (events.Act.Acknowledge n) d).sessions refl refl refl
own_grown to i x (events.Act.CatchUp max) d =
    same_of to i [] d.sessions (events.own x (events.Act.CatchUp max) d).sessions
    (ap (λ ms. flat_map put_of d.sessions.past ++ ms) (put_none (Query (record { number = d.reading.asked + 1; after = last_in d.reading.run; max = max }) ∷ []) d.sessions.now refl)) refl refl
own_grown to i x (events.Act.Say whom text private) d =
    let m : Submission = record { epoch = epoch_of d.sessions; n = d.sessions.n + 1; to = whom; text = text; private = private } in
    record {
      new = m ∷ [];
      are = ap (λ ms. flat_map put_of d.sessions.past ++ ms) (put_one m d.sessions.now) ∙ sym (append_assoc (flat_map put_of d.sessions.past) (put_of d.sessions.now) (m ∷ []));
      numbers = ((refl, refl), tt);
      goes = λ is. (is.0 refl, tt);
      onward = inr (refl, omega arith);
    }
own_grown to i x (events.Act.ServerHandles fits full) d = served_grown to i [] x fits d.sessions.now.up_rest d refl
own_grown to i x events.Act.ClientHandles d = read_grown to i [] x d.sessions.now.down_rest d

-- what is heard leaves that as it is
record Same (s t : Sessions) : Type 0 where
  submitted_is : submitted t ≡ submitted s
  past : t.past ≡ s.past
  number : t.n ≡ s.n

hears_same : (takes : List Take) (full : List ℕ) (ts : List Take) (j : ℕ) (d : Device) → Same d.sessions (events.hear_all takes full ts j d).sessions
hears_same takes full [] j d = record { submitted_is = refl; past = refl; number = refl }
hears_same takes full (t ∷ ts) j d =
    let rest = hears_same takes full ts j (events.hear takes full t j d) in
    record { submitted_is = rest.submitted_is; past = rest.past; number = rest.number }

with_same : (to : List ℕ) (i : ℕ) (said : List Spoken) (s t u : Sessions) → Grown to i said s t → Same t u → Grown to i said s u
with_same to i said s t u grown same = record {
  new = grown.new;
  are = same.submitted_is ∙ grown.are;
  numbers = grown.numbers;
  goes = grown.goes;
  onward = elim grown.onward [
    | inl more ↦ inl (let equal = ap length same.past in omega (arith, more, equal))
    | inr both ↦ inr (both.0 ∙ ap length (sym same.past), (let low = both.1 in let equal = same.number in omega (arith, low, equal)))
  ];
}

becomes_grown : (to : List ℕ) (w : AppWorld) (new : List Take) (j : ℕ) (act : events.Act) (i : ℕ) (d : Device) → Grown to i (spoken_by (At j act)) d.sessions (events.becomes w new j act i d).sessions
becomes_grown to w new j act i d =
    at_position (i == j) (events.own (events.around w d) act d) d
    (λ e. Grown to i (spoken_by (At j act)) d.sessions (events.hear_all (w.takes ++ new) (events.full_of act) new i e).sessions)
    (λ is.
    let same : i ≡ j = same_position i j is in
    let own = events.own (events.around w d) act d in
    with_same to i (spoken_by (At j act)) d.sessions own.sessions (events.hear_all (w.takes ++ new) (events.full_of act) new i own).sessions
    (subst (λ k. Grown to i (spoken_by (At k act)) d.sessions own.sessions) same (own_grown to i (events.around w d) act d))
    (hears_same (w.takes ++ new) (events.full_of act) new i own))
    (λ other.
    with_same to i (spoken_by (At j act)) d.sessions d.sessions (events.hear_all (w.takes ++ new) (events.full_of act) new i d).sessions
    (same_of to i (spoken_by (At j act)) d.sessions d.sessions refl refl refl)
    (hears_same (w.takes ++ new) (events.full_of act) new i d))

record Next (to : List ℕ) (i : ℕ) (said : List Spoken) (d : Device) (next : AppWorld) : Type 0 where
  device : Device
  at : slice_get next.devices i ≡ Some device
  grown : Grown to i said d.sessions device.sessions

moves_grown : (to : List ℕ) (event : events.AppEvent) (w next : AppWorld) (i : ℕ) (d : Device) → events.Moves event w next → slice_get w.devices i ≡ Some d → Next to i (spoken_by event) d next
moves_grown to (Tick ms) w next i d is at = record { device = d; at = ap (λ (v : AppWorld). slice_get v.devices i) is ∙ at; grown = same_of to i [] d.sessions d.sessions refl refl refl }
moves_grown to (At j act) w next i d is at =
    let new = events.taken_by w.accounts w.clock j is.0 act in
    record {
      device = events.becomes w new j act i d;
      at = ap (λ (v : AppWorld). slice_get v.devices i) is.3 ∙ get_each 0 (events.becomes w new j act) w.devices i ∙ ap (option_map (events.becomes w new j act (0 + i))) at
          ∙ (let position : 0 + i ≡ i = omega arith in ap (λ k. Some (events.becomes w new j act k d)) position);
      grown = becomes_grown to w new j act i d;
    }

-- ---- a try among what was submitted

-- each message of its number is for the account
abbrev pub GoesTo : List ℕ → Try → List Submission → Type 0
GoesTo to t ms = AllByRecursion (λ m. is_submission t m ≡ true → m.to ≡ to) ms

-- the device has made it, or its epoch is over
abbrev pub IsBehind : Try → Sessions → Type 0
IsBehind t s = (t.epoch < epoch_of s) ⊎ ((t.epoch ≡ epoch_of s) × (t.n ≤ s.n))

-- what is submitted from then on has other numbers
others : (to : List ℕ) (t : Try) (s : Sessions) → IsBehind t s → (m : Submission) → (m.epoch ≡ epoch_of s) × (m.n ≡ s.n + 1) → is_submission t m ≡ true → m.to ≡ to
others to t s behind m numbers is =
    let both = and_parts (m.epoch == t.epoch) (m.n == t.n) is in
    let epoch = eqb-true m.epoch t.epoch both.0 in
    let n = eqb-true m.n t.n both.1 in
    let of_epoch = numbers.0 in
    let of_number = numbers.1 in
    absurd (elim behind [
      | inl past ↦ (let bad : ⊥ = omega (arith, past, epoch, of_epoch) in bad)
      | inr now ↦ (let low = now.1 in let bad : ⊥ = omega (arith, low, n, of_number) in bad)
    ])

behind_on : (t : Try) (s u : Sessions) → Onward s u → IsBehind t s → IsBehind t u
behind_on t s u (inl more) (inl past) = inl (omega (arith, more, past))
behind_on t s u (inl more) (inr now) = inl (let same = now.0 in omega (arith, more, same))
behind_on t s u (inr both) (inl past) = inl (let same = both.0 in omega (arith, past, same))
behind_on t s u (inr both) (inr now) = inr (now.0 ∙ both.0, (let low = both.1 in let under = now.1 in omega (arith, low, under)))

pub record IsSent (to : List ℕ) (t : Try) (i : ℕ) (w : AppWorld) : Type 0 where
  pub device : Device
  pub at : slice_get w.devices i ≡ Some device
  pub goes : GoesTo to t (submitted device.sessions)
  pub behind : IsBehind t device.sessions

sent_moves : (to : List ℕ) (t : Try) (i : ℕ) (event : events.AppEvent) (w next : AppWorld) → events.Moves event w next → IsSent to t i w → IsSent to t i next
sent_moves to t i event w next is sent =
    let n = moves_grown to event w next i sent.device is sent.at in
    record {
      device = n.device;
      at = n.at;
      goes = subst (GoesTo to t) (sym n.grown.are)
          (all_append (λ m. is_submission t m ≡ true → m.to ≡ to) (submitted sent.device.sessions) n.grown.new sent.goes
          (all_weaker (λ m. (m.epoch ≡ epoch_of sent.device.sessions) × (m.n ≡ sent.device.sessions.n + 1)) (λ m. is_submission t m ≡ true → m.to ≡ to) n.grown.new (others to t sent.device.sessions sent.behind) n.grown.numbers));
      behind = behind_on t sent.device.sessions n.device.sessions n.grown.onward sent.behind;
    }

pub sent_along : (to : List ℕ) (t : Try) (i : ℕ) (all : List events.AppEvent) (w last : AppWorld) → events.Reaches all w last → IsSent to t i w → IsSent to t i last
sent_along to t i [] w last is sent = subst (IsSent to t i) (sym is) sent
sent_along to t i (event ∷ all) w last is sent = sent_along to t i all is.0 last is.2 (sent_moves to t i event w is.0 is.1 sent)

-- ---- a new try

-- the messages of its number are for the account, as all are that the user says
pub record MayGo (to : List ℕ) (t : Try) (i : ℕ) (w : AppWorld) : Type 0 where
  pub device : Device
  pub at : slice_get w.devices i ≡ Some device
  pub goes : GoesTo to t (submitted device.sessions)

pub goes_along : (to : List ℕ) (t : Try) (i : ℕ) (all : List events.AppEvent) (w last : AppWorld) → events.Reaches all w last → AreTo to i (spoken_in all) → MayGo to t i w → MayGo to t i last
goes_along to t i [] w last is said may = subst (MayGo to t i) (sym is) may
goes_along to t i (event ∷ all) w last is said may =
    let n = moves_grown to event w is.0 i may.device is.1 may.at in
    let here = all_front (λ (s : Spoken). s.device ≡ i → s.to ≡ to) (spoken_by event) (spoken_in all) said in
    goes_along to t i all is.0 last is.2 (all_rest (λ (s : Spoken). s.device ≡ i → s.to ≡ to) (spoken_by event) (spoken_in all) said) (record {
      device = n.device;
      at = n.at;
      goes = subst (GoesTo to t) (sym n.grown.are)
          (all_append (λ m. is_submission t m ≡ true → m.to ≡ to) (submitted may.device.sessions) n.grown.new may.goes
          (all_weaker (λ m. m.to ≡ to) (λ m. is_submission t m ≡ true → m.to ≡ to) n.grown.new (λ m same is. same) (n.grown.goes here)));
    })

past_below : (e : ℕ) (ss : List Session) → ArePast e ss → AllByRecursion (λ m. m.epoch < e + length ss) (flat_map put_of ss)
past_below e [] known = tt
past_below e (s ∷ ss) known =
    all_append (λ m. m.epoch < e + suc (length ss)) (put_of s) (flat_map put_of ss)
    (all_weaker (λ m. (m.epoch ≡ e) × (m.n ≤ 0 + length (put_of s))) (λ m. m.epoch < e + suc (length ss)) (put_of s) (λ m is. let same = is.0 in omega arith) (numbers_within e 0 (put_of s) known.0.numbers))
    (all_weaker (λ m. m.epoch < suc e + length ss) (λ m. m.epoch < e + suc (length ss)) (flat_map put_of ss) (λ m low. omega arith) (past_below (suc e) ss known.1))

-- none that was made has the number of the next one
module _ (to : List ℕ) (t : Try) (d : Device) (next : IsNext d t) (kept : SessionsKept d.sessions) where
  not_past : (m : Submission) → m.epoch < 0 + length d.sessions.past → is_submission t m ≡ true → m.to ≡ to
  not_past m low is =
      let epoch = eqb-true m.epoch t.epoch ((and_parts (m.epoch == t.epoch) (m.n == t.n) is).0) in
      let of = next.epoch in
      absurd (let bad : ⊥ = omega (arith, low, epoch, of) in bad)

  not_now : (m : Submission) → (m.epoch ≡ epoch_of d.sessions) × (m.n ≤ 0 + length (put_of d.sessions.now)) → is_submission t m ≡ true → m.to ≡ to
  not_now m known is =
      let n = eqb-true m.n t.n ((and_parts (m.epoch == t.epoch) (m.n == t.n) is).1) in
      let low = known.1 in
      let many = kept.n in
      let above = next.n in
      absurd (let bad : ⊥ = omega (arith, n, low, many, above) in bad)

  pub none_yet : GoesTo to t (submitted d.sessions)
  none_yet =
      all_append (λ m. is_submission t m ≡ true → m.to ≡ to) (flat_map put_of d.sessions.past) (put_of d.sessions.now)
      (all_weaker (λ m. m.epoch < 0 + length d.sessions.past) (λ m. is_submission t m ≡ true → m.to ≡ to) (flat_map put_of d.sessions.past) not_past (past_below 0 d.sessions.past kept.past))
      (all_weaker (λ m. (m.epoch ≡ epoch_of d.sessions) × (m.n ≤ 0 + length (put_of d.sessions.now))) (λ m. is_submission t m ≡ true → m.to ≡ to) (put_of d.sessions.now) not_now
      (numbers_within (epoch_of d.sessions) 0 (put_of d.sessions.now) kept.now.numbers))
