-- What was taken, and what was put of messages, is no more than the users said.
use Rattle.std.proofs.Common.{◌≡◌, ◌≢◌, ℕ, suc, zero, ◌+◌, ◌≤◌, ◌==◌, Bool, true, false, cond, List, [], ◌∷◌, ◌++◌, Some, length, refl, sym, ap, ◌∙◌, subst, arith}
use Rattle.std.proofs.lemmas.Bool.{eq-eqb, false_from_ne_true}
use Rattle.std.proofs.lemmas.List.{length-append, length-map}
use Rattle.std.proofs.lemmas.Option.{same_Some}
use Rattle.std.specs.List.{flat_map, slice_get}
use Rattle.sim_1_applications.specs.Stanzas.{Up, Down, messages}
use Rattle.sim_1_applications.specs.Stanzas.Up.{Carbons, Presence, Message, Query}
use Rattle.sim_1_applications.specs.Devices.{AppWorld, Device, Take}
use Rattle.sim_1_applications.specs.Answers.{last_in}
use Rattle.sim_1_applications.specs.Events as events
use Rattle.sim_1_applications.specs.Events.AppEvent.{At, Tick}
use Rattle.sim_1_applications.specs.Histories.{spoken_by, spoken_in}
use Rattle.sim_1_applications.proofs.Numbered.{messages_append}
use Rattle.sim_1_applications.proofs.Runs.{one_of, taken_along, taken_beginning}
use Rattle.sim_1_applications.proofs.SessionSteps.{no_message}
use Rattle.sim_1_applications.proofs.Spoken.{all_spoken, as_spoken, put_of, said_along, submitted}
use Rattle.sim_1_applications.proofs.Worlds.{same_position}
use Rattle.sim_1_applications.specs.Counts.{OfEach, said_by}
use Rattle.sim_1_applications.proofs.Requests.{each_within}
use Rattle.sim_1_applications.proofs.Rises.{becomes}

-- Takes.

-- messages that wait at a device to be handled, and at all of these
abbrev waiting : Device → ℕ
waiting d = length (messages d.sessions.now.up_rest)

abbrev waiting_in : List Device → ℕ
waiting_in [] = 0
waiting_in (d ∷ ds) = waiting d + waiting_in ds

-- the devices from a place on, of which none gets more
none_above : (k : ℕ) (f : ℕ → Device → Device) (ds : List Device) → ((j : ℕ) (d : Device) → k ≤ j → waiting (f j d) ≤ waiting d) → waiting_in (events.each_from k f ds) ≤ waiting_in ds
none_above k f [] none = omega arith
none_above k f (d ∷ ds) none = let one = none k d (omega arith) in let others = none_above (suc k) f ds (λ j e above. none j e (omega arith)) in omega arith

-- one gets so many more, but for those that were taken of it
one_more : (k i : ℕ) (f : ℕ → Device → Device) (ds : List Device) (own : Device) (took said : ℕ) → slice_get ds i ≡ Some own →
    ((j : ℕ) (d : Device) → j ≢ k + i → waiting (f j d) ≤ waiting d) → waiting (f (k + i) own) + took ≤ waiting own + said → waiting_in (events.each_from k f ds) + took ≤ waiting_in ds + said
one_more k i f [] own took said at none own_more = absurd (let no : ⊥ = cc in no)
one_more k zero f (d ∷ ds) own took said at none own_more =
    let is : d ≡ own = same_Some d own at in
    let position : k + zero ≡ k = omega arith in
    let same = ap waiting is in
    let then = ap (λ n. waiting (f n own)) position in
    let there = ap (λ e. waiting (f k e)) is in
    let others = none_above (suc k) f ds (λ j e above. none j e (λ wrong. let no : ⊥ = omega arith in no)) in
    omega arith
one_more k (suc i) f (d ∷ ds) own took said at none own_more =
    let position : k + suc i ≡ suc k + i = omega arith in
    let one = none k d (λ wrong. let no : ⊥ = omega arith in no) in
    let others = one_more (suc k) i f ds own took said at (λ j e other. none j e (λ wrong. other (wrong ∙ position))) (subst (λ n. waiting (f n own) + took ≤ waiting own + said) position own_more) in
    omega arith

waiting_hears : (takes : List Take) (full : List ℕ) (ts : List Take) (j : ℕ) (d : Device) → waiting (events.hear_all takes full ts j d) ≡ waiting d
waiting_hears takes full [] j d = refl
waiting_hears takes full (t ∷ ts) j d = waiting_hears takes full ts j (events.hear takes full t j d)

-- more go up
waiting_more : (zs : List Up) (d : Device) → length (messages (d.sessions.now.up_rest ++ zs)) ≡ waiting d + length (messages zs)
waiting_more zs d = ap length (messages_append d.sessions.now.up_rest zs) ∙ length-append (messages d.sessions.now.up_rest) (messages zs)

-- what one stanza's take is of
taken_few : (accounts : List (List ℕ)) (moment i : ℕ) (account : List ℕ) (z : Up) (rest : List Up) → length (events.taking accounts moment i account (z ∷ rest)) + length (messages rest) ≤ length (messages (z ∷ rest))
taken_few accounts moment i account Carbons rest = omega arith
taken_few accounts moment i account Presence rest = omega arith
taken_few accounts moment i account (Query r) rest = omega arith
taken_few accounts moment i account (Message m) rest = chosen (events.is_among m.to accounts)
  where
    chosen : (b : Bool) → (let ts : List Take = cond b (record { device = i; account = account; said = m; moment = moment } ∷ []) [] in length ts + length (messages rest) ≤ suc (length (messages rest)))
    chosen true = omega arith
    chosen false = omega arith

waiting_served : (accounts : List (List ℕ)) (moment i : ℕ) (a : events.Around) (fits : ℕ) (zs : List Up) (d : Device) → d.sessions.now.up_rest ≡ zs →
    waiting (events.served a fits zs d) + length (events.taking accounts moment i d.account zs) ≤ waiting d
waiting_served accounts moment i a fits [] d split = omega arith
waiting_served accounts moment i a fits (z ∷ rest) d split =
    let few = taken_few accounts moment i d.account z rest in
    let same = ap (λ zs. length (messages zs)) split in
    omega arith

waiting_read : (a : events.Around) (zs : List Down) (d : Device) → waiting (events.read a zs d) ≡ waiting d
waiting_read a [] d = refl
waiting_read a (z ∷ rest) d =
    let request = (events.reads a z d.reading).request in
    let none = ap length (no_message request) in
    let more = waiting_more (events.queries request) d in
    omega arith

waiting_own : (accounts : List (List ℕ)) (moment i : ℕ) (a : events.Around) (act : events.Act) (d : Device) →
    waiting (events.own a act d) + length (events.taken_by accounts moment i d act) ≤ waiting d + length (spoken_by (At i act))
waiting_own accounts moment i a events.Act.Bind d = omega arith
waiting_own accounts moment i a (events.Act.ReadBound live) d = omega arith
waiting_own accounts moment i a events.Act.Enable d = omega arith
waiting_own accounts moment i a events.Act.ReadEnabled d = let more = waiting_more (Carbons ∷ Presence ∷ []) d in omega arith
waiting_own accounts moment i a events.Act.End d = omega arith
waiting_own accounts moment i a events.Act.Drop d = omega arith
waiting_own accounts moment i a (events.Act.Acknowledge n) d = omega arith
waiting_own accounts moment i a (events.Act.Say to text private) d =
    let more = waiting_more (Message (record { epoch = length d.sessions.past; n = d.sessions.n + 1; to = to; text = text; private = private }) ∷ []) d in omega arith
waiting_own accounts moment i a (events.Act.CatchUp max) d =
    let more = waiting_more (Query (record { number = d.reading.asked + 1; after = last_in d.reading.run; max = max }) ∷ []) d in omega arith
waiting_own accounts moment i a (events.Act.ServerHandles fits full) d = let few = waiting_served accounts moment i a fits d.sessions.now.up_rest d refl in omega arith
waiting_own accounts moment i a events.Act.ClientHandles d = let same = waiting_read a d.sessions.now.down_rest d in omega arith

-- so many were taken or wait
abbrev AreSaid : ℕ → AppWorld → Type 0
AreSaid said w = length w.takes + waiting_in w.devices ≤ said

said_acted : (w : AppWorld) (i : ℕ) (act : events.Act) (own : Device) (said : ℕ) → slice_get w.devices i ≡ Some own → AreSaid said w → AreSaid (said + length (spoken_by (At i act))) (events.acted w i act own)
said_acted w i act own said at few =
    let longer = length-append w.takes new in
    let devices = one_more 0 i f w.devices own (length new) (length (spoken_by (At i act))) at none here in
    omega arith
  where
    new : List Take
    new = events.taken_by w.accounts w.clock i own act

    f : ℕ → Device → Device
    f = events.becomes w new i act

    none : (j : ℕ) (d : Device) → j ≢ 0 + i → waiting (events.becomes w new i act j d) ≤ waiting d
    none j d other =
        let apart : (j == i) ≡ false = false_from_ne_true (j == i) (λ is. other (same_position j i is ∙ (let position : i ≡ 0 + i = omega arith in position))) in
        let heard = waiting_hears (w.takes ++ new) (events.full_of act) new j (cond (j == i) (events.own (events.around w d) act d) d) in
        let same = ap (λ b. waiting (cond b (events.own (events.around w d) act d) d)) apart in
        omega arith

    here : waiting (events.becomes w new i act (0 + i) own) + length new ≤ waiting own + length (spoken_by (At i act))
    here =
        let position : (0 + i == i) ≡ true = (let e : 0 + i ≡ i = omega arith in eq-eqb (0 + i) i e) in
        let heard = waiting_hears (w.takes ++ new) (events.full_of act) new (0 + i) (cond (0 + i == i) (events.own (events.around w own) act own) own) in
        let same = ap (λ b. waiting (cond b (events.own (events.around w own) act own) own)) position in
        let few = waiting_own w.accounts w.clock i (events.around w own) act own in
        omega arith

said_moves : (event : events.AppEvent) (w next : AppWorld) (said : ℕ) → events.Moves event w next → AreSaid said w → AreSaid (said + length (spoken_by event)) next
said_moves (Tick ms) w next said led few = subst (AreSaid (said + 0)) (sym led) (omega arith)
said_moves (At i act) w next said led few = subst (AreSaid (said + length (spoken_by (At i act)))) (sym led.3) (said_acted w i act led.0 said led.1 few)

said_all : (all : List events.AppEvent) (w last : AppWorld) (said : ℕ) → events.Reaches all w last → AreSaid said w → AreSaid (said + length (spoken_in all)) last
said_all [] w last said led few = subst (AreSaid (said + 0)) (sym led) (omega arith)
said_all (event ∷ all) w last said led few =
    let rest = said_all all led.0 last (said + length (spoken_by event)) led.2 (said_moves event w led.0 said led.1 few) in
    let both = length-append (spoken_by event) (spoken_in all) in
    omega arith

none_waits : (homes : List (List ℕ)) → waiting_in (events.devices_of homes) ≡ 0
none_waits [] = refl
none_waits (home ∷ homes) = let rest = none_waits homes in omega arith

pub takes_few : (keep : ℕ) (accounts homes : List (List ℕ)) (all : List events.AppEvent) (w : AppWorld) → events.Reaches all (events.beginning keep accounts homes) w → length w.takes ≤ length (spoken_in all)
takes_few keep accounts homes all w led =
    let begins = none_waits homes in
    let few = said_all all (events.beginning keep accounts homes) w 0 led (omega arith) in
    omega arith

-- Messages.

-- a device that is there was there at the beginning
pub was_there : (all : List events.AppEvent) (w last : AppWorld) (i : ℕ) (e : Device) → events.Reaches all w last → slice_get last.devices i ≡ Some e → (d : Device) × (slice_get w.devices i ≡ Some d)
was_there [] w last i e led at = (e, ap (λ (v : AppWorld). slice_get v.devices i) (sym led) ∙ at)
was_there (event ∷ all) w last i e led at =
    let later = was_there all led.0 last i e led.2 at in
    let before = becomes event w led.0 led.1 i later.0 later.1 in
    (before.0, before.1)

pub said_whole : (keep : ℕ) (accounts homes : List (List ℕ)) (all : List events.AppEvent) (w : AppWorld) → events.Reaches all (events.beginning keep accounts homes) w →
    (i : ℕ) (d : Device) → slice_get w.devices i ≡ Some d → length (submitted d.sessions) ≡ length (said_by i all)
said_whole keep accounts homes all w led i d at =
    let begins = events.beginning keep accounts homes in
    let first = was_there all begins w i d led at in
    let none : all_spoken i first.0.sessions ≡ [] = one_of (λ j e. all_spoken j e.sessions ≡ []) homes i first.0 (λ account. refl) first.1 in
    let said = said_along all begins w i [] led (record { device = first.0; at = first.1; whole = none }) in
    let same : said.device ≡ d = same_Some said.device d (sym said.at ∙ at) in
    sym (length-map (submitted d.sessions) (as_spoken i)) ∙ ap (λ (e : Device). length (all_spoken i e.sessions)) (sym same) ∙ ap length said.whole

pub messages_few : (keep : ℕ) (accounts homes : List (List ℕ)) (all : List events.AppEvent) (w : AppWorld) → events.Reaches all (events.beginning keep accounts homes) w →
    (i : ℕ) (d : Device) → slice_get w.devices i ≡ Some d → OfEach (λ s. length (put_of s) ≤ length (said_by i all)) d
messages_few keep accounts homes all w led i d at =
    let whole = said_whole keep accounts homes all w led i d at in
    each_within put_of d.sessions (length (said_by i all)) (omega arith)

pub n_few : (keep : ℕ) (accounts homes : List (List ℕ)) (all : List events.AppEvent) (w : AppWorld) → events.Reaches all (events.beginning keep accounts homes) w →
    (i : ℕ) (d : Device) → slice_get w.devices i ≡ Some d → d.sessions.n ≤ length (said_by i all)
n_few keep accounts homes all w led i d at =
    let whole = said_whole keep accounts homes all w led i d at in
    let both = length-append (flat_map put_of d.sessions.past) (put_of d.sessions.now) in
    let is = ((taken_along all (events.beginning keep accounts homes) w led (taken_beginning keep accounts homes)).devices i d at).sessions.n in
    omega arith
