-- Along events a session of a device that is of its present epoch stays so, or the epoch rises; and what is taken of it.
use Rattle.std.proofs.Common.{◌≡◌, ◌≢◌, ◌⊎◌, ℕ, ◌+◌, ◌<◌, ◌≤◌, ◌==◌, Bool, true, false, cond, List, [], ◌∷◌, ◌++◌, Some, length, refl, sym, ap, ◌∙◌, subst, arith, inl, inr, append_assoc, append-nil}
use Rattle.std.proofs.lemmas.List.{length_push}
use Rattle.std.proofs.lemmas.List.Elements.{filter-append}
use Rattle.std.specs.List.{AllByRecursion, filter, slice_get}
use Rattle.std.specs.Option.{option_map}
use Rattle.std.specs.Prelude.{◌&&◌, nat_lt}
use Rattle.sim_1_applications.specs.Stanzas.{Down, Up}
use Rattle.sim_1_applications.specs.Devices.{AppWorld, Device, Named, NoRow, Present, Row, Sessions, Take, epoch_of}
use Rattle.sim_1_applications.specs.Events as events
use Rattle.sim_1_applications.specs.Events.AppEvent.{At, Tick}
use Rattle.sim_1_applications.specs.Kept.{SessionsKept, Taken, is_of}
use Rattle.sim_1_applications.specs.Laws.{AreAbove}
use Rattle.sim_1_applications.proofs.Archives.{taken_epoch}
use Rattle.sim_1_applications.proofs.Lists.{all_append, all_weaker}
use Rattle.sim_1_applications.proofs.Runs.{taken_moves}
use Rattle.sim_1_applications.proofs.Takes.{is_of_taken}
use Rattle.sim_1_applications.proofs.Worlds.{at_position, get_each, same_position}

-- ---- one device

-- the epoch has stayed; a session that is of it was of it before, and one that was counted is
pub record Stays (s t : Sessions) : Type 0 where
  pub same : epoch_of t ≡ epoch_of s
  pub was : t.row ≡ Present → s.row ≡ Present
  pub counted : t.row ≡ Present → s.now.stage ≢ Named → t.now.stage ≢ Named

abbrev pub Leads : Sessions → Sessions → Type 0
Leads s t = (epoch_of s < epoch_of t) ⊎ Stays s t

leads_itself : (s : Sessions) → Leads s s
leads_itself s = inr (record { same = refl; was = λ e. e; counted = λ e c. c })

leads_both : (s t u : Sessions) → Leads s t → Leads t u → Leads s u
leads_both s t u (inl more) (inl most) = inl (omega arith)
leads_both s t u (inl more) (inr stays) = let same = stays.same in inl (omega arith)
leads_both s t u (inr stays) (inl more) = let same = stays.same in inl (omega arith)
leads_both s t u (inr one) (inr two) = inr (record {
  same = two.same ∙ one.same;
  was = λ e. one.was (two.was e);
  counted = λ e c. two.counted e (one.counted (two.was e) c);
})

present_where : (b : Bool) (row : Row) → cond b NoRow row ≡ Present → row ≡ Present
present_where true row e = absurd (let no_way : ⊥ = cc in no_way)
present_where false row e = e

leads_served : (x : events.Around) (fits : ℕ) (zs : List Up) (d : Device) → Leads d.sessions (events.served x fits zs d).sessions
leads_served x fits [] d = leads_itself d.sessions
leads_served x fits (z ∷ rest) d = inr (record { same = refl; was = λ e. present_where (nat_lt fits (length (events.reply x z))) d.sessions.row e; counted = λ e c. c })

leads_read : (x : events.Around) (zs : List Down) (d : Device) → Leads d.sessions (events.read x zs d).sessions
leads_read x [] d = leads_itself d.sessions
leads_read x (z ∷ rest) d = inr (record { same = refl; was = λ e. e; counted = λ e c. c })

leads_own : (x : events.Around) (act : events.Act) (d : Device) → Leads d.sessions (events.own x act d).sessions
leads_own x events.Act.Bind d = inr (record { same = refl; was = λ e. absurd (let no_way : ⊥ = cc in no_way); counted = λ e c. c })
leads_own x (events.Act.ReadBound live) d = inl (let one = length_push d.sessions.past d.sessions.now in omega arith)
leads_own x events.Act.Enable d = inr (record { same = refl; was = λ e. e; counted = λ e c is. let no_way : ⊥ = cc in no_way })
leads_own x events.Act.ReadEnabled d = inr (record { same = refl; was = λ e. e; counted = λ e c is. let no_way : ⊥ = cc in no_way })
leads_own x events.Act.End d = inr (record { same = refl; was = λ e. absurd (let no_way : ⊥ = cc in no_way); counted = λ e c. c })
leads_own x events.Act.Drop d = inr (record { same = refl; was = λ e. e; counted = λ e c. c })
leads_own x (events.Act.Acknowledge n) d = inr (record { same = refl; was = λ e. e; counted = λ e c. c })
leads_own x (events.Act.Say to text private) d = inr (record { same = refl; was = λ e. e; counted = λ e c. c })
leads_own x (events.Act.CatchUp max) d = inr (record { same = refl; was = λ e. e; counted = λ e c. c })
leads_own x (events.Act.ServerHandles fits full) d = leads_served x fits d.sessions.now.up_rest d
leads_own x events.Act.ClientHandles d = leads_read x d.sessions.now.down_rest d

leads_hear_all : (takes : List Take) (full : List ℕ) (ts : List Take) (j : ℕ) (d : Device) → Leads d.sessions (events.hear_all takes full ts j d).sessions
leads_hear_all takes full [] j d = leads_itself d.sessions
leads_hear_all takes full (t ∷ ts) j d =
    leads_both d.sessions (events.hear takes full t j d).sessions (events.hear_all takes full ts j (events.hear takes full t j d)).sessions
    (inr (record { same = refl; was = λ e. present_where (events.hears_of t j d && events.is_number_among j full) d.sessions.row e; counted = λ e c. c }))
    (leads_hear_all takes full ts j (events.hear takes full t j d))

leads_becomes : (w : AppWorld) (new : List Take) (i : ℕ) (act : events.Act) (j : ℕ) (d : Device) → Leads d.sessions (events.becomes w new i act j d).sessions
leads_becomes w new i act j d =
    at_position (j == i) (events.own (events.around w d) act d) d (λ e. Leads d.sessions (events.hear_all (w.takes ++ new) (events.full_of act) new j e).sessions)
    (λ _. leads_both d.sessions (events.own (events.around w d) act d).sessions _ (leads_own (events.around w d) act d) (leads_hear_all (w.takes ++ new) (events.full_of act) new j (events.own (events.around w d) act d)))
    (λ _. leads_hear_all (w.takes ++ new) (events.full_of act) new j d)

-- ---- the device at a place

pub record LedAt (s : Sessions) (w : AppWorld) (i : ℕ) : Type 0 where
  pub device : Device
  pub at : slice_get w.devices i ≡ Some device
  pub leads : Leads s device.sessions

led_moves : (event : events.AppEvent) (s : Sessions) (w next : AppWorld) (i : ℕ) → events.Moves event w next → LedAt s w i → LedAt s next i
led_moves (Tick ms) s w next i is led = subst (λ v. LedAt s v i) (sym is) (record { device = led.device; at = led.at; leads = led.leads })
led_moves (At j act) s w next i is led =
    let new = events.taken_by w.accounts w.clock j is.0 act in
    subst (λ v. LedAt s v i) (sym is.3) (record {
      device = events.becomes w new j act (0 + i) led.device;
      at = get_each 0 (events.becomes w new j act) w.devices i ∙ ap (option_map (events.becomes w new j act (0 + i))) led.at;
      leads = leads_both s led.device.sessions _ led.leads (leads_becomes w new j act (0 + i) led.device);
    })

led_from : (all : List events.AppEvent) (s : Sessions) (w last : AppWorld) (i : ℕ) → events.Reaches all w last → LedAt s w i → LedAt s last i
led_from [] s w last i is led = subst (λ v. LedAt s v i) (sym is) led
led_from (event ∷ all) s w last i reaches led = led_from all s reaches.0 last i reaches.2 (led_moves event s w reaches.0 i reaches.1 led)

pub led_along : (all : List events.AppEvent) (w last : AppWorld) (i : ℕ) (d : Device) → events.Reaches all w last → slice_get w.devices i ≡ Some d → LedAt d.sessions last i
led_along all w last i d reaches at = led_from all d.sessions w last i reaches (record { device = d; at = at; leads = leads_itself d.sessions })

-- ---- what is taken

-- the epoch was reached, and a session of the present one is of another
pub record IsAfter (epoch : ℕ) (s : Sessions) : Type 0 where
  pub reached : epoch ≤ epoch_of s
  pub above : s.row ≡ Present → epoch < epoch_of s

after_leads : (epoch : ℕ) (s t : Sessions) → IsAfter epoch s → Leads s t → IsAfter epoch t
after_leads epoch s t following (inl more) = let reached = following.reached in record { reached = omega arith; above = λ e. omega (arith, more, reached) }
after_leads epoch s t following (inr stays) =
    let reached = following.reached in
    let same = stays.same in
    record { reached = omega arith; above = λ e. let known = following.above (stays.was e) in omega (arith, known, same) }

-- and of the takes since then
pub record AfterAt (epoch : ℕ) (takes : List Take) (i : ℕ) (w : AppWorld) : Type 0 where
  pub device : Device
  pub at : slice_get w.devices i ≡ Some device
  pub following : IsAfter epoch device.sessions
  pub more : List Take
  pub are : w.takes ≡ takes ++ more
  pub above : AreAbove epoch i more

take_above : (epoch : ℕ) (accounts : List (List ℕ)) (moment i : ℕ) (act : events.Act) (d : Device) → events.May act d → SessionsKept d.sessions → IsAfter epoch d.sessions →
    AllByRecursion (λ t. epoch < t.said.epoch) (events.taken_by accounts moment i d act)
take_above epoch accounts moment i (events.Act.ServerHandles fits full) d may kept following =
    all_weaker (λ t. t.said.epoch ≡ epoch_of d.sessions) (λ t. epoch < t.said.epoch) _ (λ t is. let above = following.above may.0 in omega (arith, above, is))
    (taken_epoch accounts moment i (events.Act.ServerHandles fits full) d kept)
take_above epoch accounts moment i events.Act.Bind d may kept following = tt
take_above epoch accounts moment i (events.Act.ReadBound live) d may kept following = tt
take_above epoch accounts moment i events.Act.Enable d may kept following = tt
take_above epoch accounts moment i events.Act.ReadEnabled d may kept following = tt
take_above epoch accounts moment i events.Act.End d may kept following = tt
take_above epoch accounts moment i events.Act.Drop d may kept following = tt
take_above epoch accounts moment i (events.Act.Acknowledge n) d may kept following = tt
take_above epoch accounts moment i (events.Act.Say to text private) d may kept following = tt
take_above epoch accounts moment i (events.Act.CatchUp max) d may kept following = tt
take_above epoch accounts moment i events.Act.ClientHandles d may kept following = tt

new_above : (w : AppWorld) (epoch i j : ℕ) (act : events.Act) (own d : Device) → slice_get w.devices i ≡ Some d → slice_get w.devices j ≡ Some own → events.May act own →
    SessionsKept d.sessions → IsAfter epoch d.sessions → AreAbove epoch i (events.taken_by w.accounts w.clock j own act)
new_above w epoch i j act own d here at may kept following =
    subst (AllByRecursion (λ t. epoch < t.said.epoch)) (sym (is_of_taken w.accounts w.clock j act own i)) (chosen (i == j) refl)
  where
    chosen : (c : Bool) → (i == j) ≡ c → AllByRecursion (λ t. epoch < t.said.epoch) (cond c (events.taken_by w.accounts w.clock j own act) [])
    chosen false is = tt
    chosen true is =
        let i_is_j = same_position i j is in
        let same : own ≡ d = (let g : slice_get w.devices i ≡ slice_get w.devices j = ap (slice_get w.devices) i_is_j in cc) in
        subst (λ e. AllByRecursion (λ t. epoch < t.said.epoch) (events.taken_by w.accounts w.clock j e act)) (sym same)
        (take_above epoch w.accounts w.clock j act d (subst (events.May act) same may) kept following)

after_moves : (epoch : ℕ) (takes : List Take) (i : ℕ) (event : events.AppEvent) (w next : AppWorld) → events.Moves event w next → Taken w → AfterAt epoch takes i w → AfterAt epoch takes i next
after_moves epoch takes i (Tick ms) w next is taken kept =
    subst (AfterAt epoch takes i) (sym is) (record { device = kept.device; at = kept.at; following = kept.following; more = kept.more; are = kept.are; above = kept.above })
after_moves epoch takes i (At j act) w next is taken kept =
    let new = events.taken_by w.accounts w.clock j is.0 act in
    let sessions = (taken.devices i kept.device kept.at).sessions in
    subst (AfterAt epoch takes i) (sym is.3) (record {
      device = events.becomes w new j act (0 + i) kept.device;
      at = get_each 0 (events.becomes w new j act) w.devices i ∙ ap (option_map (events.becomes w new j act (0 + i))) kept.at;
      following = after_leads epoch kept.device.sessions _ kept.following (leads_becomes w new j act (0 + i) kept.device);
      more = kept.more ++ new;
      are = ap (λ l. l ++ new) kept.are ∙ append_assoc takes kept.more new;
      above = subst (AllByRecursion (λ t. epoch < t.said.epoch)) (sym (filter-append (is_of i) kept.more new))
          (all_append (λ t. epoch < t.said.epoch) (filter (is_of i) kept.more) (filter (is_of i) new) kept.above
          (new_above w epoch i j act is.0 kept.device kept.at is.1 is.2 sessions kept.following));
    })

after_from : (epoch : ℕ) (takes : List Take) (i : ℕ) (all : List events.AppEvent) (w last : AppWorld) → events.Reaches all w last → Taken w → AfterAt epoch takes i w → AfterAt epoch takes i last
after_from epoch takes i [] w last is taken kept = subst (AfterAt epoch takes i) (sym is) kept
after_from epoch takes i (event ∷ all) w last reaches taken kept =
    after_from epoch takes i all reaches.0 last reaches.2 (taken_moves event w reaches.0 reaches.1 taken) (after_moves epoch takes i event w reaches.0 reaches.1 taken kept)

pub after_along : (epoch : ℕ) (i : ℕ) (all : List events.AppEvent) (w last : AppWorld) (d : Device) → events.Reaches all w last → Taken w → slice_get w.devices i ≡ Some d → IsAfter epoch d.sessions → AfterAt epoch w.takes i last
after_along epoch i all w last d reaches taken at following =
    after_from epoch w.takes i all w last reaches taken (record { device = d; at = at; following = following; more = []; are = sym (append-nil w.takes); above = tt })
