-- A4, A5, A10 and what they come to: the takes, the archives, and when an epoch is over.
use Rattle.std.proofs.Common.{◌≡◌, ℕ, ◌+◌, ◌<◌, ◌≤◌, ◌==◌, Bool, true, false, cond, List, [], ◌∷◌, ◌++◌, Some, length, map, drop, refl, sym, ap, ◌∙◌, subst, arith, append_assoc}
use Rattle.std.proofs.lemmas.List.{append-nil, map-append, length-append, drop-append-le}
use Rattle.std.proofs.lemmas.List.Elements.{filter-append}
use Rattle.std.specs.List.{filter, AllByRecursion, slice_get}
use Rattle.sim_1_applications.specs.Stanzas.{Submission, Up, messages}
use Rattle.sim_1_applications.specs.Stanzas.Up.{Carbons, Presence, Message, Query}
use Rattle.sim_1_applications.specs.Devices.{Device, Take, Made, AppWorld, epoch_of, concerns, last_of, up_put}
use Rattle.sim_1_applications.specs.Events as events
use Rattle.sim_1_applications.specs.Kept.{is_of, said_in, TakesKept, AreMoments, AreNumbered, SessionsKept, IsSettledAt}
use Rattle.sim_1_applications.proofs.Lists.{all_append, all_weaker}
use Rattle.sim_1_applications.proofs.Numbered.{messages_append, numbered_rest}
use Rattle.sim_1_applications.proofs.Takes.{handled_becomes, is_of_taken, account_hear_all, account_own}
use Rattle.sim_1_applications.proofs.Worlds.{same_position, at_position}

-- what holds of each take of a message to an account that exists holds of the takes of an act
taking_all : (P : Take → Type 0) (accounts : List (List ℕ)) (moment i : ℕ) (account : List ℕ) (zs : List Up) →
    ((m : Submission) (rest : List Up) → zs ≡ Message m ∷ rest → P (record { device = i; account = account; said = m; moment = moment })) →
    AllByRecursion P (events.taking accounts moment i account zs)
taking_all P accounts moment i account [] each = tt
taking_all P accounts moment i account (Carbons ∷ rest) each = tt
taking_all P accounts moment i account (Presence ∷ rest) each = tt
taking_all P accounts moment i account (Query r ∷ rest) each = tt
taking_all P accounts moment i account (Message m ∷ rest) each = chosen (events.is_among m.to accounts)
  where
    chosen : (b : Bool) → AllByRecursion P (cond b (record { device = i; account = account; said = m; moment = moment } ∷ []) [])
    chosen true = (each m rest refl, tt)
    chosen false = tt

pub taken_all : (P : Take → Type 0) (accounts : List (List ℕ)) (moment i : ℕ) (act : events.Act) (d : Device) →
    ((m : Submission) (rest : List Up) → d.sessions.now.up_rest ≡ Message m ∷ rest → P (record { device = i; account = d.account; said = m; moment = moment })) →
    AllByRecursion P (events.taken_by accounts moment i d act)
taken_all P accounts moment i events.Act.Bind d each = tt
taken_all P accounts moment i (events.Act.ReadBound live) d each = tt
taken_all P accounts moment i events.Act.Enable d each = tt
taken_all P accounts moment i events.Act.ReadEnabled d each = tt
taken_all P accounts moment i events.Act.End d each = tt
taken_all P accounts moment i events.Act.Drop d each = tt
taken_all P accounts moment i (events.Act.Acknowledge n) d each = tt
taken_all P accounts moment i (events.Act.Say to text private) d each = tt
taken_all P accounts moment i (events.Act.CatchUp max) d each = tt
taken_all P accounts moment i (events.Act.ServerHandles fits full) d each = taking_all P accounts moment i d.account d.sessions.now.up_rest each
taken_all P accounts moment i events.Act.ClientHandles d each = tt

-- each take of an act is of the present epoch, with the next number behind those that were handled
pub taken_epoch : (accounts : List (List ℕ)) (moment i : ℕ) (act : events.Act) (d : Device) → SessionsKept d.sessions →
    AllByRecursion (λ t. t.said.epoch ≡ epoch_of d.sessions) (events.taken_by accounts moment i d act)
taken_epoch accounts moment i act d kept = taken_all (λ t. t.said.epoch ≡ epoch_of d.sessions) accounts moment i act d (λ m rest split.
    let all : messages (up_put d.sessions.now) ≡ messages d.sessions.now.up_got ++ m ∷ messages rest =
    messages_append d.sessions.now.up_got d.sessions.now.up_rest ∙ ap (λ zs. messages d.sessions.now.up_got ++ messages zs) split in
    (numbered_rest (epoch_of d.sessions) 0 (messages d.sessions.now.up_got) (m ∷ messages rest) (subst (AreNumbered (epoch_of d.sessions) 0) all kept.now.numbers)).0)

-- a take is of an epoch above the one that was reached at the last bind
pub taken_is_new : (accounts : List (List ℕ)) (moment i : ℕ) (act : events.Act) (d : Device) → events.May act d → SessionsKept d.sessions →
    AllByRecursion (λ t. d.sessions.bound < t.said.epoch) (events.taken_by accounts moment i d act)
taken_is_new accounts moment i (events.Act.ServerHandles fits full) d may kept =
    all_weaker (λ t. t.said.epoch ≡ epoch_of d.sessions) (λ t. d.sessions.bound < t.said.epoch) _
    (λ t is. let above = kept.epochs.present may.0 in omega arith) (taken_epoch accounts moment i (events.Act.ServerHandles fits full) d kept)
taken_is_new accounts moment i events.Act.Bind d may kept = tt
taken_is_new accounts moment i (events.Act.ReadBound live) d may kept = tt
taken_is_new accounts moment i events.Act.Enable d may kept = tt
taken_is_new accounts moment i events.Act.ReadEnabled d may kept = tt
taken_is_new accounts moment i events.Act.End d may kept = tt
taken_is_new accounts moment i events.Act.Drop d may kept = tt
taken_is_new accounts moment i (events.Act.Acknowledge n) d may kept = tt
taken_is_new accounts moment i (events.Act.Say to text private) d may kept = tt
taken_is_new accounts moment i (events.Act.CatchUp max) d may kept = tt
taken_is_new accounts moment i events.Act.ClientHandles d may kept = tt

pub account_becomes : (w : AppWorld) (new : List Take) (i : ℕ) (act : events.Act) (j : ℕ) (d : Device) → (events.becomes w new i act j d).account ≡ d.account
account_becomes w new i act j d =
    account_hear_all (w.takes ++ new) (events.full_of act) new j _
    ∙ at_position (j == i) _ _ (λ e. e.account ≡ d.account) (λ _. account_own (events.around w d) act d) (λ _. refl)

-- A4 of each device of the next world
pub takes_becomes : (w : AppWorld) (i : ℕ) (act : events.Act) (own : Device) (j : ℕ) (d : Device) →
    slice_get w.devices i ≡ Some own → slice_get w.devices j ≡ Some d → TakesKept w.accounts w.takes j d →
    TakesKept w.accounts (w.takes ++ events.taken_by w.accounts w.clock i own act) j (events.becomes w (events.taken_by w.accounts w.clock i own act) i act j d)
takes_becomes w i act own j d at here kept =
    let new = events.taken_by w.accounts w.clock i own act in
    let more : filter (is_of j) (w.takes ++ new) ≡ filter (is_of j) w.takes ++ filter (is_of j) new = filter-append (is_of j) w.takes new in
    let account : (events.becomes w new i act j d).account ≡ d.account = account_becomes w new i act j d in
    record {
      are =
          ap (map said_in) more
          ∙ map-append said_in (filter (is_of j) w.takes) (filter (is_of j) new)
          ∙ ap (λ l. l ++ map said_in (filter (is_of j) new)) kept.are
          ∙ sym (handled_becomes w i act own j d at here);
      home = subst (AllByRecursion (λ t. t.account ≡ (events.becomes w new i act j d).account)) (sym more)
          (subst (λ a. AllByRecursion (λ t. t.account ≡ a) (filter (is_of j) w.takes ++ filter (is_of j) new)) (sym account)
          (all_append (λ t. t.account ≡ d.account) (filter (is_of j) w.takes) (filter (is_of j) new) kept.home
          (subst (AllByRecursion (λ t. t.account ≡ d.account)) (sym (is_of_taken w.accounts w.clock i act own j)) (new_home (j == i) refl))));
    }
  where
    new_home : (b : Bool) → (j == i) ≡ b → AllByRecursion (λ t. t.account ≡ d.account) (cond b (events.taken_by w.accounts w.clock i own act) [])
    new_home true is =
        let j_is_i = same_position j i is in
        let same : own ≡ d = (let g : slice_get w.devices j ≡ slice_get w.devices i = ap (slice_get w.devices) j_is_i in cc) in
        taken_all (λ t. t.account ≡ d.account) w.accounts w.clock i act own (λ m rest split. ap (λ e. e.account) same)
    new_home false is = tt

-- A5: moments
moments_push : (low now : ℕ) (takes : List Take) (t : Take) → t.moment ≡ now → AreMoments low now takes → AreMoments low now (takes ++ t ∷ [])
moments_push low now [] t is known = (let low_first : low ≤ now = known in omega arith, let last : t.moment ≤ now = omega arith in last)
moments_push low now (u ∷ takes) t is known = (known.0, moments_push u.moment now takes t is known.1)

pub moments_tick : (low now ms : ℕ) (takes : List Take) → AreMoments low now takes → AreMoments low (now + ms) takes
moments_tick low now ms [] known = let before : low ≤ now = known in let after : low ≤ now + ms = omega arith in after
moments_tick low now ms (t ∷ takes) known = (known.0, moments_tick t.moment now ms takes known.1)

pub moments_more : (low now : ℕ) (takes new : List Take) → AllByRecursion (λ t. t.moment ≡ now) new → AreMoments low now takes → AreMoments low now (takes ++ new)
moments_more low now takes [] are known = subst (AreMoments low now) (sym (append-nil takes)) known
moments_more low now takes (t ∷ new) are known =
    subst (AreMoments low now) (append_assoc takes (t ∷ []) new) (moments_more low now (takes ++ t ∷ []) new are.1 (moments_push low now takes t are.0 known))

pub taken_now : (accounts : List (List ℕ)) (moment i : ℕ) (act : events.Act) (d : Device) → AllByRecursion (λ t. t.moment ≡ moment) (events.taken_by accounts moment i d act)
taken_now accounts moment i act d = taken_all (λ t. t.moment ≡ moment) accounts moment i act d (λ m rest split. refl)

-- archives grow by the takes that concern them
pub last_grows : (takes new : List Take) (account : List ℕ) → last_of (takes ++ new) account ≡ last_of takes account + last_of new account
unfolding last_of
last_grows takes new account =
    ap length (filter-append (concerns account) takes new) ∙ length-append (filter (concerns account) takes) (filter (concerns account) new)

-- A10
settled_more : (takes new : List Take) (j e : ℕ) (m : Made) → AllByRecursion (λ t. e ≤ t.said.epoch) (filter (is_of j) new) → m.epoch ≤ e → IsSettledAt takes j m →
    IsSettledAt (takes ++ new) j m
settled_more takes new j e m later low kept =
    let more = length-append takes new in
    let before = kept.before in
    let cut : drop m.takes (takes ++ new) ≡ drop m.takes takes ++ new = drop-append-le m.takes takes new before in
    record {
      before = omega arith;
      later = subst (AllByRecursion (λ t. m.epoch ≤ t.said.epoch))
          (sym (ap (filter (is_of j)) cut ∙ filter-append (is_of j) (drop m.takes takes) new))
          (all_append (λ t. m.epoch ≤ t.said.epoch) (filter (is_of j) (drop m.takes takes)) (filter (is_of j) new) kept.later
          (all_weaker (λ t. e ≤ t.said.epoch) (λ t. m.epoch ≤ t.said.epoch) (filter (is_of j) new) (λ t high. omega arith) later));
    }

pub settled_all : (takes new : List Take) (j e : ℕ) (ms : List Made) → AllByRecursion (λ t. e ≤ t.said.epoch) (filter (is_of j) new) → AllByRecursion (λ m. m.epoch ≤ e) ms →
    AllByRecursion (IsSettledAt takes j) ms → AllByRecursion (IsSettledAt (takes ++ new) j) ms
settled_all takes new j e [] later low kept = tt
settled_all takes new j e (m ∷ ms) later low kept = (settled_more takes new j e m later low.0 kept.0, settled_all takes new j e ms later low.1 kept.1)
