-- What was put in the sessions of links is what was put in those of the two applications.
use Rattle.std.proofs.Common.{◌≡◌, ℕ, zero, suc, ◌+◌, ◌*◌, ◌<◌, ◌≤◌, ◌^◌, List, [], ◌∷◌, ◌++◌, Option, None, Some, length, ltb, refl, sym, ap, ◌∙◌, subst, arith, inl, inr}
use Rattle.std.proofs.lemmas.Bool.{cases_Bool, ltb-false, ltb-true}
use Rattle.std.proofs.lemmas.List.{length-map}
use Rattle.std.proofs.lemmas.Option.{same_Some}
use Rattle.std.specs.List.{AllByRecursion, slice_get}
use Rattle.sim_2_links.specs.Events.{SeenSession, seen, seen_as, seen_session}
use Rattle.sim_2_links.specs.Machine.{LinkReached}
use Rattle.sim_2_links.specs.Views as links
use Rattle.sim_2_links.proofs.Epochs.{epoch_within}
use Rattle.sim_2_events.specs.Lists.{IsDevice, IsSession, Stanzas}
use Rattle.sim_1_applications.proofs.Taken.{said_few}
use Rattle.sim_1_applications.proofs.Whole.{whole}
use Rattle.sim_1_applications.specs.Counts.{OfEach, said_by}
use Rattle.sim_1_applications.proofs.Lists.{all_front, all_rest}
use Rattle.sim_1_applications.specs.Devices.{AppWorld, Device, Session, epoch_of, up_put}
use Rattle.sim_1_applications.specs.Events as events
use Rattle.sim_1_applications.specs.Histories.{spoken_in}

-- so many were put, up and down
abbrev pub ArePut : ℕ → ℕ → Session → Type 0
ArePut up down s = (length (up_put s) ≤ up) × (length (s.down_got ++ s.down_rest) ≤ down)

abbrev AreSeen : {A : Type 0} → ℕ → ℕ → SeenSession A → Type 0
AreSeen up down t = (length t.up_put ≤ up) × (length t.down_put ≤ down)

of_session : {A : Type 0} (r : Stanzas A) (up down : ℕ) (t : SeenSession A) (s : Session) → IsSession r t s → ArePut up down s → AreSeen up down t
of_session r up down t s is put =
    let ups = ap length is.up_put in
    let downs = ap length is.down_put in
    let up_many = length-map t.up_put r.up in
    let down_many = length-map t.down_put r.down in
    let up_few = put.0 in
    let down_few = put.1 in
    (omega arith, omega arith)

one_of : (P : Session → Type 0) (ss : List Session) (i : ℕ) (s : Session) → AllByRecursion P ss → slice_get ss i ≡ Some s → P s
one_of P [] i s all at = absurd (let no : ⊥ = cc in no)
one_of P (x ∷ ss) zero s all at = subst P (same_Some x s at) all.0
one_of P (x ∷ ss) (suc i) s all at = one_of P ss i s all.1 at

of_device : {A : Type 0} (r : Stanzas A) (v : links.View A) (d : Device) (up down : ℕ) → IsDevice r (seen v) d.sessions → OfEach (ArePut up down) d →
    (q : ℕ) (t : SeenSession A) → (seen v).sessions q ≡ Some t → AreSeen up down t
of_device {A = A} r v d up down is few q t at = by t.epoch refl
  where
    of_past : (e : ℕ) → t.epoch ≡ Some e → e < v.epoch → AreSeen up down t
    of_past e known low =
        let there = is.past q e t at known (omega arith) in
        of_session r up down t there.0 there.2 (one_of (ArePut up down) d.sessions.past e there.0 (all_front (ArePut up down) d.sessions.past (d.sessions.now ∷ []) few) there.1)

    of_now : (e : ℕ) → t.epoch ≡ Some e → e ≡ v.epoch → AreSeen up down t
    of_now e known same = of_session r up down t d.sessions.now (is.now q t at (known ∙ ap Some same)) (all_rest (ArePut up down) d.sessions.past (d.sessions.now ∷ []) few).0

    by : (o : Option ℕ) → t.epoch ≡ o → AreSeen up down t
    by None none = subst (AreSeen up down) (sym (is.unread q t at none)) (omega arith, omega arith)
    by (Some e) known = elim (cases_Bool (ltb e v.epoch)) [
      | inl low ↦ of_past e known (ltb-true e v.epoch low)
      | inr high ↦ of_now e known (let least = is.below q e t at known in let most = ltb-false e v.epoch high in omega arith)
    ]

pub puts : {A : Type 0} (r : Stanzas A) (v : links.View A) (d : Device) (up down : ℕ) → IsDevice r (seen v) d.sessions → OfEach (ArePut up down) d →
    (q : ℕ) (s : links.Session A) → v.sessions q ≡ Some s → (length s.up.put ≤ up) × (length s.down.put ≤ down)
puts r v d up down is few q s at = of_device r v d up down is few q (seen_session s) (ap seen_as at)

pub epochs : {A : Type 0} (r : Stanzas A) (v : links.View A) (d : Device) → IsDevice r (seen v) d.sessions → LinkReached v → epoch_of d.sessions ≤ v.free
epochs r v d is reached = let same = is.epoch in let low = epoch_within v reached in omega arith

-- Of a run.

pub run_puts : {A : Type 0} (r : Stanzas A) (keep : ℕ) (accounts homes : List (List ℕ)) (all : List events.AppEvent) (w : AppWorld) → events.Reaches all (events.beginning keep accounts homes) w →
    (i : ℕ) (d : Device) → slice_get w.devices i ≡ Some d → (says pages : ℕ) → length (spoken_in all) ≤ says → d.reading.asked ≤ pages + 1 →
    (v : links.View A) → IsDevice r (seen v) d.sessions → (q : ℕ) (s : links.Session A) → v.sessions q ≡ Some s → (length s.up.put ≤ says + pages + 3) × (length s.down.put ≤ 101 * (says + pages + 3) + says)
run_puts r keep accounts homes all w led i d at says pages spoken asked v is q s there =
    let known = puts r v d (2 + length (said_by i all) + d.reading.asked) (101 * (2 + length (said_by i all) + d.reading.asked) + length (spoken_in all)) is (whole keep accounts homes all w led i d at) q s there in
    let mine = said_few i all in
    let up = known.0 in
    let down = known.1 in
    (omega arith, omega arith)

pub run_few : {A : Type 0} (r : Stanzas A) (keep : ℕ) (accounts homes : List (List ℕ)) (all : List events.AppEvent) (w : AppWorld) → events.Reaches all (events.beginning keep accounts homes) w →
    (i : ℕ) (d : Device) → slice_get w.devices i ≡ Some d → (says pages : ℕ) → length (spoken_in all) ≤ says → d.reading.asked ≤ pages + 1 → 101 * (says + pages + 4) + says < 2 ^ 32 →
    (v : links.View A) → IsDevice r (seen v) d.sessions → (q : ℕ) (s : links.Session A) → v.sessions q ≡ Some s → (length s.up.put < 2 ^ 32) × (length s.down.put < 2 ^ 32)
run_few r keep accounts homes all w led i d at says pages spoken asked small v is q s there =
    let known = run_puts r keep accounts homes all w led i d at says pages spoken asked v is q s there in
    let up = known.0 in
    let down = known.1 in
    (omega arith, omega arith)
