-- Each session's epoch is at most its number and one, by the events of the links.
use Rattle.std.proofs.Common.{◌≡◌, ℕ, ◌+◌, ◌≤◌, Bool, true, false, cond, List, [], ◌∷◌, refl, sym, ap, ◌∙◌, subst, arith, Option, None, Some, inl, inr, ltb}
use Rattle.std.proofs.lemmas.Bool.{cases_Bool, ltb-false, ltb-true}
use Rattle.std.proofs.lemmas.Option.{same_Some}
use Rattle.sim_2_links.proofs.Entries.{entry, Entry, New, Old, was, altered, has_same, has_is, at_other}
use Rattle.sim_2_links.proofs.Hands.{no_entry}
use Rattle.sim_2_links.proofs.Numbers.{reached_rises}
use Rattle.sim_2_links.proofs.Seen.{run_seen}
use Rattle.sim_2_links.specs.Views.{View, Session, Table, has, alter}
use Rattle.sim_2_links.specs.Events.{Seen, SeenSession, seen, seen_as, seen_session, new_session, LinkEvent, Bound, Named, Counted, Known, Ended, Dropped, Said, Handled, Served, Heard, Learned, Follows}
use Rattle.sim_2_links.specs.Events as links
use Rattle.sim_2_links.specs.Machine.{LinkReached, nothing_yet}

-- the session of the present epoch has a number and one that is no lower
pub record HasNumber {A : Type 0} (epoch : ℕ) (sessions : Table (SeenSession A)) : Type 0 where
  pub number : ℕ
  pub session : SeenSession A
  pub is : sessions number ≡ Some session
  pub epoch_is : session.epoch ≡ Some epoch

-- sessions' epochs are within their numbers, and no higher than the present one, which a session has
pub record AreWithin {A : Type 0} (s : Seen A) : Type 0 where
  pub each : (q e : ℕ) (t : SeenSession A) → s.sessions q ≡ Some t → t.epoch ≡ Some e → (e ≤ q + 1) × (e ≤ s.epoch)
  pub present : 1 ≤ s.epoch → HasNumber s.epoch s.sessions

-- a change that leaves epochs
abbrev LeavesEpoch : {A : Type 0} → (ℕ → SeenSession A → SeenSession A) → Type 0
LeavesEpoch {A = A} f = (q : ℕ) (t : SeenSession A) → (f q t).epoch ≡ t.epoch

same_epochs : {A : Type 0} (f : ℕ → SeenSession A → SeenSession A) (s next : Seen A) → LeavesEpoch f → next.epoch ≡ s.epoch → next.sessions ≡ alter f s.sessions → AreWithin s → AreWithin next
same_epochs {A = A} f s next leaves epoch sessions kept = record {
  each = λ q e t found is.
      let before = was f s.sessions q t (sym (ap (λ (m : Table (SeenSession A)). m q) sessions) ∙ found) in
      let low = kept.each q e before.0 before.1 (sym (leaves q before.0) ∙ ap (λ (u : SeenSession A). u.epoch) before.2 ∙ is) in
      (low.0, let high = low.1 in omega arith);
  present = λ some.
      let had = kept.present (omega arith) in
      record {
        number = had.number;
        session = f had.number had.session;
        is = ap (λ (m : Table (SeenSession A)). m had.number) sessions ∙ altered f s.sessions had.number had.session had.is;
        epoch_is = leaves had.number had.session ∙ had.epoch_is ∙ ap Some (sym epoch);
      };
}

-- the server binds a session: its number was no session's, and it has no epoch yet
bound_within : {A : Type 0} (m : ℕ) (s : Seen A) → links.May (Bound m) s → AreWithin s → AreWithin (links.after (Bound m) s)
bound_within {A = A} m s may kept = record {
  each = λ q e t found is. one q e t is (entry m new_session s.sessions q t found);
  present = λ some.
      let had = kept.present some in
      let below = may.1 had.number had.session had.is in
      record {
        number = had.number;
        session = had.session;
        is = at_other m new_session s.sessions had.number (λ same. let no : ⊥ = omega arith in no) ∙ had.is;
        epoch_is = had.epoch_is;
      };
}
  where
    one : (q e : ℕ) (t : SeenSession A) → t.epoch ≡ Some e → Entry m new_session s.sessions q t → (e ≤ q + 1) × (e ≤ s.epoch)
    one q e t is (New here new) = absurd (let none : None ≡ Some e = ap (λ (u : SeenSession A). u.epoch) new ∙ is in let no : ⊥ = cc in no)
    one q e t is (Old there found) = kept.each q e t found is

-- the client reads of a session: it gets the next epoch, and its number is above all that have one
named_within : {A : Type 0} (m : ℕ) (s : Seen A) → links.May (Named m) s → AreWithin s → AreWithin (links.after (Named m) s)
named_within {A = A} m s may kept = record {
  each = λ q e t found is.
      let before = was f s.sessions q t found in
      one q e before.0 before.1 (has (Some m) q) refl (ap (λ (u : SeenSession A). u.epoch) before.2 ∙ is);
  present = λ some. record {
    number = m;
    session = f m may.1.0;
    is = altered f s.sessions m may.1.0 may.1.1;
    epoch_is = ap (λ b. cond b (Some (s.epoch + 1)) may.1.0.epoch) (has_same m);
  };
}
  where
    f : ℕ → SeenSession A → SeenSession A
    f q t = record t { epoch = cond (has (Some m) q) (Some (s.epoch + 1)) t.epoch }

    -- the present epoch is of a session with a lower number, or none was given yet
    high : s.epoch ≤ m
    high = elim (cases_Bool (ltb 0 s.epoch)) [
      | inl some ↦
          let had = kept.present (ltb-true 0 s.epoch some) in
          let low = (kept.each had.number s.epoch had.session had.is had.epoch_is).0 in
          let below = may.2 had.number s.epoch had.session had.is had.epoch_is in
          omega arith
      | inr none ↦ let zero = ltb-false 0 s.epoch none in omega arith
    ]

    one : (q e : ℕ) (t : SeenSession A) → s.sessions q ≡ Some t → (b : Bool) → has (Some m) q ≡ b → cond (has (Some m) q) (Some (s.epoch + 1)) t.epoch ≡ Some e → (e ≤ q + 1) × (e ≤ s.epoch + 1)
    one q e t at true here is =
        let same : m ≡ q = same_Some m q (has_is (Some m) q here) in
        let new : Some (s.epoch + 1) ≡ Some e = sym (ap (λ b. cond b (Some (s.epoch + 1)) t.epoch) here) ∙ is in
        let epoch : s.epoch + 1 ≡ e = same_Some (s.epoch + 1) e new in
        let low = high in
        (omega arith, omega arith)
    one q e t at false there is =
        let old = kept.each q e t at (sym (ap (λ b. cond b (Some (s.epoch + 1)) t.epoch) there) ∙ is) in
        (old.0, let low = old.1 in omega arith)

event_within : {A : Type 0} (e : LinkEvent A) (s : Seen A) → links.May e s → AreWithin s → AreWithin (links.after e s)
event_within (Bound m) s may kept = bound_within m s may kept
event_within (Named m) s may kept = named_within m s may kept
event_within (Counted p) s may kept = same_epochs _ s (links.after (Counted p) s) (λ q t. refl) refl refl kept
event_within (Known p) s may kept = same_epochs _ s (links.after (Known p) s) (λ q t. refl) refl refl kept
event_within (Ended p) s may kept = record { each = kept.each; present = kept.present }
event_within (Dropped p) s may kept = record { each = kept.each; present = kept.present }
event_within (Said p z) s may kept = same_epochs _ s (links.after (Said p z) s) (λ q t. refl) refl refl kept
event_within (Handled p z) s may kept = same_epochs _ s (links.after (Handled p z) s) (λ q t. refl) refl refl kept
event_within (Served p z) s may kept = same_epochs _ s (links.after (Served p z) s) (λ q t. refl) refl refl kept
event_within (Heard p z) s may kept = same_epochs _ s (links.after (Heard p z) s) (λ q t. refl) refl refl kept
event_within (Learned p n) s may kept = same_epochs _ s (links.after (Learned p n) s) (λ q t. refl) refl refl kept

along_within : {A : Type 0} (es : List (LinkEvent A)) (s last : Seen A) → Follows es s last → AreWithin s → AreWithin last
along_within [] s last same kept = subst AreWithin (sym same) kept
along_within (e ∷ es) s last follows kept = along_within es (links.after e s) last follows.1 (event_within e s follows.0 kept)

beginning_within : {A : Type 0} → AreWithin (seen {A = A} nothing_yet)
beginning_within = record {
  each = λ q e t found is. no_entry t found;
  present = λ (some : 1 ≤ 0). absurd (omega arith);
}

reached_within : {A : Type 0} (v : View A) → LinkReached v → AreWithin (seen v)
reached_within v reached = let run = run_seen v reached in along_within run.0 (seen nothing_yet) (seen v) run.1 beginning_within

-- of the links

pub each_within : {A : Type 0} (v : View A) → LinkReached v → (q e : ℕ) (s : Session A) → v.sessions q ≡ Some s → s.epoch ≡ Some e → (e ≤ q + 1) × (e ≤ v.epoch)
each_within v reached q e s at is = (reached_within v reached).each q e (seen_session s) (ap seen_as at) is

was_session : {A : Type 0} (o : Option (Session A)) (t : SeenSession A) → seen_as o ≡ Some t → (s : Session A) × (o ≡ Some s)
was_session None t at = no_entry t at
was_session (Some s) t at = (s, refl)

pub epoch_within : {A : Type 0} (v : View A) → LinkReached v → v.epoch ≤ v.free
epoch_within v reached = elim (cases_Bool (ltb 0 v.epoch)) [
  | inl some ↦
      let within = reached_within v reached in
      let had = within.present (ltb-true 0 v.epoch some) in
      let low = (within.each had.number v.epoch had.session had.is had.epoch_is).0 in
      let one = was_session (v.sessions had.number) had.session had.is in
      let given = (reached_rises v reached).given had.number one.0 one.1 in
      omega arith
  | inr none ↦ let zero = ltb-false 0 v.epoch none in omega arith
]
