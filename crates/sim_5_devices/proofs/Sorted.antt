-- A drift behind a label of the client, but for one by which a session was bound, may as well come before it.
use Rattle.std.proofs.Common.{◌≡◌, inl, inr, ◌≤◌, length, true, false, List, [], ◌∷◌, ◌++◌, refl, sym, ap, subst, ◌∙◌}
use Rattle.std.specs.List.{AllByRecursion}
use Rattle.sim_3_items.specs.Labels.{Drops, Enters, Gives, Label, Learns, Names, Reads, Says, Takes}
use Rattle.sim_2_events.specs.Acts.{MayAct}
use Rattle.sim_2_events.specs.Lists.{Stanzas, knows}
use Rattle.sim_5_devices.proofs.SessionStepping.{session_steps_both}
use Rattle.sim_5_devices.specs.Labels.{Binds, Counts, Does, DoesAll, DoesInterleaved, SessionStep, SessionSteps, Ends, IsPlain, IsLearnt, IsRead, act_of, session_stepped}
use Rattle.sim_1_applications.specs.Devices.{Counted, Device, Known, Named, Present, Sessions, new_device}
use Rattle.sim_1_applications.specs.Events.{ClientHandles, Enable, ReadEnabled, acknowledged, goes_offline, moved_down, put_up}
use Rattle.sim_1_applications.specs.Stanzas.{Down, Up}

-- ---- what may happen, by the sessions alone

abbrev pub with_sessions : Sessions → Device
with_sessions d = record (new_device []) { sessions = d }

pub enable_at : (d : Sessions) → MayAct Enable d → (d.row ≡ Present) × (d.now.stage ≡ Named)
enable_at d may = may (with_sessions d) refl

pub enable_may : (d : Sessions) → (d.row ≡ Present) × (d.now.stage ≡ Named) → MayAct Enable d
enable_may d is w same = (ap (λ (s : Sessions). s.row) same ∙ is.0, ap (λ (s : Sessions). s.now.stage) same ∙ is.1)

read_may : (d : Sessions) → (d.online ≡ true) × (1 ≤ length d.now.down_rest) → MayAct ClientHandles d
read_may d is w same = (ap (λ (s : Sessions). s.online) same ∙ is.0, subst (λ (s : Sessions). 1 ≤ length s.now.down_rest) (sym same) is.1)

-- ---- one drift and one label

module _ {A : Type 0} (r : Stanzas A) where
  -- what the drift leaves of a label
  read_session_steps : (y : SessionStep) (z : Down) (d n : Sessions) → IsRead z d n → IsRead z (session_stepped y d) (session_stepped y n)
  read_session_steps Binds z d n by = record { rest = by.rest; first = by.first; may = read_may (session_stepped Binds d) (by.may (with_sessions d) refl); is = ap (session_stepped Binds) by.is }
  read_session_steps Counts z d n by = record { rest = by.rest; first = by.first; may = read_may (session_stepped Counts d) (by.may (with_sessions d) refl); is = ap (session_stepped Counts) by.is }
  read_session_steps Ends z d n by = record { rest = by.rest; first = by.first; may = read_may (session_stepped Ends d) (by.may (with_sessions d) refl); is = ap (session_stepped Ends) by.is }

  learnt_session_steps : (y : SessionStep) (d n : Sessions) → IsLearnt d n → IsLearnt (session_stepped y d) (session_stepped y n)
  learnt_session_steps Binds d n by = record { count = by.count; online = by.online; low = by.low; high = by.high; is = ap (session_stepped Binds) by.is }
  learnt_session_steps Counts d n by = record { count = by.count; online = by.online; low = by.low; high = by.high; is = ap (session_stepped Counts) by.is }
  learnt_session_steps Ends d n by = record { count = by.count; online = by.online; low = by.low; high = by.high; is = ap (session_stepped Ends) by.is }

  -- the session is counted before the label as behind it
  counts_before : (x : Label A) (d n : Sessions) → IsPlain x → Does r x d n → MayAct Enable n → MayAct Enable d
  counts_before (Says z) d n plain does may = enable_may d (enable_at (put_up (r.up z) d) (subst (MayAct Enable) does.1 may))
  counts_before (Reads z) d n plain does may = enable_may d (enable_at (moved_down (r.down z) does.rest d) (subst (MayAct Enable) does.is may))
  counts_before Enters d n plain does may = absurd (not_named (enable_at (knows d) (subst (MayAct Enable) does.1 may)).1)
    where
      not_named : Known ≡ Named → ⊥
      not_named e = cc
  counts_before Learns d n plain does may = enable_may d (enable_at (acknowledged does.count d) (subst (MayAct Enable) does.is may))
  counts_before Drops d n plain (inl on) may = enable_may d (enable_at (goes_offline d) (subst (MayAct Enable) on.1 may))
  counts_before Drops d n plain (inr off) may = subst (MayAct Enable) off.1 may
  counts_before (Takes z) d n plain does may = absurd plain
  counts_before (Gives z) d n plain does may = absurd plain
  counts_before Names d n plain does may = absurd plain

  may_before : (y : SessionStep) (x : Label A) (d n : Sessions) → IsPlain x → Does r x d n → MayAct (act_of y) n → MayAct (act_of y) d
  may_before Binds x d n plain does may = λ w e. tt
  may_before Counts x d n plain does may = counts_before x d n plain does may
  may_before Ends x d n plain does may = λ w e. tt

  enters_session_steps : (y : SessionStep) (d n : Sessions) → MayAct ReadEnabled d × (n ≡ knows d) → MayAct (act_of y) n → MayAct ReadEnabled (session_stepped y d) × (session_stepped y n ≡ knows (session_stepped y d))
  enters_session_steps Binds d n by may = (λ w same. subst (λ (s : Sessions). (s.online ≡ false) × (s.now.stage ≡ Counted)) (sym same) (by.0 (with_sessions d) refl), ap (session_stepped Binds) by.1)
  enters_session_steps Counts d n by may = absurd (counts_never d n by may)
    where
      counts_never : (d n : Sessions) → MayAct ReadEnabled d × (n ≡ knows d) → MayAct Enable n → ⊥
      counts_never d n by may = not_named (enable_at (knows d) (subst (MayAct Enable) by.1 may)).1
        where
          not_named : Known ≡ Named → ⊥
          not_named e = cc
  enters_session_steps Ends d n by may = (λ w same. subst (λ (s : Sessions). (s.online ≡ false) × (s.now.stage ≡ Counted)) (sym same) (by.0 (with_sessions d) refl), ap (session_stepped Ends) by.1)

  says_session_steps : (y : SessionStep) (z : Up) (d n : Sessions) → (d.online ≡ true) × (n ≡ put_up z d) → ((session_stepped y d).online ≡ true) × (session_stepped y n ≡ put_up z (session_stepped y d))
  says_session_steps Binds z d n by = (by.0, ap (session_stepped Binds) by.1)
  says_session_steps Counts z d n by = (by.0, ap (session_stepped Counts) by.1)
  says_session_steps Ends z d n by = (by.0, ap (session_stepped Ends) by.1)

  drops_session_steps : (y : SessionStep) (d n : Sessions) → Does r Drops d n → Does r Drops (session_stepped y d) (session_stepped y n)
  drops_session_steps Binds d n (inl on) = inl (on.0, ap (session_stepped Binds) on.1)
  drops_session_steps Counts d n (inl on) = inl (on.0, ap (session_stepped Counts) on.1)
  drops_session_steps Ends d n (inl on) = inl (on.0, ap (session_stepped Ends) on.1)
  drops_session_steps Binds d n (inr off) = inr (off.0, ap (session_stepped Binds) off.1)
  drops_session_steps Counts d n (inr off) = inr (off.0, ap (session_stepped Counts) off.1)
  drops_session_steps Ends d n (inr off) = inr (off.0, ap (session_stepped Ends) off.1)

  does_session_steps : (y : SessionStep) (x : Label A) (d n : Sessions) → IsPlain x → Does r x d n → MayAct (act_of y) n → Does r x (session_stepped y d) (session_stepped y n)
  does_session_steps y (Says z) d n plain does may = says_session_steps y (r.up z) d n does
  does_session_steps y (Reads z) d n plain does may = read_session_steps y (r.down z) d n does
  does_session_steps y Enters d n plain does may = enters_session_steps y d n does may
  does_session_steps y Learns d n plain does may = learnt_session_steps y d n does
  does_session_steps y Drops d n plain does may = drops_session_steps y d n does
  does_session_steps y (Takes z) d n plain does may = absurd plain
  does_session_steps y (Gives z) d n plain does may = absurd plain
  does_session_steps y Names d n plain does may = absurd plain

  -- ---- many

  -- the drift, and then the label
  one_first : (ys : List SessionStep) (x : Label A) (d n last : Sessions) → IsPlain x → Does r x d n → SessionSteps ys n last → (there : Sessions) × SessionSteps ys d there × Does r x there last
  one_first [] x d n last plain does same = (d, refl, subst (Does r x d) (sym same) does)
  one_first (y ∷ ys) x d n last plain does by =
      let more = one_first ys x (session_stepped y d) (session_stepped y n) last plain (does_session_steps y x d n plain does by.0) by.1 in
      (more.0, (may_before y x d n plain does by.0, more.1), more.2)

  pub session_steps_first : (ds : List (Label A)) (d last : Sessions) → AllByRecursion IsPlain ds → DoesInterleaved r ds d last → (xs : List SessionStep) × (there : Sessions) × SessionSteps xs d there × DoesAll r ds there last
  session_steps_first [] d last plain interleaved = (interleaved.0, last, interleaved.1, refl)
  session_steps_first (x ∷ ds) d last plain interleaved =
      let next = interleaved.3.0 in
      let rest = session_steps_first ds next last plain.1 interleaved.3.2 in
      let one = one_first rest.0 x interleaved.1 next rest.1 plain.0 interleaved.3.1 rest.2 in
      (interleaved.0 ++ rest.0, one.0, session_steps_both interleaved.0 rest.0 d interleaved.1 one.0 interleaved.2 one.1, (rest.1, one.2, rest.3))
