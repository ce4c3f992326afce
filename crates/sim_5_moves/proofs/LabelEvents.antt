-- What the server gives in the links is what the events of the applications need.
use Rattle.std.proofs.Common.{◌≡◌, ◌≢◌, ◌⊎◌, ℕ, Bool, true, false, List, [], ◌∷◌, ◌++◌, map, refl, sym, ap, subst, ◌∙◌, inl, inr}
use Rattle.sim_3_items.specs.Labels.{Takes, gives_all}
use Rattle.sim_2_events.specs.Lists.{IsCounting, Stanzas}
use Rattle.sim_5_devices.proofs.Given.{given_at_once, taken_at_once, none_put}
use Rattle.sim_5_devices.proofs.Sorted.{enable_at, with_sessions}
use Rattle.sim_5_devices.specs.Labels.{Binds, Counts, DoesInterleaved, Ends, IsGivenAtOnce, IsTakenAtOnce, SessionStep, SessionSteps, session_stepped}
use Rattle.sim_1_applications.specs.Devices.{Device, Row, Sessions, Take}
use Rattle.sim_1_applications.specs.Devices.Row.{NoRow, Present, Unread}
use Rattle.sim_1_applications.specs.Devices.Stage.{Named}
use Rattle.sim_1_applications.specs.Events.{end_row, hears_of, is_present, put_down, told}
use Rattle.sim_1_applications.specs.Stanzas.{Down}
use Rattle.sim_1_applications.specs.Stanzas.Down.{Live}
use Rattle.sim_1_applications.specs.Stanzas.Up.{Message}
use Rattle.sim_5_moves.proofs.ReplyEvents.{session_steps_ended}
use Rattle.sim_5_moves.specs.Handled.{IsHeardOf, IsRepliedTo, IsTakenOf, IsToldOf}
use Rattle.std.proofs.lemmas.Bool.{and_parts}

-- ---- who hears behind drifts

-- a device without a session of its present epoch gets none by drifting
stays_away : (xs : List SessionStep) (d there : Sessions) → SessionSteps xs d there → d.row ≢ Present → there.row ≢ Present
stays_away [] d there same away = λ e. away (ap (λ (s : Sessions). s.row) (sym same) ∙ e)
stays_away (Binds ∷ xs) d there by away = stays_away xs (session_stepped Binds d) there by.1 (λ e. cc)
stays_away (Counts ∷ xs) d there by away = absurd (away (enable_at d by.0).0)
stays_away (Ends ∷ xs) d there by away = stays_away xs (session_stepped Ends d) there by.1 (λ e. cc)

hears_on : (t : Take) (j : ℕ) (e : Device) (xs : List SessionStep) (d there : Sessions) → SessionSteps xs d there → there.row ≡ Present → hears_of t j (record e { sessions = there }) ≡ hears_of t j (record e { sessions = d })
hears_on t j e [] d there same here = ap (λ s. hears_of t j (record e { sessions = s })) same
hears_on t j e (Binds ∷ xs) d there by here = absurd (stays_away xs (session_stepped Binds d) there by.1 (λ same. cc) here)
hears_on t j e (Counts ∷ xs) d there by here = hears_on t j e xs (session_stepped Counts d) there by.1 here
hears_on t j e (Ends ∷ xs) d there by here = absurd (stays_away xs (session_stepped Ends d) there by.1 (λ same. cc) here)

heard_present : (t : Take) (j : ℕ) (e : Device) → hears_of t j e ≡ true → e.sessions.row ≡ Present
heard_present t j e is = go e.sessions.row refl ((and_parts (is_present e.sessions.row) _ is).0)
  where
    go : (row : Row) → e.sessions.row ≡ row → is_present row ≡ true → row ≡ Present
    go NoRow same so = absurd (let no_way : ⊥ = cc in no_way)
    go Unread same so = absurd (let no_way : ⊥ = cc in no_way)
    go Present same so = refl

module _ {A : Type 0} (r : Stanzas A) where
  -- ---- a device beside

  module _ (t : Take) (number j : ℕ) (e : Device) (last : Sessions) where
    silent : (xs : List SessionStep) → SessionSteps xs e.sessions last → hears_of t j e ≡ false → IsToldOf t number j e last
    silent xs by hears = record {
      before = [];
      there = e.sessions;
      heard = false;
      full = false;
      following = xs;
      session_steps = refl;
      hears = hears;
      rests = subst (λ s. SessionSteps xs s last) (sym (none_put e.sessions)) by;
    }

    overfull : (xs : List SessionStep) → SessionSteps xs e.sessions last → hears_of t j e ≡ true → e.sessions.now.stage ≢ Named → last.row ≡ NoRow → IsToldOf t number j e last
    overfull xs by hears counted none = record {
      before = [];
      there = e.sessions;
      heard = true;
      full = true;
      following = xs;
      session_steps = refl;
      hears = hears;
      rests = subst (λ s. SessionSteps xs (end_row s) last) (sym (none_put e.sessions)) (session_steps_ended xs e.sessions last (heard_present t j e hears) counted none by);
    }

    told_once : hears_of t j e ≡ true → IsGivenAtOnce (Live number ∷ []) e.sessions last → IsToldOf t number j e last
    told_once hears once = record {
      before = once.before;
      there = once.there;
      heard = true;
      full = false;
      following = once.following;
      session_steps = once.session_steps;
      hears = hears_on t j e once.before e.sessions once.there once.session_steps once.counting.0 ∙ hears;
      rests = once.rests;
    }

    pub beside : (zs : List A) → DoesInterleaved r (gives_all zs) e.sessions last → (hears_of t j e ≡ true → e.sessions.now.stage ≢ Named) → IsHeardOf (hears_of t j e) number (map r.down zs) last → IsToldOf t number j e last
    beside zs interleaved counted is = by_hearing (hears_of t j e) refl is
      where
        by_given : (ys : List A) → DoesInterleaved r (gives_all ys) e.sessions last → hears_of t j e ≡ true → (map r.down ys ≡ Live number ∷ []) ⊎ ((map r.down ys ≡ []) × (last.row ≡ NoRow)) → IsToldOf t number j e last
        by_given [] does hears (inl same) = absurd (let no_way : ⊥ = cc in no_way)
        by_given [] does hears (inr full) = overfull does.0 does.1 hears (counted hears) full.1
        by_given (y ∷ ys) does hears (inl same) = told_once hears (subst (λ l. IsGivenAtOnce l e.sessions last) same (given_at_once r y ys e.sessions last does))
        by_given (y ∷ ys) does hears (inr full) = absurd (let none = full.0 in let no_way : ⊥ = cc in no_way)

        by_none : (ys : List A) → DoesInterleaved r (gives_all ys) e.sessions last → hears_of t j e ≡ false → map r.down ys ≡ [] → IsToldOf t number j e last
        by_none [] does hears same = silent does.0 does.1 hears
        by_none (y ∷ ys) does hears same = absurd (let no_way : ⊥ = cc in no_way)

        by_hearing : (b : Bool) → hears_of t j e ≡ b → IsHeardOf b number (map r.down zs) last → IsToldOf t number j e last
        by_hearing true hears given = by_given zs interleaved hears given
        by_hearing false hears given = by_none zs interleaved hears given

  -- ---- the device itself

  module _ (t : Take) (number i : ℕ) (d : Device) (last : Sessions) where
    own_once : (given : List Down) → IsTakenAtOnce (Message t.said) given d.sessions last → IsHeardOf (hears_of t i d) number given last → IsTakenOf t number i d last
    own_once given once is = by_hearing (hears_of t i d) refl is
      where
        counts : IsCounting once.next
        counts = (let may = once.taken.may 0 [] (with_sessions once.there) refl in subst IsCounting (sym once.taken.is) (may.0, may.1))

        present : once.there.row ≡ Present
        present = (once.taken.may 0 [] (with_sessions once.there) refl).0

        hears_then : hears_of t i (record d { sessions = once.next }) ≡ hears_of t i d
        hears_then = ap (λ s. hears_of t i (record d { sessions = s })) once.taken.is ∙ hears_on t i d once.before d.sessions once.there once.session_steps present

        taken_as : (heard full : Bool) → hears_of t i d ≡ heard → SessionSteps once.following (told heard full number once.next) last → IsTakenOf t number i d last
        taken_as heard full hears rests = record {
          before = once.before;
          there = once.there;
          next = once.next;
          heard = heard;
          full = full;
          following = once.following;
          session_steps = once.session_steps;
          taken = once.taken;
          hears = hears_then ∙ hears;
          rests = rests;
        }

        by_hearing : (b : Bool) → hears_of t i d ≡ b → IsHeardOf b number given last → IsTakenOf t number i d last
        by_hearing true hears (inl same) = taken_as true false hears (subst (λ l. SessionSteps once.following (put_down l once.next) last) same once.rests)
        by_hearing true hears (inr full) =
            taken_as true true hears
            (session_steps_ended once.following (put_down [] once.next) last counts.0 counts.1 full.1 (subst (λ l. SessionSteps once.following (put_down l once.next) last) full.0 once.rests))
        by_hearing false hears none = taken_as false false hears (subst (λ l. SessionSteps once.following (put_down l once.next) last) none once.rests)

    pub own_taken : (z : A) (zs : List A) → r.up z ≡ Message t.said → DoesInterleaved r (Takes z ∷ gives_all zs) d.sessions last → IsHeardOf (hears_of t i d) number (map r.down zs) last → IsTakenOf t number i d last
    own_taken z zs same interleaved is = own_once (map r.down zs) (subst (λ y. IsTakenAtOnce y (map r.down zs) d.sessions last) same (taken_at_once r z zs d.sessions last interleaved)) is

  pub own_replied : (z : A) (zs : List A) (reply : List Down) (d last : Sessions) → DoesInterleaved r (Takes z ∷ gives_all zs) d last
      → (map r.down zs ≡ reply) ⊎ ((missing : Down) × (more : List Down) × (reply ≡ map r.down zs ++ missing ∷ more) × (last.row ≡ NoRow)) → IsRepliedTo reply (r.up z) d last
  own_replied z zs reply d last interleaved whole = record { given = map r.down zs; once = taken_at_once r z zs d last interleaved; whole = whole }
