-- Along all events_are.
use Rattle.std.proofs.Common.{◌≡◌, ℕ, ◌-◌, ◌≤◌, true, false, List, [], ◌∷◌, Some, length, refl, sym, ap, ◌∙◌, subst, arith}
use Rattle.std.specs.List.{AllByRecursion, filter, slice_get}
use Rattle.sim_1_applications.specs.Devices.{Device, Take, AppWorld, epoch_of, last_of, log_of, new_device}
use Rattle.sim_1_applications.specs.Events as events
use Rattle.sim_1_applications.specs.Kept.{Read, Taken}
use Rattle.sim_1_applications.proofs.Fresh.{seen_now}
use Rattle.sim_1_applications.proofs.Lists.{all_weaker}
use Rattle.sim_1_applications.specs.Laws.{IsOnceInOrder}
use Rattle.sim_1_applications.proofs.Runs.{one_of, taken_beginning, taken_moves}
use Rattle.sim_1_applications.proofs.TileRuns.{read_beginning, read_moves}
use Rattle.law_intents.specs.Intents.{Happens, IntentEvent, IntentMoves, IntentReached, IntentReaches, IntentWorld, IsNext, Looks, MaySubmit, Notes, Tries, Try, intent_beginning, is_absent, is_acknowledged, is_logged, is_taken, is_try, nothing_seen, observed, taken_of}
use Rattle.law_intents.proofs.Absent.{Tried}
use Rattle.law_intents.proofs.Counts.{acknowledged_is, logged_is, none_of_none, once_of_try, some_of_any, taken_of_newest}
use Rattle.law_intents.proofs.Nexts.{Prev, prev_of, some_is}
use Rattle.law_intents.proofs.Since.{since_now}
use Rattle.law_intents.proofs.Submitting.{Gone, absent_is_gone, gone_next, tried_next, tried_now}
use Rattle.law_intents.proofs.Watching.{Watched, watched_looks, watched_moves}

-- the newest try, and those before it
abbrev OfTries : ℕ → AppWorld → Device → List Try → Type 0
OfTries i w d [] = Unit {0}
OfTries i w d (t ∷ tries) = Tried i t d.account w.takes (log_of d.reading) × AllByRecursion (λ u. Gone i u w.takes (epoch_of d.sessions)) tries

record OfDevice (i : ℕ) (w : AppWorld) (o : Notes) (tries : List Try) (d : Device) : Type 0 where
  watched : Watched i w o d
  tries_are : OfTries i w d tries

record IsKept (i : ℕ) (s : IntentWorld) : Type 0 where
  taken : Taken s.world
  read : Read s.world
  each : (d : Device) → slice_get s.world.devices i ≡ Some d → OfDevice i s.world s.notes s.tries d

all_gone : (i : ℕ) (w next : AppWorld) (x : Device) (prev : Prev i w next x) (tries : List Try) → AllByRecursion (λ u. Gone i u w.takes (epoch_of prev.d.sessions)) tries →
    AllByRecursion (λ u. Gone i u next.takes (epoch_of x.sessions)) tries
all_gone i w next x prev tries gone = all_weaker (λ u. Gone i u w.takes (epoch_of prev.d.sessions)) (λ u. Gone i u next.takes (epoch_of x.sessions)) tries (λ u one. gone_next i u w next x prev one) gone

tries_next : (i : ℕ) (w next : AppWorld) (x : Device) (prev : Prev i w next x) → Read w → Read next → slice_get next.devices i ≡ Some x → (tries : List Try) → OfTries i w prev.d tries → OfTries i next x tries
tries_next i w next x prev read more at [] of = tt
tries_next i w next x prev read more at (t ∷ tries) of = (tried_next i t w next x prev read more at of.0, all_gone i w next x prev tries of.1)

happens : (i : ℕ) (s : IntentWorld) (event : events.AppEvent) (w : AppWorld) → events.Moves event s.world w → IsKept i s → IsKept i (record s { world = w })
happens i s event w is kept =
    let taken = taken_moves event s.world w is kept.taken in
    let read = read_moves event s.world w is kept.taken kept.read in
    record {
      taken = taken;
      read = read;
      each = λ x at.
          let prev = prev_of event s.world w i x is kept.taken kept.read at in
          let old = kept.each prev.d prev.at in
          record {
            watched = watched_moves i s.notes event s.world w x is read at prev old.watched;
            tries_are = tries_next i s.world w x prev kept.read read at s.tries old.tries_are;
          };
    }

looks : (i : ℕ) (s : IntentWorld) (d : Device) → slice_get s.world.devices i ≡ Some d → IsKept i s → IsKept i (record s { notes = observed (epoch_of d.sessions) d.reading.tiles s.notes })
looks i s d at kept = record {
  taken = kept.taken;
  read = kept.read;
  each = λ x here.
      let same : d ≡ x = some_is d x (sym at ∙ here) in
      let old = kept.each d at in
      subst (OfDevice i s.world (observed (epoch_of d.sessions) d.reading.tiles s.notes) s.tries) same
      (record { watched = watched_looks i s.notes s.world d kept.read at old.watched; tries_are = old.tries_are });
}

-- all that were tried are gone
gone_of : (i : ℕ) (s : IntentWorld) (d : Device) → slice_get s.world.devices i ≡ Some d → IsKept i s → (tries : List Try) → OfTries i s.world d tries → MaySubmit i s.notes s.world d tries →
    AllByRecursion (λ u. Gone i u s.world.takes (epoch_of d.sessions)) tries
gone_of i s d at kept [] of may = tt
gone_of i s d at kept (t ∷ tries) of may = (absent_is_gone i t s.notes s.world d kept.taken kept.read at (kept.each d at).watched of.0 may, of.1)

plans : (i : ℕ) (s : IntentWorld) (t : Try) (d : Device) → slice_get s.world.devices i ≡ Some d → MaySubmit i s.notes s.world d s.tries → IsNext d t → IsKept i s → IsKept i (record s { tries = t ∷ s.tries })
plans i s t d at may is kept = record {
  taken = kept.taken;
  read = kept.read;
  each = λ x here.
      let same : d ≡ x = some_is d x (sym at ∙ here) in
      let old = kept.each d at in
      subst (OfDevice i s.world s.notes (t ∷ s.tries)) same
      (record { watched = old.watched; tries_are = (tried_now i s.world d t at kept.taken kept.read is, gone_of i s d at kept s.tries old.tries_are may) });
}

does : (i : ℕ) (event : IntentEvent) (s next : IntentWorld) → IntentMoves i event s next → IsKept i s → IsKept i next
does i (Happens event) s next is kept = subst (IsKept i) (sym is.2) (happens i s event is.0 is.1 kept)
does i Looks s next is kept = subst (IsKept i) (sym is.2) (looks i s is.0 is.1 kept)
does i (Tries t) s next is kept = subst (IsKept i) (sym is.4) (plans i s t is.0 is.1 is.2 is.3 kept)

none_yet : (account : List ℕ) → last_of [] account ≤ 0
unfolding last_of
none_yet account = omega arith

starts : (i keep : ℕ) (accounts homes : List (List ℕ)) → 1 ≤ keep → IsKept i (intent_beginning keep accounts homes)
starts i keep accounts homes some = record {
  taken = taken_beginning keep accounts homes;
  read = read_beginning keep some accounts homes;
  each = λ d at. one_of (λ j e. OfDevice i (events.beginning keep accounts homes) nothing_seen [] e) homes i d (λ account. new account) at;
}
  where
    new : (account : List ℕ) → OfDevice i (events.beginning keep accounts homes) nothing_seen [] (new_device account)
    new account = record {
      watched = record {
        present = record { l = last_of [] account; first = 0; since = since_now i 0 account []; seen = seen_now (last_of [] account) (new_device account).reading; few = omega arith };
        noted = record { l = last_of [] account; first = 0; since = since_now i 0 account []; seen = seen_now (last_of [] account) (new_device account).reading; few = omega arith };
        sure = record { l = last_of [] account; since = since_now i 0 account []; read = none_yet account };
        low = omega arith;
        rises = omega arith;
      };
      tries_are = tt;
    }

along : (i : ℕ) (all : List IntentEvent) (s last : IntentWorld) → IntentReaches i all s last → IsKept i s → IsKept i last
along i [] s last is kept = subst (IsKept i) (sym is) kept
along i (event ∷ all) s last is kept = along i all is.0 last is.2 (does i event s is.0 is.1 kept)

kept_of : (i : ℕ) (s : IntentWorld) → IntentReached i s → IsKept i s
kept_of i s reached =
    along i reached.events (intent_beginning reached.keep reached.accounts reached.homes) s reached.reaches (starts i reached.keep reached.accounts reached.homes reached.some)

-- the events of the applications among them
reaches_world : (i : ℕ) (all : List IntentEvent) (s last : IntentWorld) → IntentReaches i all s last → (es : List events.AppEvent) × events.Reaches es s.world last.world
reaches_world i [] s last is = ([], ap (λ (v : IntentWorld). v.world) is)
reaches_world i (Happens event ∷ all) s last is =
    let rest = reaches_world i all is.0 last is.2 in
    let world = ap (λ (v : IntentWorld). v.world) is.1.2 in
    (event ∷ rest.0, (is.0.world, subst (events.Moves event s.world) (sym world) is.1.1, rest.1))
reaches_world i (Looks ∷ all) s last is =
    let rest = reaches_world i all is.0 last is.2 in
    (rest.0, subst (λ w. events.Reaches rest.0 w last.world) (ap (λ (v : IntentWorld). v.world) is.1.2) rest.1)
reaches_world i (Tries t ∷ all) s last is =
    let rest = reaches_world i all is.0 last is.2 in
    (rest.0, subst (λ w. events.Reaches rest.0 w last.world) (ap (λ (v : IntentWorld). v.world) is.1.4) rest.1)

pub reached_world : (i : ℕ) (s : IntentWorld) → IntentReached i s → events.Reached s.world
reached_world i s reached =
    let some = reaches_world i reached.events (intent_beginning reached.keep reached.accounts reached.homes) s reached.reaches in
    record { keep = reached.keep; some = reached.some; accounts = reached.accounts; homes = reached.homes; events = some.0; reaches = some.1 }

-- the takes of a device rise
abbrev pub Rises : Type 0
Rises = (w : AppWorld) → events.Reached w → (i : ℕ) (d : Device) → slice_get w.devices i ≡ Some d → IsOnceInOrder w.takes i

module _ (rises : Rises) (i : ℕ) (s : IntentWorld) (reached : IntentReached i s) (d : Device) (at : slice_get s.world.devices i ≡ Some d) where
  kept : IsKept i s
  kept = kept_of i s reached

  module _ (t : Try) (tries : List Try) (are : s.tries ≡ t ∷ tries) where
    of : OfTries i s.world d (t ∷ tries)
    of = subst (OfTries i s.world d) are (kept.each d at).tries_are

    -- of all tries none but the newest was taken
    pub newest_is : AllByRecursion (λ u. is_taken i u s.world.takes ≡ false) tries
    newest_is = all_weaker (λ u. Gone i u s.world.takes (epoch_of d.sessions)) (λ u. is_taken i u s.world.takes ≡ false) tries (λ u gone. gone.none) of.1

    taken_are : taken_of i s.tries s.world.takes ≡ filter (is_try i t) s.world.takes
    taken_are = ap (λ ts. taken_of i ts s.world.takes) are ∙ taken_of_newest i t tries s.world.takes newest_is

    pub absent_is : is_absent i t s.notes s.world.takes d ≡ true → taken_of i s.tries s.world.takes ≡ []
    absent_is absent = taken_are ∙ none_of_none (is_try i t) s.world.takes (absent_is_gone i t s.notes s.world d kept.taken kept.read at (kept.each d at).watched of.0 absent).none

  pub once_is : length (taken_of i s.tries s.world.takes) ≤ 1
  once_is = by_tries s.tries refl
    where
      by_tries : (tries : List Try) → s.tries ≡ tries → length (taken_of i s.tries s.world.takes) ≤ 1
      by_tries [] are = none (ap (λ ts. length (taken_of i ts s.world.takes)) are ∙ ap length (nothing_of s.world.takes))
        where
          none : {a : ℕ} → a ≡ 0 → a ≤ 1
          none is = omega arith

          nothing_of : (takes : List Take) → taken_of i [] takes ≡ []
          nothing_of [] = refl
          nothing_of (x ∷ takes) = nothing_of takes
      by_tries (t ∷ tries) are = one_less (ap length (taken_are t tries are)) (once_of_try i t s.world.takes (rises s.world (reached_world i s reached) i d at).rise)
        where
          one_less : {a b : ℕ} → a ≡ b → b ≤ 1 → a ≤ 1
          one_less is low = omega arith

  module _ (t : Try) (tries : List Try) (are : s.tries ≡ t ∷ tries) where
    exactly : is_taken i t s.world.takes ≡ true → length (taken_of i s.tries s.world.takes) ≡ 1
    exactly taken =
        let some = some_of_any (is_try i t) s.world.takes taken in
        let same = ap length (taken_are t tries are) in
        let most = once_is in
        just (length (taken_of i s.tries s.world.takes)) (length (filter (is_try i t) s.world.takes)) same some most
      where
        just : (a b : ℕ) → a ≡ b → 1 ≤ b → a ≤ 1 → a ≡ 1
        just a b same some most = omega arith

    pub logged_once : is_logged i t s.world.takes d ≡ true → length (taken_of i s.tries s.world.takes) ≡ 1
    logged_once logged = exactly (logged_is i t s.world.takes d logged)

    pub acknowledged_once : is_acknowledged s.world.accounts t d ≡ true → length (taken_of i s.tries s.world.takes) ≡ 1
    acknowledged_once acknowledged = exactly (acknowledged_is s.world i d t kept.taken at acknowledged)
