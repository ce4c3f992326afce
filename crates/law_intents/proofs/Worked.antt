-- Intents worked out: one whose first try was lost with its session, and that was then tried again.
use Rattle.std.proofs.Common.{◌≡◌, ℕ, ◌==◌, Bool, true, false, List, [], ◌∷◌, ◌++◌, Option, Some, None, length, map, refl, sym, ap, subst, arith}
use Rattle.std.specs.List.{slice_get}
use Rattle.std.specs.Option.{option_map_or}
use Rattle.std.specs.Prelude.{◌&&◌, nat_lt, is_some}
use Rattle.std.proofs.lemmas.Bool.{eqb-true, ltb-true, and_parts}
use Rattle.sim_1_applications.specs.Devices.{Device, epoch_of, last_of, log_of, new_device}
use Rattle.sim_1_applications.specs.Events.{AppEvent, Moves, after}
use Rattle.sim_1_applications.specs.Events.AppEvent.{At}
use Rattle.sim_1_applications.specs.Events.Act.{Bind, ReadBound, Enable, ReadEnabled, End, Drop, Say, CatchUp, ServerHandles, ClientHandles}
use Rattle.sim_1_applications.proofs.Legal.{happens, runs}
use Rattle.law_intents.specs.Intents.{Happens, IntentEvent, IntentMoves, IntentReached, IntentReaches, IntentWorld, IsNext, Looks, MaySubmit, Tries, Try, intent_beginning, is_absent, is_logged, observed}

-- ---- a test of what may happen

abbrev next_world : IntentEvent → IntentWorld → IntentWorld
next_world (Happens event) s = record s { world = after s.world event }
next_world Looks s = record s { notes = option_map_or (λ d. observed (epoch_of d.sessions) d.reading.tiles s.notes) (slice_get s.world.devices 0) s.notes }
next_world (Tries t) s = record s { tries = t ∷ s.tries }

abbrev may_submit : IntentWorld → Device → List Try → Bool
may_submit s d [] = true
may_submit s d (t ∷ tries) = is_absent 0 t s.notes s.world.takes d

abbrev is_next : Device → Try → Bool
is_next d t = t.epoch == epoch_of d.sessions && (nat_lt d.sessions.n t.n && t.logged == length (log_of d.reading))

abbrev can : IntentEvent → IntentWorld → Bool
can (Happens event) s = happens event s.world
can Looks s = is_some (slice_get s.world.devices 0)
can (Tries t) s = option_map_or (λ d. may_submit s d s.tries && is_next d t) (slice_get s.world.devices 0) false

abbrev last_world : List IntentEvent → IntentWorld → IntentWorld
last_world [] s = s
last_world (event ∷ events) s = last_world events (next_world event s)

abbrev all_can : List IntentEvent → IntentWorld → Bool
all_can [] s = true
all_can (event ∷ events) s = can event s && all_can events (next_world event s)

submits : (s : IntentWorld) (d : Device) (tries : List Try) → may_submit s d tries ≡ true → MaySubmit 0 s.notes s.world d tries
submits s d [] is = tt
submits s d (t ∷ tries) is = is

is_next_of : (d : Device) (t : Try) → is_next d t ≡ true → IsNext d t
is_next_of d t is =
    let rest = (and_parts (t.epoch == epoch_of d.sessions) (nat_lt d.sessions.n t.n && t.logged == length (log_of d.reading)) is).1 in
    record {
      epoch = eqb-true t.epoch (epoch_of d.sessions) ((and_parts (t.epoch == epoch_of d.sessions) (nat_lt d.sessions.n t.n && t.logged == length (log_of d.reading)) is).0);
      n = ltb-true d.sessions.n t.n ((and_parts (nat_lt d.sessions.n t.n) (t.logged == length (log_of d.reading)) rest).0);
      logged = eqb-true t.logged (length (log_of d.reading)) ((and_parts (nat_lt d.sessions.n t.n) (t.logged == length (log_of d.reading)) rest).1);
    }

moves_on : (event : IntentEvent) (s : IntentWorld) → can event s ≡ true → IntentMoves 0 event s (next_world event s)
moves_on (Happens event) s is =
    let run = runs (event ∷ []) s.world (ap (λ b. b && true) is) in
    (after s.world event, subst (λ w. Moves event s.world w) (sym run.2) run.1, refl)
moves_on Looks s is = looks (slice_get s.world.devices 0) refl is
  where
    looks : (o : Option Device) → slice_get s.world.devices 0 ≡ o → is_some o ≡ true → IntentMoves 0 Looks s (next_world Looks s)
    looks None at is = absurd (let bad : ⊥ = cc in bad)
    looks (Some d) at is = (d, at, ap (λ o. record s { notes = option_map_or (λ e. observed (epoch_of e.sessions) e.reading.tiles s.notes) o s.notes }) at)
moves_on (Tries t) s is = tries (slice_get s.world.devices 0) refl is
  where
    tries : (o : Option Device) → slice_get s.world.devices 0 ≡ o → option_map_or (λ d. may_submit s d s.tries && is_next d t) o false ≡ true → IntentMoves 0 (Tries t) s (next_world (Tries t) s)
    tries None at is = absurd (let bad : ⊥ = cc in bad)
    tries (Some d) at is = (d, at, submits s d s.tries ((and_parts (may_submit s d s.tries) (is_next d t) is).0), is_next_of d t ((and_parts (may_submit s d s.tries) (is_next d t) is).1), refl)

all_on : (events : List IntentEvent) (s : IntentWorld) → all_can events s ≡ true → IntentReaches 0 events s (last_world events s)
all_on [] s is = refl
all_on (event ∷ events) s is = (
  next_world event s,
  moves_on event s ((and_parts (can event s) (all_can events (next_world event s)) is).0),
  all_on events (next_world event s) ((and_parts (can event s) (all_can events (next_world event s)) is).1),
)

-- ---- two devices, of ann and bob; the first one's user has the intent

abbrev ann : List ℕ
ann = 97 ∷ []

abbrev bob : List ℕ
bob = 98 ∷ []

abbrev start : IntentWorld
start = intent_beginning 1000 (ann ∷ bob ∷ []) (ann ∷ bob ∷ [])

abbrev reached : (events : List IntentEvent) → all_can events start ≡ true → IntentReached 0 (last_world events start)
reached events is = record { keep = 1000; some = omega arith; accounts = ann ∷ bob ∷ []; homes = ann ∷ bob ∷ []; events = events; reaches = all_on events start is }

abbrev device_of : IntentWorld → Device
device_of s = option_map_or (λ d. d) (slice_get s.world.devices 0) (new_device ann)

there : (s : IntentWorld) → is_some (slice_get s.world.devices 0) ≡ true → slice_get s.world.devices 0 ≡ Some (device_of s)
there s is = of (slice_get s.world.devices 0) is
  where
    of : (o : Option Device) → is_some o ≡ true → o ≡ Some (option_map_or (λ d. d) o (new_device ann))
    of None is = absurd (let bad : ⊥ = cc in bad)
    of (Some d) is = refl

abbrev session : List AppEvent
session = At 0 Enable ∷ At 0 ReadEnabled ∷ At 0 (ServerHandles 100 []) ∷ At 0 (ServerHandles 100 []) ∷ At 0 ClientHandles ∷ []

abbrev bound : List IntentEvent
bound = Happens (At 0 Bind) ∷ Happens (At 0 (ReadBound true)) ∷ Looks ∷ []

abbrev say : IntentEvent
say = Happens (At 0 (Say bob [] false))

-- the message of the first try isn't handled before its session ends; a page behind the next one is empty and complete
abbrev lost : List IntentEvent
lost =
    bound ++ map Happens session ++ Tries (record { epoch = 1; n = 1; logged = 0 }) ∷ say ∷ Happens (At 0 End) ∷ Happens (At 0 Drop) ∷ []
    ++ bound ++ map Happens (session ++ At 0 (CatchUp 10) ∷ At 0 (ServerHandles 100 []) ∷ At 0 ClientHandles ∷ []) ++ Looks ∷ []

-- the second one is taken, and a page brings it
abbrev again : List IntentEvent
again =
    lost ++ Tries (record { epoch = 2; n = 1; logged = 0 }) ∷ say ∷ Happens (At 0 (ServerHandles 100 [])) ∷ []
    ++ map Happens (At 0 (CatchUp 10) ∷ At 0 (ServerHandles 100 []) ∷ At 0 ClientHandles ∷ At 0 ClientHandles ∷ []) ++ Looks ∷ []

lost_happens : all_can lost start ≡ true
unfolding last_of
lost_happens = refl

lost_device : is_some (slice_get (last_world lost start).world.devices 0) ≡ true
unfolding last_of
lost_device = refl

lost_tries : (last_world lost start).tries ≡ record { epoch = 1; n = 1; logged = 0 } ∷ []
unfolding last_of
lost_tries = refl

lost_absent : is_absent 0 (record { epoch = 1; n = 1; logged = 0 }) (last_world lost start).notes (last_world lost start).world.takes (device_of (last_world lost start)) ≡ true
unfolding last_of
lost_absent = refl

again_happens : all_can again start ≡ true
unfolding last_of
again_happens = refl

again_device : is_some (slice_get (last_world again start).world.devices 0) ≡ true
unfolding last_of
again_device = refl

again_tries : (last_world again start).tries ≡ record { epoch = 2; n = 1; logged = 0 } ∷ record { epoch = 1; n = 1; logged = 0 } ∷ []
unfolding last_of
again_tries = refl

again_logged : is_logged 0 (record { epoch = 2; n = 1; logged = 0 }) (last_world again start).world.takes (device_of (last_world again start)) ≡ true
unfolding last_of
again_logged = refl

pub an_absent_one : (s : IntentWorld) × IntentReached 0 s × (d : Device) × (slice_get s.world.devices 0 ≡ Some d)
    × (t : Try) × (s.tries ≡ t ∷ []) × (is_absent 0 t s.notes s.world.takes d ≡ true)
an_absent_one = (
  last_world lost start,
  reached lost lost_happens,
  device_of (last_world lost start),
  there (last_world lost start) lost_device,
  record { epoch = 1; n = 1; logged = 0 },
  lost_tries,
  lost_absent,
)

pub a_logged_one : (s : IntentWorld) × IntentReached 0 s × (d : Device) × (slice_get s.world.devices 0 ≡ Some d)
    × (t : Try) × (u : Try) × (s.tries ≡ u ∷ t ∷ []) × (is_logged 0 u s.world.takes d ≡ true)
a_logged_one = (
  last_world again start,
  reached again again_happens,
  device_of (last_world again start),
  there (last_world again start) again_device,
  record { epoch = 1; n = 1; logged = 0 },
  record { epoch = 2; n = 1; logged = 0 },
  again_tries,
  again_logged,
)
