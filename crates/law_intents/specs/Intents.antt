-- An observer of a device, and the tries of one intent: a message of its user that is submitted again where it surely
-- wasn't taken.
use Rattle.std.specs.Prelude.{◌≡◌, ℕ, zero, suc, ◌+◌, ◌-◌, ◌==◌, ◌<◌, ◌≤◌, nat_lt, Bool, true, false, ◌&&◌, ◌||◌, not, List, [], ◌∷◌, ◌++◌, Option, Some, None, is_some, drop, filter, length, slice_get, take, if◌then◌else◌}
use Rattle.std.specs.List.{list_any}
use Rattle.std.specs.Option.{option_map_or}
use Rattle.sim_1_applications.specs.Stanzas.{Submission, messages}
use Rattle.sim_1_applications.specs.Devices.{AppWorld, Device, Session, Sessions, Take, Tile, concerns, epoch_of, log_of, up_put}
use Rattle.sim_1_applications.specs.Events.{AppEvent, Moves, beginning, is_among}

-- what the observer notes: the epoch that it saw last, how many pages there were when it saw that one first, and an
-- epoch since whose beginning a complete page was asked for
pub record Notes : Type 0 where
  pub seen : ℕ
  pub mark : ℕ
  pub sure : ℕ

abbrev pub nothing_seen : Notes
nothing_seen = record { seen = 0; mark = 0; sure = 0 }

abbrev pub has_complete : List Tile → Bool
has_complete tiles = list_any (λ (t : Tile). is_some t.total) tiles

-- A complete page at the mark or after it was asked for in the epoch seen. Then the epoch is looked at.
abbrev pub observed : ℕ → List Tile → Notes → Notes
observed epoch tiles o = record {
  seen = epoch;
  mark = if epoch == o.seen then o.mark else length tiles;
  sure = if has_complete (drop o.mark tiles) then o.seen else o.sure;
}

-- a submission for an intent: its epoch and number, and how long the log was before it
pub record Try : Type 0 where
  pub epoch : ℕ
  pub n : ℕ
  pub logged : ℕ

-- it is a submission that the device hasn't made yet
pub record IsNext (d : Device) (t : Try) : Type 0 where
  pub epoch : t.epoch ≡ epoch_of d.sessions
  pub n : d.sessions.n < t.n
  pub logged : t.logged ≡ length (log_of d.reading)

-- at some index of at least so many, a number isn't one more than the one before it
abbrev pub has_hole_from : ℕ → ℕ → List ℕ → Bool
has_hole_from most before [] = false
has_hole_from zero before (n ∷ ns) = not (n == before + 1) || has_hole_from zero n ns
has_hole_from (suc most) before (n ∷ ns) = has_hole_from most n ns

abbrev pub has_hole : ℕ → List ℕ → Bool
has_hole most log = has_hole_from most 0 log

-- the message is the try's
abbrev pub is_submission : Try → Submission → Bool
is_submission t said = said.epoch == t.epoch && said.n == t.n

-- the take is of the try of the device at an index
abbrev pub is_try : ℕ → Try → Take → Bool
is_try i t taken = (taken.device == i) && is_submission t taken.said

abbrev pub is_taken : ℕ → Try → List Take → Bool
is_taken i t takes = list_any (is_try i t) takes

-- the takes of any of these tries
abbrev pub taken_of : ℕ → List Try → List Take → List Take
taken_of i tries takes = filter (λ taken. list_any (λ t. is_try i t taken) tries) takes

-- the entry under a number is of this try
abbrev pub is_entry : ℕ → Try → List ℕ → List Take → ℕ → Bool
is_entry i t account takes n = option_map_or (is_try i t) (slice_get (filter (concerns account) takes) (n - 1)) false

-- it is logged after what was logged before the try
abbrev pub is_logged : ℕ → Try → List Take → Device → Bool
is_logged i t takes d = list_any (is_entry i t d.account takes) (drop t.logged (log_of d.reading))

abbrev pub all_sessions : Sessions → List Session
all_sessions s = s.past ++ s.now ∷ []

-- it was sent to an account that exists, and the server said that it handled it
abbrev pub is_acknowledged : List (List ℕ) → Try → Device → Bool
is_acknowledged accounts t d =
    list_any (λ (s : Session). list_any (λ m. is_submission t m && is_among m.to accounts) (messages (take s.acked (up_put s)))) (all_sessions d.sessions)

-- a complete page is of a later epoch, the log has no hole after the try, and the try isn't logged
abbrev pub is_absent : ℕ → Try → Notes → List Take → Device → Bool
is_absent i t o takes d = nat_lt t.epoch o.sure && (not (has_hole t.logged (log_of d.reading)) && not (is_logged i t takes d))

-- the two applications, the observer of the device at an index, and the tries of one of its intents, the newest one
-- first
pub record IntentWorld : Type 0 where
  pub world : AppWorld
  pub notes : Notes
  pub tries : List Try

pub data IntentEvent : Type 0 where
  -- an event of the applications
  Happens : AppEvent → IntentEvent
  -- the observer looks
  Looks : IntentEvent
  -- the intent is going to be submitted: whatever events then are its submission
  Tries : Try → IntentEvent

-- it may be submitted: it has no try, or its last one is absent
abbrev pub MaySubmit : ℕ → Notes → AppWorld → Device → List Try → Type 0
MaySubmit i o w d [] = Unit {0}
MaySubmit i o w d (t ∷ tries) = is_absent i t o w.takes d ≡ true

abbrev pub IntentMoves : ℕ → IntentEvent → IntentWorld → IntentWorld → Type 0
IntentMoves i (Happens event) s next = (w : AppWorld) × Moves event s.world w × (next ≡ record s { world = w })
IntentMoves i Looks s next =
    (d : Device) × (slice_get s.world.devices i ≡ Some d) × (next ≡ record s { notes = observed (epoch_of d.sessions) d.reading.tiles s.notes })
IntentMoves i (Tries t) s next =
    (d : Device) × (slice_get s.world.devices i ≡ Some d) × MaySubmit i s.notes s.world d s.tries × IsNext d t
    × (next ≡ record s { tries = t ∷ s.tries })

abbrev pub IntentReaches : ℕ → List IntentEvent → IntentWorld → IntentWorld → Type 0
IntentReaches i [] s last = last ≡ s
IntentReaches i (event ∷ events) s last = (next : IntentWorld) × IntentMoves i event s next × IntentReaches i events next last

abbrev pub intent_beginning : ℕ → List (List ℕ) → List (List ℕ) → IntentWorld
intent_beginning keep accounts homes = record { world = beginning keep accounts homes; notes = nothing_seen; tries = [] }

-- some events lead to it, with an intent of the device at an index
pub record IntentReached (i : ℕ) (s : IntentWorld) : Type 0 where
  pub keep : ℕ
  pub some : 1 ≤ keep
  pub accounts : List (List ℕ)
  pub homes : List (List ℕ)
  pub events : List IntentEvent
  pub reaches : IntentReaches i events (intent_beginning keep accounts homes) s
