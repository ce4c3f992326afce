-- A resolve line by turns, of a device that is told by its index: a turn submits an intent, or asks for the archive, or does
-- nothing.
use Rattle.std.specs.Prelude.{ℕ, zero, suc, Bool, true, false, List, [], ◌∷◌, Option, Some, None, length, slice_get, if◌then◌else◌}
use Rattle.cl_handlers.specs.Clients.{ClientView}
use Rattle.cl_intents.specs.Intents.{IntentsView, next_of}
use Rattle.cl_intents.specs.declared.intents.Intent.{Intent as OneIntent}
use Rattle.cl_intents.specs.declared.intents.Next.{Next}
use Rattle.cl_intents.specs.declared.intents.Next.TheVariants as next
use Rattle.cl_intents.specs.declared.intents.Try.{Try}
use Rattle.cmd_network.specs.Devices.{DeviceState}
use Rattle.cmd_world.specs.Moves.{CatchUp, Say, moved}
use Rattle.sm_outbox.specs.Submissions.{all_said}
use Rattle.sm_outbox.specs.declared.said.Said.{Said}
use Rattle.cmd_resolving.specs.Expansion.{Asked, Submitted, Watching, begun, count_at, intent_in, is_try, looked_at, next_at, noted_try, try_at}
use Rattle.cmd_deciding.specs.declared.submitting.Before.{Before}

-- ---- what is new of a client's submissions

abbrev pub before_of : DeviceState → Before
before_of d = record { said = length (all_said d.client.client.said); logged = length d.client.client.log.entries }

abbrev pub try_of_said : ℕ → Option Said → Option Try
try_of_said logged None = None
try_of_said logged (Some s) = Some (record { epoch = s.epoch; n = s.n; logged = logged })

-- the first submission after those that there were before
abbrev pub try_in : Before → DeviceState → Option Try
try_in b d = try_of_said b.logged (slice_get (all_said d.client.client.said) b.said)

abbrev pub try_since : Option Before → Option DeviceState → Option Try
try_since None o = None
try_since (Some b) None = None
try_since (Some b) (Some d) = try_in b d

-- ---- a turn

-- what is wanted next of intents, where they are there
abbrev pub next_in : ClientView (List ℕ) → Option IntentsView → Next
next_in c None = next.Rest
next_in c (Some v) = next_of c v

abbrev pub submitted_for : ℕ → ℕ → Submitted
submitted_for index k = record { device = index; intent = k }

-- the message of an intent, where there is one, is submitted, and is looked at
abbrev pub said_for : ℕ → ℕ → OneIntent → Watching → Watching
said_for number index i s = looked_at (moved (Say index number i.to i.text false) s.world) s.intents

-- and what it was is noted
abbrev pub submitted_where : ℕ → ℕ → ℕ → Option OneIntent → Watching → Watching
submitted_where number index k None s = s
submitted_where number index k (Some i) s = noted_try (submitted_for index k) (try_at i.text (slice_get s.world.devices index)) (said_for number index i s)

abbrev pub submitted : ℕ → ℕ → ℕ → Watching → Watching
submitted number index k s = submitted_where number index k (intent_in index k s.intents) s

-- the client accepts it
abbrev pub is_accepted_where : ℕ → Option OneIntent → Watching → Bool
is_accepted_where index None s = false
is_accepted_where index (Some i) s = is_try (try_at i.text (slice_get s.world.devices index))

abbrev pub is_accepted : ℕ → ℕ → Watching → Bool
is_accepted index k s = is_accepted_where index (intent_in index k s.intents) s

-- the archive is asked for
abbrev pub caught_up : ℕ → ℕ → ℕ → Watching → Watching
caught_up number index most s = looked_at (moved (CatchUp index number most) s.world) s.intents

abbrev pub turned_by : ℕ → ℕ → ℕ → Next → Watching → Watching
turned_by number index most (next.Submit k) s = submitted number index k s
turned_by number index most next.CatchUp s = caught_up number index most s
turned_by number index most next.Rest s = s

abbrev pub turned : ℕ → ℕ → ℕ → Watching → Watching
turned number index most s = turned_by number index most (next_at index s) s

-- another turn follows on an accepted submission alone
abbrev pub goes_on_by : ℕ → Next → Watching → Bool
goes_on_by index (next.Submit k) s = is_accepted index k s
goes_on_by index next.CatchUp s = false
goes_on_by index next.Rest s = false

abbrev pub goes_on : ℕ → Watching → Bool
goes_on index s = goes_on_by index (next_at index s) s

-- so many at most
abbrev pub turns : ℕ → ℕ → ℕ → ℕ → Watching → Watching
turns zero number index most s = s
turns (suc left) number index most s = if goes_on index s then turns left number index most (turned number index most s) else turned number index most s

-- ---- an intent line

-- a new intent is added, and submitted
abbrev pub new_submitted : ℕ → ℕ → List ℕ → List ℕ → Watching → Watching
new_submitted number index to text s =
    let after = begun (Asked.NewIntent index to text) s in
    submitted number index (count_at index after.intents) after
