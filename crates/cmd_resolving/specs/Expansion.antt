-- A file of intents as the lines of a run. What its intent lines and resolve lines come to is decided by what the world is
-- where they stand: so its definition follows the worlds.
use Rattle.std.specs.Prelude.{ℕ, zero, suc, ◌+◌, ◌==◌, Bool, true, false, List, [], ◌∷◌, ◌++◌, Option, Some, None, Result, Ok, Err, length, map, slice_get, if◌then◌else◌}
use Rattle.std.specs.List.{list_any}
use Rattle.std.specs.Option.{option_and_then, option_map_or}
use Rattle.base_io.specs.Names.{position_of}
use Rattle.cl_core.specs.UserCalls.{say_answer}
use Rattle.cl_core.specs.declared.faults.SayFault.{SayFault}
use Rattle.cl_handlers.specs.Clients.{ClientView}
use Rattle.cl_intents.specs.Intents.{IntentsView, next_of, intent_under, nothing_intended, observed, with_intent, with_try}
use Rattle.cl_intents.specs.declared.intents.Intent.{Intent as OneIntent}
use Rattle.cl_intents.specs.declared.intents.Next.{Next}
use Rattle.cl_intents.specs.declared.intents.Next.TheVariants as next
use Rattle.cl_intents.specs.declared.intents.Try.{Try}
use Rattle.cmd_network.specs.Devices.{DeviceState}
use Rattle.cmd_network.specs.Positions.{changed_at, position_under}
use Rattle.cmd_report.specs.Addresses.{full_address}
use Rattle.cmd_schedule.specs.Contents.{Owned, owned_in}
use Rattle.cmd_schedule.specs.Schedules.{WireView}
use Rattle.cmd_schedule.specs.declared.schedule.Step.TheVariants.{Say, Catchup}
use Rattle.cmd_schedule.specs.declared.schedule.WireLine.{WireLine}
use Rattle.cmd_schedule.specs.declared.schedule.WireStep.{WireStep}
use Rattle.cmd_schedule.specs.declared.schedule.WireStep.TheVariants.{Common, Pass, Run}
use Rattle.cmd_world.specs.Histories.{common_steps, world_at_start}
use Rattle.cmd_world.specs.Lines.{passes_where, rounds_of, stepped}
use Rattle.cmd_world.specs.Moves.{Move, moved}
use Rattle.cmd_world.specs.Worlds.{ByteWorld}
use Rattle.cmd_intents.specs.Files.{FileView}

-- the world, and the intents of each device, in the order of the devices
pub record Watching : Type 0 where
  pub world : ByteWorld
  pub intents : List IntentsView

-- ---- looks

-- the intents of a device look at its client
abbrev pub observed_by : Option DeviceState → IntentsView → IntentsView
observed_by None v = v
observed_by (Some d) v = observed d.client.client v

-- those of the devices from an index on
abbrev pub observed_from : ℕ → List DeviceState → List IntentsView → List IntentsView
observed_from index devices [] = []
observed_from index devices (v ∷ vs) = observed_by (slice_get devices index) v ∷ observed_from (index + 1) devices vs

-- the intents of all devices look at what a world has of these
abbrev pub looked_at : ByteWorld → List IntentsView → Watching
looked_at w intents = record { world = w; intents = observed_from 0 w.devices intents }

-- ---- moves, each of which is looked at

abbrev pub watched_move : Move → Watching → Watching
watched_move m s = looked_at (moved m s.world) s.intents

abbrev pub watched : List Move → Watching → Watching
watched [] s = s
watched (m ∷ moves) s = watched moves (watched_move m s)

-- The moves of a line. Of a pass line or a run line each is looked at; any other line is one move, or none, and it is looked
-- at what that comes to.
abbrev pub watched_step : WireStep → WireLine → Watching → Watching
watched_step (Pass conn times) line s = watched (passes_where times (position_under conn)) s
watched_step (Run times) line s = watched (rounds_of times (length s.world.wires)) s
watched_step _ line s = looked_at (stepped line s.world) s.intents

abbrev pub watched_line : WireLine → Watching → Watching
watched_line line s = watched_step line.step line s

-- ---- a line of the run

-- the intent that a line submits: the device, by its index, and the intent's number there
pub record Submitted : Type 0 where
  pub device : ℕ
  pub intent : ℕ

pub record RunLine : Type 0 where
  pub line : WireLine
  pub submits : Option Submitted

-- the try that a submission makes, where the client accepts it
abbrev pub try_by : ClientView (List ℕ) → Result ℕ SayFault → Option Try
try_by c (Ok n) = Some (record { epoch = c.epoch; n = n; logged = length c.log.entries })
try_by c (Err fault) = None

abbrev pub try_at : List ℕ → Option DeviceState → Option Try
try_at text None = None
try_at text (Some d) = try_by d.client.client (say_answer d.client.client text)

-- the text that a line submits
abbrev pub text_in : WireStep → List ℕ
text_in (Common (Say device to text)) = text
text_in _ = []

abbrev pub try_of : WireLine → ℕ → ByteWorld → Option Try
try_of line index w = try_at (text_in line.step) (slice_get w.devices index)

abbrev pub noted_try : Submitted → Option Try → Watching → Watching
noted_try at None s = s
noted_try at (Some t) s = record s { intents = changed_at at.device (with_try at.intent t) s.intents }

abbrev pub noted : Option Submitted → WireLine → ByteWorld → Watching → Watching
noted None line before s = s
noted (Some at) line before s = noted_try at (try_of line at.device before) s

-- its moves, and then the try that it was
abbrev pub done : RunLine → Watching → Watching
done l s = noted l.submits l.line s.world (watched_line l.line s)

abbrev pub all_done : List RunLine → Watching → Watching
all_done [] s = s
all_done (l ∷ ls) s = all_done ls (done l s)

-- ---- what is submitted

abbrev pub plain_line : WireLine → RunLine
plain_line line = record { line = line; submits = None }

-- a line that submits an intent of the device at an index
abbrev pub submission : WireLine → ℕ → ℕ → RunLine
submission line index k = record { line = line; submits = Some (record { device = index; intent = k }) }

abbrev pub say_line : ℕ → List ℕ → List ℕ → List ℕ → WireLine
say_line number device to text = record { number = number; step = Common (Say device to text) }

abbrev pub catch_up_line : ℕ → List ℕ → ℕ → WireLine
catch_up_line number device most = record { number = number; step = Common (Catchup device most) }

-- the client accepts the submission
abbrev pub is_try : Option Try → Bool
is_try None = false
is_try (Some t) = true

-- ---- a resolve line

-- a submission, and what comes after it where it was accepted
abbrev pub submission_and_on : ℕ → List ℕ → ℕ → (Watching → List RunLine) → Watching → ℕ → Option OneIntent → List RunLine
submission_and_on number device index more s k None = []
submission_and_on number device index more s k (Some i) =
    let line = say_line number device i.to i.text in
    submission line index k ∷ (if is_try (try_of line index s.world) then more (done (submission line index k) s) else [])

abbrev pub intent_in : ℕ → ℕ → List IntentsView → Option OneIntent
intent_in index k all = option_and_then (λ (v : IntentsView). intent_under k v.intents) (slice_get all index)

abbrev pub wanted : ℕ → List ℕ → ℕ → ℕ → (Watching → List RunLine) → Watching → Next → List RunLine
wanted number device index most more s (next.Submit k) = submission_and_on number device index more s k (intent_in index k s.intents)
wanted number device index most more s next.CatchUp = plain_line (catch_up_line number device most) ∷ []
wanted number device index most more s next.Rest = []

-- what is wanted next of the intents of a device
abbrev pub next_where : Option DeviceState → Option IntentsView → Next
next_where (Some d) (Some v) = next_of d.client.client v
next_where _ _ = next.Rest

abbrev pub next_at : ℕ → Watching → Next
next_at index s = next_where (slice_get s.world.devices index) (slice_get s.intents index)

-- So many submissions at most. After a refused one there is nothing more.
abbrev pub resolved : ℕ → ℕ → List ℕ → ℕ → ℕ → Watching → List RunLine
resolved zero number device index most s = []
resolved (suc left) number device index most s = wanted number device index most (resolved left number device index most) s (next_at index s)

-- ---- a line of the file

-- what a line of the file asks for: itself; a new intent of the device at an index, to an account; to resolve the intents of a
-- device, which is at an index, with pages of at most so many entries; or nothing, of a device that isn't there
pub data Asked : Type 0 where
  Plain : Asked
  NewIntent : ℕ → List ℕ → List ℕ → Asked
  Resolve : List ℕ → ℕ → ℕ → Asked
  Nothing : Asked

abbrev pub intent_of : List ℕ → List ℕ → Option ℕ → Asked
intent_of to text None = Nothing
intent_of to text (Some index) = NewIntent index to text

abbrev pub resolve_of : List ℕ → ℕ → Option ℕ → Asked
resolve_of device most None = Nothing
resolve_of device most (Some index) = Resolve device index most

abbrev pub asked_by_intent : List (List ℕ) → WireStep → Asked
asked_by_intent names (Common (Say device to text)) = intent_of to text (position_of device names)
asked_by_intent names _ = Plain

abbrev pub asked_by_resolve : List (List ℕ) → WireStep → Asked
asked_by_resolve names (Common (Catchup device most)) = resolve_of device most (position_of device names)
asked_by_resolve names _ = Plain

abbrev pub is_number_among : ℕ → List ℕ → Bool
is_number_among n ns = list_any (λ m. m == n) ns

abbrev pub asked : FileView → List (List ℕ) → WireLine → Asked
asked f names line =
    if is_number_among line.number f.intents then asked_by_intent names line.step
    else (if is_number_among line.number f.resolves then asked_by_resolve names line.step else Plain)

-- how many intents a device has
abbrev pub count_at : ℕ → List IntentsView → ℕ
count_at index all = option_map_or (λ (v : IntentsView). length v.intents) (slice_get all index) 0

-- a new intent is added
abbrev pub begun : Asked → Watching → Watching
begun (NewIntent index to text) s = record s { intents = changed_at index (with_intent to text) s.intents }
begun _ s = s

-- the submission of the newest intent of a device
abbrev pub first_submission : WireLine → ℕ → Option IntentsView → List RunLine
first_submission line index None = []
first_submission line index (Some v) = submission line index (length v.intents) ∷ []

-- The lines of the run that a line gives, once it is begun. An intent that was submitted isn't wanted again, so a resolve line
-- has no more submissions than the device has intents.
abbrev pub lines_by : Asked → WireLine → Watching → List RunLine
lines_by Plain line s = plain_line line ∷ []
lines_by (NewIntent index to text) line s = first_submission line index (slice_get s.intents index)
lines_by (Resolve device index most) line s = resolved (count_at index s.intents + 1) line.number device index most s
lines_by Nothing line s = []

abbrev pub gone_by : Asked → WireLine → Watching → Watching
gone_by a line s = all_done (lines_by a line (begun a s)) (begun a s)

abbrev pub lines_of : FileView → WireLine → Watching → List RunLine
lines_of f line s = lines_by (asked f s.world.names line) line (begun (asked f s.world.names line) s)

abbrev pub gone : FileView → WireLine → Watching → Watching
gone f line s = gone_by (asked f s.world.names line) line s

abbrev pub all_gone : FileView → List WireLine → Watching → Watching
all_gone f [] s = s
all_gone f (line ∷ lines) s = all_gone f lines (gone f line s)

abbrev pub all_lines : FileView → List WireLine → Watching → List RunLine
all_lines f [] s = []
all_lines f (line ∷ lines) s = lines_of f line s ++ all_lines f lines (gone f line s)

-- ---- a file

-- no intents of a device
abbrev pub none_of : Owned → IntentsView
none_of o = nothing_intended (full_address o.account o.device)

abbrev pub watching_at_start : FileView → Watching
watching_at_start f = record { world = world_at_start f.schedule; intents = map none_of (owned_in (common_steps f.schedule)) }

-- the lines of the run that a file stands for, with those of its own lines' numbers
unfoldable pub expand : FileView → List WireLine
expand f = map (λ (l : RunLine). l.line) (all_lines f f.schedule.lines (watching_at_start f))

-- what the run comes to, with the intents of each device
unfoldable pub watched_end : FileView → Watching
watched_end f = all_gone f f.schedule.lines (watching_at_start f)

-- the same as a schedule
abbrev pub as_schedule : FileView → WireView
as_schedule f = record { version = f.schedule.version; lines = expand f }
