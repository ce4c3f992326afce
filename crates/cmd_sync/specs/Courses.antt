-- How a script is done over one connection: from the pieces that are read to what is put.
use Rattle.std.specs.Prelude.{ℕ, ◌+◌, ◌-◌, nat_lt, Bool, true, false, ◌&&◌, List, [], ◌∷◌, ◌++◌, Option, Some, None, Result, Ok, Err, length, fold, slice_get, if◌then◌else◌}
use Rattle.cl_core.specs.Feeds.{Fed, bytes_step}
use Rattle.cl_core.specs.UserCalls.{catch_up_answer, catches_up, closes, dials, say_answer, says}
use Rattle.cl_core.specs.Values.{ClientValue}
use Rattle.cl_core.specs.declared.faults.CatchUpStart.{CatchUpStart}
use Rattle.cl_core.specs.declared.faults.SayFault.{SayFault}
use Rattle.cl_handlers.specs.Clients.{ClientStep}
use Rattle.cl_handlers.specs.Speech.{in_bytes}
use Rattle.cl_handlers.specs.declared.events.Event.{Event}
use Rattle.cl_handlers.specs.declared.events.Event.TheVariants.{Bound, Acked, PageDone}
use Rattle.mam_log.specs.declared.fin.PageOutcome.TheVariants.{Complete}
use Rattle.sm_outbox.specs.Submissions.{all_said}
use Rattle.sm_outbox.specs.declared.said.Said.{Said}
use Rattle.sm_outbox.specs.declared.said.SaidState.{SaidState}
use Rattle.sm_outbox.specs.declared.said.SaidState.TheVariants as said
use Rattle.cmd_sync.specs.declared.script.Step.{Step}
use Rattle.cmd_sync.specs.declared.script.Step.TheVariants.{Say, CatchUp}
use Rattle.cmd_sync.specs.Failures.{failure_of}
use Rattle.cmd_sync.specs.declared.failure.PeerFailure.{PeerFailure}
use Rattle.cmd_sync.specs.declared.failure.PeerFailure.TheVariants.{NotSaid, NotAsked, TooMuch}
use Rattle.cmd_sync.specs.declared.seen.Seen.{Seen}
use Rattle.cmd_sync.specs.declared.seen.Seen.TheVariants.{Still, Fails, Does}
use Rattle.cmd_sync.specs.declared.stage.Stage.{Stage}
use Rattle.cmd_sync.specs.declared.stage.Stage.TheVariants.{Awaits, Done, Failed}
use Rattle.cmd_sync.specs.declared.running.TheConstants.{MOST_RECEIVED}

-- the client with the framer of its connection, how far the script is done, the steps that are not begun, and how many
-- bytes came
pub record Course : Type 0 where
  pub client : ClientValue
  pub stage : Stage
  pub steps : List Step
  pub total : ℕ

-- the same, and what was put
pub record CourseStep : Type 0 where
  pub course : Course
  pub put : List ℕ

abbrev pub is_awaiting : Stage → Bool
is_awaiting (Awaits step) = true
is_awaiting Done = false
is_awaiting (Failed failure) = false

-- ---- what events say

-- a resource was bound: the client is online
abbrev pub is_bound : Event → Bool
is_bound (Bound epoch) = true
is_bound _ = false

-- the server has handled further stanzas
abbrev pub is_acked : Event → Bool
is_acked (Acked count) = true
is_acked _ = false

-- the last page was taken over
abbrev pub is_caught_up : Event → Bool
is_caught_up (PageDone Complete) = true
is_caught_up _ = false

abbrev pub is_acknowledged : SaidState → Bool
is_acknowledged said.Acknowledged = true
is_acknowledged said.Waiting = false
is_acknowledged said.Undecided = false

abbrev pub has_acknowledged : Option Said → Bool
has_acknowledged None = false
has_acknowledged (Some last) = is_acknowledged last.state

-- the last submission is acknowledged
abbrev pub is_last_acknowledged : List Said → Bool
is_last_acknowledged all = has_acknowledged (slice_get all (length all - 1))

-- The event does what is awaited: the client is online; the message, which is the last submission, is acknowledged; the log has
-- caught up.
abbrev pub does : Stage → Bool → Event → Bool
does (Awaits None) acknowledged event = is_bound event
does (Awaits (Some (Say to text))) acknowledged event = acknowledged && is_acked event
does (Awaits (Some (CatchUp max))) acknowledged event = is_caught_up event
does Done acknowledged event = false
does (Failed failure) acknowledged event = false

-- of two failures the first
abbrev pub first_failure : Option PeerFailure → Option PeerFailure → Option PeerFailure
first_failure None later = later
first_failure (Some first) later = Some first

abbrev pub not_done : Option PeerFailure → Seen
not_done None = Still
not_done (Some failure) = Fails failure

-- with an event more, which does what is awaited or not, and tells a failure or none
abbrev pub seen_next : Bool → Option PeerFailure → Seen → Seen
seen_next is_done failure Still = if is_done then Does None else not_done failure
seen_next is_done failure (Fails first) = Fails first
seen_next is_done failure (Does late) = Does (first_failure late failure)

-- the events, in their order
abbrev pub seen_over : Stage → Bool → List Event → Seen
seen_over stage acknowledged events = fold (λ before event. seen_next (does stage acknowledged event) (failure_of event) before) Still events

-- ---- the steps

-- nothing was put or told yet
abbrev pub quiet : ClientValue → Fed (List ℕ) ℕ
quiet c = record { framer = c.framer; turn = record { client = c.client; out = record { put = []; events = []; notes = [] } } }

-- so far, where the client has come to this
abbrev pub stands : Fed (List ℕ) ℕ → Stage → List Step → ℕ → CourseStep
stands f stage steps total = record {
  course = record { client = record { framer = f.framer; client = f.turn.client }; stage = stage; steps = steps; total = total };
  put = f.turn.out.put;
}

abbrev pub with_client_step : Fed (List ℕ) ℕ → ClientStep (List ℕ) ℕ → Fed (List ℕ) ℕ
with_client_step f turn = record { framer = f.framer; turn = turn }

abbrev pub says_to : Fed (List ℕ) ℕ → List ℕ → List ℕ → List Step → ℕ → Result ℕ SayFault → CourseStep
says_to f to text steps total (Ok n) = stands (with_client_step f (says in_bytes f.turn to text false)) (Awaits (Some (Say to text))) steps total
says_to f to text steps total (Err fault) = stands f (Failed (NotSaid fault)) steps total

abbrev pub asks_for : Fed (List ℕ) ℕ → ℕ → List Step → ℕ → Result (Unit {0}) CatchUpStart → CourseStep
asks_for f max steps total (Ok done) = stands (with_client_step f (catches_up in_bytes f.turn max)) (Awaits (Some (CatchUp max))) steps total
asks_for f max steps total (Err fault) = stands f (Failed (NotAsked fault)) steps total

-- a step begins: the message goes out, or a page is asked for
abbrev pub begins : Fed (List ℕ) ℕ → Step → List Step → ℕ → CourseStep
begins f (Say to text) steps total = says_to f to text steps total (say_answer f.turn.client text)
begins f (CatchUp max) steps total = asks_for f max steps total (catch_up_answer f.turn.client)

-- the next step begins; behind the last one the stream is closed
abbrev pub goes_on : Fed (List ℕ) ℕ → List Step → ℕ → CourseStep
goes_on f [] total = stands (closes in_bytes f) Done [] total
goes_on f (step ∷ steps) total = begins f step steps total

-- A failure behind what is done counts only where a step is left.
abbrev pub fails_late : Fed (List ℕ) ℕ → PeerFailure → ℕ → List Step → CourseStep
fails_late f failure total [] = goes_on f [] total
fails_late f failure total (step ∷ steps) = stands f (Failed failure) (step ∷ steps) total

-- what was awaited is done
abbrev pub done_with : Fed (List ℕ) ℕ → List Step → ℕ → Option PeerFailure → CourseStep
done_with f steps total None = goes_on f steps total
done_with f steps total (Some failure) = fails_late f failure total steps

abbrev pub looks : Fed (List ℕ) ℕ → Stage → List Step → ℕ → Seen → CourseStep
looks f stage steps total Still = stands f stage steps total
looks f stage steps total (Fails failure) = stands f (Failed failure) steps total
looks f stage steps total (Does late) = done_with f steps total late

abbrev pub seen_in : Fed (List ℕ) ℕ → Stage → Seen
seen_in f stage = seen_over stage (is_last_acknowledged (all_said f.turn.client.said)) f.turn.out.events

-- A piece was taken. The one with which too much came is not looked at.
abbrev pub taken : Fed (List ℕ) ℕ → Stage → List Step → ℕ → CourseStep
taken f stage steps total =
    if nat_lt MOST_RECEIVED total then stands f (Failed TooMuch) steps total else looks f stage steps total (seen_in f stage)

abbrev pub takes_in : Bool → Course → List ℕ → CourseStep
takes_in false c piece = record { course = c; put = [] }
takes_in true c piece = taken (bytes_step in_bytes (quiet c.client) piece) c.stage c.steps (c.total + length piece)

-- a piece; where nothing is awaited, nothing is done
abbrev pub takes : Course → List ℕ → CourseStep
takes c piece = takes_in (is_awaiting c.stage) c piece

-- ---- a whole run

-- the connection begins, and the client is to come online
abbrev pub begun : ClientValue → List ℕ → List Step → CourseStep
begun client entropy steps = stands (dials in_bytes entropy (quiet client)) (Awaits None) steps 0

-- a piece more
abbrev pub further : CourseStep → List ℕ → CourseStep
further t piece = record { course = (takes t.course piece).course; put = t.put ++ (takes t.course piece).put }

-- the pieces, one behind the other
abbrev pub over : CourseStep → List (List ℕ) → CourseStep
over t pieces = fold further t pieces
