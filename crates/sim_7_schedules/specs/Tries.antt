-- The tries of the intents of a file in its run: which messages that were taken are theirs, and what was known of an intent
-- where it was tried again.
use Rattle.std.specs.Prelude.{◌≡◌, ℕ, ◌==◌, Bool, ◌&&◌, List, [], ◌∷◌, ◌++◌, Some, filter, slice_get}
use Rattle.std.specs.List.{list_any}
use Rattle.std.specs.Str.{bytes_eq}
use Rattle.cl_intents.specs.Intents.{IntentsView, intent_state, intent_under}
use Rattle.cl_intents.specs.declared.intents.Intent.{Intent}
use Rattle.cl_intents.specs.declared.intents.Try.{Try}
use Rattle.cl_intents.specs.declared.states.IntentState.{IntentState}
use Rattle.cl_intents.specs.declared.states.IntentState.TheVariants.{Absent}
use Rattle.cmd_intents.specs.Files.{FileView}
use Rattle.cmd_network.specs.Devices.{DeviceState}
use Rattle.cmd_report.specs.declared.report.TakeLine.{TakeLine}
use Rattle.cmd_resolving.specs.Expansion.{RunLine, Watching, asked, begun, done, gone, lines_of, try_of, watching_at_start}
use Rattle.cmd_schedule.specs.declared.schedule.WireLine.{WireLine}

-- ---- an intent

-- the device at a place has an intent under a number
pub record HasIntent (s : Watching) (i k : ℕ) : Type 0 where
  pub device : DeviceState
  pub there : slice_get s.world.devices i ≡ Some device
  pub view : IntentsView
  pub of : slice_get s.intents i ≡ Some view
  pub intent : Intent
  pub is : intent_under k view.intents ≡ Some intent

-- what is known of it, by what was noted of the device's client and by this client
abbrev pub state_in : {s : Watching} {i k : ℕ} → HasIntent s i k → IntentState
state_in has = intent_state has.view.full has.view.sure has.device.client.client has.intent

-- ---- what was taken of it

-- the message that was taken is the one of the device that the try is: it has its epoch, and its number there
abbrev pub is_taken_for : List ℕ → TakeLine → Try → Bool
is_taken_for device taken t = bytes_eq device taken.device && (taken.epoch == t.epoch && taken.n == t.n)

-- those of any of these tries
abbrev pub taken_for : List ℕ → List Try → List TakeLine → List TakeLine
taken_for device tries takes = filter (λ taken. list_any (is_taken_for device taken) tries) takes

-- ---- the run of a file

-- a line of the run, and what stands before it
pub record Before : Type 0 where
  pub line : RunLine
  pub watching : Watching

abbrev pub along : List RunLine → Watching → List Before
along [] s = []
along (l ∷ ls) s = record { line = l; watching = s } ∷ along ls (done l s)

abbrev pub all_along : FileView → List WireLine → Watching → List Before
all_along f [] s = []
all_along f (line ∷ lines) s = along (lines_of f line s) (begun (asked f s.world.names line) s) ++ all_along f lines (gone f line s)

unfoldable pub run_of : FileView → List Before
run_of f = all_along f f.schedule.lines (watching_at_start f)

-- A line of the run submits the intent, which has these tries and is absent before it; and the client accepts that as this
-- further try.
pub record IsTriedAgain (run : List Before) (i k : ℕ) (tries : List Try) (further : Try) : Type 0 where
  pub front : List Before
  pub here : Before
  pub rest : List Before
  pub are : run ≡ front ++ here ∷ rest
  pub submits : here.line.submits ≡ Some (record { device = i; intent = k })
  pub has : HasIntent here.watching i k
  pub tried : has.intent.tries.items ≡ tries
  pub absent : state_in has ≡ Absent
  pub accepted : try_of here.line.line i here.watching.world ≡ Some further
