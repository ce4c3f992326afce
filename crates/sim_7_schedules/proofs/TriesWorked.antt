-- Values worked out: what was taken of tries, an intent that is tried again, and the run of a file whose intent is refused.
use Rattle.std.proofs.Common.{◌≡◌, ℕ, true, List, [], ◌∷◌, Option, Some, None, codes, map, refl}
use Rattle.cl_core.specs.Making.{account_of, fresh}
use Rattle.cl_core.specs.Values.{ClientValue}
use Rattle.cl_intents.specs.Intents.{IntentsView}
use Rattle.cl_intents.specs.declared.intents.Intent.{Intent}
use Rattle.cl_intents.specs.declared.intents.Try.{Try}
use Rattle.cl_intents.specs.declared.states.IntentState.TheVariants.{Absent}
use Rattle.cmd_intents.specs.Files.{FileView}
use Rattle.cmd_network.specs.Devices.{DeviceState}
use Rattle.cmd_report.specs.Addresses.{bare_address, full_address}
use Rattle.cmd_report.specs.declared.report.TakeLine.{TakeLine}
use Rattle.cmd_resolving.specs.Expansion.{Submitted, Watching, submission}
use Rattle.cmd_schedule.specs.declared.schedule.Step.TheVariants.{Account, Device, Say, Catchup}
use Rattle.cmd_schedule.specs.declared.schedule.Version.TheVariants.{Two}
use Rattle.cmd_schedule.specs.declared.schedule.WireLine.{WireLine}
use Rattle.cmd_schedule.specs.declared.schedule.WireStep.TheVariants.{Common}
use Rattle.cmd_world.specs.Histories.{world_with}
use Rattle.mam_log.specs.declared.tile.Tile.{Tile}
use Rattle.sim_7_schedules.specs.Tries.{Before, HasIntent, IsTriedAgain, run_of, state_in, taken_for}
use Rattle.sm_outbox.specs.Sessions.{begun}
use Rattle.xml_tokens.specs.Characters.{are_characters}

-- ---- takes

abbrev taken : List ℕ → ℕ → ℕ → TakeLine
taken device epoch n = record { device = device; epoch = epoch; n = n; account = codes "bob"; moment = None }

abbrev lost : Try
lost = record { epoch = 1; n = 1; logged = 0 }

abbrev again : Try
again = record { epoch = 2; n = 1; logged = 0 }

-- a message of the same number of another device, one of another number, and one of another epoch are none of its tries
of_its_tries : taken_for (codes "phone") (lost ∷ again ∷ []) (taken (codes "pad") 1 1 ∷ taken (codes "phone") 1 2 ∷ taken (codes "phone") 2 1 ∷ taken (codes "phone") 3 1 ∷ []) ≡ taken (codes "phone") 2 1 ∷ []
of_its_tries = refl

of_the_first : taken_for (codes "phone") (lost ∷ []) (taken (codes "phone") 2 1 ∷ []) ≡ []
of_the_first = refl

-- ---- an intent that is tried again: its first try was lost with its session, and a page of epoch 2 was complete

abbrev page : Tile
page = record { after = None; count = 0; complete = true; total = 0 }

abbrev client : ClientValue
client =
    let new = fresh (account_of (bare_address (codes "ann")) (codes "ann") (codes "pw-ann") (codes "phone")) in
    record new { client = record new.client { epoch = 2; session = Some (begun (codes "1")); log = record new.client.log { tiles = page ∷ [] } } }

abbrev device : DeviceState
device = record { name = codes "phone"; account = codes "ann"; client = client; here = None; newest = None; refused = [] }

abbrev intent : Intent
intent = record { to = codes "bob"; text = codes "hi"; tries = record { items = lost ∷ []; spare = 0 } }

abbrev intents : IntentsView
intents = record { full = full_address (codes "ann") (codes "phone"); intents = intent ∷ []; seen = 2; mark = 0; sure = 2 }

abbrev watching : Watching
watching = record { world = record (world_with (Two 7) []) { devices = device ∷ []; names = codes "phone" ∷ [] }; intents = intents ∷ [] }

abbrev line : WireLine
line = record { number = 9; step = Common (Say (codes "phone") (codes "bob") (codes "hi")) }

abbrev before : Before
before = record { line = submission line 0 1; watching = watching }

abbrev has : HasIntent watching 0 1
has = record { device = device; there = refl; view = intents; of = refl; intent = intent; is = refl }

is_absent : state_in has ≡ Absent
is_absent = refl

tried_again : IsTriedAgain (before ∷ []) 0 1 (lost ∷ []) again
unfolding are_characters
tried_again = record { front = []; here = before; rest = []; are = refl; submits = refl; has = has; tried = refl; absent = refl; accepted = refl }

-- ---- a file whose device isn't online: both submissions of its intent are refused

abbrev of_account : WireLine
of_account = record { number = 2; step = Common (Account (codes "ann")) }

abbrev of_device : WireLine
of_device = record { number = 3; step = Common (Device (codes "pad") (codes "ann")) }

abbrev message : WireLine
message = record { number = 4; step = Common (Say (codes "pad") (codes "ann") (codes "hi")) }

abbrev request : WireLine
request = record { number = 5; step = Common (Catchup (codes "pad") 5) }

abbrev file : FileView
file = record { schedule = record { version = Two 7; lines = of_account ∷ of_device ∷ message ∷ request ∷ [] }; intents = 4 ∷ []; resolves = 5 ∷ [] }

abbrev submits : Before → Option Submitted
submits b = b.line.submits

submitted_twice : map submits (run_of file) ≡ None ∷ None ∷ Some (record { device = 0; intent = 1 }) ∷ Some (record { device = 0; intent = 1 }) ∷ []
unfolding run_of are_characters
submitted_twice = refl
