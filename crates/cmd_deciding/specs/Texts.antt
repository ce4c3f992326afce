-- The text of a world with its intents: its report, and what became of each intent.
use Rattle.std.specs.Prelude.{ℕ, ◌+◌, List, [], ◌∷◌, ◌++◌, Option, Some, None, codes}
use Rattle.std.specs.Fmt.{decimal}
use Rattle.std.specs.List.{flat_map}
use Rattle.cl_handlers.specs.Clients.{ClientView}
use Rattle.cl_intents.specs.Intents.{IntentsView, intent_state}
use Rattle.cl_intents.specs.declared.intents.Intent.{Intent as OneIntent}
use Rattle.cl_intents.specs.declared.intents.Try.{Try}
use Rattle.cl_intents.specs.declared.states.IntentState.{IntentState}
use Rattle.cl_intents.specs.declared.states.IntentState.TheVariants as state
use Rattle.cmd_network.specs.Devices.{DeviceState}
use Rattle.cmd_report.specs.ReportText.{text_of}
use Rattle.cmd_world.specs.WorldReports.{report_of}
use Rattle.cmd_resolving.specs.Expansion.{Watching}

abbrev pub state_text : IntentState → List ℕ
state_text state.Fresh = codes "fresh"
state_text state.Done = codes "done"
state_text state.Waiting = codes "waiting"
state_text state.Undecided = codes "undecided"
state_text state.Unsure = codes "unsure"
state_text state.Absent = codes "absent"

-- a try of a device's intent of a number
abbrev pub try_text : List ℕ → ℕ → Try → List ℕ
try_text name k t = codes "try " ++ name ++ 32 ∷ decimal k ++ 32 ∷ decimal t.epoch ++ 32 ∷ decimal t.n ++ 10 ∷ []

abbrev pub intent_text : List ℕ → ℕ → IntentState → OneIntent → List ℕ
intent_text name k known i = codes "intent " ++ name ++ 32 ∷ decimal k ++ 32 ∷ state_text known ++ 32 ∷ i.to ++ 32 ∷ i.text ++ 10 ∷ []

-- an intent, and behind it its tries
abbrev pub one_text : {A : Type 0} → List ℕ → List ℕ → ℕ → ClientView A → ℕ → OneIntent → List ℕ
one_text name full sure c k i = intent_text name k (intent_state full sure c i) i ++ flat_map (try_text name k) i.tries.items

-- those of a device from a number on
abbrev pub texts_from : {A : Type 0} → List ℕ → List ℕ → ℕ → ClientView A → ℕ → List OneIntent → List ℕ
texts_from name full sure c k [] = []
texts_from name full sure c k (i ∷ is) = one_text name full sure c k i ++ texts_from name full sure c (k + 1) is

abbrev pub device_texts : DeviceState → IntentsView → List ℕ
device_texts d v = texts_from d.name v.full v.sure d.client.client 1 v.intents

-- those of all devices, in declared order
abbrev pub all_texts : List DeviceState → List IntentsView → List ℕ
all_texts [] vs = []
all_texts (d ∷ ds) [] = []
all_texts (d ∷ ds) (v ∷ vs) = device_texts d v ++ all_texts ds vs

-- The report has its own last line.
unfoldable pub text_of_intents : Watching → List ℕ
text_of_intents s =
    text_of (report_of s.world) ++ codes "intents 1" ++ 10 ∷ all_texts s.world.devices s.intents ++ codes "end" ++ 10 ∷ []
