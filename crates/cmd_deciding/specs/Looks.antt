-- Looks at single devices, and what is known of a world whose intents have all looked.
use Rattle.std.specs.Prelude.{◌≡◌, ℕ, List, [], ◌∷◌, Option, Some, None, IsTrue, slice_get}
use Rattle.cl_intents.specs.Intents.{IntentsView}
use Rattle.cl_intents.specs.declared.intents.Intent.{Intent as OneIntent}
use Rattle.cmd_network.specs.Positions.{changed_at}
use Rattle.cmd_schedule.specs.Grammar.{is_name}
use Rattle.cmd_world.specs.Worlds.{ByteWorld}
use Rattle.cmd_resolving.specs.Expansion.{Watching, observed_by, observed_from}

abbrev pub watching : ByteWorld → List IntentsView → Watching
watching world intents = record { world = world; intents = intents }

-- the intents of the device at an index look at its client
abbrev pub looked_once : ℕ → Watching → Watching
looked_once index s = record s { intents = changed_at index (observed_by (slice_get s.world.devices index)) s.intents }

-- the intents of each device have looked at its client as it is: who looks again notes nothing new
abbrev pub HasLooked : Watching → Type 0
HasLooked s = observed_from 0 s.world.devices s.intents ≡ s.intents

-- ---- each intent is for an account's name

abbrev pub AreNamed : List OneIntent → Type 0
AreNamed [] = Unit {0}
AreNamed (i ∷ is) = IsTrue (is_name i.to) × AreNamed is

abbrev pub EachNamed : List IntentsView → Type 0
EachNamed [] = Unit {0}
EachNamed (v ∷ vs) = AreNamed v.intents × EachNamed vs
