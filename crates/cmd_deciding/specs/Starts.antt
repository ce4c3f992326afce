-- The intents of the devices that lines declare: none of any.
use Rattle.std.specs.Prelude.{ℕ, List, [], ◌∷◌}
use Rattle.std.specs.List.{flat_map}
use Rattle.cl_intents.specs.Intents.{IntentsView}
use Rattle.cmd_schedule.specs.declared.schedule.Step.TheVariants.{Device}
use Rattle.cmd_schedule.specs.declared.schedule.WireLine.{WireLine}
use Rattle.cmd_schedule.specs.declared.schedule.WireStep.{WireStep}
use Rattle.cmd_schedule.specs.declared.schedule.WireStep.TheVariants.{Common}
use Rattle.cmd_resolving.specs.Expansion.{none_of}

abbrev pub none_by : WireStep → List IntentsView
none_by (Common (Device name account)) = none_of (record { device = name; account = account }) ∷ []
none_by _ = []

abbrev pub none_at : WireLine → List IntentsView
none_at line = none_by line.step

abbrev pub none_in : List WireLine → List IntentsView
none_in lines = flat_map none_at lines
