-- What the laws of `devices` say.
use Rattle.std.specs.Prelude.{◌≡◌, ◌++◌, ℕ, All, List, Some, slice_get}
use Rattle.mam_archive.specs.Entries.{EntryView}
use Rattle.sim_5_devices.specs.Pages.{IsPaged}
use Rattle.sim_3_items.specs.Labels.{gives_all, says_all}
use Rattle.sim_3_items.specs.ItemWorlds.{ItemWorld}
use Rattle.sim_2_links.specs.Events.{Seen}
use Rattle.cmd_schedule.specs.Contents.{Owned}
use Rattle.cmd_schedule.specs.Schedules.{WireView}
use Rattle.sim_3_items.specs.Built.{IsDown, IsUp}
use Rattle.sim_1_applications.specs.Devices.{AppWorld, Device, Take}
use Rattle.sim_5_moves.specs.Going.{AllBuilt, ArePutBuilt}
use Rattle.sim_5_moves.specs.Running.{Bounds, WorldSimulates, history_for}
use Rattle.xml_writer.specs.Items.{ItemOut}

abbrev pub WhatIsBuiltStaysOne : Type 0
WhatIsBuiltStaysOne =
    (o : Owned) (history more : List EntryView) (z : ItemOut) → IsDown o history z → IsDown o (history ++ more) z

abbrev pub WhatIsBuiltStaysAll : Type 0
WhatIsBuiltStaysAll =
    (o : Owned) (history more : List EntryView) (s : Seen ItemOut) → AllBuilt o history s → AllBuilt o (history ++ more) s

abbrev pub WhatIsBuiltStaysTakes : Type 0
WhatIsBuiltStaysTakes =
    (schedule : WireView) (takes new : List Take) (o : Owned) (s : Seen ItemOut) → AllBuilt o (history_for schedule takes o) s → AllBuilt o (history_for schedule (takes ++ new) o) s

abbrev pub WhatIsBuiltStaysGives : Type 0
WhatIsBuiltStaysGives =
    (o : Owned) (history : List EntryView) (zs : List ItemOut) → All (IsDown o history) zs → ArePutBuilt o history (gives_all zs)

abbrev pub WhatIsBuiltStaysSays : Type 0
WhatIsBuiltStaysSays =
    (o : Owned) (history : List EntryView) (zs : List ItemOut) → All (IsUp o) zs → ArePutBuilt o history (says_all zs)

abbrev pub DevicesArePaged : Type 0
DevicesArePaged =
    (schedule : WireView) (b : Bounds) (says : ℕ) (w : ItemWorld) (x : AppWorld) → WorldSimulates schedule b says w x → (i : ℕ) (d : Device) → slice_get x.devices i ≡ Some d → IsPaged d
