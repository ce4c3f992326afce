-- What the laws of `faults` say.
use Rattle.std.specs.Prelude.{◌≡◌, ℕ, Some, slice_get}
use Rattle.cmd_schedule.specs.Contents.{Owned}
use Rattle.cmd_schedule.specs.Schedules.{WireView}
use Rattle.cmd_schedule.specs.LineLists.{IsLineList}
use Rattle.sim_1_applications.specs.Runs.{owned_of}
use Rattle.sim_7_schedules.specs.Faults.{EachTells, EndsForFew, HasWords, IsNoPageFault}
use Rattle.cmd_world.specs.Histories.{history_of}
use Rattle.cmd_world.specs.Worlds.{ByteWorld}

abbrev pub NoPageFails : Type 0
NoPageFails =
    (s : WireView) → IsLineList s → (j : ℕ) (w : ByteWorld) → slice_get (history_of s) j ≡ Some w → EachTells IsNoPageFault w

abbrev pub StreamsEndForFewReasonsTold : Type 0
StreamsEndForFewReasonsTold =
    (s : WireView) → IsLineList s → (j : ℕ) (w : ByteWorld) → slice_get (history_of s) j ≡ Some w → EachTells EndsForFew w

abbrev pub StreamsEndForFewReasonsPut : Type 0
StreamsEndForFewReasonsPut =
    (s : WireView) → IsLineList s → (j : ℕ) (w : ByteWorld) → slice_get (history_of s) j ≡ Some w → (i : ℕ) (o : Owned) → slice_get (owned_of s) i ≡ Some o → HasWords s w i o
