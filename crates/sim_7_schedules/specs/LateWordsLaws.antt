-- What the laws of `late_words` say.
use Rattle.std.specs.Prelude.{◌≡◌, ℕ, Some, slice_get}
use Rattle.cmd_schedule.specs.Contents.{Owned}
use Rattle.cmd_schedule.specs.Schedules.{WireView}
use Rattle.cmd_schedule.specs.LineLists.{IsLineList}
use Rattle.cmd_schedule.specs.declared.schedule.Count.{Count}
use Rattle.sim_7_schedules.specs.LateWords.{AsksAreUnbound, IsDialledBy, IsOfDeviceAlone, IsUnboundAt}
use Rattle.cmd_world.specs.Histories.{history_of}
use Rattle.cmd_world.specs.Moves.{Up, moved}
use Rattle.cmd_world.specs.Worlds.{ByteWorld}

abbrev pub LateWordsChangeNoArchiveChanges : Type 0
LateWordsChangeNoArchiveChanges =
    (s : WireView) → IsLineList s → (j : ℕ) (w : ByteWorld) → slice_get (history_of s) j ≡ Some w → (position : ℕ) (o : Owned) → IsDialledBy s w position o → IsUnboundAt position w → (count : Count)
    → IsOfDeviceAlone s o w (moved (Up position count) w)

abbrev pub LateWordsChangeNoArchiveAsks : Type 0
LateWordsChangeNoArchiveAsks =
    (s : WireView) → IsLineList s → (j : ℕ) (w : ByteWorld) → slice_get (history_of s) j ≡ Some w → AsksAreUnbound w
