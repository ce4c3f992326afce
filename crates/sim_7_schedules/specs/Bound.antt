-- The sessions that the server has of a device in a world of bytes, and what it takes behind a bind.
use Rattle.std.specs.Prelude.{◌≡◌, ℕ, ◌<◌, true, false, List, ◌++◌, Some}
use Rattle.std.specs.List.{AllByRecursion}
use Rattle.sim_3_images.specs.Devices.{account_position}
use Rattle.sm_live.specs.Sessions.{Session, is_named, session_of}
use Rattle.cmd_report.specs.declared.report.TakeLine.{TakeLine}
use Rattle.cmd_schedule.specs.Contents.{Owned, accounts_of}
use Rattle.cmd_schedule.specs.Schedules.{WireView}
use Rattle.sim_7_schedules.specs.Messages.{taken_of}
use Rattle.cmd_world.specs.Histories.{common_steps}
use Rattle.cmd_world.specs.Worlds.{ByteWorld}

-- one of the server's sessions, which is of the device's account and has its resource (RFC 6120, section 7)
pub record IsSessionOf (schedule : WireView) (o : Owned) (w : ByteWorld) (t : Session (List ℕ)) : Type 0 where
  pub there : session_of t.shown.number w.server.server_state.sessions ≡ Some t
  pub named : is_named (account_position o.account (accounts_of (common_steps schedule))) o.device t ≡ true

-- Each that it has of the device is enabled (XEP-0198, section 3). So it is also where it has none.
abbrev pub AreEnabled : WireView → Owned → ByteWorld → Type 0
AreEnabled schedule o w = (t : Session (List ℕ)) → IsSessionOf schedule o w t → t.shown.counted ≡ true

-- It has one that isn't enabled. A session is so from its bind on, until it is enabled once and for all.
pub record HasBound (schedule : WireView) (o : Owned) (w : ByteWorld) : Type 0 where
  pub session : Session (List ℕ)
  pub of : IsSessionOf schedule o w session
  pub unenabled : session.shown.counted ≡ false

-- what a later world has of takes is what the one has, and behind it none of the device is of this epoch or one before
pub record IsTakenAbove (epoch : ℕ) (o : Owned) (w later : ByteWorld) : Type 0 where
  pub more : List TakeLine
  pub are : later.takes ≡ w.takes ++ more
  pub above : AllByRecursion (λ (line : TakeLine). epoch < line.epoch) (taken_of o.device more)
