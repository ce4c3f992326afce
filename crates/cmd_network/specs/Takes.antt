-- What a server took, as a report tells it.
use Rattle.std.specs.Prelude.{ℕ, ◌^◌, ◌==◌, Bool, List, unwrap_or}
use Rattle.std.specs.List.{after_first, before_first}
use Rattle.im_jid.specs.Cuts.{is_at, is_slash}
use Rattle.im_payload.specs.Shapes.{number_below}
use Rattle.cmd_report.specs.Lines.{reported_moment}
use Rattle.cmd_report.specs.declared.report.TakeLine.{TakeLine}
use Rattle.cmd_schedule.specs.declared.schedule.Version.{Version}

abbrev pub is_dot : ℕ → Bool
is_dot b = b == 46

-- the number that digits spell, and 0 where they spell none below 2 ^ 64
abbrev pub number_spelled : List ℕ → ℕ
number_spelled digits = unwrap_or (number_below (2 ^ 64) digits) 0

-- The line of a message that was archived. A device's name is the resource of the address that the message is from, and the
-- account that of the address that it is to. The origin id has the device's name, the epoch and the number, with dots between.
abbrev pub take_reported : Version → ℕ → List ℕ → List ℕ → List ℕ → TakeLine
take_reported version moment from to origin = record {
  device = after_first is_slash from;
  epoch = number_spelled (before_first is_dot (after_first is_dot origin));
  n = number_spelled (after_first is_dot (after_first is_dot origin));
  account = before_first is_at to;
  moment = reported_moment version moment;
}
