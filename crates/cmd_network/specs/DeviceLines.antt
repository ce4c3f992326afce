-- The lines of the report that a device makes.
use Rattle.std.specs.Prelude.{Bool, List, [], ◌∷◌, Option, Some, None, length, map}
use Rattle.std.specs.List.{before_first}
use Rattle.cmd_network.specs.Devices.{DeviceState}
use Rattle.im_jid.specs.Cuts.{is_at}
use Rattle.mam_log.specs.Views.{OpenPage}
use Rattle.mam_log.specs.declared.log_entry.LogEntry.{LogEntry}
use Rattle.sm_outbox.specs.Submissions.{all_said}
use Rattle.sm_outbox.specs.declared.said.Said.{Said}
use Rattle.sm_outbox.specs.declared.said.SaidState.{SaidState}
use Rattle.sm_outbox.specs.declared.said.SaidState.TheVariants as said
use Rattle.cmd_report.specs.Lines.{logged_by, tile_line}
use Rattle.cmd_report.specs.Reports.{DeviceView}
use Rattle.cmd_report.specs.declared.report.HeldLine.{HeldLine}
use Rattle.cmd_report.specs.declared.report.SaidLine.{SaidLine}
use Rattle.cmd_report.specs.declared.report.SaidMark.{SaidMark}
use Rattle.cmd_report.specs.declared.report.SaidMark.TheVariants as mark
use Rattle.cmd_report.specs.declared.report.UnderwayLine.{UnderwayLine}

abbrev pub mark_of : SaidState → SaidMark
mark_of said.Acknowledged = mark.Acknowledged
mark_of said.Waiting = mark.Waiting
mark_of said.Undecided = mark.Undecided

-- a submission; the account that it is for is the local part of its address
abbrev pub said_line : Said → SaidLine
said_line s = record { epoch = s.epoch; n = s.n; state = mark_of s.state; to = before_first is_at s.to; text = s.text }

abbrev pub underway_lines : Option OpenPage → List UnderwayLine
underway_lines None = []
underway_lines (Some page) = record { queryid = page.queryid; got = length page.results } ∷ []

abbrev pub held_line : LogEntry → HeldLine
held_line e = record { id = e.id }

-- the line of a device that is settled or isn't
abbrev pub device_line : Bool → DeviceState → DeviceView
device_line settled d =
    let log = d.client.client.log in
    record {
      name = d.name;
      account = d.account;
      epoch = d.client.client.epoch;
      settled = settled;
      said = map said_line (all_said d.client.client.said);
      refused = d.refused;
      pages = map tile_line log.tiles;
      underway = underway_lines log.page;
      logged = logged_by 0 log.tiles log.entries;
      held = map held_line log.held;
    }
