-- The connections of a world: which device dialed one, its two pipes, and what ended it first.
use Rattle.std.specs.Prelude.{ℕ, min, List, length}
use Rattle.net_pipes.specs.Pipes.{Pipe, closed, cut_to, emptied, empty_pipe, entered, handed, with_end_reported}
use Rattle.cmd_report.specs.declared.report.ConnEnd.{ConnEnd}
use Rattle.cmd_report.specs.declared.report.ConnEnd.TheVariants as end
use Rattle.cmd_schedule.specs.declared.schedule.Count.{Count}
use Rattle.cmd_schedule.specs.declared.schedule.Count.TheVariants.{Number, All}
use Rattle.cmd_network.specs.declared.wire.Wire.{Wire}

-- what ended a connection first: once something did, that stays
abbrev pub first_end : ConnEnd → ConnEnd → ConnEnd
first_end end.Open later = later
first_end earlier later = earlier

abbrev pub fresh_wire : ℕ → Wire
fresh_wire device = record { device = device; up = empty_pipe; down = empty_pipe; end = end.Open }

-- ---- what ends a connection

-- The network cuts it: the first bytes of both pipes stay, and no further ones come.
abbrev pub cut_at : ℕ → ℕ → Wire → Wire
cut_at up down w = record w { up = cut_to up w.up; down = cut_to down w.down; end = first_end w.end end.Cut }

-- The device leaves it: the end mark stands behind what is on its way to the server, and what is on its way to the device
-- is lost.
abbrev pub left : Wire → Wire
left w = record w { up = closed w.up; down = emptied w.down; end = first_end w.end end.Left }

-- The server shuts it: the end mark stands behind what is on its way to the device, and what is on its way to the server is
-- lost.
abbrev pub shut : Wire → Wire
shut w = record w { up = emptied w.up; down = closed w.down; end = first_end w.end end.Shut }

-- ---- bytes

abbrev pub put_up : List ℕ → Wire → Wire
put_up bytes w = record w { up = entered bytes w.up }

abbrev pub put_down : List ℕ → Wire → Wire
put_down bytes w = record w { down = entered bytes w.down }

abbrev pub handed_up : ℕ → Wire → Wire
handed_up n w = record w { up = handed n w.up }

abbrev pub handed_down : ℕ → Wire → Wire
handed_down n w = record w { down = handed n w.down }

abbrev pub up_end_reported : Wire → Wire
up_end_reported w = record w { up = with_end_reported w.up }

abbrev pub down_end_reported : Wire → Wire
down_end_reported w = record w { down = with_end_reported w.down }

-- how many bytes a line moves: so many where there are, or all
abbrev pub amount : Count → Pipe → ℕ
amount (Number n) p = min n (length p.bytes)
amount All p = length p.bytes
