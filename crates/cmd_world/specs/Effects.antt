-- What a server puts out goes into pipes, and what it took is noted down.
use Rattle.std.specs.Prelude.{ℕ, List, [], ◌∷◌, ◌++◌}
use Rattle.srv_state.specs.State.{Out, Put, Shut, Took}
use Rattle.cmd_report.specs.declared.report.TakeLine.{TakeLine}
use Rattle.cmd_schedule.specs.declared.schedule.Version.{Version}
use Rattle.cmd_network.specs.Positions.{changed_under}
use Rattle.cmd_network.specs.Takes.{take_reported}
use Rattle.cmd_network.specs.Wires.{put_down, shut}
use Rattle.cmd_network.specs.declared.wire.Wire.{Wire}

-- connections, and the messages that the server took so far
pub record Effects : Type 0 where
  pub wires : List Wire
  pub takes : List TakeLine

abbrev pub effects_of : List Wire → List TakeLine → Effects
effects_of wires takes = record { wires = wires; takes = takes }

-- what the server puts out at a moment: bytes enter the pipe down of their connection, and one that is shut has ended
abbrev pub emitted : Version → ℕ → Out (List ℕ) → Effects → Effects
emitted version moment (Put k bytes) e = record e { wires = changed_under k (put_down bytes) e.wires }
emitted version moment (Shut k) e = record e { wires = changed_under k shut e.wires }
emitted version moment (Took from to origin) e = record e { takes = e.takes ++ take_reported version moment from to origin ∷ [] }

-- all of it, in order
abbrev pub all_emitted : Version → ℕ → List (Out (List ℕ)) → Effects → Effects
all_emitted version moment [] e = e
all_emitted version moment (out ∷ outs) e = all_emitted version moment outs (emitted version moment out e)
