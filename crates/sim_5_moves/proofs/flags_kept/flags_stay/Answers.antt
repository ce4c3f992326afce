use Rattle.sim_5_moves.proofs.FlagsKeptFlags.{flags_session_step}
use Rattle.sim_5_moves.proofs.FlagsKeptStepped.{same_ups, still_acked}
use Rattle.sim_5_moves.proofs.flags_kept.flags_stay.Goals as goal

pub returns : goal.returns
returns c = record { flags = flags_session_step; puts = same_ups; acked = still_acked }
