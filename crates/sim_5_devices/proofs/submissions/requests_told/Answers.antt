use Rattle.sim_5_devices.proofs.Puts.{handled_told, reaction_told, request_told}
use Rattle.sim_5_devices.proofs.submissions.requests_told.Goals as goal

pub returns : goal.returns
returns c = record { asks = request_told; handles = handled_told; reacts = reaction_told }
