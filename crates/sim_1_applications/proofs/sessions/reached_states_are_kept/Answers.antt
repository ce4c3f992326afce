use Rattle.sim_1_applications.proofs.Runs.{taken_reached}
use Rattle.sim_1_applications.proofs.TileRuns.{read_reached}
use Rattle.sim_1_applications.proofs.sessions.reached_states_are_kept.Goals as goal

pub returns-clause-taken : goal.returns-clause-taken
returns-clause-taken c = λ w reached. taken_reached w reached

pub returns-clause-read : goal.returns-clause-read
returns-clause-read c = λ w reached. read_reached w reached
