use Rattle.sim_1_applications.proofs.Runs.{taken_beginning, taken_moves}
use Rattle.sim_1_applications.proofs.TileRuns.{read_beginning, read_moves}
use Rattle.sim_1_applications.proofs.sessions.each_event_keeps.Goals as goal

pub returns-clause-begins : goal.returns-clause-begins
returns-clause-begins c = λ keep accounts homes some. (taken_beginning keep accounts homes, read_beginning keep some accounts homes)

pub returns-clause-taken : goal.returns-clause-taken
returns-clause-taken c = λ event w next is kept. taken_moves event w next is kept

pub returns-clause-read : goal.returns-clause-read
returns-clause-read c = λ event w next is taken kept. read_moves event w next is taken kept
