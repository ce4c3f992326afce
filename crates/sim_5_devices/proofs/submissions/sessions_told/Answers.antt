use Rattle.sim_5_devices.proofs.SubmissionsEnds.{bound_told, broken_told, closed_told, dialed_told, dropped_told, entered_told, failed_told, first_log, first_told, forgot_told, phase_stays}
use Rattle.sim_5_devices.proofs.submissions.sessions_told.Goals as goal

pub returns : goal.returns
returns c = record {
  begins = first_told;
  empty = first_log;
  dropped = λ c d p represents. dropped_told c d represents p;
  failed = failed_told;
  forgot = forgot_told;
  closed = closed_told;
  broken = broken_told;
  bound = bound_told;
  entered = entered_told;
  dialed = dialed_told;
  stays = phase_stays;
}
