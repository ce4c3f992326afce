use Rattle.sim_5_devices.proofs.Grown.{log_grown, reading_given, takes_grown}
use Rattle.sim_5_devices.proofs.Served.{acts_read, acts_told, hears_nothing, hears_told, same_told}
use Rattle.sim_5_devices.proofs.submissions.servers_tell_nothing.Goals as goal

pub returns : goal.returns
returns c = record {
  same = same_told;
  acts = acts_told;
  served = acts_read;
  hears = hears_told;
  heard = hears_nothing;
  grown = λ keep history more log b g represents. log_grown history more keep log b g represents;
  given = reading_given;
  taken = takes_grown;
}
