use Rattle.std.proofs.Common.{arith}
use Rattle.sim_1_applications.specs.Devices.{first_of, last_of}
use Rattle.sim_1_applications.proofs.Follow.{up_to_last}
use Rattle.sim_1_applications.proofs.TileRuns.{read_reached}
use Rattle.sim_1_applications.proofs.sessions.logs_have_what_is_kept.Goals as goal

pub returns : goal.returns
returns c = λ w reached i d at. up_to_last (first_of w.keep (last_of w.takes d.account)) (last_of w.takes d.account) d (omega arith) ((read_reached w reached).devices i d at).log
