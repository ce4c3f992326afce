use Rattle.sim_5_devices.proofs.LogsHistories.{history_plain}
use Rattle.sim_5_devices.proofs.logs.histories_are_plain.Goals as goal

pub returns : goal.returns
returns c = history_plain
