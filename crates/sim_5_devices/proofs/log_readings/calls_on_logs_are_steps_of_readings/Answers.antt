use Rattle.sim_5_devices.proofs.LogReadingsSteps.{begun_represents, dropped_represents, held_represents, restarted_represents, result_represents}
use Rattle.sim_5_devices.proofs.log_readings.calls_on_logs_are_steps_of_readings.Goals as goal

pub returns : goal.returns
returns c = record { result = result_represents; begins = begun_represents; restarts = restarted_represents; dropped = dropped_represents; held = held_represents }
