use Rattle.sim_5_devices.proofs.Kept.{Paged, paged_begins, paged_kept}
use Rattle.sim_5_devices.proofs.labels_in_time.pages_are_in_time.Goals as goal
use Rattle.sim_1_applications.proofs.EachDevice.{from_beginning}

pub returns : goal.returns
returns c = λ keep accounts homes events w led i d at. from_beginning Paged paged_kept paged_begins keep accounts homes events w led i d at
