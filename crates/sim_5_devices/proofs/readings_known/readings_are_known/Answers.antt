use Rattle.sim_5_devices.proofs.Next.{counted, well}
use Rattle.sim_5_devices.proofs.Readings.{page_short, reading_given}
use Rattle.sim_5_devices.proofs.readings_known.readings_are_known.Goals as goal

pub returns : goal.returns
returns c = record {
  given = λ owned w read few i d there. reading_given w read i d there owned few;
  most = page_short;
  well = λ w taken read i d there online x rest split. well w read i d there online x rest split taken;
  counted = λ w read i d there online x rest split. counted w read i d there online x rest split;
}
