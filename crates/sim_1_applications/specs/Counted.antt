-- Counts that the programs have in 64 bits.
use Rattle.std.specs.Prelude.{◌<◌, ◌^◌}
use Rattle.std.specs.List.{AllByRecursion}
use Rattle.sim_1_applications.specs.Devices.{AppWorld, Take}

-- the epoch of each message that was taken, and its number, are below 2^64
abbrev pub AreCounted : AppWorld → Type 0
AreCounted w = AllByRecursion (λ (t : Take). (t.said.epoch < 2 ^ 64) × (t.said.n < 2 ^ 64)) w.takes
