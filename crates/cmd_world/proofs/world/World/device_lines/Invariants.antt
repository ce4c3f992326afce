-- The lines so far, and those of the devices that are left.
use Rattle.std.proofs.Common.{◌≡◌, ◌++◌, drop, map}
use Rattle.cmd_world.specs.WorldReports.{device_line_of}
use Rattle.cmd_world.proofs.world.World.device_lines.Given as goal

abbrev pub invariant-loop-device : goal.invariant-loop-device
invariant-loop-device l = l.lines.items ++ map (device_line_of l.self) (drop l.device-index l.self.devices) ≡ map (device_line_of l.self) l.self.devices
