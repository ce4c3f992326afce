use Rattle.std.proofs.Common.{◌≡◌, ◌++◌, take}
use Rattle.std.specs.List.{flat_map}
use Rattle.cmd_generate.specs.Summary.{device_summary}
use Rattle.cmd_generate.proofs.summary.append_devices.Given as goal

abbrev pub invariant-loop-device : goal.invariant-loop-device
invariant-loop-device l = l.out.items ≡ l.initial.out.items ++ flat_map device_summary (take l.device-index l.devices)
