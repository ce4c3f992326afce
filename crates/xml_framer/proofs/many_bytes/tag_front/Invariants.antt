use Rattle.std.proofs.Common.{◌-◌, length}
use Rattle.xml_framer.specs.ManyBytes.{GoesOnTo}
use Rattle.xml_framer.proofs.many_bytes.tag_front.Given as goal

abbrev pub invariant-loop-done : goal.invariant-loop-done
invariant-loop-done l = GoesOnTo l.fn.quote l.bytes l.done l.open

abbrev pub decreases-loop-done : goal.decreases-loop-done
decreases-loop-done l = length l.bytes - l.done
