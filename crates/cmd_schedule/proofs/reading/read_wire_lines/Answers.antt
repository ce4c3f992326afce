use Rattle.std.proofs.Common.{arith}
use Rattle.cmd_schedule.specs.Reading.{pieces_of}
use Rattle.cmd_schedule.specs.WireGrammar.{nothing_above}
use Rattle.cmd_schedule.specs.WireReading.{read_wire_lines}
use Rattle.cmd_schedule.proofs.WireReadLines.{wire_next}
use Rattle.cmd_schedule.proofs.reading.read_wire_lines.Goals as goal

pub loop-rest-preserved : goal.loop-rest-preserved
loop-rest-preserved c =
    let found = c.first_line-ended.result in
    record {
      few = omega (arith, c.in-Ok.ensures.few);
      told = wire_next c.loop-rest.lines.items c.push.new.self.items c.loop-rest.above c.read_wire_line.new.above c.loop-rest.number c.loop-rest.rest.now found.2.now
          (record { bytes = found.0.now; ended = found.1 }) c.in-Ok.step (read_wire_lines nothing_above 2 (pieces_of c.args.text.now))
          c.first_line-ended.ensures.pieces c.in-Ok.ensures.exact c.in_ok-push.ensures.ok c.in-Ok.ensures.above c.loop-rest.invariant.told;
    }
