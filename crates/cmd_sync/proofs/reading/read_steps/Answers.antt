use Rattle.std.proofs.Common.{◌≡◌, ◌++◌, ◌∷◌, arith}
use Rattle.cmd_schedule.specs.Reading.{pieces_of}
use Rattle.cmd_sync.specs.ScriptReading.{read_steps}
use Rattle.cmd_sync.proofs.ReadSteps.{next_step}
use Rattle.cmd_sync.proofs.reading.read_steps.Goals as goal

pub loop-rest-preserved : goal.loop-rest-preserved
loop-rest-preserved c =
    let found = c.first_line-ended.result in
    record {
      told = next_step c.loop-rest.steps.items c.push.new.self.items c.loop-rest.next c.loop-rest.rest.now found.2.now
          (record { bytes = found.0.now; ended = found.1 }) c.in-Ok.step (read_steps c.args.number (pieces_of c.args.text.now))
          c.first_line-ended.ensures.pieces c.in-Ok.ensures c.in_ok-push.ensures.ok c.loop-rest.invariant.told;
      counted = omega (arith, c.loop-rest.invariant.counted, c.first_line-ended.ensures.shorter);
    }
