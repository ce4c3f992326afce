use Rattle.std.proofs.Common.{refl, arith}
use Rattle.sm_live.proofs.Directions.{handled_one, puts}
use Rattle.sm_live.proofs.laws.puts_are_moves.Goals as goal

pub returns-clause-begins : goal.returns-clause-begins
returns-clause-begins c number account conn resource = (record { count = refl; within = omega arith; waiting = refl }, record { count = refl })

pub returns-clause-puts : goal.returns-clause-puts
returns-clause-puts c z s d next sends move = puts z s d next sends move

pub returns-clause-handles : goal.returns-clause-handles
returns-clause-handles c s d next receives move = handled_one s d next receives move
