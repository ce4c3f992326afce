use Rattle.law_commands.proofs.Tellings.{under_limits}
use Rattle.std.proofs.Common.{arith}
use Rattle.xml_framer.specs.Limits.{server_limits}
use Rattle.law_commands.proofs.checks.told_is_the_grammars.Goals as goal

pub returns : goal.returns
returns c =
    let three = under_limits c.any_pieces.ensures.pieces c.a_fault_stays.ensures
    (λ bytes. c.unfinished_streams_are_told.ensures server_limits bytes (omega arith) (omega arith))
    (λ bytes. c.whole_streams_are_told.ensures.exactly server_limits bytes (omega arith) (omega arith) (omega arith))
    (λ bytes now items stream within. c.whole_streams_are_told.ensures.given server_limits bytes now items stream within)
    (λ bytes b at w none. c.faults_are_rows_of_bytes.ensures server_limits bytes b at w (omega arith) (omega arith) (omega arith) none) in
    record { is = three.0; alone = three.1; sound = three.2 }
