use Rattle.cmd_restarts.proofs.Found.{found_of}
use Rattle.cmd_restarts.proofs.reading.read_restarts.Goals as goal

pub returns-clause-found : goal.returns-clause-found
returns-clause-found c = found_of c.args.bytes.now c.file_of.result c.file_of.ensures
