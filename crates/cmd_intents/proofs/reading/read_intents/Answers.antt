use Rattle.cmd_intents.proofs.Found.{found_of}
use Rattle.cmd_intents.proofs.reading.read_intents.Goals as goal

pub returns-clause-found : goal.returns-clause-found
returns-clause-found c = found_of c.args.bytes.now c.file_of_bytes.result c.file_of_bytes.ensures
