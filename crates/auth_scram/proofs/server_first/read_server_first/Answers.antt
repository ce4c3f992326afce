use Rattle.auth_scram.specs.Seen.{server_first_seen}
use Rattle.auth_scram.proofs.ReadTexts.{server_salt_based}
use Rattle.auth_scram.proofs.server_first.read_server_first.Goals as goal

pub returns-clause-salt : goal.returns-clause-salt
returns-clause-salt c = server_salt_based c.args.bytes.now (server_first_seen c.in-Ok.parts) c.in-Ok.ensures
