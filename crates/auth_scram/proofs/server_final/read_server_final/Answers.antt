use Rattle.auth_scram.proofs.ReadTexts.{verifier_based}
use Rattle.auth_scram.proofs.server_final.read_server_final.Goals as goal

pub hash_of-requires : goal.hash_of-requires
hash_of-requires c = verifier_based c.args.bytes.now c.in-Ok-Some.verifier.now (rw c.in-Ok-Some.field-0-is at c.in-Ok-Some.ensures)
