use Rattle.auth_scram.specs.Seen.{client_final_seen}
use Rattle.auth_scram.proofs.ReadTexts.{final_proof_based}
use Rattle.auth_scram.proofs.client_final.read_client_final.Goals as goal

pub hash_of-requires : goal.hash_of-requires
hash_of-requires c = final_proof_based c.args.flag c.args.bytes.now (client_final_seen c.in-Ok.parts) c.in-Ok.ensures
