use Rattle.auth_scram.specs.Seen.{first_seen}
use Rattle.auth_scram.proofs.ReadTexts.{first_bare_text, first_name_text, first_nonce_text}
use Rattle.auth_scram.proofs.client_first.read_first.Goals as goal

pub name_of-requires : goal.name_of-requires
name_of-requires c = first_name_text c.args.bytes.now (first_seen c.in-Ok.parts) c.in-Ok.ensures

pub text_of-requires : goal.text_of-requires
text_of-requires c = first_nonce_text c.args.bytes.now (first_seen c.in-Ok.parts) c.in-Ok.ensures

pub text_of-requires-2 : goal.text_of-requires-2
text_of-requires-2 c = first_bare_text c.args.bytes.now (first_seen c.in-Ok.parts) c.in-Ok.ensures
