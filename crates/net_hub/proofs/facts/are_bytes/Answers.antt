use Rattle.net_hub.proofs.MoreEvents.{every_byte}
use Rattle.net_hub.proofs.facts.are_bytes.Goals as goal

pub returns : goal.returns
returns c = every_byte c.args.bytes.now c.type_inv.bytes
