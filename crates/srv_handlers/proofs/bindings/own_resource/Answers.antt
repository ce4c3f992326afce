use Rattle.base_lemmas.proofs.HexDigits.{hex16_of-IsUtf8}
use Rattle.srv_handlers.proofs.bindings.own_resource.Goals as goal

pub unreachable-requires : goal.unreachable-requires
unreachable-requires c = c.in-Err.ensures.cases.0 (rw c.hex16.ensures (hex16_of-IsUtf8 c.args.number))
