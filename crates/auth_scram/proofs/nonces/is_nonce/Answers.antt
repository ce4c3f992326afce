use Rattle.auth_scram.proofs.DrawnNonces.{is_nonce-some}
use Rattle.auth_scram.proofs.nonces.is_nonce.Goals as goal

pub returns-then-bytes-gt0 : goal.returns-then-bytes-gt0
returns-then-bytes-gt0 c =
    rw (is_nonce-some c.args.text.now (rw c.as_bytes-bytes.ensures.value at c.if-bytes-gt0.true), ← c.as_bytes-bytes.ensures.value) c.are_printable.ensures
