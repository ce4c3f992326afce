use Rattle.std.proofs.Common.{◌∙◌, ap, ◌++◌}
use Rattle.sha2.specs.Sha256.{sha256}
use Rattle.sha2.specs.Hashers.{Holds256}
use Rattle.auth_primitives.specs.Hashes.{hmac_of, masked, key_block}
use Rattle.auth_primitives.proofs.keyed_hash.KeyedHash.ended.Goals as goal

pub returns : goal.returns
unfolding hmac_of
returns c key text keyed held =
    let d = c.finalize-digest.ensures _ held in
    let o : Holds256 c.copied-outer.result (masked 0x5C (key_block key)) = rw c.copied-outer.ensures keyed.outer in
    c.finalize.ensures _ (c.update.ensures _ o) ∙ ap (λ x. sha256 (masked 0x5C (key_block key) ++ x)) d
