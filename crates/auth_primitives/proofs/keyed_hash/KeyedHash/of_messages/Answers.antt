use Rattle.std.proofs.Common.{List, ℕ, subst}
use Rattle.sha2.specs.Hashers.{Holds256}
use Rattle.auth_primitives.specs.Hashes.{key_block, masked}
use Rattle.auth_primitives.proofs.Iterating.{auth_message-joined}
use Rattle.auth_primitives.proofs.keyed_hash.KeyedHash.of_messages.Goals as goal

pub returns : goal.returns
returns c key keyed =
    let a = c.update.ensures _ (c.begun-inner.ensures key keyed) in
    let b = c.update-2.ensures _ a in
    let d = c.update-3.ensures _ b in
    let e = c.update-4.ensures _ d in
    let held = c.update-5.ensures _ e in
    let Held : List ℕ → Type 0 = λ m. Holds256 c.update-5.new.self m in
    c.ended.ensures key _ keyed
    (subst Held (auth_message-joined (masked 0x36 (key_block key)) c.args.bare.now c.args.server_first.now c.args.without_proof.now) held)
