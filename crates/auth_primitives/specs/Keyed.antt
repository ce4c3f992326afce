-- What a key's two hashers hold.
use Rattle.std.specs.Prelude.{ℕ, List}
use Rattle.sha2.specs.Hashers.{Holds256}
use Rattle.auth_primitives.specs.declared.keyed_hash.KeyedHash.{KeyedHash}
use Rattle.auth_primitives.specs.Hashes.{key_block, masked}

-- the hashers have absorbed the key's blocks under the inner and the outer mask
pub record IsKeyedBy (hash : KeyedHash) (key : List ℕ) : Type 0 where
  pub inner : Holds256 hash.inner (masked 0x36 (key_block key))
  pub outer : Holds256 hash.outer (masked 0x5C (key_block key))
