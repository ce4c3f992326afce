-- What is needed of an address that a user writes to.
use Rattle.std.specs.Prelude.{◌≡◌, ℕ, List, None, Ok}
use Rattle.im_jid.specs.Cuts.{resource_of}
use Rattle.im_jid.specs.Normal.{normal}
use Rattle.law_limits.specs.Bounds.{IsTextWithin, most_address}

-- It is that of an account, and of none of its resources, in normal form (RFC 7622, section 3).
pub record IsBareAddress (to : List ℕ) : Type 0 where
  pub form : normal to ≡ Ok to
  pub bare : resource_of to ≡ None
  pub within : IsTextWithin most_address to
