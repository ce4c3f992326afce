-- The login of a connection, by the bytes that were drawn for its two ends.
use Rattle.std.specs.Prelude.{◌≡◌, ℕ, ◌≤◌, List, length}
use Rattle.base64.specs.GeneralPurpose.{IsBytes}
use Rattle.sim_3_items.specs.Identities.{Identity, IsLogin, Login}

-- bytes of which a nonce can be made
pub record IsDrawn (drawn : List ℕ) : Type 0 where
  pub bytes : IsBytes drawn
  pub enough : 18 ≤ length drawn

-- there is a login of the device with these bytes, and it goes through
pub record HasLogin (who : Identity) (mine yours : List ℕ) : Type 0 where
  pub login : Login
  pub is : IsLogin who login
  pub at_client : login.mine ≡ mine
  pub at_server : login.yours ≡ yours
