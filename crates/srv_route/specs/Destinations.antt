-- Where a message is addressed to, at a server of one domain (RFC 6121, sections 8.2 to 8.5).
use Rattle.std.specs.Prelude.{ℕ, List, Option, Some, None, if◌then◌else◌}
use Rattle.std.specs.Option.{option_and_then}
use Rattle.std.specs.Str.{bytes_eq}
use Rattle.base_io.specs.Names.{position_of}
use Rattle.im_jid.specs.Cuts.{domain_of, local_of, resource_of}
use Rattle.srv_login.specs.Accounts.{names_of}
use Rattle.srv_login.specs.declared.account.Account.{Account}

-- another domain (section 8.3); this domain itself (section 8.4) or a user that doesn't exist (section 8.5.1); the bare
-- address of an account (section 8.5.2), or its address with a resource (section 8.5.3)
pub data Destination : Type 0 where
  RemoteDomain : Destination
  NoUser : Destination
  Bare : ℕ → Destination
  Full : ℕ → List ℕ → Destination

abbrev pub at_resource : ℕ → Option (List ℕ) → Destination
at_resource account None = Bare account
at_resource account (Some resource) = Full account resource

abbrev pub at_user : Option ℕ → Option (List ℕ) → Destination
at_user None resource = NoUser
at_user (Some account) resource = at_resource account resource

-- the account that an address of this domain names, by its place
abbrev pub account_in : List ℕ → List Account → Option ℕ
account_in to accounts = option_and_then (λ name. position_of name (names_of accounts)) (local_of to)

abbrev pub destination_at : List ℕ → List Account → List ℕ → Destination
destination_at domain accounts to =
    if bytes_eq (domain_of to) domain then at_user (account_in to accounts) (resource_of to) else RemoteDomain

-- a message without an address is to the bare address of its sender (section 8.2)
abbrev pub destination_of : List ℕ → List Account → ℕ → Option (List ℕ) → Destination
destination_of domain accounts sender None = Bare sender
destination_of domain accounts sender (Some to) = destination_at domain accounts to
