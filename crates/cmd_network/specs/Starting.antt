-- What the accounts and devices of a schedule begin with. The domain is one, and names are the parts of addresses.
use Rattle.std.specs.Prelude.{ℕ, List, [], ◌++◌, None, codes, map}
use Rattle.cl_core.specs.Making.{account_of, fresh}
use Rattle.cmd_network.specs.Devices.{DeviceState}
use Rattle.srv_login.specs.Accounts as login
use Rattle.srv_login.specs.declared.account.Account.{Account}
use Rattle.cmd_report.specs.Addresses.{bare_address, domain}

-- the password of an account
abbrev pub password_of : List ℕ → List ℕ
password_of account = codes "pw-" ++ account

-- an account as the server has it
abbrev pub account_at_start : List ℕ → Account
account_at_start name = login.account_of name domain (password_of name)

abbrev pub accounts_at_start : List (List ℕ) → List Account
accounts_at_start names = map account_at_start names

-- a device of an account: its resource is its name
abbrev pub device_at_start : List ℕ → List ℕ → DeviceState
device_at_start name account = record {
  name = name;
  account = account;
  client = fresh (account_of (bare_address account) account (password_of account) name);
  here = None;
  newest = None;
  refused = [];
}
