-- Addresses of names are in normal form.
use Rattle.std.proofs.Common.{◌≡◌, ℕ, true, List, Ok}
use Rattle.cmd_network.proofs.Names.{normal_address}
use Rattle.im_jid.specs.Normal.{normal}
use Rattle.cmd_report.specs.Addresses.{bare_address}
use Rattle.cmd_schedule.specs.Grammar.{is_name}

pub bare_normal : (account : List ℕ) → is_name account ≡ true → normal (bare_address account) ≡ Ok (bare_address account)
bare_normal account is = normal_address account is
