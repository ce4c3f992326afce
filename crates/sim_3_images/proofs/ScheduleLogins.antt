-- The devices of a schedule, and the logins of their connections.
use Rattle.std.proofs.Common.{◌≡◌, ◌≢◌, ℕ, true, sym}
use Rattle.sim_3_images.proofs.DrawnLogins.{client_drawn, has_login, server_drawn}
use Rattle.sim_3_images.proofs.NamedDevices.{is_normal, is_own, is_served, name_plain}
use Rattle.sim_3_images.proofs.OwnedDevices.{declared, one_name}
use Rattle.sim_3_images.specs.Devices.{AreTwo, IsDeviceAt, identity_at}
use Rattle.sim_3_images.specs.Logins.{HasLogin}
use Rattle.sim_3_items.specs.Identities.{IsNormal, own_account}
use Rattle.sim_3_items.specs.Servers.{IsDeviceServed}
use Rattle.cmd_network.proofs.Names.{plain_password}
use Rattle.cmd_network.specs.Starting.{accounts_at_start, device_at_start}
use Rattle.cmd_report.specs.Addresses.{domain}
use Rattle.cmd_schedule.specs.Contents.{Owned, accounts_of}
use Rattle.cmd_schedule.specs.Schedules.{WireView}
use Rattle.cmd_schedule.specs.LineLists.{IsLineList}
use Rattle.auth_scram.specs.Exchange.{is_plain}
use Rattle.srv_core.specs.Configs.{server_state_at_start}
use Rattle.cmd_world.specs.Histories.{common_steps}
use Rattle.cmd_world.specs.Worlds.{client_entropy, server_entropy}

module _ (schedule : WireView) (position : ℕ) (o : Owned) (is : IsLineList schedule) (there : IsDeviceAt schedule position o) where
  pub plain_name : is_plain (identity_at schedule position o).name ≡ true
  plain_name = name_plain o.account (declared schedule position o is there).account

  pub plain_word : is_plain (identity_at schedule position o).password ≡ true
  plain_word = plain_password o.account (declared schedule position o is there).account

  pub normal_device : IsNormal (identity_at schedule position o)
  normal_device = is_normal schedule position o (declared schedule position o is there)

  pub own_client : (device_at_start o.device o.account).client.client.account ≡ own_account (identity_at schedule position o)
  own_client = is_own schedule position o (declared schedule position o is there)

  pub drawn_login : (n : ℕ) → HasLogin (identity_at schedule position o) (client_entropy n) (server_entropy n)
  drawn_login n = has_login (identity_at schedule position o) (client_entropy n) (server_entropy n) plain_name plain_word (client_drawn n) (server_drawn n)

pub served_device : (schedule : WireView) (position : ℕ) (o : Owned) (keep : ℕ) → IsLineList schedule → IsDeviceAt schedule position o
    → IsDeviceServed (identity_at schedule position o) (server_state_at_start domain (accounts_at_start (accounts_of (common_steps schedule))) keep)
served_device schedule position o keep is there = is_served schedule position o keep (declared schedule position o is there)

pub are_two : (schedule : WireView) (p q : ℕ) (o r : Owned) → IsLineList schedule → IsDeviceAt schedule p o → IsDeviceAt schedule q r → p ≢ q → AreTwo (identity_at schedule p o) (identity_at schedule q r)
are_two schedule p q o r is at_p at_q apart = record { position = λ same. apart (sym same); resource = λ same. apart (one_name schedule p q o r is at_p at_q (sym same)) }
