use Rattle.sim_4_links_follow.proofs.Addressed.{account_address}
use Rattle.sim_4_links_follow.proofs.clients_speak.accounts_have_bare_addresses.Goals as goal

pub returns : goal.returns
returns c = account_address
