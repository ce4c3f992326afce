use Rattle.std.proofs.Common.{◌≡◌, ℕ, List, Ok, subst, sym}
use Rattle.cmd_network.proofs.Names.{normal_address}
use Rattle.im_jid.specs.Normal.{normal}
use Rattle.cmd_network.proofs.asking.address_of.Goals as goal

pub of_normal-requires : goal.of_normal-requires
of_normal-requires c = subst (λ (text : List ℕ). normal text ≡ Ok text) (sym c.in_ok-bare_address.ensures) (normal_address c.args.account.now c.requires)
