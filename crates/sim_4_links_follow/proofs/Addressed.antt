-- The addresses of a schedule's accounts are bare (RFC 7622, section 3).
use Rattle.std.proofs.Common.{◌≡◌, ℕ, true, List, [], ◌∷◌, ◌++◌, Some, None, subst, ◌∙◌, append-nil, append_assoc}
use Rattle.sim_4_links_follow.specs.Speaking.{IsBareAddress}
use Rattle.cmd_network.proofs.Names.{domain_stays, local_stays, normal_address}
use Rattle.im_jid.proofs.NormalAgain.{are_joined}
use Rattle.im_jid.specs.Cuts.{resource_of}
use Rattle.cmd_report.specs.Addresses.{bare_address, domain}
use Rattle.cmd_schedule.specs.Grammar.{is_name}
use Rattle.law_limits.proofs.NamesWithin.{address_within}

pub account_address : (account : List ℕ) → is_name account ≡ true → IsBareAddress (bare_address account)
account_address account is =
    let whole = are_joined (Some account) domain None (record { local_stays = local_stays account is; domain_stays = domain_stays; resource_stays = tt }) in
    record {
      form = normal_address account is;
      bare = subst (λ t. resource_of t ≡ None) (append-nil ((account ++ 64 ∷ []) ++ domain) ∙ append_assoc account (64 ∷ []) domain) whole.resource_is;
      within = address_within account is;
    }
