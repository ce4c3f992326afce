-- Full addresses of names are in normal form.
use Rattle.std.proofs.Common.{◌≡◌, ℕ, true, List, [], ◌∷◌, ◌++◌, Some, Ok, ap, subst, append_assoc}
use Rattle.cmd_network.proofs.Names.{domain_stays, local_stays, resource_stays}
use Rattle.im_jid.proofs.NormalAgain.{are_joined}
use Rattle.im_jid.specs.Normal.{normal}
use Rattle.cmd_report.specs.Addresses.{domain, full_address}
use Rattle.cmd_schedule.specs.Grammar.{is_name}

pub full_normal : (account device : List ℕ) → is_name account ≡ true → is_name device ≡ true → normal (full_address account device) ≡ Ok (full_address account device)
full_normal account device is named =
    let whole = are_joined (Some account) domain (Some device) (record { local_stays = local_stays account is; domain_stays = domain_stays; resource_stays = resource_stays device named }) in
    subst (λ t. normal t ≡ Ok t) (ap (λ bare. bare ++ 47 ∷ device) (append_assoc account (64 ∷ []) domain)) whole.normal_form
