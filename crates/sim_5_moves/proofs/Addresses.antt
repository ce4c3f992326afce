-- The addresses of accounts are in normal form, and of no resource in particular.
use Rattle.std.proofs.Common.{◌≡◌, ℕ, true, List, [], ◌∷◌, ◌++◌, Some, None, Ok, append_assoc, ap, sym, subst, ◌∙◌}
use Rattle.std.proofs.lemmas.List.{append-nil}
use Rattle.sim_5_devices.proofs.Names.{bare_normal}
use Rattle.cmd_network.proofs.Names.{domain_stays, local_stays, resource_stays}
use Rattle.im_jid.proofs.NormalAgain.{are_joined}
use Rattle.im_jid.specs.Cuts.{resource_of}
use Rattle.im_jid.specs.Normal.{IsJoined, address_text, normal}
use Rattle.srv_state.specs.State.{ServerState}
use Rattle.sm_live.specs.Sessions.{Session}
use Rattle.sim_5_moves.specs.Submits.{Submits}
use Rattle.cmd_report.specs.Addresses.{bare_address, domain, full_address}
use Rattle.cmd_schedule.specs.Contents.{Owned}
use Rattle.sim_1_applications.specs.Devices.{Take}
use Rattle.sim_1_applications.specs.Stanzas.{Submission}
use Rattle.xml_trees.specs.Trees.{Elem}
use Rattle.xml_writer.specs.Items.{ItemOut}
use Rattle.cmd_schedule.specs.Grammar.{is_name}

joined_bare : (account : List ℕ) → is_name account ≡ true → IsJoined (Some account) domain None
joined_bare account is = are_joined (Some account) domain None (record { local_stays = local_stays account is; domain_stays = domain_stays; resource_stays = tt })

pub no_resource : (account : List ℕ) → is_name account ≡ true → resource_of (bare_address account) ≡ None
no_resource account is = subst (λ t. resource_of t ≡ None) (append-nil ((account ++ 64 ∷ []) ++ domain) ∙ append_assoc account (64 ∷ []) domain) (joined_bare account is).resource_is

joined_full : (account device : List ℕ) → is_name account ≡ true → is_name device ≡ true → IsJoined (Some account) domain (Some device)
joined_full account device is named =
    are_joined (Some account) domain (Some device) (record { local_stays = local_stays account is; domain_stays = domain_stays; resource_stays = resource_stays device named })

spelled_full : (account device : List ℕ) → address_text (Some account) domain (Some device) ≡ full_address account device
spelled_full account device = ap (λ t. t ++ 47 ∷ device) (append_assoc account (64 ∷ []) domain)

-- that of the recipient, at the server
pub normal_to : {keep : ℕ} {owned : List Owned} {names : List (List ℕ)} {takes : List Take} {h : ServerState ItemOut} {i : ℕ} {o : Owned} {s : Session ItemOut} {m : Submission} {e : Elem} → Submits keep owned names takes h i o s m e → normal (m.to ++ 64 ∷ h.domain) ≡ Ok (m.to ++ 64 ∷ h.domain)
normal_to {m = m} x = subst (λ d. normal (m.to ++ 64 ∷ d) ≡ Ok (m.to ++ 64 ∷ d)) (sym x.runs.configured.domain) (bare_normal m.to x.said.named)
