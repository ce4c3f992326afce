-- The accounts of a server by their names, and its addresses.
use Rattle.std.proofs.Common.{◌≡◌, ℕ, List, ◌∷◌, ◌++◌, Some, ap, ◌∙◌}
use Rattle.std.proofs.lemmas.Option.{slice_get-map}
use Rattle.std.specs.List.{slice_get}
use Rattle.std.specs.Option.{option_map}
use Rattle.srv_state.specs.State.{ServerState, address_shown, bare_address, name_of, session_address, shown_of}
use Rattle.cmd_network.specs.Starting.{account_at_start, accounts_at_start}
use Rattle.sm_live.specs.Sessions.{Session}
use Rattle.srv_login.specs.Accounts.{bare_text, names_of}
use Rattle.sim_5_moves.specs.Submits.{IsSessionAt}
use Rattle.cmd_report.specs.Addresses as report
use Rattle.cmd_report.specs.Addresses.{domain}
use Rattle.cmd_schedule.specs.Contents.{Owned}
use Rattle.sim_3_items.specs.Served.{IsConfigured}
use Rattle.xml_writer.specs.Items.{ItemOut}
use Rattle.sim_3_images.proofs.BookedReports.{names_same}

name_there : (names : List (List ℕ)) (position : ℕ) (name : List ℕ) → slice_get names position ≡ Some name → name_of (slice_get (accounts_at_start names) position) ≡ name
name_there names position name at = ap name_of (slice_get-map account_at_start names position ∙ ap (option_map account_at_start) at)

module _ (names : List (List ℕ)) (h : ServerState ItemOut) (is : IsConfigured names h) where
  pub names_are : names_of h.accounts ≡ names
  names_are = ap names_of is.accounts ∙ names_same names

  pub bare_is : (position : ℕ) (name : List ℕ) → slice_get names position ≡ Some name → bare_address position h ≡ report.bare_address name
  bare_is position name at =
      (λ i. bare_text (name_of (slice_get (is.accounts i) position)) (is.domain i)) ∙ ap (λ x. bare_text x domain) (name_there names position name at)

  pub full_is : (owned : List Owned) (j : ℕ) (p : Owned) (u : Session ItemOut) → IsSessionAt owned names h j p u → session_address u.shown.number h ≡ report.full_address p.account p.device
  full_is owned j p u at =
      ap (λ o. address_shown (option_map shown_of o) h) at.lives
      ∙ (λ i. bare_is u.shown.account p.account at.account i ++ 47 ∷ at.resource i)
