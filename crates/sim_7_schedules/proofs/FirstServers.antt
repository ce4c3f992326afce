-- The server with which a schedule begins: its archives are empty, and no session is there.
use Rattle.std.proofs.Common.{◌≡◌, ℕ, ◌-◌, List, [], Some, map, slice_get, refl, sym, ap, ◌∙◌}
use Rattle.std.proofs.lemmas.List.{length-map}
use Rattle.std.proofs.lemmas.Option.{slice_get-map}
use Rattle.std.specs.Option.{option_map}
use Rattle.mam_archive.specs.Entries.{EntryView}
use Rattle.srv_state.specs.State.{Kept, ServerState}
use Rattle.cmd_network.specs.Starting.{account_at_start, accounts_at_start}
use Rattle.sim_3_images.specs.ItemStarts.{items_at_start}
use Rattle.srv_login.specs.declared.account.Account.{Account}
use Rattle.cmd_report.specs.Addresses.{domain}
use Rattle.cmd_schedule.specs.Schedules.{WireView}
use Rattle.srv_core.specs.Configs.{empty_kept}
use Rattle.sim_3_items.specs.Served.{ArchivesRepresent, ServerSimulates}
use Rattle.sim_1_applications.specs.Runs.{owned_of}
use Rattle.sim_5_moves.specs.Running.{keep_in, names_of}
use Rattle.xml_writer.specs.Items.{ItemOut}
use lib.Seq.{drop-nil}

abbrev first_kept : ℕ → Account → Kept
first_kept keep a = empty_kept domain keep a.name

kept_there : (keep position : ℕ) (names : List (List ℕ)) (name : List ℕ) → slice_get names position ≡ Some name → slice_get (map (first_kept keep) (accounts_at_start names)) position ≡ Some (empty_kept domain keep name)
kept_there keep position names name there =
    slice_get-map (first_kept keep) (accounts_at_start names) position
    ∙ ap (option_map (first_kept keep)) (slice_get-map account_at_start names position ∙ ap (option_map account_at_start) there)

module _ (schedule : WireView) where
  abbrev first_server_state : ServerState ItemOut
  first_server_state = (items_at_start schedule).server

  archives_shown : ArchivesRepresent (keep_in schedule) (owned_of schedule) (names_of schedule) [] first_server_state
  archives_shown position name there =
      kept_there (keep_in schedule) position (names_of schedule) name there
      ∙ ap (λ (l : List EntryView). Some (record (empty_kept domain (keep_in schedule) name) { entries = l })) (sym (drop-nil (0 - keep_in schedule)))

  pub server_begins : ServerSimulates (keep_in schedule) (owned_of schedule) (names_of schedule) [] first_server_state
  server_begins = record {
    configured = record { domain = refl; accounts = refl };
    archives = archives_shown;
    many = length-map (accounts_at_start (names_of schedule)) (first_kept (keep_in schedule)) ∙ length-map (names_of schedule) account_at_start;
    sessions = tt;
  }
