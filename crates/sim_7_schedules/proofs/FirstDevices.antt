-- A device with which a schedule begins: nothing of it is there yet.
use Rattle.std.proofs.Common.{◌≡◌, ℕ, [], refl, sym, ap, subst, ◌∙◌}
use Rattle.std.proofs.lemmas.Option.{same_Some, slice_get-map}
use Rattle.std.specs.Option.{option_map}
use Rattle.sim_3_images.proofs.FirstWorlds.{shown_first}
use Rattle.sim_3_images.proofs.ScheduleLogins.{drawn_login}
use Rattle.sim_3_images.specs.Devices.{identity_at}
use Rattle.sim_3_items.specs.Identities.{Login}
use Rattle.sim_3_items.specs.Represents.{Represents}
use Rattle.sim_3_images.specs.ItemStarts.{item_device, items_at_start}
use Rattle.sim_3_items.specs.Items.{stanzas_read}
use Rattle.sim_3_items.specs.ItemWorlds.{ItemDevice}
use Rattle.sim_2_links.specs.Machine.{nothing_yet}
use Rattle.sim_2_events.proofs.Acts as acts
use Rattle.sim_5_devices.proofs.Staying as staying
use Rattle.sim_5_devices.specs.Shown.{LogRepresents}
use Rattle.cmd_schedule.specs.Contents.{Owned}
use Rattle.cmd_schedule.specs.Schedules.{WireView}
use Rattle.cmd_schedule.specs.LineLists.{IsLineList}
use Rattle.sim_3_items.specs.Submitted.{SubmissionsRepresent}
use Rattle.sim_1_applications.specs.Devices.{new_device}
use Rattle.sim_1_applications.specs.Runs.{begins, owned_of}
use Rattle.sim_7_schedules.proofs.Lists.{new_there}
use Rattle.sim_5_moves.specs.Running.{DeviceSimulates, IsOwned, history_for, keep_in}

-- nothing was submitted, and nothing is logged
pub nothing_submitted : (o : Owned) → SubmissionsRepresent (item_device o).client (new_device o.account).sessions
nothing_submitted o = record { epoch = refl; n = refl; online = refl; said = refl; waiting = refl }

pub nothing_logged : (schedule : WireView) (o : Owned) → LogRepresents (keep_in schedule) (history_for schedule [] o) (item_device o).client.log (new_device o.account).reading
nothing_logged schedule o = record { entries = refl; tiles = refl; page = refl; held = refl }

module _ (schedule : WireView) (is : IsLineList schedule) (i : ℕ) (o : Owned) (there : IsOwned schedule i o) where
  -- what any connection of it would draw
  first_logins : ℕ → Login
  first_logins n = (drawn_login schedule i o is there n).login

  first_shown : Represents (identity_at schedule i o) first_logins (items_at_start schedule) nothing_yet
  first_shown = shown_first schedule i o first_logins is there

  -- the device that is shown is the one that is declared
  first_device : item_device o ≡ first_shown.device
  first_device = same_Some (item_device o) first_shown.device (sym (slice_get-map item_device (owned_of schedule) i ∙ ap (option_map item_device) there) ∙ first_shown.there)

  submitted : SubmissionsRepresent first_shown.device.client (new_device o.account).sessions
  submitted = subst (λ (d : ItemDevice). SubmissionsRepresent d.client (new_device o.account).sessions) first_device (nothing_submitted o)

  logged : LogRepresents (keep_in schedule) (history_for schedule [] o) first_shown.device.client.log (new_device o.account).reading
  logged = subst (λ (d : ItemDevice). LogRepresents (keep_in schedule) (history_for schedule [] o) d.client.log (new_device o.account).reading) first_device (nothing_logged schedule o)

  paged : first_shown.device.client.pages ≡ (new_device o.account).reading.asked
  paged = ap (λ (d : ItemDevice). d.client.pages) (sym first_device)

  pub device_begins : DeviceSimulates schedule (items_at_start schedule) (begins schedule) i o
  device_begins = record {
    logins = first_logins;
    view = nothing_yet;
    in_time = staying.begins.0;
    prompt = staying.begins.1;
    represents = first_shown;
    device = new_device o.account;
    there = new_there (owned_of schedule) i o there;
    account = refl;
    sessions = acts.begins stanzas_read;
    built = λ q t none. absurd (let no_way : ⊥ = cc in no_way);
    submissions = submitted;
    log = logged;
    pages = paged;
    flags = λ row s found. absurd (row refl);
  }
